use Rattle.std.proofs.Common.{◌≡◌, ◌∷◌, refl, sym, ◌∙◌, arith, ap, length}
use Rattle.nif_text.proofs.Comments.{enclosed_on, enclosed_back}
use Rattle.nif_text.proofs.comment.go_to_pair.Goals as goal

pub loop-text-preserved : goal.loop-text-preserved
loop-text-preserved c =
    let none = c.loop-text-test.ensures.no refl in
    let here : c.loop-text.text ≡ c.in-Some.c.now ∷ c.go_to.new.self =
    sym c.rest.ensures.text ∙ c.in-Some.ensures.cases.0 ∙ ap (λ x. c.in-Some.c.now ∷ x) (sym c.go_to.ensures) in
    record {
      same = λ tail rest. (
        (λ p. enclosed_back c.args.first c.args.second tail c.loop-text.text none c.in-Some.c.now c.go_to.new.self rest here ((c.loop-text.invariant.same tail rest).0 p)),
        (λ p. (c.loop-text.invariant.same tail rest).1
            (enclosed_on c.args.first c.args.second tail c.loop-text.text none c.in-Some.c.now c.go_to.new.self rest here (sym c.if-not-is_allowed_byte.ensures) p)),
      );
      shorter = omega (arith, ap length here);
    }
