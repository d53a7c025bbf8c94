use Rattle.std.proofs.Common.{◌≡◌, Some, None, sym, ap, subst, ◌∙◌, ◌+◌, arith}
use Rattle.std.proofs.lemmas.Option.{slice_get-get_or}
use Rattle.nif_reasons.specs.Visits.{AreBelow}
use Rattle.nif_reasons.proofs.VisitLemmas.{below-push, below-skip, children-push, children-skip}
use Rattle.nif_reasons.proofs.visits.add_child.Goals as goal
use Rattle.nif_reasons.proofs.ReasonLemmas.{on-ok}

pub returns-in-Some : goal.returns-in-Some
returns-in-Some c =
    let S = c.args.schema.now in
    let n = c.args.number in
    let p = c.in-Some.parent in
    let old = c.requires.before in
    let up = sym c.in-Some.ensures.value in
    on-ok c.push.result c.push.ensures (λ is. record {
      roots = below-skip S None n c.args.children.now.roots.items old.roots (λ none. let e : Some p ≡ None = sym up ∙ none in absurd (cc));
      below = children-push S n p c.args.children.now.below.items c.index_mut.result.now c.push.new.numbers old.below up
          (slice_get-get_or c.args.children.now.below.items p c.index_mut.result.now (let w = c.in-Some.ensures.within in let e = old.below.count in omega (arith, w, e)) ∙ ap Some (sym c.index_mut.ensures.value)) is;
    })

pub returns-in-None : goal.returns-in-None
returns-in-None c =
    let S = c.args.schema.now in
    let n = c.args.number in
    let old = c.requires.before in
    let none = sym c.in-None.ensures.value in
    on-ok c.push-in-None.result c.push-in-None.ensures (λ is. record {
      roots = subst (AreBelow S None (n + 1)) (sym is) (below-push S None n c.args.children.now.roots.items old.roots none);
      below = children-skip S n c.args.children.now.below.items old.below none;
    })
