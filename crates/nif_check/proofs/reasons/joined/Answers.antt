use Rattle.std.proofs.Common.{◌≡◌, ◌+◌, ◌∷◌, ◌++◌, [], Some, false, length, get_or, slice_get, sym, ap, ◌∙◌, arith}
use Rattle.std.proofs.lemmas.List.{length-append}
use Rattle.std.proofs.lemmas.Option.{get_or_from_slice_get, slice_get_within}
use Rattle.nif_check.specs.Results.{with_uses}
use Rattle.nif_check.proofs.ReasonLemmas.{grown}
use Rattle.nif_check.proofs.reasons.joined.Goals as goal

pub loop-place-preserved : goal.loop-place-preserved
loop-place-preserved c =
    let reasons = c.loop-place.reasons.items in
    let place = c.loop-place.place in
    let own = c.args.own.now in
    let reaches = c.args.reaches.now in
    let new = c.with_uses.result in
    record {
      count = ap length c.in-Ok.ensures.items ∙ length-append reasons (new ∷ []) ∙ ap (λ n. n + 1) c.loop-place.invariant.count;
      each = λ k reason mark lt a b.
          let there : slice_get (reasons ++ new ∷ []) k ≡ Some (with_uses reason mark) =
          grown reasons place new k (with_uses reason mark) c.loop-place.invariant.count (λ l. c.loop-place.invariant.each k reason mark l a b)
          (λ is.
          let a' : slice_get own place ≡ Some reason = ap (slice_get own) (sym is) ∙ a in
          let b' : slice_get reaches place ≡ Some mark = ap (slice_get reaches) (sym is) ∙ b in
          c.with_uses.ensures
          ∙ ap (λ o. with_uses o (get_or reaches place false)) (get_or_from_slice_get own place reason _ a')
          ∙ ap (with_uses reason) (get_or_from_slice_get reaches place mark false b'))
          lt
          in
          ap (λ l. slice_get l k) c.in-Ok.ensures.items ∙ there;
    }

pub returns-clause-each : goal.returns-clause-each
returns-clause-each c = λ k reason mark a b.
    c.loop-place.invariant.each k reason mark (omega (arith, slice_get_within c.args.own.now k reason a, c.loop-place-test.false)) a b
