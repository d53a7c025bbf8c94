use Rattle.std.proofs.Common.{◌≡◌, ◌+◌, ◌-◌, ◌∷◌, [], ◌++◌, map, take, sym, ap, subst, ◌∙◌, arith}
use Rattle.std.proofs.lemmas.List.{append_assoc, append-nil, map-append}
use Rattle.nif_schema.specs.Declaration.{field}
use Rattle.nif_paths.specs.Marks.{IsLine}
use Rattle.nif_reasons.proofs.Lists.{take-next}
use Rattle.nif_reasons.proofs.ways.drop_fields.Goals as goal

pub loop-left-preserved : goal.loop-left-preserved
loop-left-preserved c =
    let S = c.args.schema.now in
    let fs = c.args.fields.now in
    let left = c.loop-left.left in
    let kept = c.get.result.now in
    let some = c.loop-left-test.true in
    let one : (left - 1) + 1 ≡ left = omega (arith, some) in
    let front = c.loop-left.invariant.0 in (
      omega (arith, front),
      λ earlier has.
          let before = earlier ++ map field (take (left - 1) fs) in
          let longer : earlier ++ map field (take left fs) ≡ before ++ field kept ∷ [] =
          ap (λ l. earlier ++ l) (ap (λ n. map field (take n fs)) (sym one) ∙ ap (map field) (take-next fs (left - 1) kept c.get.ensures) ∙ map-append field (take (left - 1) fs) (kept ∷ []))
          ∙ sym (append_assoc earlier (map field (take (left - 1) fs)) (field kept ∷ [])) in
          c.pop.ensures before (subst (λ l. IsLine S l c.loop-left.line) longer (c.loop-left.invariant.1 earlier has)),
    )

pub returns : goal.returns
returns c = λ earlier has.
    let fs = c.args.fields.now in
    let none = c.loop-left-test.false in
    let z : c.loop-left.left ≡ 0 = omega (arith, none) in
    subst (λ l. IsLine c.args.schema.now l c.loop-left.line) (append-nil earlier)
    (subst (λ n. IsLine c.args.schema.now (earlier ++ map field (take n fs)) c.loop-left.line) z (c.loop-left.invariant.1 earlier has))
