use Rattle.std.proofs.Common.{map, take, flat_map, sym, ap, subst, ◌∙◌}
use Rattle.std.specs.List.{All}
use Rattle.std.proofs.lemmas.List.{take_all}
use Rattle.std.proofs.lemmas.List.Elements.{All-map}
use Rattle.nif_sets.specs.Sets.{IsSet, types_of}
use Rattle.nif_sets.specs.declared.sets.TypeSet.TheVariants.{One}
use Rattle.nif_sets.proofs.LikeLemmas.{if-ok, iff-then, iff-same}
use Rattle.nif_sets.proofs.SetLemmas.{types-ones}
use Rattle.nif_sets.proofs.sets.Sets.of_types.Goals as goal

pub join-requires : goal.join-requires
join-requires c =
    let s = c.args.self.now in
    let types = take c.loop-number.number-index c.args.types.now in
    subst (All (IsSet s)) (sym (c.as_slice.ensures.value ∙ c.loop-number.invariant)) (All-map (IsSet s) One types (λ k d lt. tt))

pub returns-clause-types : goal.returns-clause-types
returns-clause-types c =
    let s = c.args.self.now in
    let types = c.args.types.now in
    let all = c.as_slice.ensures.value ∙ c.loop-number.invariant ∙ ap (map One) (take_all c.loop-number.number-index types c.loop-number-test.false) in
    if-ok c.join.result c.join.ensures.types (λ set says number.
    iff-then (says number) (iff-same (flat_map (types_of s) c.as_slice.result.now) types (ap (flat_map (types_of s)) all ∙ types-ones s.parts types) number))
