use Rattle.std.proofs.Common.{◌↔◌, flat_map, Contains, sym, subst}
use Rattle.nif_sets.specs.Sets.{types_of}
use Rattle.nif_sets.proofs.LikeLemmas.{if-ok, iff-then}
use Rattle.nif_sets.proofs.sets.Sets.join.Goals as goal

pub returns-in-Ok-Some-clause-types : goal.returns-in-Ok-Some-clause-types
returns-in-Ok-Some-clause-types c =
    let old = c.args.self.now in
    let like = rw c.in-Ok-Some.field-0-is at c.in-Ok-Some.ensures in
    if-ok c.keep.result c.keep.ensures.types (λ set says number.
    iff-then (says number) (subst (λ l. Contains (flat_map (types_of old) l) number ↔ Contains (flat_map (types_of old) c.args.sets.now) number) (sym c.as_slice.ensures.keys) (like.types number)))
