use Rattle.std.proofs.Common.{◌↔◌, flat_map, Contains, sym, subst}
use Rattle.std.specs.List.{All}
use Rattle.nif_sets.specs.Sets.{IsSet, types_of}
use Rattle.nif_sets.proofs.LikeLemmas.{if-ok, iff-then, IsLike-same}
use Rattle.nif_sets.proofs.sets.Sets.join_parts.Goals as goal

pub keep-requires : goal.keep-requires
keep-requires c =
    subst (λ l. All (IsSet c.args.self.now) l) (sym c.as_slice.ensures.keys)
    (IsLike-same c.args.self.now c.in-Ok.own.keys c.args.sets.now c.in-Ok.ensures c.requires).within

pub returns-in-Ok-clause-types : goal.returns-in-Ok-clause-types
returns-in-Ok-clause-types c =
    let old = c.args.self.now in
    let like = IsLike-same old c.in-Ok.own.keys c.args.sets.now c.in-Ok.ensures c.requires in
    if-ok c.keep.result c.keep.ensures.types (λ set says number.
    iff-then (says number) (subst (λ l. Contains (flat_map (types_of old) l) number ↔ Contains (flat_map (types_of old) c.args.sets.now) number) (sym c.as_slice.ensures.keys) (like.types number)))
