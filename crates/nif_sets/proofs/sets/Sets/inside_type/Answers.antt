use Rattle.std.proofs.Common.{sym}
use Rattle.nif_sets.specs.Sets.{types_of}
use Rattle.nif_sets.proofs.InsideLemmas.{One-lacks, One-means}
use Rattle.nif_sets.proofs.LikeLemmas.{iff-then}
use Rattle.nif_sets.proofs.sets.Sets.inside_type.Goals as goal

pub returns-in_default-clause-inside : goal.returns-in_default-clause-inside
returns-in_default-clause-inside c = λ are. One-lacks c.args.tables.now c.args.name.now c.args.self.now c.args.number (sym c.in_default.ensures.value)

pub returns-in-Ok-clause-inside : goal.returns-in-Ok-clause-inside
returns-in-Ok-clause-inside c = λ are.
    let new = c.of_types.new.self in
    One-means c.args.tables.now c.args.name.now new c.args.number c.all_numbers.result c.all_inner.result (types_of new c.in-Ok.set)
    c.in-Some.shapes.now.shapes c.in-Some.ensures.value c.in-Some.ensures.some c.all_numbers.ensures c.all_inner.ensures
    (λ k. iff-then (c.in-Ok.ensures.types k) (c.inners.ensures.same k))

pub returns-in-Ok-clause-known : goal.returns-in-Ok-clause-known
returns-in-Ok-clause-known c = c.in-Ok.ensures.known c.args.tables.now
