use Rattle.std.proofs.Common.{◌+◌, ◌*◌, flat_map, take}
use Rattle.std.specs.List.{All}
use Rattle.nif_sets.specs.Sets.{IsSet, IsGrown, types_of}
use Rattle.nif_sets.specs.Insides.{AreKnown, Means}
use Rattle.nif_sets.proofs.SetLemmas.{rank}
use Rattle.nif_sets.proofs.sets.Sets.+inside.Given as goal

abbrev pub decreases-inside : goal.decreases-inside
decreases-inside l = 3 * rank l.set + 2

abbrev pub decreases-look_inside : goal.decreases-look_inside
decreases-look_inside l = 3 * rank l.set + 1

abbrev pub decreases-inside_parts : goal.decreases-inside_parts
decreases-inside_parts l = 3 * l.number + 3

abbrev pub invariant-inside_parts-loop-part : goal.invariant-inside_parts-loop-part
invariant-inside_parts-loop-part l = record {
  grown : IsGrown l.fn.self l.self;
  known : AreKnown l.tables l.fn.self → AreKnown l.tables l.self;
  within : All (IsSet l.self) l.sets.items;
  means : AreKnown l.tables l.fn.self
      → Means l.tables l.name (flat_map (types_of l.fn.self) (take l.part-index l.part-items)) l.numbers l.inner (flat_map (types_of l.self) l.sets.items);
}
