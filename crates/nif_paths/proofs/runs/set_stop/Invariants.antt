use Rattle.std.proofs.Common.{◌≡◌, drop}
use Rattle.nif_schema.specs.Schema.{Schema}
use Rattle.nif_sets.specs.Insides.{AreKnown}
use Rattle.nif_sets.specs.Sets.{IsSet, IsGrown, types_of}
use Rattle.nif_paths.specs.Shaped.{AreInsides}
use Rattle.nif_paths.specs.Marks.{types_stop}
use Rattle.nif_paths.proofs.runs.set_stop.Given as goal

abbrev pub invariant-loop-place : goal.invariant-loop-place
invariant-loop-place l = record {
  within : IsSet l.sets l.at;
  grown : IsGrown l.initial.sets l.sets;
  known : AreKnown l.tables l.initial.sets → AreKnown l.tables l.sets;
  stop : (schema : Schema) → AreInsides schema l.tables → AreKnown l.tables l.initial.sets
      → types_stop schema (types_of l.initial.sets l.fn.set) (drop 1 l.path) ≡ types_stop schema (types_of l.sets l.at) (drop l.place l.path);
}
