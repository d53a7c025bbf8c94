use Rattle.std.proofs.Common.{◌≡◌, ◌≤◌, ◌-◌, take, drop}
use Rattle.nif_names.specs.Tables.{kinds}
use Rattle.nif_schema.specs.Schema.{Schema}
use Rattle.nif_sets.specs.Insides.{AreKnown}
use Rattle.nif_paths.specs.Shaped.{AreInsides}
use Rattle.nif_paths.specs.Marks.{HasRuns, IsSame, types_stop}
use Rattle.nif_paths.proofs.paths.long_reason.Given as goal

abbrev pub invariant-run : goal.invariant-run
invariant-run l = record {
  within : l.from ≤ l.count;
  same : IsSame l.tables l.initial.line l.line;
  stop : (schema : Schema) → AreInsides schema l.tables → HasRuns l.initial.line.names l.initial.line.sets → AreKnown l.tables l.initial.line.sets
      → types_stop schema (take l.from (kinds l.initial.line.names l.first).types) (drop 1 l.path) ≡ l.stop;
}

abbrev pub decreases-run : goal.decreases-run
decreases-run l = l.count - l.from
