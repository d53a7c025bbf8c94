use Rattle.std.proofs.Common.{◌≤◌, ◌++◌, List, length, map, take}
use Rattle.nif_schema.specs.Declaration.{Field, field}
use Rattle.nif_paths.specs.Marks.{IsLine}
use Rattle.nif_reasons.proofs.ways.drop_fields.Given as goal

abbrev pub invariant-loop-left : goal.invariant-loop-left
invariant-loop-left l =
    (l.left ≤ length l.fields)
    × ((earlier : List Field) → IsLine l.schema (earlier ++ map field l.fields) l.initial.line → IsLine l.schema (earlier ++ map field (take l.left l.fields)) l.line)

abbrev pub decreases-loop-left : goal.decreases-loop-left
decreases-loop-left l = l.left
