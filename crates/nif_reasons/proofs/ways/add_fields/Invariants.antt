use Rattle.std.proofs.Common.{◌≡◌, ◌∷◌, [], ◌++◌, List, map, take, drop}
use Rattle.nif_schema.specs.Declaration.{Field, field}
use Rattle.nif_schema.specs.Reasons.{first_reason, fields_reason}
use Rattle.nif_paths.specs.Marks.{IsLine}
use Rattle.nif_reasons.proofs.ways.add_fields.Given as goal

abbrev pub invariant-loop-place : goal.invariant-loop-place
invariant-loop-place l =
    (earlier : List Field) → IsLine l.schema earlier l.initial.line
    → IsLine l.schema (earlier ++ map field (take l.place l.fields)) l.line
    × (first_reason (l.initial.reason ∷ fields_reason l.schema l.in_struct earlier (map field l.fields) ∷ [])
    ≡ first_reason (l.reason ∷ fields_reason l.schema l.in_struct (earlier ++ map field (take l.place l.fields)) (map field (drop l.place l.fields)) ∷ []))
