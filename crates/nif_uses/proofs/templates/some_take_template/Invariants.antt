use Rattle.std.proofs.Common.{◌≡◌, map, drop}
use Rattle.std.specs.List.{list_any}
use Rattle.nif_schema.specs.Declaration.{field}
use Rattle.nif_schema.specs.Uses.{takes_template}
use Rattle.nif_uses.proofs.templates.some_take_template.Given as goal

-- no field that was passed takes a template
abbrev pub invariant-loop-place : goal.invariant-loop-place
invariant-loop-place l = list_any takes_template (map field l.fields) ≡ list_any takes_template (map field (drop l.place l.fields))
