use Rattle.std.proofs.Common.{◌≡◌, drop}
use Rattle.std.specs.List.{list_any}
use Rattle.nif_schema.specs.Reasons.{is_bad_member}
use Rattle.nif_reasons.proofs.own.has_bad_member.Given as goal

abbrev pub invariant-loop-place : goal.invariant-loop-place
invariant-loop-place l = list_any (is_bad_member l.width) l.members ≡ list_any (is_bad_member l.width) (drop l.place l.members)
