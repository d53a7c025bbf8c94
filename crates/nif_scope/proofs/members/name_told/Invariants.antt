use Rattle.std.proofs.Common.{◌≡◌, map}
use Rattle.nif_schema.specs.Declaration.{field}
use Rattle.nif_scope.specs.Lookup.{name_told, rest_told}
use Rattle.nif_scope.proofs.members.name_told.Given as goal

-- what was found among the fields that were passed, and the entries behind them
abbrev pub invariant-loop-field : goal.invariant-loop-field
invariant-loop-field l =
    (l.found ≡ name_told l.name (map (λ f. field f.now) l.yielded) l.entries)
    × (l.rest ≡ rest_told (map (λ f. field f.now) l.yielded) l.entries)
