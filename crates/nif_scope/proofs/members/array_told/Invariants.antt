use Rattle.std.proofs.Common.{◌≡◌, false, map}
use Rattle.nif_schema.specs.Declaration.{field}
use Rattle.nif_scope.specs.Lookup.{array_told, rest_told}
use Rattle.nif_scope.proofs.members.array_told.Given as goal

-- what was found among the fields that were passed, and the entries behind them
abbrev pub invariant-loop-field : goal.invariant-loop-field
invariant-loop-field l =
    (l.found ≡ array_told l.name false (map (λ f. field f.now) l.yielded) l.entries)
    × (l.rest ≡ rest_told (map (λ f. field f.now) l.yielded) l.entries)
