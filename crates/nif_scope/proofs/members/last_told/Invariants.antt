use Rattle.std.proofs.Common.{◌≡◌, map, None}
use Rattle.std.specs.Option.{option_map}
use Rattle.nif_schema.specs.Declaration.{field}
use Rattle.nif_scope.specs.Lookup.{last_told, rest_told}
use Rattle.nif_scope.specs.Kept.{member_of}
use Rattle.nif_scope.proofs.members.last_told.Given as goal

-- what was found among the fields that were passed, and the entries behind them
abbrev pub invariant-loop-field : goal.invariant-loop-field
invariant-loop-field l =
    (option_map member_of l.found ≡ last_told l.name None (map (λ f. field f.now) l.yielded) l.entries)
    × (l.rest ≡ rest_told (map (λ f. field f.now) l.yielded) l.entries)
