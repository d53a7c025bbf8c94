use Rattle.std.proofs.Common.{◌≡◌, false, map}
use Rattle.std.specs.Option.{option_map_or}
use Rattle.std.specs.List.{list_any}
use Rattle.nif_schema.specs.Declaration.{field}
use Rattle.nif_scope.specs.Scope.{is_bare}
use Rattle.nif_scope.proofs.widths.asks.Given as goal

-- whether a field that was passed asks
abbrev pub invariant-loop-other : goal.invariant-loop-other
invariant-loop-other l = l.found ≡ list_any (λ g. option_map_or (is_bare l.of.name) g.width false) (map (λ f. field f.now) l.yielded)
