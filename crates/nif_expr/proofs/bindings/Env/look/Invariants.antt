use Rattle.std.proofs.Common.{◌≡◌}
use Rattle.std.specs.Prelude.{reverse}
use Rattle.nif_expr.specs.Value.{first_value, look}
use Rattle.nif_expr.proofs.bindings.Env.look.Given as goal

-- no pair that was passed has the path
abbrev pub invariant-loop-bound : goal.invariant-loop-bound
invariant-loop-bound l = first_value (reverse l.bound-iterator.iter.rest.now) l.path ≡ look l.self l.path
