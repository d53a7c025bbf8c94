use Rattle.std.proofs.Common.{◌≡◌, length}
use Rattle.nif_schema.specs.Expression.{tree}
use Rattle.nif_expr.specs.Steps.{reduced}
use Rattle.nif_expr.specs.Kept.{frames}
use Rattle.nif_expr.proofs.parser.reduce.Given as goal

-- what is left to do gives what was to be done
abbrev pub invariant-loop-frame : goal.invariant-loop-frame
invariant-loop-frame l = reduced l.least (frames l.stack.items) (tree l.operand) ≡ reduced l.least (frames l.fn.stack.items) (tree l.fn.operand)

abbrev pub decreases-loop-frame : goal.decreases-loop-frame
decreases-loop-frame l = length (frames l.stack.items)
