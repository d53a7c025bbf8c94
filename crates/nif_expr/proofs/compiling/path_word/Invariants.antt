use Rattle.std.proofs.Common.{◌≡◌, ◌≤◌, ℕ, List, take, length}
use Rattle.std.specs.Prelude.{reverse}
use Rattle.nif_expr.specs.Value.{Names, look, first_value, bound}
use Rattle.nif_expr.proofs.compiling.path_word.Given as goal

-- no path from this place on is the same
pub record Passed (paths : List Names) (path : Names) (number : ℕ) : Type 0 where
  pub place : number ≤ length paths
  pub same : (slots : List ℕ) → first_value (reverse (take number (bound paths slots))) path ≡ look (bound paths slots) path

abbrev pub invariant-loop-number : goal.invariant-loop-number
invariant-loop-number l = Passed l.paths l.path l.number

abbrev pub decreases-loop-number : goal.decreases-loop-number
decreases-loop-number l = l.number
