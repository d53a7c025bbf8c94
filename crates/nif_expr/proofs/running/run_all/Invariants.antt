use Rattle.std.proofs.Common.{◌≡◌, ◌≤◌, ℕ, List, [], take, drop}
use Rattle.std.specs.Prelude.{reverse, IsTrue}
use Rattle.nif_expr.specs.declared.codes.CodeWord.{CodeWord}
use Rattle.nif_expr.specs.Codes.{exec, fits}
use Rattle.nif_expr.proofs.running.run_all.Given as goal

-- What the words left do with the stack is what all words do with none.
pub record Running (words : List CodeWord) (at : ℕ) (slots : List ℕ) (arg top : ℕ) (stack : List ℕ) : Type 0 where
  pub place : top ≤ 64
  pub fit : IsTrue (fits (drop at words) top)
  pub same : exec (drop at words) slots arg (reverse (take top stack)) ≡ exec words slots arg []

abbrev pub invariant-loop-word : goal.invariant-loop-word
invariant-loop-word l = Running l.words l.word-index l.slots l.arg l.top l.stack
