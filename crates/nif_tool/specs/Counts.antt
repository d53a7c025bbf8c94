-- How many opens and creates, reads and writes of a shelf have failed.
use Rattle.std.specs.Prelude.{ℕ}

pub record Counts : Type 0 where
  pub opens : ℕ
  pub reads : ℕ
  pub writes : ℕ

-- the counts of a shelf, each told by a function of its own
abbrev pub counts : {S : Type 0} → (S → ℕ) → (S → ℕ) → (S → ℕ) → S → Counts
counts opens reads writes shelf = record { opens = opens shelf; reads = reads shelf; writes = writes shelf }
