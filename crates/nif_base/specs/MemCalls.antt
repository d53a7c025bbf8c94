-- The calls of a form in memory, counted from 0, and those that are to fail.
use Rattle.std.specs.Prelude.{ℕ, ◌+◌, ◌-◌, ◌^◌, min, List, Bool, nat_eq}
use Rattle.std.specs.List.{list_any}

-- the number of the next call, and of those that are to fail
pub record Calls : Type 0 where
  pub next : ℕ
  pub failing : List ℕ

-- whether the next call is to fail
abbrev pub fails : Calls → Bool
fails c = list_any (λ k. nat_eq k c.next) c.failing

-- after a call; the count stands still at its last value
abbrev pub counted : Calls → Calls
counted c = record c { next = min (c.next + 1) (2 ^ 64 - 1) }
