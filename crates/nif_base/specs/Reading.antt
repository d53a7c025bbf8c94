-- What reading to the end answers.
use Rattle.std.specs.Prelude.{◌≡◌, ℕ, ◌+◌, ◌<◌, ◌≤◌, List, ⊤, None, Some, Ok, Err, IsErrOf, IfSome, Vec, length}
use Rattle.std.specs.declared.option.Option.{Option}
use Rattle.std.specs.declared.result.Result.{Result}
use Rattle.std.specs.declared.alloc.Global.{Global}
use Rattle.nif_base.specs.Outside.{Rose}
use Rattle.nif_base.specs.declared.transfer.AllFault.{AllFault}
use Rattle.nif_base.specs.declared.transfer.AllFault.TheVariants.{TooLong, ReadFault, NoMemory}

-- What reading all answers where the bytes are told: each of them, or `TooLong` where they are more than most.
abbrev pub AnswersAll : Option (List ℕ) → ℕ → Result (Vec ℕ Global) AllFault → Type 0
AnswersAll None most r = ⊤
AnswersAll (Some xs) most (Ok v) = (v.items ≡ xs) × (length xs ≤ most)
AnswersAll (Some xs) most (Err TooLong) = most < length xs
AnswersAll (Some xs) most (Err ReadFault) = ⊤
AnswersAll (Some xs) most (Err NoMemory) = ⊤

-- at most so many bytes are gone, where that is told
abbrev pub TakesAtMost : ℕ → Option (List ℕ) → Option (List ℕ) → Type 0
TakesAtMost most old new = IfSome old (λ xs. IfSome new (λ rest. length xs ≤ most + length rest))

-- the count has not fallen, and `ReadFault` comes only where it rose
pub record ReadCause {T : Type 0} (before now : ℕ) (result : Result T AllFault) : Type 0 where
  pub later : before ≤ now
  pub failed : IsErrOf result ReadFault → Rose before now
