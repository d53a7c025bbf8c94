-- What code words do with a stack, whose top stands first.
use Rattle.std.specs.Prelude.{ℕ, ◌+◌, ◌-◌, Bool, true, false, ◌&&◌, not, ◌==◌, nat_lt, List, [], ◌∷◌, slice_index}
use Rattle.nif_expr.specs.declared.codes.CodeWord.{CodeWord}
use Rattle.nif_expr.specs.declared.codes.CodeWord.TheVariants.{Number, Arg, Slot, Not, Two, Swapped}
use Rattle.nif_expr.specs.Value.{bit, is_true, apply}

-- an operator on the topmost number
abbrev pub on_top : (ℕ → ℕ) → List ℕ → List ℕ
on_top f [] = []
on_top f (x ∷ stack) = f x ∷ stack

-- an operator on the two topmost numbers
abbrev pub on_two : (ℕ → ℕ → ℕ) → List ℕ → List ℕ
on_two f [] = []
on_two f (y ∷ []) = []
on_two f (y ∷ x ∷ stack) = f x y ∷ stack

abbrev pub opposite : ℕ → ℕ
opposite n = bit (not (is_true n))

-- one word; a slot that isn't there is 0
abbrev pub step : CodeWord → List ℕ → ℕ → List ℕ → List ℕ
step (Number n) slots arg stack = n ∷ stack
step Arg slots arg stack = arg ∷ stack
step (Slot number) slots arg stack = slice_index slots number ∷ stack
step Not slots arg stack = on_top opposite stack
step (Two op) slots arg stack = on_two (apply op) stack
step (Swapped op) slots arg stack = on_two (λ x y. apply op y x) stack

-- words in order
abbrev pub exec : List CodeWord → List ℕ → ℕ → List ℕ → List ℕ
exec [] slots arg stack = stack
exec (word ∷ words) slots arg stack = exec words slots arg (step word slots arg stack)

-- the topmost number, and 0 where there is none
abbrev pub top_of : List ℕ → ℕ
top_of [] = 0
top_of (x ∷ stack) = x

-- what words give
abbrev pub ran : List CodeWord → List ℕ → ℕ → ℕ
ran words slots arg = top_of (exec words slots arg [])

-- whether what a word does depends on the slots or the argument
abbrev pub reads : CodeWord → Bool
reads (Number n) = false
reads Arg = true
reads (Slot number) = true
reads Not = false
reads (Two op) = false
reads (Swapped op) = false

-- whether a word finds its numbers among so many, and a place for what it puts on them
abbrev pub has_place : CodeWord → ℕ → Bool
has_place (Number n) height = nat_lt height 64
has_place Arg height = nat_lt height 64
has_place (Slot number) height = nat_lt height 64
has_place Not height = nat_lt 0 height
has_place (Two op) height = nat_lt 1 height
has_place (Swapped op) height = nat_lt 1 height

-- how many numbers there are after a word
abbrev pub after : CodeWord → ℕ → ℕ
after (Number n) height = height + 1
after Arg height = height + 1
after (Slot number) height = height + 1
after Not height = height
after (Two op) height = height - 1
after (Swapped op) height = height - 1

-- from a stack of so many numbers the words never find too few, never hold more than 64, and leave one
abbrev pub fits : List CodeWord → ℕ → Bool
fits [] height = height == 1
fits (word ∷ words) height = has_place word height && fits words (after word height)
