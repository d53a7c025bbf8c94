-- The value of an expression: a whole number modulo 2 ^ 64.
use Rattle.std.specs.Prelude.{ℕ, ◌+◌, ◌-◌, ◌*◌, ◌/◌, ◌%◌, ◌^◌, Bool, true, false, ◌&&◌, ◌||◌, not, if◌then◌else◌, ◌==◌, nat_lt, nat_le, nat_eq, bit_and, bit_or, List, [], ◌∷◌, reverse, drop, slice_index}
use lib.Pointwise.{pointwise}
use Rattle.nif_schema.specs.declared.exprs.Op.{Op}
use Rattle.nif_schema.specs.declared.exprs.Op.TheVariants.{Mul, Div, Add, Sub, Shl, Shr, Lt, Le, Gt, Ge, Eq, Ne, BitAnd, BitOr, And, Or}
use Rattle.nif_schema.specs.Expression.{Tree, Number, Arg, Path, Not, Two}

-- the names of a path
abbrev pub Names : Type 0
Names = List (List ℕ)

-- the same names in the same order
abbrev pub is_same : Names → Names → Bool
is_same a b = pointwise (pointwise nat_eq) a b

-- What stands first for a path among pairs of a path and its value, and 0 where no pair has it.
abbrev pub first_value : List (Names × ℕ) → Names → ℕ
first_value [] path = 0
first_value (pair ∷ more) path = if is_same pair.0 path then pair.1 else first_value more path

-- Of the pairs of one path the last counts.
abbrev pub look : List (Names × ℕ) → Names → ℕ
look pairs path = first_value (reverse pairs) path

-- Each path with the number in its slot, the slots in the order of the paths; a slot that isn't there is 0.
abbrev pub bound : List Names → List ℕ → List (Names × ℕ)
bound [] slots = []
bound (path ∷ paths) slots = (path, slice_index slots 0) ∷ bound paths (drop 1 slots)

-- a truth as a number
abbrev pub bit : Bool → ℕ
bit true = 1
bit false = 0

-- 0 is false, and all else is true
abbrev pub is_true : ℕ → Bool
is_true n = not (n == 0)

-- What a two-sided operator makes of two numbers below 2 ^ 64.
abbrev pub apply : Op → ℕ → ℕ → ℕ
apply Mul a b = (a * b) % 2 ^ 64
apply Div a b = if b == 0 then 0 else a / b
apply Add a b = (a + b) % 2 ^ 64
apply Sub a b = (a + (2 ^ 64 - b)) % 2 ^ 64
apply Shl a b = if nat_lt b 64 then (a * 2 ^ b) % 2 ^ 64 else 0
apply Shr a b = if nat_lt b 64 then a / 2 ^ b else 0
apply Lt a b = bit (nat_lt a b)
apply Le a b = bit (nat_le a b)
apply Gt a b = bit (nat_lt b a)
apply Ge a b = bit (nat_le b a)
apply Eq a b = bit (a == b)
apply Ne a b = bit (not (a == b))
apply BitAnd a b = bit_and a b
apply BitOr a b = bit_or a b
apply And a b = bit (is_true a && is_true b)
apply Or a b = bit (is_true a || is_true b)

-- The value of a tree, where `pairs` say what paths stand for and `arg` is the argument.
abbrev pub value : Tree → List (Names × ℕ) → ℕ → ℕ
value (Number n) pairs arg = n
value Arg pairs arg = arg
value (Path path) pairs arg = look pairs path
value (Not of) pairs arg = bit (not (is_true (value of pairs arg)))
value (Two op left right) pairs arg = apply op (value left pairs arg) (value right pairs arg)
