-- What the parser keeps, as plain data.
use Rattle.std.specs.Prelude.{ℕ, nat_le, Bool, true, false, List, [], ◌∷◌, Option, Some, None, reverse, map}
use Rattle.std.specs.Borrow.{Bor}
use Rattle.nif_schema.specs.Expression.{tree}
use Rattle.nif_expr.specs.Parts as plain
use Rattle.nif_expr.specs.Grammar.{level}
use Rattle.nif_expr.specs.Steps as steps
use Rattle.nif_expr.specs.declared.parser.Token.{Token}
use Rattle.nif_expr.specs.declared.parser.Token.TheVariants.{Operand, Negation, Opening, Closing, Operator}
use Rattle.nif_expr.specs.declared.parser.Frame.{Frame}
use Rattle.nif_expr.specs.declared.parser.Frame.TheVariants.{Negating, Grouping, Applying}
use Rattle.nif_expr.specs.declared.parser.State.{State}
use Rattle.nif_expr.specs.declared.parser.State.TheVariants.{Wants, Has}

abbrev pub part_of : Token → plain.Part
part_of (Operand of) = plain.Operand (tree of)
part_of Negation = plain.Negation
part_of Opening = plain.Opening
part_of Closing = plain.Closing
part_of (Operator op) = plain.Operator op

-- what was found at the front of a text is a part with what follows it, and where nothing was found there is none
abbrev pub IsFirst : List ℕ → Option (Token × Bor (List ℕ)) → Type 0
IsFirst text None = (part : plain.Part) (rest : List ℕ) → plain.First text part rest → ⊥
IsFirst text (Some found) = plain.First text (part_of found.0) found.1.now

abbrev pub frame_of : Frame → steps.Frame
frame_of Negating = steps.Negating
frame_of Grouping = steps.Grouping
frame_of (Applying op left) = steps.Applying op (tree left)

-- the stack's top is at the end of the vector
abbrev pub frames : List Frame → List steps.Frame
frames stack = map frame_of (reverse stack)

abbrev pub state_of : State → steps.State
state_of (Wants stack) = steps.Wants (frames stack.items)
state_of (Has stack operand) = steps.Has (frames stack.items) (tree operand)

-- whether the top binds an operand at least as tightly as level k
abbrev pub binds : ℕ → List steps.Frame → Bool
binds k [] = false
binds k (steps.Negating ∷ stack) = true
binds k (steps.Grouping ∷ stack) = false
binds k (steps.Applying op left ∷ stack) = nat_le k (level op)
