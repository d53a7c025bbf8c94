-- How parts are read one after another, with a stack of what waits. Only functions inside the crate are said by
-- it: the grammar says what an expression is, and a proof shows that what comes out here is what it reads.
use Rattle.std.specs.Prelude.{ℕ, nat_le, if◌then◌else◌, List, [], ◌∷◌, Option, Some, None}
use Rattle.nif_schema.specs.declared.exprs.Op.{Op}
use Rattle.nif_schema.specs.Expression.{Tree, Not, Two}
use Rattle.nif_expr.specs.Parts.{Part, Operand, Negation, Opening, Closing, Operator}
use Rattle.nif_expr.specs.Grammar.{level}

-- what waits for an operand: `!`, an open parenthesis, or an operator with its left operand
pub data Frame : Type 0 where
  Negating : Frame
  Grouping : Frame
  Applying : (op : Op) → (left : Tree) → Frame

-- an operand inside what waited for it
abbrev pub around : Frame → Tree → Tree
around Negating e = Not e
around Grouping e = e
around (Applying op left) e = Two op left e

-- what binds an operand at least as tightly as level k, from the top on, is put round it
abbrev pub reduced : ℕ → List Frame → Tree → List Frame × Tree
reduced k [] e = ([], e)
reduced k (Negating ∷ stack) e = reduced k stack (Not e)
reduced k (Grouping ∷ stack) e = (Grouping ∷ stack, e)
reduced k (Applying op left ∷ stack) e = if nat_le k (level op) then reduced k stack (Two op left e)
    else (Applying op left ∷ stack, e)

-- an operand is wanted, or one is there, or the parts are no expression
pub data State : Type 0 where
  Wants : (stack : List Frame) → State
  Has : (stack : List Frame) → (operand : Tree) → State
  Fails : State

abbrev pub closed : List Frame → Tree → State
closed [] e = Fails
closed (Negating ∷ stack) e = Fails
closed (Grouping ∷ stack) e = Has stack e
closed (Applying op left ∷ stack) e = Fails

abbrev pub step : State → Part → State
step (Wants stack) (Operand e) = Has stack e
step (Wants stack) Negation = Wants (Negating ∷ stack)
step (Wants stack) Opening = Wants (Grouping ∷ stack)
step (Wants stack) Closing = Fails
step (Wants stack) (Operator op) = Fails
step (Has stack e) (Operand of) = Fails
step (Has stack e) Negation = Fails
step (Has stack e) Opening = Fails
step (Has stack e) Closing = closed (reduced 1 stack e).0 (reduced 1 stack e).1
step (Has stack e) (Operator op) = Wants (Applying op (reduced (level op) stack e).1 ∷ (reduced (level op) stack e).0)
step Fails part = Fails

abbrev pub ended : List Frame → Tree → Option Tree
ended [] e = Some e
ended (frame ∷ stack) e = None

abbrev pub finish : State → Option Tree
finish (Wants stack) = None
finish (Has stack e) = ended (reduced 1 stack e).0 (reduced 1 stack e).1
finish Fails = None

abbrev pub run : State → List Part → Option Tree
run state [] = finish state
run state (part ∷ parts) = run (step state part) parts
