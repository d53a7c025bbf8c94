-- The parts of a text: numbers, paths, `#ARG#`, operators and parentheses, with blanks before, between and
-- after them.
use Rattle.std.specs.Prelude.{◌≡◌, ℕ, ◌+◌, ◌≤◌, true, false, if◌then◌else◌, nat_eq, Option, Some, None, IsTrue, List, [], ◌∷◌, length, drop, codes}
use Rattle.std.specs.List.{starts_with}
use Rattle.nif_schema.specs.declared.exprs.Op.{Op}
use Rattle.nif_schema.specs.declared.exprs.Op.TheVariants.{Mul, Div, Add, Sub, Shl, Shr, Lt, Le, Gt, Ge, Eq, Ne, BitAnd, BitOr, And, Or}
use Rattle.nif_schema.specs.Expression.{Tree, Number, Arg, Path}
use Rattle.nif_expr.specs.Value.{Names, is_same}
use Rattle.nif_base.specs.Ascii.{is_blank, is_digit}
use Rattle.nif_expr.specs.Bytes.{is_letter, is_in_name, is_in_number, is_backslash, begins, front, after, trimmed}
use Rattle.nif_expr.specs.Number.{IsNumber}

-- a number, path or argument as its tree; `!`; `(`; `)`; a two-sided operator
pub data Part : Type 0 where
  Operand : (of : Tree) → Part
  Negation : Part
  Opening : Part
  Closing : Part
  Operator : (op : Op) → Part

-- The spellings of signs and of words in `#`. One that another begins with comes after it, so that the first
-- that fits is the longest.
unfoldable pub signs : List (List ℕ × Part)
signs =
    (codes "||", Operator Or) ∷ (codes "#OR#", Operator Or)
    ∷ (codes "&&", Operator And) ∷ (codes "#AND#", Operator And)
    ∷ (codes "|", Operator BitOr) ∷ (codes "#BITOR#", Operator BitOr)
    ∷ (codes "&", Operator BitAnd) ∷ (codes "#BITAND#", Operator BitAnd)
    ∷ (codes "==", Operator Eq) ∷ (codes "#EQ#", Operator Eq)
    ∷ (codes "!=", Operator Ne) ∷ (codes "#NEQ#", Operator Ne)
    ∷ (codes "<<", Operator Shl) ∷ (codes "#LSH#", Operator Shl)
    ∷ (codes ">>", Operator Shr) ∷ (codes "#RSH#", Operator Shr)
    ∷ (codes "<=", Operator Le) ∷ (codes "#LTE#", Operator Le)
    ∷ (codes ">=", Operator Ge) ∷ (codes "#GTE#", Operator Ge)
    ∷ (codes "<", Operator Lt) ∷ (codes "#LT#", Operator Lt)
    ∷ (codes ">", Operator Gt) ∷ (codes "#GT#", Operator Gt)
    ∷ (codes "+", Operator Add) ∷ (codes "#ADD#", Operator Add)
    ∷ (codes "-", Operator Sub) ∷ (codes "#SUB#", Operator Sub)
    ∷ (codes "*", Operator Mul) ∷ (codes "#MUL#", Operator Mul)
    ∷ (codes "/", Operator Div) ∷ (codes "#DIV#", Operator Div)
    ∷ (codes "!", Negation) ∷ (codes "(", Opening) ∷ (codes ")", Closing)
    ∷ (codes "#ARG#", Operand Arg)
    ∷ []

-- the first spelling that a text begins with, as its part and what follows it
abbrev pub first_sign : List (List ℕ × Part) → List ℕ → Option (Part × List ℕ)
first_sign [] text = None
first_sign (sign ∷ more) text =
    if starts_with nat_eq text sign.0 then Some (sign.1, drop (length sign.0) text) else first_sign more text

-- One or more names with `\` between them, and what follows the last. A name begins with a letter or `_`, goes
-- on as far as it can, over blanks too, and loses its last blanks. Blanks may follow a `\`.
pub data Joined : List ℕ → Names → List ℕ → Type 0 where
  last : {text : List ℕ} → IsTrue (begins is_letter text) → begins is_backslash (after is_in_name text) ≡ false
      → Joined text (trimmed (front is_in_name text) ∷ []) (after is_in_name text)
  more : {text next rest : List ℕ} {names : Names} → IsTrue (begins is_letter text) → after is_in_name text ≡ 92 ∷ next
      → Joined (after is_blank next) names rest → Joined text (trimmed (front is_in_name text) ∷ names) rest

-- A path that is the one name `ARG` is the argument.
abbrev pub operand_of : Names → Tree
operand_of names = if is_same names (codes "ARG" ∷ []) then Arg else Path names

-- a part at the front of a text, and what follows it
pub data First : List ℕ → Part → List ℕ → Type 0 where
  sign : {text rest : List ℕ} {part : Part} → first_sign signs text ≡ Some (part, rest) → First text part rest
  number : {text : List ℕ} {n : ℕ} → IsTrue (begins is_digit text) → IsNumber (front is_in_number text) n
      → First text (Operand (Number n)) (after is_in_number text)
  path : {text rest : List ℕ} {names : Names} → Joined text names rest → First text (Operand (operand_of names)) rest

-- the text is these parts
pub data Parts : List ℕ → List Part → Type 0 where
  none : Parts [] []
  blank : {b : ℕ} {text : List ℕ} {parts : List Part} → IsTrue (is_blank b) → Parts text parts → Parts (b ∷ text) parts
  part : {text rest : List ℕ} {p : Part} {parts : List Part} → First text p rest → Parts rest parts
      → Parts text (p ∷ parts)

-- none of these spellings that a text begins with is longer than what was taken of it
abbrev pub AreNotLonger : List (List ℕ × Part) → List ℕ → List ℕ → Type 0
AreNotLonger [] text rest = Unit {0}
AreNotLonger (entry ∷ others) text rest =
    (starts_with nat_eq text entry.0 ≡ true → length rest + length entry.0 ≤ length text)
    × AreNotLonger others text rest
