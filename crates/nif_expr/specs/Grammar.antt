-- The grammar of expressions.
use Rattle.std.specs.Prelude.{◌≡◌, ℕ, suc, List, [], ◌∷◌}
use Rattle.nif_schema.specs.declared.exprs.Op.{Op}
use Rattle.nif_schema.specs.declared.exprs.Op.TheVariants.{Mul, Div, Add, Sub, Shl, Shr, Lt, Le, Gt, Ge, Eq, Ne, BitAnd, BitOr, And, Or}
use Rattle.nif_schema.specs.Expression.{Tree, Not, Two}
use Rattle.nif_expr.specs.Parts.{Part, Operand, Negation, Opening, Closing, Operator, Parts}

-- The level of a two-sided operator: 1 is the loosest.
abbrev pub level : Op → ℕ
level Or = 1
level And = 2
level BitOr = 3
level BitAnd = 4
level Eq = 5
level Ne = 5
level Lt = 6
level Le = 6
level Gt = 6
level Ge = 6
level Shl = 7
level Shr = 7
level Add = 8
level Sub = 8
level Mul = 9
level Div = 9

-- `Reads k parts tree rest`: the parts are an expression of level k, which is the tree, and then the rest.
-- Two-sided operators of one level go from left to right. Level 10 is `!` before its operand, and level 11 an
-- operand or parentheses. What is of a tighter level is of each looser one.
pub data Reads : ℕ → List Part → Tree → List Part → Type 0 where
  two : {k : ℕ} {op : Op} {left right : Tree} {parts then rest : List Part} → level op ≡ k
      → Reads k parts left (Operator op ∷ then) → Reads (suc k) then right rest → Reads k parts (Two op left right) rest
  tighter : {k : ℕ} {tree : Tree} {parts rest : List Part} → Reads (suc k) parts tree rest → Reads k parts tree rest
  negation : {of : Tree} {parts rest : List Part} → Reads 10 parts of rest → Reads 10 (Negation ∷ parts) (Not of) rest
  operand : {of : Tree} {rest : List Part} → Reads 11 (Operand of ∷ rest) of rest
  parentheses : {tree : Tree} {parts rest : List Part} → Reads 1 parts tree (Closing ∷ rest)
      → Reads 11 (Opening ∷ parts) tree rest

-- The text is an expression with this tree.
pub record IsExpression (text : List ℕ) (tree : Tree) : Type 0 where
  pub parts : List Part
  pub spelled : Parts text parts
  pub read : Reads 1 parts tree []
