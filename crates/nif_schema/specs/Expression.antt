-- An expression as plain data.
use Rattle.std.specs.Prelude.{ℕ, List}
use Rattle.nif_schema.specs.declared.exprs.Op.{Op}
use Rattle.nif_schema.specs.declared.exprs.Expr.{Expr, fold-Expr}
use Rattle.nif_schema.specs.declared.exprs.Expr.TheOpen as kept
use Rattle.nif_schema.specs.declared.exprs.Expr.TheOpen.{Expr-F}

-- A number, the argument `#ARG#`, the value of a path of names, `!` before a tree, and a two-sided operator
-- between two trees.
pub data Tree : Type 0 where
  Number : (value : ℕ) → Tree
  Arg : Tree
  Path : (names : List (List ℕ)) → Tree
  Not : (of : Tree) → Tree
  Two : (op : Op) → (left : Tree) → (right : Tree) → Tree

-- an expression of the program as a tree, one layer at a time
abbrev pub layer : Expr-F Tree → Tree
layer (kept.Expr-F.Number value) = Number value
layer kept.Expr-F.Arg = Arg
layer (kept.Expr-F.Path path) = Path path
layer (kept.Expr-F.Not of) = Not of
layer (kept.Expr-F.Two op left right) = Two op left right

abbrev pub tree : Expr → Tree
tree e = fold-Expr Tree layer e
