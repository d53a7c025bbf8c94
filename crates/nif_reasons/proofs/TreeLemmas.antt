-- Trees of expressions, one layer at a time.
use Rattle.std.proofs.Common.{◌≡◌, List, ap, sym, ◌∙◌}
use Rattle.nif_schema.specs.Declaration.{Name}
use Rattle.nif_schema.specs.Expression.{Tree, Path, Not, Two, tree, layer}
use Rattle.nif_schema.specs.declared.exprs.Op.{Op}
use Rattle.nif_schema.specs.declared.exprs.Expr.{Expr, fold-Expr, fold-roll-Expr}
use Rattle.nif_schema.specs.declared.exprs.Expr as kept
use Rattle.nif_schema.specs.declared.exprs.Expr.TheVariants.{rolls-Path, rolls-Not, rolls-Two}

pub tree-path : (names : List Name) → tree (kept.Path names) ≡ Path names
tree-path names = ap tree (sym (rolls-Path names)) ∙ fold-roll-Expr Tree layer (kept.Expr-F.Path names)

pub tree-not : (of : Expr) → tree (kept.Not of) ≡ Not (tree of)
tree-not of = ap tree (sym (rolls-Not of)) ∙ fold-roll-Expr Tree layer (kept.Expr-F.Not of)

pub tree-two : (op : Op) (left right : Expr) → tree (kept.Two op left right) ≡ Two op (tree left) (tree right)
tree-two op left right = ap tree (sym (rolls-Two op left right)) ∙ fold-roll-Expr Tree layer (kept.Expr-F.Two op left right)
