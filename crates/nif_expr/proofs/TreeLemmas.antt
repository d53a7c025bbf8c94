-- Trees of expressions, one layer at a time.
use Rattle.std.proofs.Common.{◌≡◌, ap, sym, ◌∙◌}
use Rattle.nif_schema.specs.Expression.{Tree, Not, Two, tree, layer}
use Rattle.nif_schema.specs.declared.exprs.Op.{Op}
use Rattle.nif_schema.specs.declared.exprs.Expr.{Expr, fold-Expr, fold-roll-Expr}
use Rattle.nif_schema.specs.declared.exprs.Expr as kept
use Rattle.nif_schema.specs.declared.exprs.Expr.TheVariants.{rolls-Not, rolls-Two}

pub tree-not : (e got of : Expr) → e ≡ kept.Not of → got ≡ of → tree e ≡ Not (tree got)
tree-not e got of is same =
    ap tree is ∙ ap tree (sym (rolls-Not of)) ∙ fold-roll-Expr Tree layer (kept.Expr-F.Not of) ∙ sym (ap (λ x. Not (tree x)) same)

pub tree-two : (e first second : Expr) (op : Op) (left right : Expr) → e ≡ kept.Two op left right → first ≡ left → second ≡ right
    → tree e ≡ Two op (tree first) (tree second)
tree-two e first second op left right is one other =
    ap tree is ∙ ap tree (sym (rolls-Two op left right)) ∙ fold-roll-Expr Tree layer (kept.Expr-F.Two op left right)
    ∙ sym (ap (λ x. Two op (tree x) (tree second)) one ∙ ap (λ x. Two op (tree left) (tree x)) other)
