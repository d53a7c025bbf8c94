use Rattle.std.proofs.Common.{subst, sym}
use Rattle.nif_expr.specs.Grammar.{IsExpression}
use Rattle.nif_attributes.proofs.texts.formula.Goals as goal

pub returns-in-Err-NotAnExpression : goal.returns-in-Err-NotAnExpression
returns-in-Err-NotAnExpression c =
    λ tree h. (c.in-Err-NotAnExpression.ensures.not_an_expression (cc)).1 tree (subst (λ (text : _). IsExpression text tree) (sym c.bytes.ensures) h.read)
