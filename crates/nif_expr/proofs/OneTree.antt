-- No text has two trees.
use Rattle.std.proofs.Common.{◌≡◌, ℕ, List, [], Some, sym, ◌∙◌, subst}
use Rattle.nif_schema.specs.Expression.{Tree}
use Rattle.nif_expr.specs.Parts.{Part}
use Rattle.nif_expr.specs.Grammar.{Reads, IsExpression}
use Rattle.nif_expr.proofs.Machine.{run-whole}
use Rattle.nif_expr.proofs.OneReading.{Parts-one}

pub Reads-one : (parts : List Part) (a b : Tree) → Reads 1 parts a [] → Reads 1 parts b [] → a ≡ b
Reads-one parts a b one other = let e : Some a ≡ Some b = sym (run-whole parts a one) ∙ run-whole parts b other in cc

pub one_tree : (text : List ℕ) (a b : Tree) → IsExpression text a → IsExpression text b → a ≡ b
one_tree text a b one other =
    Reads-one one.parts a b one.read
    (subst (λ parts. Reads 1 parts b []) (sym (Parts-one text one.parts other.parts one.spelled other.spelled)) other.read)
