use Rattle.std.proofs.Common.{map, sym, ap, ◌∙◌}
use Rattle.nif_schema.specs.Expression.{tree}
use Rattle.nif_schema.specs.Paths.{path_reason, paths_of}
use Rattle.nif_schema.specs.Reasons.{first_reason}
use Rattle.nif_reasons.proofs.ReasonLemmas.{on, first-only, two-none, two-some}
use Rattle.nif_reasons.proofs.TreeLemmas.{tree-path, tree-not, tree-two}
use Rattle.nif_reasons.proofs.formulas.+expr_reason.Goals as goal

pub returns-in-Not : goal.returns-in-Not
returns-in-Not n c = on c.expr_reason.result c.expr_reason.ensures (λ reason says schema fields insides line.
    let r = says schema fields insides line in (
      r.0
          ∙ ap (λ e. first_reason (map (path_reason schema fields) (paths_of (tree e)))) c.get.ensures
          ∙ sym (ap (λ e. first_reason (map (path_reason schema fields) (paths_of (tree e)))) c.in-Not.is
          ∙ ap (λ t. first_reason (map (path_reason schema fields) (paths_of t))) (tree-not c.in-Not.of)),
      r.1,
    ))

pub returns-in-Ok-None : goal.returns-in-Ok-None
returns-in-Ok-None n c = on c.expr_reason-in-Ok-None.result c.expr_reason-in-Ok-None.ensures (λ reason says schema fields insides line.
    let f = path_reason schema fields in
    let first = c.in-Ok-None.ensures schema fields insides line in
    let second = says schema fields insides first.1 in
    let none = sym c.in-Ok-None.field-0-is ∙ first.0 ∙ ap (λ e. first_reason (map f (paths_of (tree e)))) c.get-in-Two.ensures in (
      second.0
          ∙ ap (λ e. first_reason (map f (paths_of (tree e)))) c.get-in-Ok-None.ensures
          ∙ two-none f (paths_of (tree c.in-Two.left)) (paths_of (tree c.in-Two.right)) none
          ∙ sym (ap (λ e. first_reason (map f (paths_of (tree e)))) c.in-Two.is
          ∙ ap (λ t. first_reason (map f (paths_of t))) (tree-two c.in-Two.op c.in-Two.left c.in-Two.right)),
      second.1,
    ))

pub returns-in-Ok-Some : goal.returns-in-Ok-Some
returns-in-Ok-Some n c = λ schema fields insides line.
    let f = path_reason schema fields in
    let first = c.in-Ok-Some.ensures schema fields insides line in
    let some = sym c.in-Ok-Some.field-0-is ∙ first.0 ∙ ap (λ e. first_reason (map f (paths_of (tree e)))) c.get-in-Two.ensures in (
      two-some f (paths_of (tree c.in-Two.left)) (paths_of (tree c.in-Two.right)) c.in-Ok-Some.reason some
          ∙ sym (ap (λ e. first_reason (map f (paths_of (tree e)))) c.in-Two.is
          ∙ ap (λ t. first_reason (map f (paths_of t))) (tree-two c.in-Two.op c.in-Two.left c.in-Two.right)),
      first.1,
    )

pub returns-in-Path : goal.returns-in-Path
returns-in-Path n c = on c.path_reason.result c.path_reason.ensures (λ reason says schema fields insides line.
    let f = path_reason schema fields in
    let r = says schema fields insides line in (
      r.0 ∙ sym (ap (λ e. first_reason (map f (paths_of (tree e)))) c.in-Path.is ∙ ap (λ t. first_reason (map f (paths_of t))) (tree-path c.in-Path.path) ∙ first-only (f c.in-Path.path)),
      r.1,
    ))
