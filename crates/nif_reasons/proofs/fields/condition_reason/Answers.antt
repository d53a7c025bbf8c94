use Rattle.std.proofs.Common.{[], ◌∷◌, sym, ◌∙◌}
use Rattle.nif_schema.specs.Declaration.{field}
use Rattle.nif_schema.specs.Reasons as spec
use Rattle.nif_reasons.specs.FieldReasons.{condition_reason}
use Rattle.nif_reasons.proofs.ReasonLemmas.{on, pair-none, pair-some}
use Rattle.nif_reasons.proofs.fields.condition_reason.Goals as goal

pub returns-in-Ok-None : goal.returns-in-Ok-None
unfolding condition_reason
returns-in-Ok-None c = on c.formula_reason-in-Ok-None.result c.formula_reason-in-Ok-None.ensures (λ reason says schema fields insides line.
    let f = field c.args.of.now in
    let first = c.in-Ok-None.ensures schema fields insides line in
    let second = says schema fields insides first.1 in (
      second.0 ∙ pair-none (spec.formula_reason schema fields f.vercond) (spec.formula_reason schema fields f.cond) (sym c.in-Ok-None.field-0-is ∙ first.0),
      second.1,
    ))

pub returns-in-Ok-Some : goal.returns-in-Ok-Some
unfolding condition_reason
returns-in-Ok-Some c = λ schema fields insides line.
    let f = field c.args.of.now in
    let first = c.in-Ok-Some.ensures schema fields insides line in (
      pair-some c.in-Ok-Some.reason (spec.formula_reason schema fields f.vercond) (spec.formula_reason schema fields f.cond ∷ []) (sym c.in-Ok-Some.field-0-is ∙ first.0),
      first.1,
    )
