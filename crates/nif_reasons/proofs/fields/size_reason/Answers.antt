use Rattle.std.proofs.Common.{[], ◌∷◌, sym, ap, ◌∙◌}
use Rattle.nif_schema.specs.Declaration.{field, formula}
use Rattle.nif_schema.specs.Reasons as spec
use Rattle.nif_reasons.specs.FieldReasons.{size_reason}
use Rattle.nif_reasons.proofs.ReasonLemmas.{on, none_mapped, some_mapped, pair-none, pair-some, first-none, width-of}
use Rattle.nif_reasons.proofs.fields.size_reason.Goals as goal

pub returns-in-Ok-Some : goal.returns-in-Ok-Some
unfolding size_reason
returns-in-Ok-Some c = λ schema fields insides line.
    let f = field c.args.of.now in
    let first = c.in-Ok-Some.ensures schema fields insides line in (
      pair-some c.in-Ok-Some.reason (spec.formula_reason schema fields f.arg) (spec.formula_reason schema fields f.length ∷ spec.width_reason schema fields (spec.width_where f.length f.width) ∷ []) (sym c.in-Ok-Some.field-0-is ∙ first.0),
      first.1,
    )

pub returns-then-is_none : goal.returns-then-is_none
unfolding size_reason
returns-then-is_none c = λ schema fields insides line.
    let f = field c.args.of.now in
    let first = c.in-Ok-None.ensures schema fields insides line in
    let none = none_mapped formula c.args.of.now.length c.if-is_none.ensures in (
      ap (λ l. spec.first_reason (spec.formula_reason schema fields l ∷ spec.width_reason schema fields (spec.width_where l f.width) ∷ [])) (sym none)
          ∙ first-none (spec.formula_reason schema fields f.arg) (spec.formula_reason schema fields f.length ∷ spec.width_reason schema fields (spec.width_where f.length f.width) ∷ []) (sym c.in-Ok-None.field-0-is ∙ first.0),
      first.1,
    )

pub returns-in-Ok-None-formula_reason : goal.returns-in-Ok-None-formula_reason
unfolding size_reason
returns-in-Ok-None-formula_reason c = on c.width_reason.result c.width_reason.ensures (λ reason says schema fields insides line.
    let f = field c.args.of.now in
    let first = c.in-Ok-None.ensures schema fields insides line in
    let second = c.in-Ok-None-formula_reason.ensures schema fields insides first.1 in
    let third = says schema fields insides second.1 in (
      third.0
          ∙ ap (spec.width_reason schema fields) (sym (width-of f.length f.width (some_mapped formula c.args.of.now.length c.if-is_none.ensures)))
          ∙ pair-none (spec.formula_reason schema fields f.length) (spec.width_reason schema fields (spec.width_where f.length f.width)) (sym c.in-Ok-None-formula_reason.field-0-is ∙ second.0)
          ∙ first-none (spec.formula_reason schema fields f.arg) (spec.formula_reason schema fields f.length ∷ spec.width_reason schema fields (spec.width_where f.length f.width) ∷ []) (sym c.in-Ok-None.field-0-is ∙ first.0),
      third.1,
    ))

pub returns-in-Ok-Some-formula_reason : goal.returns-in-Ok-Some-formula_reason
unfolding size_reason
returns-in-Ok-Some-formula_reason c = λ schema fields insides line.
    let f = field c.args.of.now in
    let first = c.in-Ok-None.ensures schema fields insides line in
    let second = c.in-Ok-Some-formula_reason.ensures schema fields insides first.1 in (
      pair-some c.in-Ok-Some-formula_reason.reason (spec.formula_reason schema fields f.length) (spec.width_reason schema fields (spec.width_where f.length f.width) ∷ []) (sym c.in-Ok-Some-formula_reason.field-0-is ∙ second.0)
          ∙ first-none (spec.formula_reason schema fields f.arg) (spec.formula_reason schema fields f.length ∷ spec.width_reason schema fields (spec.width_where f.length f.width) ∷ []) (sym c.in-Ok-None.field-0-is ∙ first.0),
      second.1,
    )
