use Rattle.std.proofs.Common.{◌≡◌, [], ◌∷◌, ◌||◌, List, Bool, sym, ap, ◌∙◌}
use Rattle.nif_schema.specs.Declaration.{Field, field}
use Rattle.nif_schema.specs.Schema.{Schema}
use Rattle.nif_schema.specs.Reasons as spec
use Rattle.nif_schema.specs.declared.faults.Closed.TheVariants.{C4, C11, C12}
use Rattle.nif_reasons.specs.FieldReasons.{plain_reason, condition_reason, size_reason}
use Rattle.nif_reasons.proofs.ReasonLemmas.{on, pair-none, pair-some, first-here, first-later, three}
use Rattle.nif_reasons.proofs.fields.field_reason.Goals as goal

parts : (S : Schema) (s : Bool) (earlier : List Field) (f : Field)
    → spec.first_reason (plain_reason S s f ∷ condition_reason S earlier f ∷ size_reason S earlier f ∷ []) ≡ spec.field_reason S s earlier f
unfolding spec.field_reason plain_reason condition_reason size_reason
parts S s earlier f = three
    (spec.kind_reason S s f ∷ spec.template_reason S s f
    ∷ spec.reason_where C11 (spec.is_bad_bound f.since || spec.is_bad_bound f.until)
    ∷ spec.reason_where C12 (spec.is_no_block S f.only || spec.is_no_block S f.exclude)
    ∷ spec.reason_where C4 (spec.is_bad_exact f.user || spec.is_bad_exact f.bs) ∷ [])
    (spec.formula_reason S earlier f.vercond ∷ spec.formula_reason S earlier f.cond ∷ [])
    (spec.formula_reason S earlier f.arg ∷ spec.formula_reason S earlier f.length ∷ spec.width_reason S earlier (spec.width_where f.length f.width) ∷ [])

pub returns-then-is_some : goal.returns-then-is_some
returns-then-is_some c = λ fields line.
    let S = c.args.schema.now in
    let f = field c.args.of.now in (
      first-here c.plain_reason-reason.result (condition_reason S fields f ∷ size_reason S fields f ∷ []) (sym c.if-is_some.ensures)
          ∙ ap (λ a. spec.first_reason (a ∷ condition_reason S fields f ∷ size_reason S fields f ∷ [])) c.plain_reason-reason.ensures ∙ parts S c.args.in_struct fields f,
      line,
    )

pub returns-in-Ok-None : goal.returns-in-Ok-None
returns-in-Ok-None c = on c.size_reason.result c.size_reason.ensures (λ reason says fields line.
    let S = c.args.schema.now in
    let f = field c.args.of.now in
    let first = c.in-Ok-None.ensures S fields c.requires.insides line in
    let second = says S fields c.requires.insides first.1 in (
      second.0
          ∙ pair-none (condition_reason S fields f) (size_reason S fields f) (sym c.in-Ok-None.field-0-is ∙ first.0)
          ∙ first-later c.plain_reason-reason.result (condition_reason S fields f ∷ size_reason S fields f ∷ []) (sym c.if-is_some.ensures)
          ∙ ap (λ a. spec.first_reason (a ∷ condition_reason S fields f ∷ size_reason S fields f ∷ [])) c.plain_reason-reason.ensures ∙ parts S c.args.in_struct fields f,
      second.1,
    ))

pub returns-in-Ok-Some : goal.returns-in-Ok-Some
returns-in-Ok-Some c = λ fields line.
    let S = c.args.schema.now in
    let f = field c.args.of.now in
    let some = c.in-Ok-Some.ensures S fields c.requires.insides line in (
      pair-some c.in-Ok-Some.reason (condition_reason S fields f) (size_reason S fields f ∷ []) (sym c.in-Ok-Some.field-0-is ∙ some.0)
          ∙ first-later c.plain_reason-reason.result (condition_reason S fields f ∷ size_reason S fields f ∷ []) (sym c.if-is_some.ensures)
          ∙ ap (λ a. spec.first_reason (a ∷ condition_reason S fields f ∷ size_reason S fields f ∷ [])) c.plain_reason-reason.ensures ∙ parts S c.args.in_struct fields f,
      some.1,
    )
