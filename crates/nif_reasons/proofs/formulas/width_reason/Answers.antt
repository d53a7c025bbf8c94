use Rattle.std.proofs.Common.{sym, ap, ◌∙◌}
use Rattle.std.specs.Option.{option_map}
use Rattle.nif_names.specs.Tables.{held}
use Rattle.nif_schema.specs.Declaration.{formula}
use Rattle.nif_reasons.proofs.ReasonLemmas.{on, width-plain, width-absent, width-there}
use Rattle.nif_reasons.proofs.formulas.width_reason.Goals as goal

pub returns-in_default : goal.returns-in_default
returns-in_default c = on c.formula_reason.result c.formula_reason.ensures (λ reason says schema fields insides line.
    let r = says schema fields insides line in
    (r.0 ∙ sym (width-plain schema fields (option_map formula c.args.width.now) (sym c.in_default.ensures)), r.1))

pub returns-in-Some-look : goal.returns-in-Some-look
returns-in-Some-look c = λ schema fields insides line. (
  c.bare_width_reason.ensures
      ∙ width-there schema fields (option_map formula c.args.width.now) c.in-Some.name.now c.in-Some-look.shapes.now.shapes (sym c.in-Some.ensures)
      (c.in-Some-look.ensures.value ∙ ap (held c.args.line.now.names) c.bytes.ensures ∙ line.names c.in-Some.name.now) c.in-Some-look.ensures.some,
  line,
)

pub returns-in-None : goal.returns-in-None
returns-in-None c = on c.formula_reason-in-None.result c.formula_reason-in-None.ensures (λ reason says schema fields insides line.
    let r = says schema fields insides line in (
      r.0
          ∙ width-absent schema fields (option_map formula c.args.width.now) c.in-Some.name.now (sym c.in-Some.ensures)
          (sym (line.names c.in-Some.name.now) ∙ ap (held c.args.line.now.names) (sym c.bytes.ensures) ∙ sym c.in-None.ensures.value),
      r.1,
    ))
