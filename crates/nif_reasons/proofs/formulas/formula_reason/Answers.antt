use Rattle.std.proofs.Common.{Some, sym, ap, ◌∙◌}
use Rattle.std.specs.Option.{option_map}
use Rattle.nif_schema.specs.Declaration.{formula}
use Rattle.nif_schema.specs.Reasons as spec
use Rattle.nif_reasons.proofs.ReasonLemmas.{on}
use Rattle.nif_reasons.proofs.formulas.formula_reason.Goals as goal

pub returns-in-Read : goal.returns-in-Read
returns-in-Read c = on c.expr_reason.result c.expr_reason.ensures (λ reason says schema fields insides line. let h = c.in-Some.is in let g = c.in-Read.is in
    let r = says schema fields insides line in
    (r.0 ∙ sym (ap (λ o. spec.formula_reason schema fields (option_map formula o)) (h ∙ ap Some g)), r.1))
