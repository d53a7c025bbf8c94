use Rattle.std.proofs.Common.{sym, ap, ◌∙◌}
use Rattle.std.specs.Option.{option_map}
use Rattle.nif_schema.specs.Declaration.{field}
use Rattle.nif_layout.specs.Form.{sized, width_at}
use Rattle.nif_scope.specs.Scope.{context_in, earlier, kind_of}
use Rattle.nif_scope.specs.Values.{formula_at}
use Rattle.nif_scope.specs.Rules.{is_run_by}
use Rattle.nif_scope.proofs.KeptRules.{form_same}
use Rattle.nif_scope.proofs.scopes.form_of.Goals as goal

pub returns-clause-form : goal.returns-clause-form
returns-clause-form c = λ members tells.
    let s = c.args.at.now in
    let f = field c.args.of.now in
    let width = width_at s.schema.now (context_in s) (earlier s members) s.arg in
    form_same s c.args.entries.now members tells f c.requires.field
    ∙ ap (λ kind. sized (option_map (formula_at s c.args.entries.now) f.length) (option_map width f.width) (is_run_by s.schema.now s.template f) kind) (sym c.kind_at-kind.ensures.value)
    ∙ sym (c.size_at.ensures (kind_of s.schema.now c.kind_at-kind.result) width)
