use Rattle.std.proofs.Common.{None, if◌then◌else◌, sym, ap, ◌∙◌}
use Rattle.nif_schema.specs.Schema.{find}
use Rattle.nif_schema.specs.Uses.{named}
use Rattle.nif_uses.proofs.names.named.Goals as goal

pub returns-then-is_own_template-clause-value : goal.returns-then-is_own_template-clause-value
unfolding named
returns-then-is_own_template-clause-value c =
    let s = c.args.schema.now in
    let name = c.args.name.now in
    ap (λ b. if b then None else find s name) (sym c.if-is_own_template.true ∙ c.is_own_template.ensures)

pub returns-clause-value : goal.returns-clause-value
unfolding named
returns-clause-value c =
    let s = c.args.schema.now in
    let name = c.args.name.now in
    c.find.ensures.value ∙ ap (find s) c.bytes.ensures
    ∙ ap (λ b. if b then None else find s name) (sym c.if-is_own_template.false ∙ c.is_own_template.ensures)
