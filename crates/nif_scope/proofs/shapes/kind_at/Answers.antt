use Rattle.std.proofs.Common.{sym, subst, ◌∙◌}
use Rattle.nif_schema.specs.Declaration.{field}
use Rattle.nif_layout.specs.Laws.{HasTemplate}
use Rattle.nif_scope.proofs.OpenFields.{type_at, type_some}
use Rattle.nif_scope.proofs.shapes.kind_at.Goals as goal

pub kind_of-requires-clause-open : goal.kind_of-requires-clause-open
kind_of-requires-clause-open c =
    let s = c.args.at.now in
    (type_at s.schema.now s.number s.template (field c.args.of.now) c.requires.setting.is_open c.requires.setting.template c.requires.field c.in-Some.number (sym c.replaced.ensures ∙ c.in-Some.is)).0

pub kind_of-requires-clause-template : goal.kind_of-requires-clause-template
kind_of-requires-clause-template c =
    let s = c.args.at.now in
    subst (λ inner. HasTemplate s.schema.now c.in-Some.number inner) (sym c.replaced_template-template.ensures)
    (type_at s.schema.now s.number s.template (field c.args.of.now) c.requires.setting.is_open c.requires.setting.template c.requires.field c.in-Some.number (sym c.replaced.ensures ∙ c.in-Some.is)).1

pub unreachable-requires : goal.unreachable-requires
unreachable-requires c =
    let s = c.args.at.now in
    type_some s.schema.now s.number s.template (field c.args.of.now) c.requires.setting.is_open c.requires.setting.template c.requires.field (sym c.replaced.ensures ∙ c.in-None.is)
