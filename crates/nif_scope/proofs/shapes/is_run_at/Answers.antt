use Rattle.std.proofs.Common.{sym, ◌∙◌}
use Rattle.nif_schema.specs.Declaration.{field}
use Rattle.nif_scope.proofs.OpenFields.{type_at}
use Rattle.nif_scope.proofs.shapes.is_run_at.Goals as goal

pub is_run-requires : goal.is_run-requires
is_run-requires c =
    let s = c.args.at.now in
    (type_at s.schema.now s.number s.template (field c.args.of.now) c.requires.setting.is_open c.requires.setting.template c.requires.field c.in-Some.number (sym c.replaced.ensures ∙ c.in-Some.is)).0.0
