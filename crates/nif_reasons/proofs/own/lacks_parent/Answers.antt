use Rattle.std.proofs.Common.{sym}
use Rattle.nif_schema.specs.Declaration.{declaration}
use Rattle.nif_reasons.proofs.ParentLemmas.{lacks-none, lacks-found, lacks-lost}
use Rattle.nif_reasons.proofs.own.lacks_parent.Goals as goal

pub returns-in_default : goal.returns-in_default
returns-in_default c = sym (lacks-none c.args.schema.now c.args.number (declaration c.decl.result.now) c.decl.ensures (sym c.in_default.ensures))

pub returns-in-Some-parent : goal.returns-in-Some-parent
returns-in-Some-parent c = sym (lacks-found c.args.schema.now c.args.number c.in-Some-parent.field-0 (sym c.in-Some-parent.ensures.value))

pub returns-in-None : goal.returns-in-None
returns-in-None c = sym (lacks-lost c.args.schema.now c.args.number (declaration c.decl.result.now) c.in-Some.field-0.now c.decl.ensures (sym c.in-Some.ensures) (sym c.in-None.ensures.value))
