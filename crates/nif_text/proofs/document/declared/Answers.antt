use Rattle.std.proofs.Common.{refl}
use Rattle.nif_text.proofs.Documents.{declared_some}
use Rattle.nif_text.proofs.document.declared.Goals as goal

pub returns-clause-only : goal.returns-clause-only
returns-clause-only c next o none =
    let here = c.if-not-begins.ensures.yes refl in
    declared_some c.args.text.now next here.0 here.1 o none c.declaration.result c.declaration.new.text c.declaration.ensures.yes c.declaration.ensures.no
