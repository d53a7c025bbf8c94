use Rattle.std.proofs.Common.{◌≡◌, Some, true, false, sym, ◌∙◌, rules, arith}
use Rattle.std.proofs.lemmas.Grind.{common_steps}
use Rattle.nif_text.specs.Tree.{attrs_of}
use Rattle.nif_attributes.specs.Attributes.{replaced_by}
use Rattle.nif_read.specs.Declarations.{name_in, has_nameless}
use Rattle.nif_read.proofs.Faults.{duplicate, lacking, sound}
use Rattle.nif_read.proofs.Found.{found}
use Rattle.nif_read.proofs.reading.declare.Goals as goal

pub returns-then-is_some-clause-err : goal.returns-then-is_some-clause-err
returns-then-is_some-clause-err c =
    let named : name_in (attrs_of c.args.child.now) ≡ Some c.in-Ok.name = first_of (search rules, grind (arith, common_steps)) in
    duplicate _ c.in-Ok.name _ c.args.number (has_nameless (replaced_by c.args.tokens.now) c.args.form c.args.child.now) named
    (found c.args.schema.now c.in-Ok.name c.bytes.result.now c.find.result true c.find.ensures.value c.bytes.ensures (sym c.is_some.ensures ∙ c.if-is_some.true))

pub returns-in-Ok-add-clause-sound : goal.returns-in-Ok-add-clause-sound
returns-in-Ok-add-clause-sound c =
    let named : name_in (attrs_of c.args.child.now) ≡ Some c.in-Ok.name = first_of (search rules, grind (arith, common_steps)) in
    sound _ c.in-Ok.name _ c.args.number (has_nameless (replaced_by c.args.tokens.now) c.args.form c.args.child.now) named
    (found c.args.schema.now c.in-Ok.name c.bytes.result.now c.find.result false c.find.ensures.value c.bytes.ensures (sym c.is_some.ensures ∙ c.if-is_some.false))
    (rw c.in-Ok-Some.field-0-is at c.in-Ok-Some.ensures).0

pub returns-in-Ok-None-clause-err : goal.returns-in-Ok-None-clause-err
returns-in-Ok-None-clause-err c =
    let named : name_in (attrs_of c.args.child.now) ≡ Some c.in-Ok.name = first_of (search rules, grind (arith, common_steps)) in
    lacking _ c.in-Ok.name _ c.args.number (has_nameless (replaced_by c.args.tokens.now) c.args.form c.args.child.now) named
    (found c.args.schema.now c.in-Ok.name c.bytes.result.now c.find.result false c.find.ensures.value c.bytes.ensures (sym c.is_some.ensures ∙ c.if-is_some.false))
    (rw c.in-Ok-None.field-0-is at c.in-Ok-None.ensures)
