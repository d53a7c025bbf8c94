use Rattle.std.proofs.Common.{◌≡◌, Some, None, sym, ap, ◌∙◌, map}
use Rattle.nif_text.specs.Tree.{name_of}
use Rattle.nif_attributes.specs.Attributes.{replaced_by}
use Rattle.nif_read.specs.Declarations.{form_of}
use Rattle.nif_read.proofs.Walk.{steps, faults_at, passed}
use Rattle.nif_read.proofs.reading.child.Goals as goal

pub returns-in-Some-clause-ok : goal.returns-in-Some-clause-ok
returns-in-Some-clause-ok c =
    let form : form_of (name_of c.args.child.now) ≡ Some c.in-Some.form = ap form_of (sym c.name_of.ensures) ∙ sym c.form_of.ensures ∙ c.in-Some.is in
    steps (replaced_by c.args.tokens.now) c.args.number c.args.child.now c.args.schema.now c.declare.new.schema (Some c.in-Some.form) c.declare.result form c.declare.ensures.sound c.declare.ensures.step

pub returns-in-Some-clause-err : goal.returns-in-Some-clause-err
returns-in-Some-clause-err c =
    let form : form_of (name_of c.args.child.now) ≡ Some c.in-Some.form = ap form_of (sym c.name_of.ensures) ∙ sym c.form_of.ensures ∙ c.in-Some.is in
    faults_at (replaced_by c.args.tokens.now) (map (λ d. d.name) c.args.schema.now) c.args.number c.args.child.now (Some c.in-Some.form) c.declare.result form c.declare.ensures.err

pub returns-in-None-clause-ok : goal.returns-in-None-clause-ok
returns-in-None-clause-ok c =
    let form : form_of (name_of c.args.child.now) ≡ None = ap form_of (sym c.name_of.ensures) ∙ sym c.form_of.ensures ∙ c.in-None.is in
    passed (replaced_by c.args.tokens.now) c.args.number c.args.child.now c.args.schema.now c.group.result form c.group.ensures.ok

pub returns-in-None-clause-err : goal.returns-in-None-clause-err
returns-in-None-clause-err c =
    let form : form_of (name_of c.args.child.now) ≡ None = ap form_of (sym c.name_of.ensures) ∙ sym c.form_of.ensures ∙ c.in-None.is in
    faults_at (replaced_by c.args.tokens.now) (map (λ d. d.name) c.args.schema.now) c.args.number c.args.child.now None c.group.result form c.group.ensures.err
