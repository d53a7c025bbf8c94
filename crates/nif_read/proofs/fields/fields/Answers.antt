use Rattle.std.proofs.Common.{◌≡◌, ◌+◌, false, List, sym, ◌∙◌, subst}
use Rattle.std.specs.List.{filter}
use Rattle.nif_text.specs.Tree.{Tree, attrs_of}
use Rattle.nif_schema.specs.Declaration.{field}
use Rattle.nif_schema.specs.declared.fields.Field as kept
use Rattle.nif_attributes.specs.Attributes.{Attrs, text_of, replaced_by}
use Rattle.nif_read.specs.Fields.{IsField, is_nameless}
use Rattle.nif_read.specs.Declarations.{is_field}
use Rattle.nif_read.specs.Kept.{lacks}
use Rattle.nif_read.proofs.Loops.{SoFar, skipped, pushed, none_lacks, all_done, zip_map}
use Rattle.nif_read.proofs.fields.fields.Goals as goal
use Rattle.nif_read.proofs.fields.fields.Goals.{then-is_field+in_ok-field+in-Some+in_ok-push, else-is_field}

pub loop-child-preserved : goal.loop-child-preserved
loop-child-preserved c =
    let R : Tree → kept.Field → Type 0 = λ child f. IsField (text_of (replaced_by c.args.tokens.now) (attrs_of child)) (field f) in
    let keeps = lacks (replaced_by c.args.tokens.now) in
    elim c.if-is_field.branch [
      | then-is_field+in_ok-field+in-Some+in_ok-push w ↦
          let P : Attrs → Type 0 = λ attrs. (is_nameless (text_of (replaced_by c.args.tokens.now) attrs) ≡ false) × IsField (text_of (replaced_by c.args.tokens.now) attrs) (field w.in-Some.field) in
          let read : P (attrs_of c.child-item.result) = subst P w.attrs_of.ensures (rw w.in-Some.is at w.in_ok-field.ensures) in
          subst (λ (fs : List kept.Field). SoFar is_field keeps R c.args.children.now (c.loop-child.child-index + 1) fs) (sym (w.fields-is ∙ w.in_ok-push.ensures.ok))
          (pushed is_field keeps R c.args.children.now c.loop-child.child-index c.loop-child.fields c.child-item.result w.in-Some.field c.loop-child-test.true c.child-item.is
          (sym c.is_field.ensures ∙ w.if-is_field.true) read.0 read.1 c.loop-child.invariant)
      | else-is_field w ↦
          subst (λ (fs : List kept.Field). SoFar is_field keeps R c.args.children.now (c.loop-child.child-index + 1) fs) (sym w.fields-is)
          (skipped is_field keeps R c.args.children.now c.loop-child.child-index c.loop-child.fields c.child-item.result c.loop-child-test.true c.child-item.is
          (sym c.is_field.ensures ∙ w.if-is_field.false) c.loop-child.invariant)
    ]

pub returns : goal.returns
returns c =
    let R : Tree → kept.Field → Type 0 = λ child f. IsField (text_of (replaced_by c.args.tokens.now) (attrs_of child)) (field f) in
    let keeps = lacks (replaced_by c.args.tokens.now) in (
      none_lacks is_field keeps R c.args.children.now c.loop-child.child-index c.loop-child.fields c.loop-child-test.false c.loop-child.invariant,
      zip_map (λ child f. IsField (text_of (replaced_by c.args.tokens.now) (attrs_of child)) f) field (filter is_field c.args.children.now) c.loop-child.fields
          (all_done is_field keeps R c.args.children.now c.loop-child.child-index c.loop-child.fields c.loop-child-test.false c.loop-child.invariant),
    )
