use Rattle.std.proofs.Common.{◌≡◌, ◌+◌, Bool, Some, List, sym, ap, ◌∙◌, subst}
use Rattle.std.specs.Option.{is_none}
use Rattle.std.specs.List.{filter}
use Rattle.nif_text.specs.Tree.{Tree, attrs_of}
use Rattle.nif_schema.specs.declared.members.BitMember.{BitMember}
use Rattle.nif_attributes.specs.Attributes.{Attrs}
use Rattle.nif_read.specs.Declarations.{is_member, name_in, member_of}
use Rattle.nif_read.proofs.Loops.{SoFar, skipped, pushed, none_lacks, all_done, mapped}
use Rattle.nif_read.proofs.members.members.Goals as goal
use Rattle.nif_read.proofs.members.members.Goals.{then-is_member+in_ok-member+in-Some+in_ok-push, else-is_member}

pub loop-child-preserved : goal.loop-child-preserved
loop-child-preserved c =
    let R : Tree → BitMember → Type 0 = λ child m. member_of (attrs_of child) ≡ m in
    let nameless : Tree → Bool = λ child. is_none (name_in (attrs_of child)) in
    elim c.if-is_member.branch [
      | then-is_member+in_ok-member+in-Some+in_ok-push w ↦
          let P : Attrs → Type 0 = λ attrs. (name_in attrs ≡ Some w.in-Some.member.name) × (member_of attrs ≡ w.in-Some.member) in
          let read : P (attrs_of c.child-item.result) = subst P w.attrs_of.ensures (rw w.in-Some.is at w.in_ok-member.ensures) in
          subst (λ (ms : List BitMember). SoFar is_member nameless R c.args.children.now (c.loop-child.child-index + 1) ms) (sym (w.members-is ∙ w.in_ok-push.ensures.ok))
          (pushed is_member nameless R c.args.children.now c.loop-child.child-index c.loop-child.members c.child-item.result w.in-Some.member c.loop-child-test.true c.child-item.is
          (sym c.is_member.ensures ∙ w.if-is_member.true) (ap is_none read.0) read.1 c.loop-child.invariant)
      | else-is_member w ↦
          subst (λ (ms : List BitMember). SoFar is_member nameless R c.args.children.now (c.loop-child.child-index + 1) ms) (sym w.members-is)
          (skipped is_member nameless R c.args.children.now c.loop-child.child-index c.loop-child.members c.child-item.result c.loop-child-test.true c.child-item.is
          (sym c.is_member.ensures ∙ w.if-is_member.false) c.loop-child.invariant)
    ]

pub returns : goal.returns
returns c =
    let R : Tree → BitMember → Type 0 = λ child m. member_of (attrs_of child) ≡ m in
    let nameless : Tree → Bool = λ child. is_none (name_in (attrs_of child)) in (
      none_lacks is_member nameless R c.args.children.now c.loop-child.child-index c.loop-child.members c.loop-child-test.false c.loop-child.invariant,
      mapped (λ child. member_of (attrs_of child)) (filter is_member c.args.children.now) c.loop-child.members
          (all_done is_member nameless R c.args.children.now c.loop-child.child-index c.loop-child.members c.loop-child-test.false c.loop-child.invariant),
    )
