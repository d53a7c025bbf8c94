use Rattle.std.proofs.Common.{List, ℕ, map, take, arith, ap, sym, subst, ◌∙◌}
use Rattle.std.specs.List.{fold}
use Rattle.nif_attributes.specs.Tokens.{groups_of, pass_group, name_of_attribute}
use Rattle.nif_attributes.specs.Listing.{lone, text_of}
use Rattle.nif_attributes.specs.Finding.{IsIndex}
use Rattle.nif_attributes.proofs.Groups.{groups_more, alike_all}
use Rattle.nif_attributes.proofs.tokens.Tokens.of.Goals as goal

pub loop-child-init : goal.loop-child-init
loop-child-init c = record {
  alike = λ a text. ap (λ l. fold (pass_group (name_of_attribute a)) text (map lone l)) c.new.ensures.items;
  index = subst (λ (l : List (List ℕ)). IsIndex c.new-2.result l) (sym (ap (map text_of) c.new.ensures.items)) c.new-2.ensures;
}

pub loop-child-preserved : goal.loop-child-preserved
loop-child-preserved c = record {
  alike = λ a text.
      c.in_ok-add_group.ensures.groups (groups_of (take c.loop-child.child-index c.deref-child-items.result.now)) c.loop-child.invariant.alike a text
      ∙ ap (λ l. fold (pass_group (name_of_attribute a)) text l) (groups_more c.deref-child-items.result.now c.loop-child.child-index c.child-item.result (omega arith) c.child-item.is);
  index = c.in_ok-add_group.ensures.index c.loop-child.invariant.index;
}

pub invariant_of-result : goal.invariant_of-result
invariant_of-result c = c.loop-child.invariant.index

pub returns : goal.returns
returns c =
    alike_all c.args.root.now c.root.inside.name c.root.inside.attrs c.root.inside.children.items c.deref-child-items.result.now c.loop-child.child-index
    (map lone c.loop-child.gathered.items.items) c.root.view_is c.deref-child-items.ensures.value (omega arith) c.loop-child.invariant.alike
