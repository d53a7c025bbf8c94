use Rattle.std.proofs.Common.{map, arith, ap, sym, ◌∙◌}
use Rattle.nif_attributes.specs.Tokens.{name_of_attribute}
use Rattle.nif_attributes.proofs.Groups.{listed_more, listed_same}
use Rattle.nif_attributes.proofs.tokens.Gathered.add_tokens.Goals as goal
use Rattle.nif_attributes.proofs.tokens.Gathered.add_tokens.Goals.{in-Some+in_ok-push, in_default}

pub loop-child-preserved : goal.loop-child-preserved
loop-child-preserved c =
    let names = map name_of_attribute c.args.attributes.now in
    elim c.match-branch-2.branch [
      | in-Some+in_ok-push w ↦ record {
        items =
            listed_more names c.args.children.now c.loop-child.child-index c.child-item.result c.args.self.now.items.items c.loop-child.self.items.items c.match-branch-2.self.items.items
            w.in-Some.by (omega arith) c.child-item.is c.loop-child.invariant.items (sym w.in-Some.is ∙ c.in_ok-by.ensures) (ap (λ v. v.items.items) w.self-is ∙ w.in_ok-push.ensures.items);
        index = λ before. rw w.self-is (w.in_ok-push.ensures.index (c.loop-child.invariant.index before));
      }
      | in_default w ↦ record {
        items =
            ap (λ v. v.items.items) w.self-is
            ∙ listed_same names c.args.children.now c.loop-child.child-index c.child-item.result c.args.self.now.items.items c.loop-child.self.items.items (omega arith) c.child-item.is
            c.loop-child.invariant.items (sym w.in_default.is ∙ c.in_ok-by.ensures);
        index = λ before. rw w.self-is (c.loop-child.invariant.index before);
      }
    ]
