use Rattle.std.proofs.Common.{◌∙◌}
use Rattle.nif_uses.proofs.Links.{uses-begin, uses-next}
use Rattle.nif_uses.specs.Users.{pairs}
use Rattle.nif_uses.proofs.users.Users.add_declaration.Goals as goal

pub loop-place-init : goal.loop-place-init
loop-place-init c = record {
  count = c.in_ok-add_parent.ensures.count;
  linked = c.in_ok-add_parent.ensures.linked;
  links = uses-begin c.args.schema.now c.args.user c.decl.result.now (pairs c.args.self.now.links.items) (pairs c.add_parent.new.self.links.items) c.decl.ensures c.in_ok-add_parent.ensures.links;
}

pub loop-place-preserved : goal.loop-place-preserved
loop-place-preserved c = record {
  count = c.in-Ok.ensures.count ∙ c.loop-place.invariant.count;
  linked = c.in-Ok.ensures.linked;
  links = uses-next c.args.schema.now c.args.user c.decl.result.now.fields c.loop-place.place c.get.result.now (pairs c.loop-place.self.links.items)
      (pairs c.add_field.new.self.links.items) c.get.ensures c.in-Ok.ensures.links ∙ c.loop-place.invariant.links;
}
