use Rattle.std.proofs.Common.{arith}
use Rattle.nif_attributes.specs.Listing.{parts_token}
use Rattle.nif_attributes.proofs.Groups.{refused_here, refused_found, refused_nowhere}
use Rattle.nif_attributes.proofs.tokens.has_refused_child.Goals as goal

pub returns-then-is_none : goal.returns-then-is_none
returns-then-is_none c =
    refused_found c.args.group.now c.group.inside.name c.group.inside.attrs c.group.inside.children.items c.deref-child-items.result.now c.loop-child.child-index c.child-item.result
    c.group.view_is c.deref-child-items.ensures.value (omega arith) c.child-item.is
    (refused_here parts_token c.parts.result c.child-item.result c.parts.ensures c.if-is_none.ensures)

pub returns : goal.returns
returns c =
    refused_nowhere c.args.group.now c.group.inside.name c.group.inside.attrs c.group.inside.children.items c.deref-child-items.result.now c.loop-child.child-index
    c.group.view_is c.deref-child-items.ensures.value (omega arith) c.loop-child.invariant
