use Rattle.std.proofs.Common.{sym, ap, ◌∙◌}
use Rattle.nif_text.specs.Tree.{children_of}
use Rattle.nif_read.proofs.Trees.{listed-trees}
use Rattle.nif_read.proofs.elements.children_of.Goals as goal

pub returns : goal.returns
returns c = c.as_slice.ensures.value ∙ sym (listed-trees c.element.inside.children.items) ∙ ap children_of c.element.view_is
