use Rattle.std.proofs.Common.{bytes_eq, codes, ap, ◌∙◌}
use Rattle.nif_schema.specs.Uses.{is_own_template}
use Rattle.nif_uses.proofs.templates.is_own_template.Goals as goal

pub returns : goal.returns
unfolding is_own_template
returns c = c.eq.ensures ∙ ap (bytes_eq c.bytes.result.now) c.as_slice.ensures ∙ ap (λ name. bytes_eq name (codes "#T#")) c.bytes.ensures
