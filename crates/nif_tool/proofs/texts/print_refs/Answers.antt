use Rattle.std.proofs.Common.{None, take, refl}
use Rattle.nif_stream.specs.Putting.{HasTaken}
use Rattle.nif_print.specs.References.{refs_text}
use Rattle.nif_tool.proofs.texts.print_refs.Goals as goal

pub returns-in-Err-clause-printed : goal.returns-in-Err-clause-printed
unfolding HasTaken
returns-in-Err-clause-printed g c =
    let part = c.in-Err.ensures.err in
    let line = refs_text c.args.checked.now c.args.graph.now.graph in
    (take part.0 line, part.1, (None, line, (λ same. absurd (cc)), (refl, refl), (part.0, refl)))
