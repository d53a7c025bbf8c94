use Rattle.std.proofs.Common.{None, take, refl}
use Rattle.nif_stream.specs.Putting.{HasTaken}
use Rattle.nif_tool.proofs.texts.print_list.Goals as goal

pub returns-in-Err-clause-printed : goal.returns-in-Err-clause-printed
unfolding HasTaken
returns-in-Err-clause-printed g c =
    let part = c.in-Err.ensures.err in
    (take part.2.0 part.0, part.2.1, (None, part.0, (λ same. absurd (cc)), (refl, part.1), (part.2.0, refl)))
