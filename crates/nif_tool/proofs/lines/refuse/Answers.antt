use Rattle.std.proofs.Common.{Some, take, refl}
use Rattle.nif_stream.specs.Putting.{HasTaken}
use Rattle.nif_tool.specs.Lines.{line_of}
use Rattle.nif_tool.proofs.lines.refuse.Goals as goal

pub returns-in-Err-clause-printed : goal.returns-in-Err-clause-printed
unfolding HasTaken
returns-in-Err-clause-printed g c =
    let part = c.in-Err.ensures.err in
    (take part.0 (line_of c.args.fault), part.1, (Some c.args.fault, line_of c.args.fault, (λ same. c.requires (cc)), (refl, refl), (part.0, refl)))
