use Rattle.std.proofs.Common.{refl}
use Rattle.nif_text.proofs.Starts.{finish_never-bracket}
use Rattle.nif_text.proofs.start.finish.Goals as goal

pub returns-then-not-eat-3-clause-read : goal.returns-then-not-eat-3-clause-read
returns-then-not-eat-3-clause-read c =
    finish_never-bracket c.args.name.now c.args.text.now c.eat.new.self c.eat-2.new.self c.skip_blanks.ensures.run.0 c.skip_blanks.new.self
    (c.if-not-eat.ensures.yes refl) (c.if-not-eat-2.ensures.yes refl) c.skip_blanks.ensures.run.1 (c.if-not-eat-3.ensures.no refl)
