use Rattle.std.proofs.Common.{[], ◌∷◌, ◌++◌, sym, arith}
use Rattle.nif_text.specs.Parts.{Byte}
use Rattle.nif_text.specs.Kinds.{passes}
use Rattle.nif_text.proofs.Runs.{many_more}
use Rattle.nif_text.proofs.cursor.behind.Goals as goal

pub loop-c-preserved : goal.loop-c-preserved
loop-c-preserved c =
    let before = c.loop-c.invariant.0 in (
      (
        before.0 ++ c.in-Some.c.now ∷ [],
        many_more (Byte (passes c.args.kind)) before.0 c.in-Some.c.now c.args.text.now c.loop-c.rest.now c.in-Some.next.now before.1 (c.in-Some.ensures.cases.0, sym c.if-not-has.ensures),
      ),
      omega (arith, c.in-Some.ensures.cases),
    )
