use Rattle.std.proofs.Common.{◌<◌, length, map, take, arith}
use Rattle.nif_text.proofs.Differing.{differ_next, differ_never, holds_next, absent, present}
use Rattle.nif_text.proofs.start.all_differ.Goals as goal

pub returns-in-Ok-false : goal.returns-in-Ok-false
returns-in-Ok-false c =
    let within : c.loop-place.place < length c.args.attrs.now = omega (arith, c.loop-place-test.true, c.len-place-end.ensures) in (
      (λ e. absurd (cc e)),
      (λ d. absurd (differ_never c.args.attrs.now c.loop-place.place within c.get.result.now c.get.ensures
          (present c.loop-place.names.keys (map (λ p. p.0) (take c.loop-place.place c.args.attrs.now)) c.bytes.result c.get.result.now.0 c.in-Ok-false.field-0
          c.bytes.ensures c.loop-place.invariant.holds c.in-Ok-false.ensures.added c.in-Ok-false.field-0-test) d)),
    )

pub loop-place-preserved : goal.loop-place-preserved
loop-place-preserved c =
    let within : c.loop-place.place < length c.args.attrs.now = omega (arith, c.loop-place-test.true, c.len-place-end.ensures) in
    record {
      holds = holds_next c.args.attrs.now c.loop-place.place within c.get.result.now c.get.ensures c.loop-place.names.keys c.insert.new.self.keys c.bytes.result c.bytes.ensures
          c.loop-place.invariant.holds (λ q. c.in-Ok-true.ensures.updates.0 q);
      differ = differ_next c.args.attrs.now c.loop-place.place within c.get.result.now c.get.ensures c.loop-place.invariant.differ
          (absent c.loop-place.names.keys (map (λ p. p.0) (take c.loop-place.place c.args.attrs.now)) c.bytes.result c.get.result.now.0 c.in-Ok-true.field-0
          c.bytes.ensures c.loop-place.invariant.holds c.in-Ok-true.ensures.added c.in-Ok-true.field-0-test);
    }
