use Rattle.std.proofs.Common.{◌≡◌, ◌-◌, length, arith, ap, drop, ◌∙◌}
use Rattle.nif_layout.specs.LeafFault.{low_value}
use Rattle.nif_decode.proofs.Numbers.{little_step, fits_64, spelled_all}
use Rattle.nif_decode.proofs.takes.low_value.Goals as goal

pub overflow_mul-bits : goal.overflow_mul-bits
overflow_mul-bits c =
    let r = little_step c.args.bytes.now c.loop-i.i c.loop-i.bits c.loop-i-test.true c.loop-i.invariant.there (λ k. omega (arith, c.type_inv.bytes k)) c.loop-i.invariant.value c.loop-i.invariant.small in
    let f = fits_64 _ (length c.args.bytes.now - (c.loop-i.i - 1)) (omega arith) r.1 in omega arith

pub overflow_add-bits : goal.overflow_add-bits
overflow_add-bits c =
    let r = little_step c.args.bytes.now c.loop-i.i c.loop-i.bits c.loop-i-test.true c.loop-i.invariant.there (λ k. omega (arith, c.type_inv.bytes k)) c.loop-i.invariant.value c.loop-i.invariant.small in
    let f = fits_64 _ (length c.args.bytes.now - (c.loop-i.i - 1)) (omega arith) r.1 in omega arith

pub loop-i-preserved : goal.loop-i-preserved
loop-i-preserved c =
    let r = little_step c.args.bytes.now c.loop-i.i c.loop-i.bits c.loop-i-test.true c.loop-i.invariant.there (λ k. omega (arith, c.type_inv.bytes k)) c.loop-i.invariant.value c.loop-i.invariant.small in
    record { there = omega arith; value = r.0; small = r.1 }

pub returns-clause-spelled : goal.returns-clause-spelled
returns-clause-spelled c =
    let zero_is : c.loop-i.i ≡ 0 = omega arith in
    (spelled_all c.args.bytes.now c.loop-i.bits (λ k. omega (arith, c.type_inv.bytes k)) (c.loop-i.invariant.value ∙ ap (λ k. low_value (drop k c.args.bytes.now)) zero_is)).0

pub returns-clause-small : goal.returns-clause-small
returns-clause-small c =
    let zero_is : c.loop-i.i ≡ 0 = omega arith in
    (spelled_all c.args.bytes.now c.loop-i.bits (λ k. omega (arith, c.type_inv.bytes k)) (c.loop-i.invariant.value ∙ ap (λ k. low_value (drop k c.args.bytes.now)) zero_is)).1
