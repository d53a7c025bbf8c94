use Rattle.std.proofs.Common.{take, sym, subst}
use Rattle.nif_paths.specs.Shaped.{HasBits}
use Rattle.nif_paths.proofs.Lists.{take-next}
use Rattle.nif_paths.proofs.tables.bit_names.Goals as goal

pub loop-place-preserved : goal.loop-place-preserved
loop-place-preserved c =
    let members = c.args.members.now in
    subst (λ l. HasBits l c.push_bit.new.names) (sym (take-next members c.loop-place.place c.get.result.now c.get.ensures))
    (c.in-Ok.ensures (take c.loop-place.place members) c.get.result.now (sym c.bytes.ensures) c.loop-place.invariant)
