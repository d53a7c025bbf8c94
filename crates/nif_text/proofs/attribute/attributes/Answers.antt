use Rattle.std.proofs.Common.{[], ◌∷◌, arith, length, ap, length-append}
use Rattle.nif_text.specs.Attributes.{Attribute}
use Rattle.nif_text.proofs.Runs.{many_more}
use Rattle.nif_text.proofs.attribute.attributes.Goals as goal

pub push-requires : goal.push-requires
push-requires c = omega (arith, c.loop-attrs.invariant.shorter)

pub loop-attrs-preserved : goal.loop-attrs-preserved
loop-attrs-preserved c =
    let read = rw c.in-Some.is at c.in_ok-pair.ensures.read in
    let shorter = rw c.in-Some.is at c.in_ok-pair.ensures.shorter in
    let more = c.in_ok-push.ensures.ok in
    record {
      run = rw more (many_more Attribute c.loop-attrs.attrs c.in-Some.pair c.args.text.now c.loop-attrs.text c.attribute.new.text c.loop-attrs.invariant.run read);
      shorter = omega (arith, shorter, ap length more, length-append c.loop-attrs.attrs (c.in-Some.pair ∷ []));
    }
