use Rattle.std.proofs.Common.{◌∙◌, ◌++◌, ◌∷◌, [], ap, arith}
use Rattle.nif_graph.proofs.Keeping.{slots_more}
use Rattle.nif_graph.proofs.graphs.named.Goals as goal

pub loop-place-preserved : goal.loop-place-preserved
loop-place-preserved c =
    let part = c.get-part.result.now in
    record {
      slots = c.push.ensures.slots
          ∙ ap (λ s. s ++ record { name = c.loop-place.slots.next; kind = part.kind; index_word = part.index_word; tree = part.tree } ∷ [])
          c.loop-place.invariant.slots
          ∙ slots_more 0 c.loop-place.place c.args.blocks.now part c.loop-place.slots.next
          (omega (arith, c.loop-place.invariant.next)) c.get-part.ensures;
      next = omega (arith, c.push.ensures.next, c.loop-place.invariant.next);
      room = omega (arith, c.push.ensures.room, c.loop-place.invariant.room);
    }
