use Rattle.std.proofs.Common.{◌≡◌, ◌+◌, List, [], ◌∷◌, ◌++◌, length, length-append, refl, sym, ◌∙◌, ap, subst}
use Rattle.nif_graph.specs.declared.parts.BlockPart.{BlockPart}
use Rattle.nif_file.specs.Files.{head_of}
use Rattle.nif_file.specs.FileFails.{BlocksFail}
use Rattle.nif_file_reader.specs.Known.{HasBlocks}
use Rattle.nif_file_reader.proofs.Halting.{halts_memory}
use Rattle.nif_file_reader.proofs.Reading.{blocks_first, blocks_more, block_went, knows_still, next_halts}
use Rattle.nif_file_reader.proofs.blocks.read_blocks.Goals as goal

pub loop-block-init : goal.loop-block-init
loop-block-init g c = record {
  building = c.requires.building;
  counts = (refl, refl);
  long = ap length c.new-blocks.ensures;
  read = λ members k. subst (λ (parts : List BlockPart). HasBlocks g.S.Source.left g.S.Source.still g.S.Source.read_faults c.args.at.now.checked.now members 0 c.args.taker.now c.args.taker.now c.args.bounds.now.nodes c.args.bounds.now.nodes c.args.store.now c.args.store.now parts)
      (sym c.new-blocks.ensures) (blocks_first g.S.Source.left g.S.Source.still g.S.Source.read_faults c.args.at.now.checked.now members c.args.taker.now c.args.bounds.now.nodes c.args.store.now c.requires.ready c.requires.counted c.requires.apart);
}

pub read_block-requires-clause-knows : goal.read_block-requires-clause-knows
read_block-requires-clause-knows g c =
    let S = c.args.at.now.checked.now in
    let header = c.args.at.now.header.now in
    let lists = c.args.at.now.lists.now in
    let members = c.requires.knows.0 in
    let k = c.requires.knows.1 in
    let b = c.loop-block.invariant.read members k in
    let still = knows_still g.S.Source.left g.S.Source.still g.S.Source.read_faults S members c.loop-block.block c.args.bounds.now.nodes c.loop-block.bounds.nodes c.args.taker.now c.loop-block.taker c.args.store.now c.loop-block.store c.loop-block.blocks b header lists k in
    (members, still)

pub returns-in-Err-clause-err : goal.returns-in-Err-clause-err
returns-in-Err-clause-err g c = λ members k.
    let S = c.args.at.now.checked.now in
    let header = c.args.at.now.header.now in
    let lists = c.args.at.now.lists.now in
    let b = c.loop-block.invariant.read members k in
    let still = knows_still g.S.Source.left g.S.Source.still g.S.Source.read_faults S members c.loop-block.block c.args.bounds.now.nodes c.loop-block.bounds.nodes c.args.taker.now c.loop-block.taker c.args.store.now c.loop-block.store c.loop-block.blocks b header lists k in
    next_halts g.S.Source.left g.S.Source.still g.S.Source.read_faults S members c.loop-block.block c.args.bounds.now.nodes c.loop-block.bounds.nodes c.args.taker.now c.loop-block.taker c.args.store.now c.loop-block.store c.loop-block.blocks b
    header.bounds.blocks c.read_block.new.taker c.in-Err.fault c.loop-block-test.true (c.in-Err.ensures.err members still)

pub returns-in-Err-push-clause-err : goal.returns-in-Err-push-clause-err
returns-in-Err-push-clause-err g c = λ members k.
    let S = c.args.at.now.checked.now in
    let header = c.args.at.now.header.now in
    let lists = c.args.at.now.lists.now in
    let b = c.loop-block.invariant.read members k in
    let still = knows_still g.S.Source.left g.S.Source.still g.S.Source.read_faults S members c.loop-block.block c.args.bounds.now.nodes c.loop-block.bounds.nodes c.args.taker.now c.loop-block.taker c.args.store.now c.loop-block.store c.loop-block.blocks b header lists k in
    let n = c.in-Ok.ensures.ok members still in
    halts_memory g.S.Source.left g.S.Source.still g.S.Source.read_faults (λ total. BlocksFail S total (head_of S members) 0 header.bounds.blocks) c.args.bounds.now.nodes c.args.taker.now c.read_block.new.taker
    (block_went g.S.Source.left g.S.Source.still g.S.Source.read_faults S members c.loop-block.block c.args.bounds.now.nodes c.loop-block.bounds.nodes c.args.taker.now c.loop-block.taker c.args.store.now c.loop-block.store c.loop-block.blocks b c.read_block.new.bounds.nodes c.read_block.new.taker c.read_block.new.store c.in-Ok.part n)

pub loop-block-preserved : goal.loop-block-preserved
loop-block-preserved g c =
    let S = c.args.at.now.checked.now in
    let header = c.args.at.now.header.now in
    let lists = c.args.at.now.lists.now in
    let pushed : c.push.new.self ≡ c.loop-block.blocks ++ c.in-Ok.part ∷ [] = c.in-Ok-push.ensures.ok in
    record {
      building = c.read_block.ensures.building;
      counts = (c.read_block.ensures.blocks ∙ c.loop-block.invariant.counts.0, c.read_block.ensures.strings ∙ c.loop-block.invariant.counts.1);
      long = ap length pushed ∙ length-append c.loop-block.blocks (c.in-Ok.part ∷ []) ∙ ap (λ n. n + 1) c.loop-block.invariant.long;
      read = λ members k.
          let b = c.loop-block.invariant.read members k in
          let still = knows_still g.S.Source.left g.S.Source.still g.S.Source.read_faults S members c.loop-block.block c.args.bounds.now.nodes c.loop-block.bounds.nodes c.args.taker.now c.loop-block.taker c.args.store.now c.loop-block.store c.loop-block.blocks b header lists k in
          subst (λ (parts : List BlockPart). HasBlocks g.S.Source.left g.S.Source.still g.S.Source.read_faults S members (c.loop-block.block + 1) c.args.taker.now c.read_block.new.taker c.args.bounds.now.nodes c.read_block.new.bounds.nodes c.args.store.now c.read_block.new.store parts) (sym pushed)
          (blocks_more g.S.Source.left g.S.Source.still g.S.Source.read_faults S members c.loop-block.block c.args.bounds.now.nodes c.loop-block.bounds.nodes c.args.taker.now c.loop-block.taker c.args.store.now c.loop-block.store c.loop-block.blocks b
          c.read_block.new.bounds.nodes c.read_block.new.taker c.read_block.new.store c.in-Ok.part (c.in-Ok.ensures.ok members still));
    }
