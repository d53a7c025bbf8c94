use Rattle.std.proofs.Common.{◌≡◌, ◌+◌, ◌-◌, ◌^◌, ◌≤◌, length, length-take, length-drop, length-append, drop, sym, ◌∙◌, ap, subst, arith, refl}
use Rattle.nif_stream.specs.Taking.{place_of}
use Rattle.nif_layout.specs.LeafFault.{shortage}
use Rattle.nif_decode.specs.Faults.{take_cause}
use Rattle.nif_decode.specs.Answers.{Ends, stand}
use Rattle.nif_decode.specs.Runs.{RunSoFar}
use Rattle.nif_decode.specs.PieceLaws.{piece_ends}
use Rattle.nif_decode.proofs.Pieces.{run_first, run_more, run_takes, run_went, run_building}
use Rattle.nif_decode.proofs.runs.take_through.Goals as goal

pub loop-left-init : goal.loop-left-init
loop-left-init g c = record {
  long = refl;
  within = omega arith;
  trees = refl;
  so_far = λ nodes.
      let at = stand c.args.taker.now nodes c.args.store.now c.args.told.now.items in
      let none : c.args.count - c.args.count ≡ 0 = omega arith in
      subst (λ n. RunSoFar g.S.Source.left g.S.Source.still g.S.Source.read_faults c.args.asked n at at) (sym none)
      (run_first g.S.Source.left g.S.Source.still g.S.Source.read_faults c.args.asked at (c.requires.run nodes));
}

pub returns-in-Err-clause-answers : goal.returns-in-Err-clause-answers
returns-in-Err-clause-answers g c nodes =
    let old = stand c.args.taker.now nodes c.args.store.now c.args.told.now.items in
    let mid = stand c.loop-left.taker nodes c.loop-left.store c.loop-left.told.items in
    let s = c.loop-left.invariant.so_far nodes in
    let fits : length s.bytes + length c.take.new.buf ≤ c.args.count = omega (arith, s.long, c.take.auto.buf, length-take c.min-length.result c.loop-left.buffer, c.min-length.ensures, c.loop-left.invariant.within) in (
      run_building g.S.Source.left g.S.Source.still g.S.Source.read_faults c.args.asked (c.args.count - c.loop-left.left) old mid (c.requires.run nodes) s,
      subst (λ w. Ends g.S.Source.left g.S.Source.still g.S.Source.read_faults (shortage c.args.count) c.args.taker.now c.take.new.self w)
          (ap (λ p. take_cause p c.in-Err.fault) (sym c.place-at.ensures.place) ∙ sym c.fault_at.ensures)
          (piece_ends g.S.Source.left g.S.Source.still g.S.Source.read_faults c.args.taker.now c.loop-left.taker c.take.new.self s.bytes (length c.take.new.buf) c.args.count c.in-Err.fault s.takes fits c.in-Err.ensures.err),
    )

pub add_piece-requires : goal.add_piece-requires
add_piece-requires g c =
    let old = stand c.args.taker.now 0 c.args.store.now c.args.told.now.items in
    let mid = stand c.loop-left.taker 0 c.loop-left.store c.loop-left.told.items in
    let t = c.in-Ok.ensures.ok in
    let within : place_of c.loop-left.taker + length c.take.new.buf ≤ 2 ^ 26 = omega (arith, t.place, t.within) in
    run_takes g.S.Source.left g.S.Source.still g.S.Source.read_faults c.args.asked (c.args.count - c.loop-left.left) old mid c.take.new.buf (c.requires.run 0) (c.loop-left.invariant.so_far 0) within

pub returns-in-Err-add_piece-clause-answers : goal.returns-in-Err-add_piece-clause-answers
returns-in-Err-add_piece-clause-answers g c nodes =
    let old = stand c.args.taker.now nodes c.args.store.now c.args.told.now.items in
    let mid = stand c.loop-left.taker nodes c.loop-left.store c.loop-left.told.items in (
      c.add_piece.ensures.building,
      record {
        went = run_went g.S.Source.left g.S.Source.still g.S.Source.read_faults c.args.asked (c.args.count - c.loop-left.left) old mid c.take.new.self c.take.new.buf (c.loop-left.invariant.so_far nodes) c.in-Ok.ensures.ok;
        stops = λ n b t. tt;
      },
    )

pub loop-left-preserved : goal.loop-left-preserved
loop-left-preserved g c = record {
  long = length-append c.take.new.buf (drop c.min-length.result c.loop-left.buffer) ∙ (grind (arith, c.take.auto.buf, length-take, length-drop, c.min-length.ensures, c.loop-left.invariant.long, c.ranges.count));
  within = omega (arith, c.loop-left.invariant.within);
  trees = c.add_piece.ensures.trees ∙ c.loop-left.invariant.trees;
  so_far = λ nodes.
      let old = stand c.args.taker.now nodes c.args.store.now c.args.told.now.items in
      let mid = stand c.loop-left.taker nodes c.loop-left.store c.loop-left.told.items in
      let new = stand c.take.new.self nodes c.add_piece.new.store c.add_piece.new.told.items in
      let next : c.args.count - (c.loop-left.left - c.min-length.result) ≡ c.args.count - c.loop-left.left + length c.take.new.buf = (let len : length c.take.new.buf ≡ c.min-length.result = grind (arith, c.take.auto.buf, length-take, c.min-length.ensures) in omega (arith, len, c.min-length.ensures, c.loop-left.invariant.within)) in
      run_more g.S.Source.left g.S.Source.still g.S.Source.read_faults c.args.asked (c.args.count - c.loop-left.left) (c.args.count - (c.loop-left.left - c.min-length.result)) old mid new c.take.new.buf (c.requires.run nodes)
      (c.loop-left.invariant.so_far nodes) c.in-Ok.ensures.ok c.add_piece.ensures.bytes c.in-Ok-add_piece.ensures.ok c.in-Ok-add_piece.ensures.told next;
}

pub returns-clause-answers : goal.returns-clause-answers
returns-clause-answers g c nodes =
    let old = stand c.args.taker.now nodes c.args.store.now c.args.told.now.items in
    let now = stand c.loop-left.taker nodes c.loop-left.store c.loop-left.told.items in
    let all : c.args.count - c.loop-left.left ≡ c.args.count = omega arith in
    subst (λ n. RunSoFar g.S.Source.left g.S.Source.still g.S.Source.read_faults c.args.asked n old now) all (c.loop-left.invariant.so_far nodes)
