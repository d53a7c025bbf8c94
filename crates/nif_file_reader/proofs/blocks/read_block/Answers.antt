use Rattle.std.proofs.Common.{◌≡◌, ◌+◌, ◌-◌, ℕ, None, refl, sym, ◌∙◌, subst, arith}
use Rattle.nif_stream.specs.Taking.{Takes, place_of}
use Rattle.nif_file.specs.Files.{has_zero_word, head_of, zero_where}
use Rattle.nif_file.specs.FileFails.{ZeroFailsBy}
use Rattle.nif_file_reader.specs.Halting.{Halts}
use Rattle.nif_file_reader.proofs.ValueLaws.{order_here, version_here}
use Rattle.nif_file_reader.proofs.Reading.{has_block, size_halts, type_halts, value_halts, zero_halts}
use Rattle.nif_file_reader.proofs.blocks.read_block.Goals as goal

pub returns-in-Err-clause-err : goal.returns-in-Err-clause-err
returns-in-Err-clause-err g c = λ members k.
    type_halts g.S.Source.left g.S.Source.still g.S.Source.read_faults c.args.at.now.checked.now members c.args.block c.args.bounds.now.nodes c.args.taker.now c.read_type.new.taker c.in-Err.fault (c.in-Err.ensures.err members c.args.bounds.now.nodes c.requires.counted k)

pub returns-in-Err-read_zero_word-clause-err : goal.returns-in-Err-read_zero_word-clause-err
returns-in-Err-read_zero_word-clause-err g c = λ members k.
    let S = c.args.at.now.checked.now in
    let header = c.args.at.now.header.now in
    let lists = c.args.at.now.lists.now in
    let h = c.in-Err-read_zero_word.ensures.err S members c.args.bounds.now.nodes (order_here S members header lists c.args.store.now.trees k) in
    zero_halts g.S.Source.left g.S.Source.still g.S.Source.read_faults S members c.args.block c.in-Ok.kind c.args.bounds.now.nodes c.args.taker.now c.read_type.new.taker (c.in-Ok.ensures.ok members k) c.requires.counted c.read_zero_word.new.taker c.in-Err-read_zero_word.fault
    (subst (λ (v : ℕ). Halts g.S.Source.left g.S.Source.still g.S.Source.read_faults (λ total. ZeroFailsBy (has_zero_word v) total (head_of S members) c.args.block) c.args.bounds.now.nodes c.read_type.new.taker c.read_zero_word.new.taker c.in-Err-read_zero_word.fault)
    (sym (version_here S members header lists c.args.store.now.trees k)) h)

pub returns-in-Err-read_value-clause-err : goal.returns-in-Err-read_value-clause-err
returns-in-Err-read_value-clause-err g c = λ members k.
    let S = c.args.at.now.checked.now in
    let header = c.args.at.now.header.now in
    let lists = c.args.at.now.lists.now in
    let z = subst (λ (v : ℕ). Takes g.S.Source.left g.S.Source.still g.S.Source.read_faults c.read_type.new.taker (zero_where (has_zero_word v)) c.read_zero_word.new.taker) (sym (version_here S members header lists c.args.store.now.trees k)) c.in-Ok-read_zero_word.ensures.ok in
    value_halts g.S.Source.left g.S.Source.still g.S.Source.read_faults S members c.args.block c.in-Ok.kind c.args.bounds.now.nodes c.args.taker.now c.read_type.new.taker (c.in-Ok.ensures.ok members k) c.requires.counted c.read_zero_word.new.taker z
    c.read_value.new.taker c.in-Err-read_value.fault (c.in-Err-read_value.ensures.err members k)

pub returns-in-Some-clause-err : goal.returns-in-Some-clause-err
returns-in-Some-clause-err g c = λ members k.
    let S = c.args.at.now.checked.now in
    let header = c.args.at.now.header.now in
    let lists = c.args.at.now.lists.now in
    let z = subst (λ (v : ℕ). Takes g.S.Source.left g.S.Source.still g.S.Source.read_faults c.read_type.new.taker (zero_where (has_zero_word v)) c.read_zero_word.new.taker) (sym (version_here S members header lists c.args.store.now.trees k)) c.in-Ok-read_zero_word.ensures.ok in
    let v = c.in-Ok-read_value.ensures.ok members k in
    let used = c.place.result - c.place-start.result in
    let is : place_of c.read_value.new.taker ≡ place_of c.read_zero_word.new.taker + used = omega (arith, v.takes.place, c.place.ensures.place, c.place-start.ensures.place) in
    size_halts g.S.Source.left g.S.Source.still g.S.Source.read_faults S members c.args.block c.in-Ok.kind c.args.bounds.now.nodes c.args.taker.now c.read_type.new.taker (c.in-Ok.ensures.ok members k) c.requires.counted c.read_zero_word.new.taker z
    c.read_value.new.bounds.nodes c.read_value.new.taker c.args.store.now c.read_value.new.store (record { kind = c.in-Ok.kind; index_word = None; tree = c.in-Ok-read_value.tree }) v used is lists (k.said_lists.sizes c.args.block)
    c.in-Some.fault (sym c.in-Some.is ∙ c.size_refusal.ensures)

pub returns-in-None-clause-ok : goal.returns-in-None-clause-ok
returns-in-None-clause-ok g c = λ members k.
    let S = c.args.at.now.checked.now in
    let header = c.args.at.now.header.now in
    let lists = c.args.at.now.lists.now in
    let z = subst (λ (v : ℕ). Takes g.S.Source.left g.S.Source.still g.S.Source.read_faults c.read_type.new.taker (zero_where (has_zero_word v)) c.read_zero_word.new.taker) (sym (version_here S members header lists c.args.store.now.trees k)) c.in-Ok-read_zero_word.ensures.ok in
    let v = c.in-Ok-read_value.ensures.ok members k in
    let used = c.place.result - c.place-start.result in
    let is : place_of c.read_value.new.taker ≡ place_of c.read_zero_word.new.taker + used = omega (arith, v.takes.place, c.place.ensures.place, c.place-start.ensures.place) in
    has_block g.S.Source.left g.S.Source.still g.S.Source.read_faults S members c.args.block c.in-Ok.kind c.args.bounds.now.nodes c.args.taker.now c.read_type.new.taker (c.in-Ok.ensures.ok members k) c.requires.counted c.read_zero_word.new.taker z
    c.read_value.new.bounds.nodes c.read_value.new.taker c.args.store.now c.read_value.new.store (record { kind = c.in-Ok.kind; index_word = c.index_word.result; tree = c.in-Ok-read_value.tree }) v used is lists (k.said_lists.sizes c.args.block)
    (sym c.in-None.is ∙ c.size_refusal.ensures) refl (c.index_word.ensures ∙ sym (k.said_lists.index c.args.block))
