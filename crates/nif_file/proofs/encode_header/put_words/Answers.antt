use Rattle.std.proofs.Common.{◌∙◌, ap, subst, arith}
use Rattle.std.specs.Prelude.{unwrap_or}
use Rattle.nif_base.specs.Graph.{Named}
use Rattle.nif_base.specs.Node.{number, is_little}
use Rattle.nif_stream.specs.Putting.{Puts, Fails}
use Rattle.nif_file.proofs.HeaderPuts.{there_is, entry_text, word_is}
use Rattle.nif_file.proofs.PartsPuts.{first_none, first_next, first_failed, first_all}
use Rattle.nif_file.proofs.encode_header.put_words.Goals as goal

pub loop-place-init : goal.loop-place-init
loop-place-init g c =
    first_none g.K.Sink.grew g.K.Sink.write_faults c.args.out.now (λ (b : Named). number (is_little c.args.order) 2 (unwrap_or b.block.index 0)) c.args.graph.now.graph.blocks c.requires

pub returns-in-Err-clause-err : goal.returns-in-Err-clause-err
returns-in-Err-clause-err g c =
    let blocks = c.args.graph.now.graph.blocks in
    let b = there_is blocks c.loop-place.place (omega (arith, c.loop-place-test.true, c.count-place-end.ensures)) in
    first_failed g.K.Sink.grew g.K.Sink.write_faults c.args.out.now c.loop-place.out c.put_number.new.out (λ (b : Named). number (is_little c.args.order) 2 (unwrap_or b.block.index 0)) blocks c.loop-place.place b.0 c.loop-place.invariant b.1
    (subst (λ l. Fails g.K.Sink.grew g.K.Sink.write_faults c.loop-place.out l c.put_number.new.out)
    (entry_text c.is_little-little.result c.args.order 2 c.unwrap_or-word.result _ c.is_little-little.ensures
    (c.unwrap_or-word.ensures ∙ ap (λ o. unwrap_or o 0) (word_is blocks c.loop-place.place c.name_at.result b.0 c.index_word.result b.1
    c.name_at.ensures.block c.index_word.ensures))) c.in-Err.ensures.err)

pub loop-place-preserved : goal.loop-place-preserved
loop-place-preserved g c =
    let blocks = c.args.graph.now.graph.blocks in
    let b = there_is blocks c.loop-place.place (omega (arith, c.loop-place-test.true, c.count-place-end.ensures)) in
    first_next g.K.Sink.grew g.K.Sink.write_faults c.args.out.now c.loop-place.out c.put_number.new.out (λ (b : Named). number (is_little c.args.order) 2 (unwrap_or b.block.index 0)) blocks c.loop-place.place b.0 c.loop-place.invariant b.1
    (subst (λ l. Puts g.K.Sink.grew g.K.Sink.write_faults c.loop-place.out l c.put_number.new.out)
    (entry_text c.is_little-little.result c.args.order 2 c.unwrap_or-word.result _ c.is_little-little.ensures
    (c.unwrap_or-word.ensures ∙ ap (λ o. unwrap_or o 0) (word_is blocks c.loop-place.place c.name_at.result b.0 c.index_word.result b.1
    c.name_at.ensures.block c.index_word.ensures))) c.in-Ok.ensures.ok)

pub returns-clause-ok : goal.returns-clause-ok
returns-clause-ok g c =
    first_all g.K.Sink.grew g.K.Sink.write_faults c.args.out.now c.loop-place.out (λ (b : Named). number (is_little c.args.order) 2 (unwrap_or b.block.index 0)) c.args.graph.now.graph.blocks c.loop-place.place c.loop-place.invariant
    (omega (arith, c.loop-place-test.false, c.count-place-end.ensures))
