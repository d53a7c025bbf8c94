use Rattle.std.proofs.Common.{◌≡◌, length, length-append, append_assoc, ◌∙◌, ap, arith, refl, [], ◌∷◌, ◌++◌, Some}
use Rattle.nif_layout.specs.LeafFault.{shortage}
use Rattle.nif_scope.specs.declared.entries.Entry.TheVariants as entry
use Rattle.nif_decode.specs.Faults.{cause}
use Rattle.nif_decode.specs.Answers.{stand}
use Rattle.nif_decode.specs.Runs.{bytes_kept}
use Rattle.nif_decode.proofs.Leaving.{ends_ceases}
use Rattle.nif_decode.proofs.Rows.{begin_ceases}
use Rattle.nif_decode.proofs.RunLaws.{run_open, run_closes, run_done}
use Rattle.nif_decode.proofs.runs.read_run.Goals as goal

pub returns-in-Err-clause-answers : goal.returns-in-Err-clause-answers
returns-in-Err-clause-answers g c =
    begin_ceases g.S.Source.left g.S.Source.still g.S.Source.read_faults (λ next f. shortage c.args.count next ≡ Some f) 1
    (stand c.args.taker.now c.args.nodes.now c.args.store.now c.args.told.now.items) (stand c.args.taker.now c.begin_run.new.nodes c.begin_run.new.store c.begin_run.new.told.items) (cause c.in-Err.fault)
    c.requires refl c.in-Err.ensures.begins.0 c.in-Err.ensures.begins.1

pub returns-in-Err-take_run-clause-answers : goal.returns-in-Err-take_run-clause-answers
returns-in-Err-take_run-clause-answers g c =
    let a = c.in-Err-take_run.ensures.answers c.begin_run.new.nodes in
    ends_ceases g.S.Source.left g.S.Source.still g.S.Source.read_faults (shortage c.args.count) (λ next f. shortage c.args.count next ≡ Some f)
    (stand c.args.taker.now c.args.nodes.now c.args.store.now c.args.told.now.items) (stand c.take_run.new.taker c.begin_run.new.nodes c.take_run.new.store c.take_run.new.told.items) (cause c.in-Err-take_run.fault)
    c.in-Ok.ensures.begins.room a.0 (λ p f h. h) a.1

pub take_run-requires : goal.take_run-requires
take_run-requires g c nodes =
    let o = c.in-Ok.ensures.begins in
    let h = run_open (stand c.args.taker.now c.args.nodes.now c.args.store.now c.args.told.now.items) (stand c.args.taker.now c.begin_run.new.nodes c.begin_run.new.store c.begin_run.new.told.items) c.requires refl o in
    record { taker = h.taker; outer = h.outer; is = h.is; nodes = h.nodes; bytes = h.bytes; levels = h.levels }

pub close-requires : goal.close-requires
close-requires g c =
    run_closes g.S.Source.left g.S.Source.still g.S.Source.read_faults c.args.asked c.args.count
    (stand c.args.taker.now c.args.nodes.now c.args.store.now c.args.told.now.items) (stand c.args.taker.now c.begin_run.new.nodes c.begin_run.new.store c.begin_run.new.told.items)
    (stand c.take_run.new.taker c.begin_run.new.nodes c.take_run.new.store c.take_run.new.told.items) c.requires c.in-Ok.ensures.begins (c.in-Ok-take_run.ensures.answers c.begin_run.new.nodes)

pub end_items-requires : goal.end_items-requires
end_items-requires g c =
    let s = c.in-Ok-take_run.ensures.answers 0 in
    let told = s.told ∙ ap (λ x. x ++ bytes_kept c.args.asked s.bytes) c.in-Ok.ensures.begins.told ∙ append_assoc c.args.told.now.items (entry.Nothing ∷ []) (bytes_kept c.args.asked s.bytes) in
    let long : c.len-start.result ≡ length c.args.told.now.items = omega (arith, c.len-start.ensures, c.args.told.now.ok.0) in
    omega (arith, long, ap length told, length-append c.args.told.now.items (entry.Nothing ∷ bytes_kept c.args.asked s.bytes))

pub returns-clause-answers : goal.returns-clause-answers
returns-clause-answers g c =
    let s = c.in-Ok-take_run.ensures.answers c.begin_run.new.nodes in
    let told = s.told ∙ ap (λ x. x ++ bytes_kept c.args.asked s.bytes) c.in-Ok.ensures.begins.told ∙ append_assoc c.args.told.now.items (entry.Nothing ∷ []) (bytes_kept c.args.asked s.bytes) in
    let long : length c.args.told.now.items ≡ c.len-start.result = omega (arith, c.len-start.ensures, c.args.told.now.ok.0) in
    run_done g.S.Source.left g.S.Source.still g.S.Source.read_faults c.args.order c.args.asked c.args.count
    (stand c.args.taker.now c.args.nodes.now c.args.store.now c.args.told.now.items) (stand c.args.taker.now c.begin_run.new.nodes c.begin_run.new.store c.begin_run.new.told.items)
    (stand c.take_run.new.taker c.begin_run.new.nodes c.take_run.new.store c.take_run.new.told.items)
    (stand c.take_run.new.taker c.begin_run.new.nodes c.close.new.self c.end_items.new.told.items)
    c.requires refl c.in-Ok.ensures.begins s refl refl c.close.ensures.building
    (c.end_items.ensures c.args.told.now.items (bytes_kept c.args.asked s.bytes) told long)
