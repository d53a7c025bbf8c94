use Rattle.std.proofs.Common.{sym, subst}
use Rattle.nif_schema.specs.Schema.{Schema}
use Rattle.nif_layout.specs.Fails.{Fails, Lifted}
use Rattle.nif_decode.specs.Decodes.{context_for, Decoded, Refused}
use Rattle.nif_file.specs.declared.faults.FileFault.{FileFault}
use Rattle.nif_file.specs.Stops.{of_value}
use Rattle.nif_file.specs.Head.{file_context}
use Rattle.nif_base.specs.Limits.{most_depth}
use Rattle.nif_file.specs.Files.{footer_kind, head_of}
use Rattle.nif_file_reader.specs.Halting.{Halts}
use Rattle.nif_file_reader.proofs.ValueLaws.{footer_here, footer_read, footer_refused}
use Rattle.nif_file_reader.proofs.files.read_footer.Goals as goal

pub returns-in-Ok-clause-ok : goal.returns-in-Ok-clause-ok
returns-in-Ok-clause-ok g c = λ members k.
    let S = c.args.at.now.checked.now in
    let header = c.args.at.now.header.now in
    let kind = c.footer.result in
    let d = subst (λ (s : Schema). Decoded g.S.Source.left g.S.Source.still g.S.Source.read_faults s (context_for s header.context kind c.args.bounds.now) kind c.args.taker.now c.decode_value.new.taker c.args.bounds.now.nodes c.decode_value.new.bounds.nodes c.args.store.now c.decode_value.new.store c.in-Ok.tree) c.schema.ensures.same c.in-Ok.ensures.answers in
    footer_read g.S.Source.left g.S.Source.still g.S.Source.read_faults S members (context_for S header.context kind c.args.bounds.now) kind c.args.taker.now c.decode_value.new.taker c.args.bounds.now.nodes c.args.store.now c.decode_value.new.store
    (footer_here S members header c.args.at.now.lists.now c.args.store.now.trees k kind c.args.bounds.now c.footer.ensures.value c.requires.bounds.0 c.requires.bounds.1) c.footer.ensures.value c.decode_value.new.bounds.nodes c.in-Ok.tree d

pub returns-in-Err-clause-err : goal.returns-in-Err-clause-err
returns-in-Err-clause-err g c = λ members k.
    let S = c.args.at.now.checked.now in
    let header = c.args.at.now.header.now in
    let kind = c.footer.result in
    let d = subst (λ (s : Schema). Refused g.S.Source.left g.S.Source.still g.S.Source.read_faults s (context_for s header.context kind c.args.bounds.now) kind c.args.taker.now c.decode_value.new.taker c.args.bounds.now.nodes c.args.store.now c.decode_value.new.store c.in-Err.fault) c.schema.ensures.same c.in-Err.ensures.answers in
    subst (λ (f : FileFault). Halts g.S.Source.left g.S.Source.still g.S.Source.read_faults (λ total. Lifted (of_value total) (Fails S (file_context S (head_of S members)) most_depth (footer_kind S (head_of S members)))) c.args.bounds.now.nodes c.args.taker.now c.decode_value.new.taker f) (sym c.of_value.ensures)
    (footer_refused g.S.Source.left g.S.Source.still g.S.Source.read_faults S members (context_for S header.context kind c.args.bounds.now) kind c.args.taker.now c.decode_value.new.taker c.args.bounds.now.nodes c.args.store.now c.decode_value.new.store
    (footer_here S members header c.args.at.now.lists.now c.args.store.now.trees k kind c.args.bounds.now c.footer.ensures.value c.requires.bounds.0 c.requires.bounds.1) c.footer.ensures.value c.in-Err.fault d)
