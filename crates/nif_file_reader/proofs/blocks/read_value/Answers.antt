use Rattle.std.proofs.Common.{sym, subst}
use Rattle.nif_schema.specs.Schema.{Schema}
use Rattle.nif_layout.specs.Fails.{Fails, Lifted}
use Rattle.nif_decode.specs.Decodes.{context_for, Decoded, Refused}
use Rattle.nif_file.specs.declared.faults.FileFault.{FileFault}
use Rattle.nif_file.specs.Stops.{of_value}
use Rattle.nif_file.specs.Head.{block_context}
use Rattle.nif_base.specs.Limits.{most_depth}
use Rattle.nif_file.specs.Files.{block_kind, head_of}
use Rattle.nif_file_reader.specs.Halting.{Halts}
use Rattle.nif_file_reader.proofs.ValueLaws.{block_here, value_read, value_refused}
use Rattle.nif_file_reader.proofs.blocks.read_value.Goals as goal

pub returns-in-Ok-clause-ok : goal.returns-in-Ok-clause-ok
returns-in-Ok-clause-ok g c = λ members k.
    let S = c.args.at.now.checked.now in
    let header = c.args.at.now.header.now in
    let same = c.schema-schema.ensures.same in
    let d = subst (λ (s : Schema). Decoded g.S.Source.left g.S.Source.still g.S.Source.read_faults s (context_for s header.context c.args.kind c.args.bounds.now) c.args.kind c.args.taker.now c.decode_value.new.taker c.args.bounds.now.nodes c.decode_value.new.bounds.nodes c.args.store.now c.decode_value.new.store c.in-Ok.tree) same c.in-Ok.ensures.answers in
    value_read g.S.Source.left g.S.Source.still g.S.Source.read_faults S members (context_for S header.context c.args.kind c.args.bounds.now) c.args.kind c.args.taker.now c.decode_value.new.taker c.args.bounds.now.nodes c.args.store.now c.decode_value.new.store
    (block_here S members header c.args.at.now.lists.now c.args.store.now.trees k c.args.kind c.args.bounds.now c.requires.kind c.requires.bounds.0 c.requires.bounds.1) c.decode_value.new.bounds.nodes c.in-Ok.tree d

pub returns-in-Err-clause-err : goal.returns-in-Err-clause-err
returns-in-Err-clause-err g c = λ members k.
    let S = c.args.at.now.checked.now in
    let header = c.args.at.now.header.now in
    let same = c.schema-schema.ensures.same in
    let d = subst (λ (s : Schema). Refused g.S.Source.left g.S.Source.still g.S.Source.read_faults s (context_for s header.context c.args.kind c.args.bounds.now) c.args.kind c.args.taker.now c.decode_value.new.taker c.args.bounds.now.nodes c.args.store.now c.decode_value.new.store c.in-Err.fault) same c.in-Err.ensures.answers in
    subst (λ (f : FileFault). Halts g.S.Source.left g.S.Source.still g.S.Source.read_faults (λ total. Lifted (of_value total) (Fails S (block_context S (head_of S members) c.args.kind) most_depth (block_kind S (head_of S members) c.args.kind))) c.args.bounds.now.nodes c.args.taker.now c.decode_value.new.taker f) (sym c.of_value.ensures)
    (value_refused g.S.Source.left g.S.Source.still g.S.Source.read_faults S members (context_for S header.context c.args.kind c.args.bounds.now) c.args.kind c.args.taker.now c.decode_value.new.taker c.args.bounds.now.nodes c.args.store.now c.decode_value.new.store
    (block_here S members header c.args.at.now.lists.now c.args.store.now.trees k c.args.kind c.args.bounds.now c.requires.kind c.requires.bounds.0 c.requires.bounds.1) c.in-Err.fault d)
