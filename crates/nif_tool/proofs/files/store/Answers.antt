use Rattle.std.proofs.Common.{Ok, Err, subst, sym, arith}
use Rattle.nif_file.specs.Files.{text_of}
use Rattle.nif_file.specs.GraphOf.{IsWhole}
use Rattle.nif_graph.specs.Written.{numbered}
use Rattle.nif_stream.specs.Putting.{HasTaken}
use Rattle.nif_tool.specs.Meaning.{files_of, WhereTold}
use Rattle.nif_tool.specs.Steps.{Stores}
use Rattle.nif_tool.specs.declared.report.Fault.TheVariants as fault
use Rattle.nif_tool.proofs.Copies.{stored_all, stored_part}
use Rattle.nif_tool.proofs.files.store.Goals as goal

pub encode_file-requires-clause-whole : goal.encode_file-requires-clause-whole
encode_file-requires-clause-whole g c = subst (λ s. IsWhole s c.args.graph.now) (sym c.schema.ensures.same) c.requires

pub returns-in-Ok-encode_file-clause-stores : goal.returns-in-Ok-encode_file-clause-stores
returns-in-Ok-encode_file-clause-stores g c =
    let desk = g.S.Shelf.desk in
    let written = numbered c.args.graph.now.places c.args.graph.now.graph in
    subst (λ s. WhereTold (files_of (desk c.args.shelf.now)) (files_of (desk c.encode_file.new.sink)) (λ d e. Stores {T = Unit {0}} c.args.name.now (text_of s written) d e (Ok tt))) c.schema.ensures.same
    (stored_all (desk c.args.shelf.now) (desk c.create_output.new.self) (desk c.encode_file.new.sink) c.args.name.now (text_of c.schema.result.now written)
    c.in-Ok.ensures.ok (g.met.S.Shelf.grew_desk _ _ _ c.in-Ok-encode_file.ensures.ok))

pub returns-in-Err-encode_file-clause-stores : goal.returns-in-Err-encode_file-clause-stores
unfolding HasTaken
returns-in-Err-encode_file-clause-stores g c =
    let desk = g.S.Shelf.desk in
    let written = numbered c.args.graph.now.places c.args.graph.now.graph in
    let part = c.in-Err-encode_file.ensures.err in
    subst (λ s. WhereTold (files_of (desk c.args.shelf.now)) (files_of (desk c.encode_file.new.sink)) (λ d e. Stores {T = Unit {0}} c.args.name.now (text_of s written) d e (Err fault.WriteFault))) c.schema.ensures.same
    (stored_part (desk c.args.shelf.now) (desk c.create_output.new.self) (desk c.encode_file.new.sink) c.args.name.now (text_of c.schema.result.now written) part.0
    c.in-Ok.ensures.ok (g.met.S.Shelf.grew_desk _ _ _ part.1))

pub returns-in-Err-encode_file-clause-causes : goal.returns-in-Err-encode_file-clause-causes
unfolding HasTaken
returns-in-Err-encode_file-clause-causes g c =
    let part = c.in-Err-encode_file.ensures.err in
    let cause = c.in-Err-encode_file.ensures.cause in
    let opened = c.in-Ok.ensures in
    let opens = g.met.S.Shelf.grew_opens _ _ _ part.1 in
    let reads = g.met.S.Shelf.grew_reads _ _ _ part.1 in
    record {
      opens_later = omega (arith, opened.cause.later, opens);
      reads_later = omega (arith, opened.reads, reads);
      writes_later = omega (arith, opened.writes, cause.later);
      opening = λ e. cc;
      reading = λ e. cc;
      writing = λ e. let r = cause.failed in omega (arith, opened.writes, r);
    }
