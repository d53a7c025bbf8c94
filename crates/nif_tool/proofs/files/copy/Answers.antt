use Rattle.nif_tool.specs.Words.{schema_name}
use Rattle.nif_tool.specs.Meaning.{files_of}
use Rattle.nif_tool.proofs.Copies.{copied, copy_failed, whole_read}
use Rattle.nif_tool.proofs.files.copy.Goals as goal

pub store-requires : goal.store-requires
store-requires g c =
    let accepted = c.in-Ok.ensures.accepts in
    whole_read c.in-Ok.accepted.schema c.args.file.now (files_of (g.S.Shelf.desk c.args.shelf.now)) c.in-Ok.accepted.graph accepted.loaded

pub returns-in-Ok-store-clause-copies : goal.returns-in-Ok-store-clause-copies
returns-in-Ok-store-clause-copies g c =
    let desk = g.S.Shelf.desk in
    let accepted = c.in-Ok.ensures.accepts in
    copied (schema_name c.args.schema) c.args.file.now c.args.to.now (files_of (desk c.args.shelf.now)) (files_of (desk c.accept.new.shelf)) (files_of (desk c.store.new.shelf))
    c.in-Ok.accepted accepted c.in-Ok-store.field-0 c.in-Ok.ensures.files c.in-Ok-store.ensures.stores

pub returns-in-Err-store-clause-copies : goal.returns-in-Err-store-clause-copies
returns-in-Err-store-clause-copies g c =
    let desk = g.S.Shelf.desk in
    copy_failed (schema_name c.args.schema) c.args.file.now c.args.to.now (files_of (desk c.args.shelf.now)) (files_of (desk c.accept.new.shelf)) (files_of (desk c.store.new.shelf))
    c.in-Ok.accepted c.in-Ok.ensures.accepts c.in-Err-store.fault c.in-Ok.ensures.files c.in-Err-store.ensures.stores
