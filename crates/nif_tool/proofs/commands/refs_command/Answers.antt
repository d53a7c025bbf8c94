use Rattle.std.proofs.Common.{subst, sym}
use Rattle.nif_graph.specs.Reach.{DeclaresTypes}
use Rattle.nif_file.specs.Files.{head_in, text_of}
use Rattle.nif_file.specs.GraphOf.{origin_in, types_in}
use Rattle.nif_tool.specs.Meaning.{files_of}
use Rattle.nif_tool.specs.Words.{schema_name}
use Rattle.nif_tool.proofs.Printing.{prints_weaker, refs_done, refs_refused}
use Rattle.nif_tool.proofs.commands.refs_command.Goals as goal

pub print_refs-requires : goal.print_refs-requires
print_refs-requires g c =
    let is = c.in-Ok.ensures.accepts.loaded in
    subst (DeclaresTypes c.in-Ok.accepted.schema) (sym is.graph.graph)
    (c.graph_of_file.ensures.declared c.in-Ok.accepted.schema is.whole (text_of c.in-Ok.accepted.schema is.whole) is.is c.in-Ok.accepted.graph.places
    (origin_in c.in-Ok.accepted.schema (head_in c.in-Ok.accepted.schema is.whole)) (types_in (head_in c.in-Ok.accepted.schema is.whole)))

pub returns-in-Ok-clause-answer : goal.returns-in-Ok-clause-answer
returns-in-Ok-clause-answer g c =
    let desk = g.S.Shelf.desk in
    let printed = c.print_refs.ensures.printed in (
      printed.0,
      printed.1,
      prints_weaker c.print_refs.result printed.0 (λ answer text is.
          refs_done (schema_name c.args.schema) c.args.file.now (files_of (desk c.args.shelf.now)) (files_of (desk c.accept.new.shelf)) c.in-Ok.accepted _ _ answer text
          c.in-Ok.ensures.accepts c.in-Ok.ensures.files c.in-Ok.ensures.causes is) printed.2,
    )

pub returns-in-Err-clause-answer : goal.returns-in-Err-clause-answer
returns-in-Err-clause-answer g c =
    let desk = g.S.Shelf.desk in
    let refused = c.refuse.ensures.printed in
    let told = c.in-Err.ensures in (
      refused.0,
      refused.1,
      prints_weaker c.refuse.result refused.0 (λ answer text is.
          refs_refused (schema_name c.args.schema) c.args.file.now (files_of (desk c.args.shelf.now)) (files_of (desk c.accept.new.shelf)) c.in-Err.fault _ _ answer text
          told.answers told.accepts told.files told.causes is) refused.2,
    )
