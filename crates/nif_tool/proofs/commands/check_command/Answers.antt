use Rattle.nif_tool.specs.Meaning.{files_of}
use Rattle.nif_tool.specs.Words.{schema_name}
use Rattle.nif_tool.proofs.Printing.{prints_weaker, check_done, check_refused}
use Rattle.nif_tool.proofs.commands.check_command.Goals as goal

pub returns-in-Ok-clause-answer : goal.returns-in-Ok-clause-answer
returns-in-Ok-clause-answer g c =
    let desk = g.S.Shelf.desk in
    let printed = c.print_summary.ensures.printed in (
      printed.0,
      printed.1,
      prints_weaker c.print_summary.result printed.0 (λ answer text is.
          check_done (schema_name c.args.schema) c.args.file.now (files_of (desk c.args.shelf.now)) (files_of (desk c.accept.new.shelf)) c.in-Ok.accepted _ _ answer text
          c.in-Ok.ensures.accepts c.in-Ok.ensures.files c.in-Ok.ensures.causes is) printed.2,
    )

pub returns-in-Err-clause-answer : goal.returns-in-Err-clause-answer
returns-in-Err-clause-answer g c =
    let desk = g.S.Shelf.desk in
    let refused = c.refuse.ensures.printed in
    let told = c.in-Err.ensures in (
      refused.0,
      refused.1,
      prints_weaker c.refuse.result refused.0 (λ answer text is.
          check_refused (schema_name c.args.schema) c.args.file.now (files_of (desk c.args.shelf.now)) (files_of (desk c.accept.new.shelf)) c.in-Err.fault _ _ answer text
          told.answers told.accepts told.files told.causes is) refused.2,
    )
