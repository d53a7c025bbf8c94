use Rattle.std.proofs.Common.{◌≡◌, ℕ, List, Option, Some, subst, sym}
use Rattle.std.specs.Option.{IsSomeAnd}
use Rattle.nif_tool.specs.Command.{command_of, Command, Check, Refs, Copy}
use Rattle.nif_tool.specs.Command as spec_command
use Rattle.nif_tool.specs.Counts.{Counts, counts}
use Rattle.nif_tool.specs.Words.{schema_name}
use Rattle.nif_tool.specs.Meaning.{files_of, Answers, CanBeDone, HasCauses, IsDone, Prints}
use Rattle.nif_tool.specs.declared.report.Fault.{Fault}
use Rattle.nif_tool.proofs.Done.{completes}
use Rattle.nif_tool.proofs.Printing.{prints_weaker, no_command}
use Rattle.nif_tool.proofs.commands.run.Goals as goal

pub returns-in-None-clause-answer : goal.returns-in-None-clause-answer
returns-in-None-clause-answer g c =
    let files = files_of (g.S.Shelf.desk c.args.shelf.now) in
    let before : Counts = counts g.S.Shelf.open_faults g.S.Source.read_faults g.S.Sink.write_faults c.args.shelf.now in
    let refused = c.refuse.ensures.printed in
    let P : Option Fault → List ℕ → Type 0 = λ answer whole. Answers (command_of c.args.words.now) files files answer whole × HasCauses answer before before in (
      refused.0,
      refused.1,
      subst (λ a. Prints P a refused.0) (sym c.of.ensures.fault)
          (prints_weaker {Q = P} c.refuse.result refused.0 (λ answer text is.
          subst (λ spelled. Answers spelled files files answer text × HasCauses answer before before) c.in-None.ensures (no_command files before answer text is)) refused.2),
    )

pub returns-in-Some-Schema-clause-complete : goal.returns-in-Some-Schema-clause-complete
returns-in-Some-Schema-clause-complete g c = λ can none calm.
    let desk = g.S.Shelf.desk in
    let old = files_of (desk c.args.shelf.now) in
    let printed = c.schema_command.ensures.answer in
    let asked : Command = spec_command.Schema (schema_name c.in-Some-Schema.schema) in
    let spelled : Some asked ≡ command_of c.args.words.now = rw c.in-Some-Schema.field-0-is at c.in-Some-Schema.ensures in
    subst IsDone (sym c.of-in-Some-Schema.ensures.fault)
    (completes asked old (files_of (desk c.schema_command.new.shelf)) c.schema_command.result printed.0 _ _ (c.done_only.ensures asked)
    (subst (λ s. IsSomeAnd s (λ k. IsSomeAnd old (CanBeDone k))) (sym spelled) can) printed.2 (λ e. calm (c.schema_command.ensures.print_cause e)) none)

pub returns-in-Some-Check-clause-complete : goal.returns-in-Some-Check-clause-complete
returns-in-Some-Check-clause-complete g c = λ can none calm.
    let desk = g.S.Shelf.desk in
    let old = files_of (desk c.args.shelf.now) in
    let printed = c.check_command.ensures.answer in
    let asked : Command = Check (schema_name c.in-Some-Check.schema) c.in-Some-Check.file.now in
    let spelled : Some asked ≡ command_of c.args.words.now = rw c.in-Some-Check.field-0-is at c.in-Some-Check.ensures in
    subst IsDone (sym c.of-in-Some-Check.ensures.fault)
    (completes asked old (files_of (desk c.check_command.new.shelf)) c.check_command.result printed.0 _ _ (c.done_only.ensures asked)
    (subst (λ s. IsSomeAnd s (λ k. IsSomeAnd old (CanBeDone k))) (sym spelled) can) printed.2 (λ e. calm (c.check_command.ensures.print_cause e)) none)

pub returns-in-Some-Refs-clause-complete : goal.returns-in-Some-Refs-clause-complete
returns-in-Some-Refs-clause-complete g c = λ can none calm.
    let desk = g.S.Shelf.desk in
    let old = files_of (desk c.args.shelf.now) in
    let printed = c.refs_command.ensures.answer in
    let asked : Command = Refs (schema_name c.in-Some-Refs.schema) c.in-Some-Refs.file.now in
    let spelled : Some asked ≡ command_of c.args.words.now = rw c.in-Some-Refs.field-0-is at c.in-Some-Refs.ensures in
    subst IsDone (sym c.of-in-Some-Refs.ensures.fault)
    (completes asked old (files_of (desk c.refs_command.new.shelf)) c.refs_command.result printed.0 _ _ (c.done_only.ensures asked)
    (subst (λ s. IsSomeAnd s (λ k. IsSomeAnd old (CanBeDone k))) (sym spelled) can) printed.2 (λ e. calm (c.refs_command.ensures.print_cause e)) none)

pub returns-in-Some-Copy-clause-complete : goal.returns-in-Some-Copy-clause-complete
returns-in-Some-Copy-clause-complete g c = λ can none calm.
    let desk = g.S.Shelf.desk in
    let old = files_of (desk c.args.shelf.now) in
    let printed = c.copy_command.ensures.answer in
    let asked : Command = Copy (schema_name c.in-Some-Copy.schema) c.in-Some-Copy.file.now c.in-Some-Copy.copy.now in
    let spelled : Some asked ≡ command_of c.args.words.now = rw c.in-Some-Copy.field-0-is at c.in-Some-Copy.ensures in
    subst IsDone (sym c.of-in-Some-Copy.ensures.fault)
    (completes asked old (files_of (desk c.copy_command.new.shelf)) c.copy_command.result printed.0 _ _ (c.done_only.ensures asked)
    (subst (λ s. IsSomeAnd s (λ k. IsSomeAnd old (CanBeDone k))) (sym spelled) can) printed.2 (λ e. calm (c.copy_command.ensures.print_cause e)) none)
