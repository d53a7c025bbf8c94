use Rattle.std.proofs.Common.{sym, ◌∙◌, ap}
use Rattle.nif_schema.specs.Schema.{Schema}
use Rattle.nif_file.specs.Files.{is_abstract}
use Rattle.nif_file_reader.proofs.TypeLaws.{block_type}
use Rattle.nif_file_reader.proofs.types.concrete.Goals as goal

pub returns-in-None-clause-ok : goal.returns-in-None-clause-ok
returns-in-None-clause-ok c =
    block_type c.args.checked.now c.requires.0 c.args.kind c.requires.1 (ap (λ (S : Schema). is_abstract S c.args.kind) (sym c.schema.ensures.same) ∙ sym c.is_abstract.ensures ∙ c.if-is_abstract.false) c.in-None.ensures
