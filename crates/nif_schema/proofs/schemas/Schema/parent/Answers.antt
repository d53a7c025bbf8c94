use Rattle.std.proofs.Common.{sym, ap, ◌∙◌, option_and_then}
use Rattle.nif_schema.specs.Declaration.{declaration}
use Rattle.nif_schema.specs.Schema.{find_block}
use Rattle.nif_schema.proofs.WalkLemmas.{parent-at}
use Rattle.nif_schema.proofs.schemas.Schema.parent.Goals as goal

pub returns-in_err-name-clause-value : goal.returns-in_err-name-clause-value
returns-in_err-name-clause-value c =
    c.from_residual.ensures
    ∙ ap (option_and_then (find_block c.args.self.now)) c.in_err-name.ensures
    ∙ sym (parent-at c.args.self.now c.args.number (declaration c.decl.result.now) c.decl.ensures)

pub returns-clause-value : goal.returns-clause-value
returns-clause-value c =
    c.find_block.ensures.value
    ∙ ap (find_block c.args.self.now) c.bytes.ensures
    ∙ ap (option_and_then (find_block c.args.self.now)) c.in_ok-name.ensures
    ∙ sym (parent-at c.args.self.now c.args.number (declaration c.decl.result.now) c.decl.ensures)
