use Rattle.std.proofs.Common.{sym, ◌∙◌, ap}
use Rattle.std.proofs.lemmas.Result.{IfErr-weaker}
use Rattle.nif_schema.specs.Schema.{Schema, find_block}
use Rattle.nif_file_reader.specs.Types.{RefusesKind, RefusesName}
use Rattle.nif_file_reader.proofs.TypeLaws.{refuses_found}
use Rattle.nif_file_reader.proofs.types.kind_of_name.Goals as goal

pub returns-in-Some-clause-err : goal.returns-in-Some-clause-err
returns-in-Some-clause-err c =
    let S = c.args.checked.now in
    let name = c.args.name.now in
    let found = ap (λ (S : Schema). find_block S name) (sym c.schema.ensures.same) ∙ sym c.in-Some.ensures.value in
    IfErr-weaker c.concrete.result (RefusesKind S c.args.block c.in-Some.kind) (RefusesName S c.args.block name) (λ fault r. refuses_found S c.args.block c.in-Some.kind name fault found r) c.concrete.ensures.err
