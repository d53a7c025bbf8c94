use Rattle.std.proofs.Common.{sym, ap, ◌∙◌}
use Rattle.nif_schema.specs.Declaration.{declaration}
use Rattle.nif_schema.specs.Schema.{find}
use Rattle.nif_paths.proofs.ShapeLemmas.{storage-none, storage-lost, storage-found}
use Rattle.nif_paths.proofs.shapes.storage_width.Goals as goal

pub returns-in_default : goal.returns-in_default
returns-in_default c = storage-none c.args.schema.now c.args.storage.now c.in_default.is

pub returns-in_default-find : goal.returns-in_default-find
returns-in_default-find c =
    storage-lost c.args.schema.now c.args.storage.now c.in-Some.name c.in-Some.is
    (ap (find c.args.schema.now) (sym c.bytes.ensures) ∙ sym c.in_default-find.ensures.value)

pub returns : goal.returns
returns c =
    c.integer_width.ensures ∙ storage-found c.args.schema.now c.args.storage.now c.in-Some.name c.in-Some-find.number (declaration c.decl.result.now) c.in-Some.is
    (ap (find c.args.schema.now) (sym c.bytes.ensures) ∙ sym c.in-Some-find.ensures.value) c.decl.ensures
