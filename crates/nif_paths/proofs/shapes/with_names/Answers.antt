use Rattle.std.proofs.Common.{true, false, sym, ◌∙◌}
use Rattle.nif_schema.specs.Declaration.{declaration}
use Rattle.nif_paths.proofs.ShapeLemmas.{names-at}
use Rattle.nif_paths.proofs.shapes.with_names.Goals as goal

pub returns-then-has_names : goal.returns-then-has_names
returns-then-has_names c = names-at c.args.schema.now c.args.number (declaration c.decl.result.now) true c.decl.ensures (sym c.if-has_names.true ∙ c.has_names.ensures)

pub returns : goal.returns
returns c = names-at c.args.schema.now c.args.number (declaration c.decl.result.now) false c.decl.ensures (sym c.if-has_names.false ∙ c.has_names.ensures)
