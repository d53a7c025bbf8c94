use Rattle.std.proofs.Common.{◌≡◌, Some, codes, sym, ap, ◌∙◌}
use Rattle.nif_schema.specs.Schema.{find}
use Rattle.nif_check.proofs.RootLemmas.{header-fields}
use Rattle.nif_check.proofs.roots.roots_of.Goals as goal

pub field_fault-requires-clause-fields : goal.field_fault-requires-clause-fields
field_fault-requires-clause-fields c =
    let s = c.args.schema.now in
    let found : find s (codes "Header") ≡ Some c.in-Some.header = ap (find s) (sym c.as_slice.ensures) ∙ c.in-Some.ensures.found in
    header-fields s c.in-Some.header c.decl.result.now found c.decl.ensures
