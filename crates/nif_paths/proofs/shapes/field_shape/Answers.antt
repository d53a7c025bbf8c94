use Rattle.std.proofs.Common.{◌&&◌, Bool, ℕ, Option, false, sym, ap, ◌∙◌, is_none}
use Rattle.nif_names.specs.declared.shapes.Shape.{Shape}
use Rattle.nif_schema.specs.Declaration.{declaration, field, formula}
use Rattle.nif_schema.specs.Paths.{is_number_type}
use Rattle.nif_paths.proofs.ShapeLemmas.{shape-none, shape-one, shape-row, none_mapped, some_mapped, row_then, row_else}
use Rattle.nif_paths.proofs.shapes.field_shape.Goals as goal

pub returns-in_default : goal.returns-in_default
returns-in_default c = shape-none c.args.schema.now (field c.args.of.now) (sym c.in_default.ensures.value)

pub returns-then-is_none : goal.returns-then-is_none
returns-then-is_none c =
    let mk : Bool → Option ℕ → Shape = λ b o. record { number = b; row = false; inner = o } in
    ap (λ b. mk b c.with_names.result) c.is_number_type-is_number.ensures ∙ ap (mk (is_number_type c.args.schema.now c.decl.result.now.what)) c.with_names.ensures
    ∙ shape-one c.args.schema.now (field c.args.of.now) c.in-Some.number (declaration c.decl.result.now) (sym c.in-Some.ensures.value) c.decl.ensures
    (none_mapped formula c.args.of.now.length c.if-is_none.ensures)

pub returns-then-is_number : goal.returns-then-is_number
returns-then-is_number c =
    shape-row c.args.schema.now (field c.args.of.now) c.in-Some.number (declaration c.decl.result.now) (sym c.in-Some.ensures.value) c.decl.ensures
    (some_mapped formula c.args.of.now.length c.if-is_none.ensures) c.is_none-then-is_number.result
    (row_then formula c.args.of.now.width (is_number_type c.args.schema.now c.decl.result.now.what) c.is_none-then-is_number.result (sym c.is_number_type-is_number.ensures ∙ c.if-is_number.true) c.is_none-then-is_number.ensures)

pub returns-else-is_number : goal.returns-else-is_number
returns-else-is_number c =
    let none = is_none (field c.args.of.now).width in
    shape-row c.args.schema.now (field c.args.of.now) c.in-Some.number (declaration c.decl.result.now) (sym c.in-Some.ensures.value) c.decl.ensures
    (some_mapped formula c.args.of.now.length c.if-is_none.ensures) c.is_number_type-is_number.result
    (row_else c.is_number_type-is_number.result none c.if-is_number.false ∙ ap (λ b. b && none) c.is_number_type-is_number.ensures)
