-- What the last name of a path means in types.
use Rattle.std.specs.Prelude.{ℕ, ◌≡◌, Bool, false, if◌then◌else◌, List, [], None, Some}
use Rattle.std.specs.declared.option.Option.{Option}
use Rattle.std.specs.List.{list_all}
use Rattle.nif_names.specs.Tables.{Table}
use Rattle.nif_names.specs.declared.shapes.Shape.{Shape}
use Rattle.nif_schema.specs.Declaration.{Name}
use Rattle.nif_sets.specs.Insides.{is_lacking, shapes_in}

-- whether all of these shapes are numbers, if there are any
abbrev pub HasEnd : List Shape → Option Bool → Type 0
HasEnd shapes None = shapes ≡ []
HasEnd shapes (Some all) = (shapes ≡ [] → ⊥) × (all ≡ list_all (λ s. s.number) shapes)

-- where the last name of a path stops in some of the inner types, each of which has it
pub record IsEnded (tables : List Table) (name : Name) (inner : List ℕ) (stop : ℕ) : Type 0 where
  pub found : is_lacking tables name inner ≡ false
  pub numbers : stop ≡ (if list_all (λ s. s.number) (shapes_in tables name inner) then 0 else 1)
