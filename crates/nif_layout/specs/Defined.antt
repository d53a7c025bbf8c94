-- Where each expression of a line has a value.
use Rattle.std.specs.Prelude.{ℕ, ◌≡◌, true, bytes_eq, IsSome, Contains, filter, Some, List, [], ◌∷◌, ◌++◌}
use Rattle.std.specs.declared.option.Option.{Option}
use Rattle.std.specs.List.{list_all}
use Rattle.nif_schema.specs.Declaration.{Name, Formula, Read, Field}
use Rattle.nif_schema.specs.Expression.{Tree}
use Rattle.nif_schema.specs.Schema.{Schema, line}
use Rattle.nif_schema.specs.Paths.{paths_of, is_number_array}
use Rattle.nif_schema.specs.Reasons.{width_where}
use Rattle.nif_layout.specs.Context.{Context}
use Rattle.nif_layout.specs.Earlier.{Env}
use Rattle.nif_layout.specs.PathValue.{path_value}
use Rattle.nif_layout.specs.Form.{array_name}

-- the earlier fields in the order of their line
abbrev pub fields_before : Env → List Field
fields_before [] = []
fields_before (earlier ∷ before) = fields_before before ++ earlier.field ∷ []

-- each field of a line, behind those before it
abbrev pub EachPlaced : (List Field → Field → Type 0) → List Field → List Field → Type 0
EachPlaced P earlier [] = Unit {0}
EachPlaced P earlier (f ∷ fields) = P earlier f × EachPlaced P (earlier ++ f ∷ []) fields

-- the expressions of a field; a `width` without a `length` is passed over
abbrev pub expressions : Field → List (Option Formula)
expressions f = f.vercond ∷ f.cond ∷ f.arg ∷ f.length ∷ width_where f.length f.width ∷ []

-- an expression was read, and each path in it has a value, whatever was read of the earlier fields
abbrev pub HasValue : Schema → List Field → Formula → Type 0
HasValue schema earlier formula = (of : Tree) × (formula ≡ Read of)
    × ((C : Context) (E : Env) → fields_before E ≡ earlier → (path : List Name) → Contains (paths_of of) path
    → IsSome (path_value schema C E path))

abbrev pub HasValues : Schema → List Field → Field → Type 0
HasValues schema earlier f =
    (formula : Formula) → Contains (expressions f) (Some formula) → HasValue schema earlier formula

-- Where a `width` is the bare name of an array, all earlier fields of that name are arrays of numbers, of one
-- dimension.
abbrev pub NamesNumbers : Schema → List Field → Field → Type 0
NamesNumbers schema earlier f = (width : Formula) → width_where f.length f.width ≡ Some width
    → (E : Env) → fields_before E ≡ earlier → (name : Name) → array_name E width ≡ Some name
    → list_all (is_number_array schema) (filter (λ g. bytes_eq name g.name) earlier) ≡ true

pub record IsDefined (schema : Schema) (earlier : List Field) (f : Field) : Type 0 where
  pub values : HasValues schema earlier f
  pub widths : NamesNumbers schema earlier f

-- Each expression of each field of the line of a type has a value.
abbrev pub AllDefined : Schema → ℕ → Type 0
AllDefined schema number = EachPlaced (IsDefined schema) [] (line schema number)
