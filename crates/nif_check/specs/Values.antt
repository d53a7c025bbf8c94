-- What an open type is good for: its expressions are read, and each path in them has a value.
use Rattle.std.specs.Prelude.{◌≡◌, ◌≢◌, ◌⊎◌, ⊤, Bool, true, false, bytes_eq, List, [], ◌∷◌, Some, None, IsTrue, Contains}
use Rattle.std.specs.declared.option.Option.{Option}
use Rattle.std.specs.List.{list_any}
use Rattle.nif_schema.specs.Declaration.{Name, Formula, Read, Bad, Field}
use Rattle.nif_schema.specs.Expression.{Path}
use Rattle.nif_schema.specs.Schema.{Schema}
use Rattle.nif_schema.specs.Paths.{paths_of, Meaning, OfField, ends_path, goes_on, inside, is_number_array, is_header_path}
use Rattle.nif_schema.specs.Reasons.{width_where}

-- What a name means leads along the names behind it to nothing but numbers and bit members: at each name it may go on,
-- some field or bit member inside has that name, and each that has it leads on.
pub data Leads (schema : Schema) : Meaning → List Name → Type 0 where
  End : (m : Meaning) → IsTrue (ends_path schema m) → Leads schema m []
  Further : (m : Meaning) (name : Name) (names : List Name) → IsTrue (goes_on schema m) → inside schema name m ≢ []
      → ((n : Meaning) → Contains (inside schema name m) n → Leads schema n names) → Leads schema m (name ∷ names)

-- one of these fields has the name
abbrev pub is_declared : Name → List Field → Bool
is_declared name fields = list_any (λ f. bytes_eq name f.name) fields

-- A path has a value behind these earlier fields: no field has its first name and it is a name of the header, or one
-- has, and each that has it leads along the other names to numbers.
pub data HasValue (schema : Schema) (earlier : List Field) : List Name → Type 0 where
  OfHeader : (first : Name) (names : List Name) → is_declared first earlier ≡ false
      → IsTrue (is_header_path (first ∷ names))
      → HasValue schema earlier (first ∷ names)
  OfFields : (first : Name) (names : List Name) → is_declared first earlier ≡ true
      → ((f : Field) → Contains earlier f → bytes_eq first f.name ≡ true → Leads schema (OfField f) names)
      → HasValue schema earlier (first ∷ names)

-- An expression has a value: it was read, and each of its paths has one.
abbrev pub HasValues : Schema → List Field → Option Formula → Type 0
HasValues schema earlier None = ⊤
HasValues schema earlier (Some Bad) = ⊥
HasValues schema earlier (Some (Read of)) =
    (path : List Name) → Contains (paths_of of) path → HasValue schema earlier path

-- It is the bare name of earlier fields that are all one-dimensional arrays of numbers.
pub record NamesArrays (schema : Schema) (earlier : List Field) (width : Option Formula) : Type 0 where
  pub name : Name
  pub bare : width ≡ Some (Read (Path (name ∷ [])))
  pub declared : is_declared name earlier ≡ true
  pub arrays : (f : Field) → Contains earlier f → bytes_eq name f.name ≡ true → IsTrue (is_number_array schema f)

-- What a field of an open type asks for behind the earlier fields of its line is there.
pub record IsReadable (schema : Schema) (earlier : List Field) (f : Field) : Type 0 where
  pub vercond : HasValues schema earlier f.vercond
  pub cond : HasValues schema earlier f.cond
  pub arg : HasValues schema earlier f.arg
  pub length : HasValues schema earlier f.length
  pub width : HasValues schema earlier (width_where f.length f.width)
      ⊎ NamesArrays schema earlier (width_where f.length f.width)
