-- What the code keeps, as plain data.
use Rattle.std.specs.Prelude.{ℕ, ◌≡◌, Some}
use Rattle.nif_schema.specs.Declaration.{Field, field}
use Rattle.nif_schema.specs.Schema.{Schema}
use Rattle.nif_schema.specs.Uses.{named}
use Rattle.nif_layout.specs.Laws.{IsOpenType}
use Rattle.nif_scope.specs.Lookup as lookup
use Rattle.nif_scope.specs.declared.members.Member.{Member}
use Rattle.nif_scope.specs.declared.paths.Told.{Told}
use Rattle.nif_scope.specs.declared.paths.Told.TheVariants as told

abbrev pub member_of : Member → lookup.Member
member_of m = record { field = field m.field.now; entry = m.entry; own = m.own.now }

abbrev pub told_of : Told → lookup.Told
told_of told.Nowhere = lookup.Nowhere
told_of (told.At member) = lookup.At (member_of member)
told_of (told.Bits value) = lookup.Bits value

-- A field of an open type is of an open type, where a declaration is named.
pub record IsOpenField (schema : Schema) (f : Field) : Type 0 where
  pub kind : (number : ℕ) → named schema f.kind ≡ Some number → IsOpenType schema number

-- what was found is a field of an open type
abbrev pub IsOpenTold : Schema → lookup.Told → Type 0
IsOpenTold schema (lookup.At m) = IsOpenField schema m.field
IsOpenTold schema _ = Unit {0}
