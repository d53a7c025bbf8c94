-- What a checked schema keeps, and what a refusal says.
use Rattle.std.specs.Prelude.{ℕ, ◌≡◌, ⊤, Bool, codes, List, Some, None, IsTrue, if◌then◌else◌}
use Rattle.std.specs.declared.option.Option.{Option}
use Rattle.nif_schema.specs.Declaration.{Field}
use Rattle.nif_schema.specs.Schema.{Schema, find}
use Rattle.nif_schema.specs.Reasons.{AreReasons}
use Rattle.nif_schema.specs.Roles.{Roles, RoleFault, has_line, has_version, has_count, has_user_versions, has_lists, has_sized_strings, has_independent_fields}
use Rattle.nif_schema.specs.declared.faults.Closed.{Closed}
use Rattle.nif_schema.specs.declared.faults.Closed.TheVariants.{C0}
use Rattle.nif_schema.specs.declared.faults.SchemaFault.{SchemaFault}
use Rattle.nif_schema.specs.declared.faults.SchemaFault.TheVariants.{HeaderRole, NoMemory}

-- the reason of a type with this own reason, by whether it reaches one that has its own
abbrev pub with_uses : Option Closed → Bool → Option Closed
with_uses (Some reason) reaches = Some reason
with_uses None reaches = if reaches then Some C0 else None

-- what is kept beside a schema
pub record IsChecked (schema : Schema) (reasons : List (Option Closed)) (header footer : ℕ) : Type 0 where
  pub roles : Roles schema
  pub known : AreReasons schema reasons
  pub is_header : find schema (codes "Header") ≡ Some header
  pub is_footer : find schema (codes "Footer") ≡ Some footer

-- the rules 2 to 8, which speak of the fields of Header
pub record FieldRules (schema : Schema) (fields : List Field) : Type 0 where
  pub header_line : IsTrue (has_line schema fields)
  pub version : IsTrue (has_version schema fields)
  pub count : IsTrue (has_count schema fields)
  pub user_versions : IsTrue (has_user_versions schema fields)
  pub lists : IsTrue (has_lists schema fields)
  pub sized_strings : IsTrue (has_sized_strings schema fields)
  pub independent : IsTrue (has_independent_fields fields)

-- A schema is refused with the first rule that fails. Want of memory may always be answered.
abbrev pub IsFault : Schema → SchemaFault → Type 0
IsFault schema (HeaderRole rule) = RoleFault schema rule
IsFault schema NoMemory = ⊤
IsFault schema _ = ⊥
