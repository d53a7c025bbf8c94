-- What reading a schema comes to: the bytes declare a schema that keeps the rules of the header, or they are refused.
use Rattle.std.specs.Prelude.{ℕ, ◌≤◌, ◌<◌, List, length, Some, IsSomeAnd}
use Rattle.std.specs.declared.option.Option.{Option}
use Rattle.std.specs.Option.{option_map}
use Rattle.std.specs.FinMap.{get}
use Rattle.nif_base.specs.Limits.{most_schema_bytes}
use Rattle.nif_base.specs.Shelf.{Files}
use Rattle.nif_text.specs.Tree.{Tree}
use Rattle.nif_text.specs.Documents.{Written}
use Rattle.nif_schema.specs.Schema.{Schema}
use Rattle.nif_schema.specs.Roles.{Roles, RoleFault}
use Rattle.nif_schema.specs.declared.faults.SchemaFault.{SchemaFault}
use Rattle.nif_schema.specs.declared.faults.SchemaFault.TheVariants as faults
use Rattle.nif_read.specs.Schemas.{Declares, IsRefused}
use Rattle.nif_builtin.specs.declared.builtin.TheConstants.{PLAIN, SCENE}
use Rattle.nif_tool.specs.Command.{SchemaName, Plain, Scene, Named}

-- the bytes are those of a tree that declares this schema
pub record Spells (bytes : List ℕ) (schema : Schema) : Type 0 where
  pub within : length bytes ≤ most_schema_bytes
  pub tree : Tree
  pub written : Written tree bytes
  pub declares : Declares tree schema

-- the schema passes
pub record Passes (bytes : List ℕ) (schema : Schema) : Type 0 where
  pub spells : Spells bytes schema
  pub roles : Roles schema

-- the schema is refused with this fault
abbrev pub Refuses : List ℕ → SchemaFault → Type 0
Refuses bytes faults.SchemaTooLong = most_schema_bytes < length bytes
Refuses bytes (faults.HeaderRole rule) = (schema : Schema) × Spells bytes schema × RoleFault schema rule
Refuses bytes faults.NoMemory = ⊥
Refuses bytes fault = (length bytes ≤ most_schema_bytes) × IsRefused bytes fault

-- The bytes of a schema, if it is there: they are built in, or a file has them.
abbrev pub schema_bytes : SchemaName → Files → Option (List ℕ)
schema_bytes Plain files = Some PLAIN.now
schema_bytes Scene files = Some SCENE.now
schema_bytes (Named file) files = get files file

-- The same where they are told: built in, or where the files are told.
abbrev pub told_bytes : SchemaName → Option Files → Option (Option (List ℕ))
told_bytes Plain files = Some (Some PLAIN.now)
told_bytes Scene files = Some (Some SCENE.now)
told_bytes (Named file) files = option_map (λ d. get d file) files

-- the name is that of this schema, which passes
abbrev pub HasSchema : SchemaName → Files → Schema → Type 0
HasSchema name files schema = IsSomeAnd (schema_bytes name files) (λ bytes. Passes bytes schema)
