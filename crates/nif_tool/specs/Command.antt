-- The command that the words spell: `schema S`, `check S F`, `refs S F` or `copy S F OUT`.
use Rattle.std.specs.Prelude.{ℕ, List, [], ◌∷◌, None, Some, if◌then◌else◌, string_bytes, String, codes}
use Rattle.std.specs.Str.{bytes_eq}
use Rattle.std.specs.declared.option.Option.{Option}
use Rattle.std.specs.declared.alloc.Global.{Global}

-- where a schema comes from: a text that is built in, or a file
pub data SchemaName : Type 0 where
  Plain : SchemaName
  Scene : SchemaName
  Named : (file : List ℕ) → SchemaName

abbrev pub schema_named : List ℕ → SchemaName
schema_named word =
    if bytes_eq word (codes "plain") then Plain
    else if bytes_eq word (codes "scene") then Scene
    else Named word

pub data Command : Type 0 where
  Schema : (schema : SchemaName) → Command
  Check : (schema : SchemaName) → (file : List ℕ) → Command
  Refs : (schema : SchemaName) → (file : List ℕ) → Command
  Copy : (schema : SchemaName) → (file copy : List ℕ) → Command

abbrev pub command_of : List (String Global) → Option Command
command_of (verb ∷ schema ∷ []) =
    if bytes_eq (string_bytes verb) (codes "schema") then Some (Schema (schema_named (string_bytes schema))) else None
command_of (verb ∷ schema ∷ file ∷ []) =
    if bytes_eq (string_bytes verb) (codes "check")
    then Some (Check (schema_named (string_bytes schema)) (string_bytes file))
    else if bytes_eq (string_bytes verb) (codes "refs")
    then Some (Refs (schema_named (string_bytes schema)) (string_bytes file)) else None
command_of (verb ∷ schema ∷ file ∷ copy ∷ []) =
    if bytes_eq (string_bytes verb) (codes "copy")
    then Some (Copy (schema_named (string_bytes schema)) (string_bytes file) (string_bytes copy)) else None
command_of _ = None
