-- What words with their names stand for.
use Rattle.nif_tool.specs.Command.{Command, Schema, Check, Refs, Copy, SchemaName, Plain, Scene, Named}
use Rattle.nif_tool.specs.declared.words.SchemaName as kept_name
use Rattle.nif_tool.specs.declared.words.Words as kept

abbrev pub schema_name : kept_name.SchemaName → SchemaName
schema_name kept_name.TheVariants.Plain = Plain
schema_name kept_name.TheVariants.Scene = Scene
schema_name (kept_name.TheVariants.Named file) = Named file.now

abbrev pub command : kept.Words → Command
command (kept.TheVariants.Schema schema) = Schema (schema_name schema)
command (kept.TheVariants.Check schema file) = Check (schema_name schema) file.now
command (kept.TheVariants.Refs schema file) = Refs (schema_name schema) file.now
command (kept.TheVariants.Copy schema file copy) = Copy (schema_name schema) file.now copy.now
