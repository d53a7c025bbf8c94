-- What the steps of a command answer: reading a schema's text, understanding it, reading a file by it, and writing the
-- copy.
use Rattle.std.specs.Prelude.{◌≡◌, ℕ, ◌<◌, List, [], Ok, Err, None, take, length, Some, IfSome, IsSomeAnd, ⊤, Vec}
use Rattle.std.specs.declared.option.Option.{Option}
use Rattle.std.specs.declared.result.Result.{Result}
use Rattle.std.specs.declared.alloc.Global.{Global}
use Rattle.std.specs.FinMap.{get, insert}
use Rattle.nif_base.specs.File.{File, nodes_of}
use Rattle.nif_base.specs.Shelf.{Files}
use Rattle.nif_schema.specs.Schema.{Schema, IsSchema}
use Rattle.nif_schema.specs.declared.faults.SchemaFault.TheVariants as schema_faults
use Rattle.nif_graph.specs.State.{GraphState}
use Rattle.nif_graph.specs.Written.{numbered}
use Rattle.nif_file.specs.Files.{IsFile, text_of}
use Rattle.nif_file.specs.FileFails.{FileFails}
use Rattle.nif_file.specs.GraphOf.{IsGraphOf}
use Rattle.nif_print.specs.Files.{summary_text}
use Rattle.nif_tool.specs.Command.{SchemaName}
use Rattle.nif_tool.specs.Meaning.{Copies, FileIs, Refused}
use Rattle.nif_base.specs.Limits.{most_schema_bytes}
use Rattle.nif_tool.specs.Schemas.{HasSchema, Passes, Refuses, told_bytes}
use Rattle.nif_tool.specs.declared.report.Fault.{Fault}
use Rattle.nif_tool.specs.declared.report.Fault.TheVariants as fault
use Rattle.nif_tool.specs.declared.files.Accepted.{Accepted}

-- what reading the text of a schema answers
abbrev pub LoadsText : List ℕ → Files → Result (Vec ℕ Global) Fault → Type 0
LoadsText name files (Ok v) = get files name ≡ Some v.items
LoadsText name files (Err (fault.Schema schema_faults.SchemaTooLong)) = FileIs name files
    (λ bytes. most_schema_bytes < length bytes)
LoadsText name files (Err fault.OpenFault) = ⊤
LoadsText name files (Err fault.ReadFault) = ⊤
LoadsText name files (Err fault.NoMemory) = ⊤
LoadsText name files (Err _) = ⊥

-- what the bytes of a schema come to
abbrev pub Understands : List ℕ → Result Schema Fault → Type 0
Understands bytes (Ok schema) = Passes bytes schema
Understands bytes (Err (fault.Schema refusal)) = Refuses bytes refusal
Understands bytes (Err fault.NoMemory) = ⊤
Understands bytes (Err _) = ⊥

-- what getting a schema answers, where its bytes are told
abbrev pub Gets : Option (List ℕ) → Result Schema Fault → Type 0
Gets bytes (Ok schema) = IsSomeAnd bytes (λ b. Passes b schema)
Gets bytes (Err (fault.Schema refusal)) = IsSomeAnd bytes (λ b. Refuses b refusal)
Gets bytes (Err _) = ⊤

-- The graph is that of a file, which is what is written of it, and which the bytes of this name spell where they are
-- told.
pub record IsLoaded (schema : Schema) (name : List ℕ) (files : Option Files) (state : GraphState) : Type 0 where
  pub whole : File
  pub is : IsFile schema whole (text_of schema whole)
  pub graph : IsGraphOf schema whole state
  pub again : numbered state.places state.graph ≡ whole
  pub told : IfSome files (λ d. get d name ≡ Some (text_of schema whole))

-- what reading a file by a schema answers
abbrev pub Loads : Schema → List ℕ → Option Files → Result GraphState Fault → Type 0
Loads schema name files (Ok state) = IsLoaded schema name files state
Loads schema name files (Err (fault.File refusal)) = IfSome files
    (λ d. FileIs name d (λ bytes. FileFails schema bytes refusal))
Loads schema name files (Err fault.OpenFault) = ⊤
Loads schema name files (Err fault.ReadFault) = ⊤
Loads schema name files (Err fault.NoMemory) = ⊤
Loads schema name files (Err _) = ⊥

-- The schema of this name passes, and by it the file was read.
pub record IsAccepted (name : SchemaName) (file : List ℕ) (files : Option Files) (accepted : Accepted) : Type 0 where
  pub schema : IsSchema accepted.schema
  pub passes : IfSome files (λ d. HasSchema name d accepted.schema)
  pub told : IfSome (told_bytes name files) (λ bytes. IsSomeAnd bytes (λ b. Passes b accepted.schema))
  pub loaded : IsLoaded accepted.schema file files accepted.graph

-- what getting a schema and reading a file by it answers
abbrev pub AcceptsBy : SchemaName → List ℕ → Option Files → Result Accepted Fault → Type 0
AcceptsBy name file files (Ok accepted) = IsAccepted name file files accepted
AcceptsBy name file files (Err refusal) = IfSome files (λ d. Refused name file d refusal)

-- the line of the file of a graph
abbrev pub graph_summary : GraphState → List ℕ
graph_summary state = summary_text state.graph.origin.version (length state.graph.blocks) state.bytes
    (nodes_of (numbered state.places state.graph))

-- what writing bytes to a new file answers
abbrev pub Stores : {T : Type 0} → List ℕ → List ℕ → Files → Files → Result T Fault → Type 0
Stores name bytes old new (Ok _) = new ≡ insert old name bytes
Stores name bytes old new (Err fault.WriteFault) = (n : ℕ) × (new ≡ insert old name (take n bytes))
Stores name bytes old new (Err fault.OpenFault) = new ≡ old
Stores name bytes old new (Err _) = ⊥

-- what copying a file answers
abbrev pub CopiesBy : SchemaName → List ℕ → List ℕ → Files → Files → Result Accepted Fault → Type 0
CopiesBy name file copy old new (Ok accepted) = Copies name file copy old new None (graph_summary accepted.graph)
CopiesBy name file copy old new (Err refusal) = Copies name file copy old new (Some refusal) []
