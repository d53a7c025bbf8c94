-- What a command comes to: its answer, what that says of the files, where they are told, and the text that it prints.
use Rattle.std.specs.Prelude.{◌≡◌, ◌≢◌, ◌⊎◌, ℕ, ◌≤◌, List, length, None, Some, take, IfSome, IsSomeAnd, ⊤}
use Rattle.std.specs.declared.option.Option.{Option}
use Rattle.std.specs.Option.{option_map}
use Rattle.std.specs.FinMap.{get, insert}
use Rattle.nif_base.specs.File.{File, nodes_of}
use Rattle.nif_base.specs.Outside.{Rose}
use Rattle.nif_base.specs.Shelf.{Files, Desk, Refusal}
use Rattle.nif_base.specs.declared.shelves.Kind.{Kind}
use Rattle.nif_base.specs.declared.shelves.Kind.TheVariants.{Input, Output}
use Rattle.nif_schema.specs.Schema.{Schema, IsSchema}
use Rattle.nif_schema.specs.declared.faults.SchemaFault.TheVariants as schema_faults
use Rattle.nif_layout.specs.Leaf.{AreBytes}
use Rattle.nif_file.specs.Files.{IsFile, head_in}
use Rattle.nif_file.specs.FileFails.{FileFails}
use Rattle.nif_file.specs.Head.{version_in}
use Rattle.nif_file.specs.declared.faults.FileFault.TheVariants as file_faults
use Rattle.nif_print.specs.Files.{summary_text}
use Rattle.nif_print.specs.Listing.{IsListing}
use Rattle.nif_print.specs.References.{refs_text}
use Rattle.nif_graph.specs.State.{GraphState}
use Rattle.nif_file.specs.GraphOf.{IsGraphOf}
use Rattle.nif_tool.specs.Command.{Command, SchemaName, Named, Check, Refs, Copy}
use Rattle.nif_tool.specs.Command as command
use Rattle.nif_tool.specs.Counts.{Counts, counts}
use Rattle.nif_tool.specs.Schemas.{HasSchema, Passes, Refuses, schema_bytes, told_bytes}
use Rattle.nif_tool.specs.Lines.{line_of}
use Rattle.nif_tool.specs.declared.report.Fault.{Fault}
use Rattle.nif_tool.specs.declared.report.Fault.TheVariants as fault

-- ---- which answers there are

-- the name is that of a file
abbrev pub IsNamed : SchemaName → Type 0
IsNamed (Named file) = ⊤
IsNamed _ = ⊥

-- The refusals of a schema. Only a file may not be opened or read. The fault of a schema is not want of memory.
abbrev pub CanLack : SchemaName → Fault → Type 0
CanLack name fault.NoMemory = ⊤
CanLack name (fault.Schema refusal) = refusal ≢ schema_faults.NoMemory
CanLack name fault.OpenFault = IsNamed name
CanLack name fault.ReadFault = IsNamed name
CanLack name _ = ⊥

-- The refusals of a file by a schema. The fault of the file is none of a read or of memory.
abbrev pub CanFail : Fault → Type 0
CanFail fault.NoMemory = ⊤
CanFail (fault.Schema refusal) = refusal ≢ schema_faults.NoMemory
CanFail (fault.File refusal) = (refusal ≢ file_faults.ReadFault) × (refusal ≢ file_faults.NoMemory)
CanFail fault.OpenFault = ⊤
CanFail fault.ReadFault = ⊤
CanFail _ = ⊥

-- The answers that a command has, but for a fault of printing, which comes in place of an answer whose text it cut off.
abbrev pub CanAnswer : Command → Option Fault → Type 0
CanAnswer c None = ⊤
CanAnswer (command.Schema name) (Some refusal) = CanLack name refusal
CanAnswer (Check name file) (Some refusal) = CanFail refusal
CanAnswer (Refs name file) (Some refusal) = CanFail refusal
CanAnswer (Copy name file copy) (Some refusal) = (refusal ≡ fault.WriteFault) ⊎ CanFail refusal

-- ---- what they say of the files

-- What an answer to `schema S` says of the bytes of S, if there are any, and of the text that is printed. Done: the
-- schema passes, and its listing is printed. A fault of the schema: it is refused with that fault.
abbrev pub Lists : Option (List ℕ) → Option Fault → List ℕ → Type 0
Lists bytes None text = IsSomeAnd bytes (λ b. (schema : Schema) × Passes b schema × IsListing schema text)
Lists bytes (Some (fault.Schema refusal)) text = IsSomeAnd bytes (λ b. Refuses b refusal)
Lists bytes _ text = ⊤

-- the file of this name is there, and its bytes have P
abbrev pub FileIs : List ℕ → Files → (List ℕ → Type 0) → Type 0
FileIs name files P = IsSomeAnd (get files name) P

-- The schema passes, and by it the bytes of the file are a file of which P holds.
abbrev pub Accepts : SchemaName → List ℕ → Files → (Schema → File → List ℕ → Type 0) → Type 0
Accepts name file files P =
    (schema : Schema) × HasSchema name files schema
    × FileIs file files (λ bytes. (whole : File) × IsFile schema whole bytes × P schema whole bytes)

-- What a refusal says. One of the schema: the schema has that fault. One of the file: the schema passes, and by it the
-- file has that fault. (`IsSchema` holds of each schema that was read; by it the file has no other answer.)
abbrev pub Refused : SchemaName → List ℕ → Files → Fault → Type 0
Refused name file files (fault.Schema refusal) = IsSomeAnd (schema_bytes name files) (λ bytes. Refuses bytes refusal)
Refused name file files (fault.File refusal) =
    (schema : Schema) × IsSchema schema × HasSchema name files schema
    × FileIs file files (λ bytes. FileFails schema bytes refusal)
Refused name file files _ = ⊤

-- the line that is printed of a file
abbrev pub summary_of : Schema → File → List ℕ → List ℕ
summary_of schema whole bytes = summary_text (version_in (head_in schema whole)) (length whole.blocks) (length bytes)
    (nodes_of whole)

-- What an answer to `check S F` says of the files and of the text that is printed. Done: the file is accepted, and its
-- line is printed.
abbrev pub Checks : SchemaName → List ℕ → Files → Option Fault → List ℕ → Type 0
Checks name file files None text = Accepts name file files (λ schema whole bytes. text ≡ summary_of schema whole bytes)
Checks name file files (Some refusal) text = Refused name file files refusal

-- the lines that are printed of the references in the graph of a file
abbrev pub IsRefsText : Schema → File → List ℕ → Type 0
IsRefsText schema whole text =
    (state : GraphState) × IsGraphOf schema whole state × (text ≡ refs_text schema state.graph)

-- What an answer to `refs S F` says: the same as one to `check S F`, with the lines of the references for the text.
abbrev pub Refers : SchemaName → List ℕ → Files → Option Fault → List ℕ → Type 0
Refers name file files None text = Accepts name file files (λ schema whole bytes. IsRefsText schema whole text)
Refers name file files (Some refusal) text = Refused name file files refusal

-- What an answer to `copy S F OUT` says of the files before and after, and of the text. Done: the file is accepted, its
-- line is printed, and its bytes are those of the copy, which alone is new. A fault of writing: the file is accepted,
-- and the copy has a prefix of its bytes. After each other answer no file has changed.
abbrev pub Copies : SchemaName → List ℕ → List ℕ → Files → Files → Option Fault → List ℕ → Type 0
Copies name file copy old new None text =
    Accepts name file old (λ schema whole bytes. (text ≡ summary_of schema whole bytes) × (new ≡ insert old copy bytes))
Copies name file copy old new (Some fault.WriteFault) text = Accepts name file old
    (λ schema whole bytes. (n : ℕ) × (new ≡ insert old copy (take n bytes)))
Copies name file copy old new (Some refusal) text = Refused name file old refusal × (new ≡ old)

-- the files, where they are told
abbrev pub files_of : Option Desk → Option Files
files_of desk = option_map (λ d. d.files) desk

-- the files before and after are told, and P holds of them; or those before are not
abbrev pub WhereTold : Option Files → Option Files → (Files → Files → Type 0) → Type 0
WhereTold old new P = IfSome old (λ d. IsSomeAnd new (P d))

-- What the answer of a command says of the files and of what is printed, but for a refusal's line.
abbrev pub Does : Command → Option Files → Option Files → Option Fault → List ℕ → Type 0
Does (command.Schema name) old new answer text = IfSome (told_bytes name old) (λ bytes. Lists bytes answer text)
    × (new ≡ old)
Does (Check name file) old new answer text = IfSome old (λ d. Checks name file d answer text) × (new ≡ old)
Does (Refs name file) old new answer text = IfSome old (λ d. Refers name file d answer text) × (new ≡ old)
Does (Copy name file copy) old new answer text = WhereTold old new (λ d e. Copies name file copy d e answer text)

-- a schema of this name: it passes where its bytes are told, as those of a built-in schema always are
abbrev pub IsOfName : SchemaName → Option Files → Schema → Type 0
IsOfName name files schema = IsSchema schema
    × IfSome (told_bytes name files) (λ bytes. IsSomeAnd bytes (λ b. Passes b schema))

-- the line of some file by some schema of this name
abbrev pub IsLineBy : SchemaName → Option Files → List ℕ → Type 0
IsLineBy name files text =
    (schema : Schema) × (whole : File) × (bytes : List ℕ) × IsOfName name files schema × IsFile schema whole bytes
    × (text ≡ summary_of schema whole bytes)

-- the lines of the references of some file by some schema of this name
abbrev pub AreLinesBy : SchemaName → Option Files → List ℕ → Type 0
AreLinesBy name files text =
    (schema : Schema) × (whole : File) × (bytes : List ℕ) × IsOfName name files schema × IsFile schema whole bytes
    × IsRefsText schema whole text

-- What Done says of the text wherever nothing is told of the files, too: it is the listing of some schema, or the line
-- or the references of some file. (Which file that is, `Does` says, where the files are told.)
abbrev pub PrintsDone : Command → Option Files → Option Fault → List ℕ → Type 0
PrintsDone (command.Schema name) files None text = (schema : Schema) × IsOfName name files schema
    × IsListing schema text
PrintsDone (Check name file) files None text = IsLineBy name files text
PrintsDone (Refs name file) files None text = AreLinesBy name files text
PrintsDone (Copy name file copy) files None text = IsLineBy name files text
PrintsDone c files (Some refusal) text = ⊤

-- A refusal prints its line.
abbrev pub IsRefusalText : Option Fault → List ℕ → Type 0
IsRefusalText None text = ⊤
IsRefusalText (Some refusal) text = text ≡ line_of refusal

-- An answer, and the whole of its text, to the command of the words, or to words that are none.
abbrev pub Answers : Option Command → Option Files → Option Files → Option Fault → List ℕ → Type 0
Answers None old new answer text = (answer ≡ Some fault.Usage) × (new ≡ old) × (text ≡ line_of fault.Usage)
Answers (Some c) old new answer text = CanAnswer c answer × Does c old new answer text × IsRefusalText answer text
    × PrintsDone c old answer text

-- ---- faults of the outside

-- each fault of the outside comes only where its count rose; no count falls
pub record HasCauses (answer : Option Fault) (old new : Counts) : Type 0 where
  pub opens_later : old.opens ≤ new.opens
  pub reads_later : old.reads ≤ new.reads
  pub writes_later : old.writes ≤ new.writes
  pub opening : answer ≡ Some fault.OpenFault → Rose old.opens new.opens
  pub reading : answer ≡ Some fault.ReadFault → Rose old.reads new.reads
  pub writing : answer ≡ Some fault.WriteFault → Rose old.writes new.writes

-- the same of a shelf before and after, by the functions that tell its counts
abbrev pub Causes : {S : Type 0} → (S → ℕ) → (S → ℕ) → (S → ℕ) → S → S → Option Fault → Type 0
Causes opens reads writes old new answer = HasCauses answer (counts opens reads writes old)
    (counts opens reads writes new)

-- Where printing failed, a prefix of the text of the answer that would have been was printed; else the whole text.
abbrev pub Prints : (Option Fault → List ℕ → Type 0) → Option Fault → List ℕ → Type 0
Prints P (Some fault.PrintFault) text = (answer : Option Fault) × (whole : List ℕ) × (answer ≢ Some fault.PrintFault)
    × P answer whole × ((n : ℕ) × (text ≡ take n whole))
Prints P answer text = P answer text

-- the schema is a file of this name
abbrev pub IsFileOf : SchemaName → List ℕ → Type 0
IsFileOf (Named file) name = name ≡ file
IsFileOf _ name = ⊥

-- The inputs of a command, each at its turn: the schema, and the file where the schema passes.
abbrev pub IsInput : SchemaName → List ℕ → Option Files → List ℕ → Type 0
IsInput schema file files name = IsFileOf schema name
    ⊎ ((name ≡ file) × IfSome files (λ d. (passed : Schema) × HasSchema schema d passed))

-- what a command asks for at its turn: an input, or the copy, where the file is accepted
abbrev pub IsAsked : Command → Option Files → Kind → List ℕ → Type 0
IsAsked (command.Schema schema) files Input name = IsFileOf schema name
IsAsked (Check schema file) files Input name = IsInput schema file files name
IsAsked (Refs schema file) files Input name = IsInput schema file files name
IsAsked (Copy schema file copy) files Input name = IsInput schema file files name
IsAsked (Copy schema file copy) files Output name = (name ≡ copy)
    × IfSome files (λ d. Accepts schema file d (λ passed whole bytes. ⊤))
IsAsked _ files kind name = ⊥

-- After a fault of opening, where the refusal is told, that is what was asked for. (A shelf in memory tells it as long
-- as `MemShelf::tells_refusals` answers true, since the count of failed opens rose.)
abbrev pub RefusedFor : Command → Option Files → Option Fault → Option Refusal → Type 0
RefusedFor c files answer refused = answer ≡ Some fault.OpenFault → IfSome refused (λ r. IsAsked c files r.kind r.name)

-- after a fault of reading, where the input is told, that is what was asked for
abbrev pub ReadFrom : Command → Option Files → Option Fault → Option Desk → Type 0
ReadFrom c files answer desk = answer ≡ Some fault.ReadFault
    → IfSome desk (λ d. (name : List ℕ) × (d.input ≡ Some name) × IsAsked c files Input name)

-- ---- what can be done is done

-- The schema of a command passes, and by it the file, whose bytes are below 256, is accepted.
abbrev pub CanBeDone : Command → Files → Type 0
CanBeDone (command.Schema name) files = (schema : Schema) × HasSchema name files schema
CanBeDone (Check name file) files = Accepts name file files (λ schema whole bytes. AreBytes bytes)
CanBeDone (Refs name file) files = Accepts name file files (λ schema whole bytes. AreBytes bytes)
CanBeDone (Copy name file copy) files = Accepts name file files (λ schema whole bytes. AreBytes bytes)

-- no count of faults of a shelf rose
pub record NoneRose (old new : Counts) : Type 0 where
  pub opening : ¬ Rose old.opens new.opens
  pub reading : ¬ Rose old.reads new.reads
  pub writing : ¬ Rose old.writes new.writes

-- it was done, or memory ran out
abbrev pub IsDone : Option Fault → Type 0
IsDone answer = (answer ≡ None) ⊎ (answer ≡ Some fault.NoMemory)

-- Where a command can be done and no count of faults rose, it has no other answer.
abbrev pub DoneOnly : Command → Type 0
DoneOnly c = (files : Files) (new : Option Files) (answer : Option Fault) (text : List ℕ) (before after : Counts)
    → CanBeDone c files
    → Answers (Some c) (Some files) new answer text → HasCauses answer before after → NoneRose before after
    → IsDone answer
