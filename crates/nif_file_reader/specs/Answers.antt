-- What the reader of a file answers.
use Rattle.std.specs.Prelude.{ℕ, ◌≡◌, ◌≢◌, ◌+◌, ◌≤◌, ⊤, List, [], ◌∷◌, ◌++◌, length, None, Ok, Err, IfSome}
use Rattle.std.specs.declared.option.Option.{Option}
use Rattle.std.specs.declared.result.Result.{Result}
use Rattle.nif_base.specs.Outside.{Rose, IsAtEnd}
use Rattle.nif_base.specs.File.{File}
use Rattle.nif_schema.specs.Schema.{Schema}
use Rattle.nif_region.specs.Contents.{AreApart}
use Rattle.nif_stream.specs.declared.takers.Taker.{Taker}
use Rattle.nif_stream.specs.Taking.{source_of, left_of}
use Rattle.nif_graph.specs.declared.parts.GraphParts.{GraphParts}
use Rattle.nif_graph.specs.State.{GraphState}
use Rattle.nif_graph.specs.Written.{numbered}
use Rattle.nif_file.specs.GraphOf.{IsGraphOf}
use Rattle.nif_file.specs.declared.faults.FileFault.{FileFault}
use Rattle.nif_file.specs.declared.faults.FileFault.TheVariants as file
use Rattle.nif_file.specs.Files.{IsFile, text_of}
use Rattle.nif_file.specs.FileFails.{IsKnown}
use Rattle.nif_file_reader.specs.PartsSay.{SaysFile}
use Rattle.nif_file_reader.specs.Known.{block_trees}

-- The store holds the trees of this file and no others, each under a key of its own, and builds none.
pub record HoldsFile (parts : GraphParts) (F : File) : Type 0 where
  pub trees : parts.store.trees ≡ (parts.header.run.key, F.header) ∷ block_trees parts.blocks F.blocks
      ++ (parts.footer.run.key, F.footer) ∷ []
  pub apart : AreApart parts.store.trees
  pub building : parts.store.building ≡ None

-- The parts say a file, which the bytes spell where they are told, and behind it none are left.
pub record HasParts (S : Schema) (bytes rest : Option (List ℕ)) (parts : GraphParts) : Type 0 where
  pub file : File
  pub says : SaysFile S parts file
  pub is : IsFile S file (text_of S file)
  pub told : IfSome bytes (λ b. b ≡ text_of S file)
  pub end : IsAtEnd rest
  pub holds : HoldsFile parts file

-- The graph is that of a file, which the bytes spell where they are told, and behind it none are left; and the file is
-- what is written of the graph.
pub record HasFile (S : Schema) (bytes rest : Option (List ℕ)) (state : GraphState) : Type 0 where
  pub file : File
  pub is : IsFile S file (text_of S file)
  pub graph : IsGraphOf S file state
  pub again : numbered state.places state.graph ≡ file
  pub told : IfSome bytes (λ b. b ≡ text_of S file)
  pub end : IsAtEnd rest

-- The bytes have this first fault, and at most 4,096 behind those that show it are gone.
pub record HasFault (S : Schema) (fault : FileFault) (rest : Option (List ℕ)) (bytes : List ℕ) : Type 0 where
  pub known : ℕ
  pub is : IsKnown S bytes fault known
  pub gone : IfSome rest (λ left. length bytes ≤ known + 4096 + length left)

-- There is no file: a read failed, memory ran out, or the bytes show the fault.
pub record HasNoFile {T : Type 0} (left : T → Option (List ℕ)) (faults : T → ℕ) (S : Schema) (old new : Taker T)
    (fault : FileFault) : Type 0 where
  pub read : fault ≡ file.ReadFault → Rose (faults (source_of old)) (faults (source_of new))
  pub stops : fault ≢ file.ReadFault → fault ≢ file.NoMemory
      → IfSome (left_of left old) (HasFault S fault (left (source_of new)))

-- What the reader answers of the bytes that a taker has still to give, from their first on, as parts and as a graph.
abbrev pub GetsParts : {T : Type 0} → (T → Option (List ℕ)) → (T → ℕ) → Schema → Taker T → Taker T
    → Result GraphParts FileFault → Type 0
GetsParts left faults S old new (Ok parts) = HasParts S (left_of left old) (left (source_of new)) parts
GetsParts left faults S old new (Err fault) = HasNoFile left faults S old new fault

abbrev pub GetsFile : {T : Type 0} → (T → Option (List ℕ)) → (T → ℕ) → Schema → Taker T → Taker T
    → Result GraphState FileFault → Type 0
GetsFile left faults S old new (Ok state) = HasFile S (left_of left old) (left (source_of new)) state
GetsFile left faults S old new (Err fault) = HasNoFile left faults S old new fault

-- A file is read, and the source is at its end, or the bytes have their first fault, each where it is told; a fault of
-- a read comes only where their count rose.
abbrev pub ReadsFile : {T : Type 0} → (T → Option (List ℕ)) → (T → ℕ) → Schema → T → T → Result GraphState FileFault
    → Type 0
ReadsFile left faults S old new (Ok state) = HasFile S (left old) (left new) state
ReadsFile left faults S old new (Err file.ReadFault) = Rose (faults old) (faults new)
ReadsFile left faults S old new (Err file.NoMemory) = ⊤
ReadsFile left faults S old new (Err fault) = IfSome (left old) (HasFault S fault (left new))

-- of some bytes these parts were read
abbrev pub AreRead : Schema → GraphParts → File → Type 0
AreRead S parts F = SaysFile S parts F × IsFile S F (text_of S F) × HoldsFile parts F
