-- The laws of files.
use Rattle.std.specs.Prelude.{ℕ, ◌≡◌, ◌<◌, ◌≤◌, Some, List, length, is_some, codes}
use Rattle.std.specs.declared.option.Option.{Option}
use Rattle.nif_base.specs.Node.{Reference}
use Rattle.nif_base.specs.Graph.{Origin}
use Rattle.nif_graph.specs.Graph.{reference}
use Rattle.nif_graph.specs.Reach.{DeclaresTypes}
use Rattle.nif_graph.specs.Written.{graph_of, is_indexed, numbered}
use Rattle.nif_graph.specs.declared.places.RolePlaces.{RolePlaces}
use Rattle.nif_file.specs.GraphOf.{types_in}
use Rattle.nif_file.specs.Head.{member}
use Rattle.nif_file.specs.Heads.{ArePlaces}
use Rattle.nif_base.specs.File.{File}
use Rattle.nif_schema.specs.Schema.{Schema}
use Rattle.nif_layout.specs.Leaf.{AreBytes}
use Rattle.nif_layout.specs.Laws.{ExactlyOne}
use Rattle.nif_file.specs.declared.faults.FileFault.{FileFault}
use Rattle.nif_file.specs.Files.{IsFile, head_in, size_of}
use Rattle.nif_file.specs.FileFails.{FileFails, IsKnown}

-- ---- one file or one fault: bytes spell a file, or they have a first fault, and not both

abbrev pub FileOrFault : Schema → Type 0
FileOrFault S = (bytes : List ℕ) → AreBytes bytes → ExactlyOne ((F : File) × IsFile S F bytes) (FileFails S bytes)

-- they spell one file
abbrev pub OneFile : Schema → Type 0
OneFile S = (bytes : List ℕ) → AreBytes bytes → (F G : File) → IsFile S F bytes → IsFile S G bytes → F ≡ G

-- their fault is known at one place
abbrev pub OnePlace : Schema → Type 0
OnePlace S =
    (bytes : List ℕ) → AreBytes bytes → (fault : FileFault) (j k : ℕ) → IsKnown S bytes fault j
    → IsKnown S bytes fault k → j ≡ k

-- ---- the size of a file is the length of its text

abbrev pub SizeIsLength : Schema → Type 0
SizeIsLength S = (F : File) (bytes : List ℕ) → IsFile S F bytes → size_of S F ≡ length bytes

-- ---- no fault is known behind the last byte

abbrev pub KnownWithin : Schema → Type 0
KnownWithin S = (bytes : List ℕ) (fault : FileFault) (known : ℕ) → IsKnown S bytes fault known → known ≤ length bytes

-- ---- the graph of a file

-- it is written as the file
abbrev pub NumberedAgain : Schema → Type 0
NumberedAgain S =
    (F : File) (bytes : List ℕ) → IsFile S F bytes → (places : RolePlaces) → ArePlaces S places → (origin : Origin)
    → numbered places (graph_of places origin (types_in (head_in S F)) F) ≡ F

-- and each target in it is the name of a block
abbrev pub AimedWithin : Schema → Type 0
AimedWithin S =
    (F : File) (bytes : List ℕ) → IsFile S F bytes → (places : RolePlaces) (origin : Origin) (types : List (List ℕ))
    (from : Option ℕ) (k : ℕ) (r : Reference) (target : ℕ) → reference (graph_of places origin types F) from k ≡ Some r
    → r.target ≡ Some target → target < length F.blocks

-- and it is indexed where its header has an index of types
abbrev pub IndexedAlike : Schema → Type 0
IndexedAlike S =
    (F : File) (bytes : List ℕ) → IsFile S F bytes → (places : RolePlaces) → ArePlaces S places
    → is_indexed places F.header ≡ is_some (member (codes "Block Type Index") (head_in S F))

-- and the schema declares the types of its blocks, and those that its references want
abbrev pub TypesDeclared : Schema → Type 0
TypesDeclared S =
    (F : File) (bytes : List ℕ) → IsFile S F bytes → (places : RolePlaces) (origin : Origin) (types : List (List ℕ))
    → DeclaresTypes S (graph_of places origin types F)
