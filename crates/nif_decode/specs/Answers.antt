-- What a reader of a value answers, and what stands after it.
use Rattle.std.specs.Prelude.{ℕ, ◌≡◌, ◌+◌, ◌≤◌, List, ◌++◌, length, Some, Ok, Err, IsSome, IfSome}
use Rattle.std.specs.declared.option.Option.{Option}
use Rattle.std.specs.declared.result.Result.{Result}
use Rattle.nif_base.specs.declared.orders.Order.{Order}
use Rattle.nif_base.specs.Node.{Node, text, nodes}
use Rattle.nif_base.specs.Outside.{Rose}
use Rattle.nif_base.specs.declared.faults.NoMemory.{NoMemory}
use Rattle.nif_stream.specs.declared.takers.Taker.{Taker}
pub use Rattle.nif_stream.specs.Taking.{Takes}
use Rattle.nif_stream.specs.Taking.{source_of, place_of, left_of, ahead_of, IsSound, KeepsStill}
use Rattle.nif_base.specs.Limits.{most_file_bytes, most_nodes}
use Rattle.nif_layout.specs.Fault.{Fault, Point}
use Rattle.nif_layout.specs.LeafFault.{shortage, newline, line_needs, line_fault, or_else}
use Rattle.nif_cells.specs.Building.{Building, placed, TakesNode}
use Rattle.nif_value.specs.Trees.{Trees, after, nodes_built, bytes_built}
use Rattle.nif_scope.specs.declared.entries.Entry.{Entry}
use Rattle.nif_decode.specs.declared.faults.ValueFault.{ValueFault}
use Rattle.nif_decode.specs.Faults.{Cause, OfValue, OfRead, OfMemory, cause, IsGone}

-- Where a reader stands: its taker, the nodes that were counted, the tree that is being built, and what is kept of
-- what was read.
pub record Stand (S : Type 0) : Type 0 where
  pub taker : Taker S
  pub nodes : ℕ
  pub building : Option Building
  pub told : List Entry

abbrev pub stand : {S : Type 0} → Taker S → ℕ → Trees → List Entry → Stand S
stand taker nodes store told = record { taker = taker; nodes = nodes; building = store.building; told = told }

-- before these bytes, as a point of a file
abbrev pub point : {S : Type 0} → Stand S → List ℕ → Point
point at bytes = record { nodes = at.nodes; place = place_of at.taker; left = bytes }

-- the fault of a line, behind the count of its node
abbrev pub line_ends : Point → Option Fault
line_ends p = or_else (shortage (line_needs (newline 256 p.left)) p) (line_fault (newline 256 p.left) p.place)

-- A taker that has not failed, with what holds of each.
pub record IsReadyTaker {S : Type 0} (taker : Taker S) : Type 0 where
  pub sound : IsSound taker
  pub ahead : ahead_of taker ≤ 4096
  pub within : place_of taker ≤ most_file_bytes

-- Bytes were taken, and so many nodes counted.
pub record Goes {S : Type 0} (left : S → Option (List ℕ)) (still : S → S → Type 0) (faults : S → ℕ) (bytes : List ℕ)
    (count : ℕ) (old new : Stand S) : Type 0 where
  pub takes : Takes left still faults old.taker bytes new.taker
  pub nodes : new.nodes ≡ old.nodes + count
  pub counted : new.nodes ≤ most_nodes

-- A call did not succeed: nothing but reads was done to the source, and no count of faults fell.
pub record Went {S : Type 0} (still : S → S → Type 0) (faults : S → ℕ) (old new : Taker S) : Type 0 where
  pub same_reference : new.source.ghost_name ≡ old.source.ghost_name
  pub keeps : KeepsStill still old new
  pub later : faults (source_of old) ≤ faults (source_of new)

-- What is said of the bytes that are left, where they are told.
abbrev pub IfTold : {S : Type 0} → (S → Option (List ℕ)) → (Point → Type 0) → Stand S → Type 0
IfTold left P at = IfSome (left_of left at.taker) (λ bytes. P (point at bytes))

-- A value fails with this fault, and the source gave little more than what shows it.
pub record FailsThere (Fails : Point → Fault → Type 0) (fault : Fault) (rest : Option (List ℕ))
    (at : Point) : Type 0 where
  pub fails : Fails at fault
  pub gone : IsGone (at.place + length at.left) fault rest

-- Why a call did not succeed.
abbrev pub Stops : {S : Type 0} → (S → Option (List ℕ)) → (S → ℕ) → (Point → Fault → Type 0) → Stand S → Taker S
    → Cause → Type 0
Stops left faults Fails old new (OfValue fault) = IfTold left (FailsThere Fails fault (left (source_of new))) old
Stops left faults Fails old new OfRead = Rose (faults (source_of old.taker)) (faults (source_of new))
Stops left faults Fails old new OfMemory = Unit {0}

-- What a taker alone answers: the fault of the bytes that are left, which are at the place of the taker.
pub record Ends {S : Type 0} (left : S → Option (List ℕ)) (still : S → S → Type 0) (faults : S → ℕ)
    (expected : Point → Option Fault) (old new : Taker S) (why : Cause) : Type 0 where
  pub went : Went still faults old new
  pub stops : (nodes : ℕ) (building : Option Building) (told : List Entry)
      → Stops left faults (λ p f. expected p ≡ Some f)
      (record { taker = old; nodes = nodes; building = building; told = told }) new why

-- The tree that is being built takes a node, and this many levels more may be opened in it. What it holds is counted
-- and was taken.
pub record HasRoom {S : Type 0} (at : Stand S) (more : ℕ) : Type 0 where
  pub tree : Building
  pub is : at.building ≡ Some tree
  pub takes : TakesNode tree
  pub nodes : nodes_built tree ≤ at.nodes
  pub bytes : bytes_built tree ≤ place_of at.taker
  pub levels : length tree.levels + more ≤ 256

-- A reader may begin.
pub record IsReady {S : Type 0} (at : Stand S) (more : ℕ) : Type 0 where
  pub taker : IsReadyTaker at.taker
  pub counted : at.nodes ≤ most_nodes
  pub room : HasRoom at more

-- A node was read.
pub record ReadsNode {S : Type 0} (left : S → Option (List ℕ)) (still : S → S → Type 0) (faults : S → ℕ) (order : Order)
    (IsIt : Node → Type 0) (keeps : Node → List Entry) (old new : Stand S) : Type 0 where
  pub node : Node
  pub is : IsIt node
  pub goes : Goes left still faults (text order node) (nodes node) old new
  pub built : new.building ≡ after old.building (placed node)
  pub told : new.told ≡ old.told ++ keeps node

-- A node was added to what stands, or want of memory left some of it.
abbrev pub Adds : Node → List Entry → Trees → List Entry → Trees → List Entry → Result (Unit {0}) NoMemory → Type 0
Adds node kept old told new told_new (Ok _) =
    (new.building ≡ after old.building (placed node)) × (told_new ≡ told ++ kept)
Adds node kept old told new told_new (Err _) = IsSome new.building

-- A call did not succeed, for a cause.
pub record Ceases {S : Type 0} (left : S → Option (List ℕ)) (still : S → S → Type 0) (faults : S → ℕ)
    (Fails : Point → Fault → Type 0) (old new : Stand S) (why : Cause) : Type 0 where
  pub went : Went still faults old.taker new.taker
  pub building : IsSome new.building
  pub stops : Stops left faults Fails old new.taker why

-- A value is read, or it fails.
abbrev pub Answers : {S : Type 0} → (S → Option (List ℕ)) → (S → S → Type 0) → (S → ℕ) → Order → (Node → Type 0)
    → (Point → Fault → Type 0) → (Node → List Entry) → Stand S → Stand S → Result (Unit {0}) ValueFault → Type 0
Answers left still faults order IsIt Fails keeps old new (Ok _) = ReadsNode left still faults order IsIt keeps old new
Answers left still faults order IsIt Fails keeps old new (Err fault) =
    Ceases left still faults Fails old new (cause fault)
