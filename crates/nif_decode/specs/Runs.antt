-- Runs of bytes, taken in pieces.
use Rattle.std.specs.Prelude.{ℕ, ◌≡◌, ◌+◌, ◌≤◌, Bool, true, false, List, [], ◌∷◌, ◌++◌, map, length, None, Some, Ok, Err, IsSome}
use Rattle.std.specs.declared.result.Result.{Result}
use Rattle.std.specs.declared.option.Option.{Option}
use Rattle.nif_base.specs.Limits.{most_nodes}
use Rattle.nif_stream.specs.Taking.{Takes, place_of}
use Rattle.nif_layout.specs.Leaf.{AreBytes}
use Rattle.nif_layout.specs.LeafFault.{shortage}
use Rattle.nif_layout.specs.PathValue.{extended}
use Rattle.nif_cells.specs.Building.{Level, InBytes, lengthened, nodes_open, bytes_open}
use Rattle.nif_value.specs.Trees.{after}
use Rattle.nif_scope.specs.declared.entries.Entry.{Entry}
use Rattle.nif_scope.specs.declared.entries.Entry.TheVariants as entry
use Rattle.nif_decode.specs.declared.faults.ValueFault.{ValueFault}
use Rattle.nif_decode.specs.Faults.{cause}
use Rattle.nif_decode.specs.Answers.{Stand, Ends, IsReadyTaker}

-- the bytes as items, where items are asked for
abbrev pub bytes_kept : Bool → List ℕ → List Entry
bytes_kept true bytes = map (λ b. entry.Number b (extended true 1 b)) bytes
bytes_kept false bytes = []

-- A run of bytes is open, of none yet, in a tree with room.
pub record HasRun {S : Type 0} (at : Stand S) : Type 0 where
  pub taker : IsReadyTaker at.taker
  pub outer : List Level
  pub is : at.building ≡ Some (record { top = None; levels = InBytes [] ∷ outer })
  pub nodes : 1 + nodes_open outer ≤ most_nodes
  pub bytes : bytes_open outer ≤ place_of at.taker
  pub levels : length outer + 1 ≤ 256

-- So many bytes of the run were taken and added.
pub record RunSoFar {S : Type 0} (left : S → Option (List ℕ)) (still : S → S → Type 0) (faults : S → ℕ) (asked : Bool)
    (count : ℕ) (old new : Stand S) : Type 0 where
  pub bytes : List ℕ
  pub long : length bytes ≡ count
  pub are : AreBytes bytes
  pub takes : Takes left still faults old.taker bytes new.taker
  pub built : new.building ≡ after old.building (lengthened bytes)
  pub told : new.told ≡ old.told ++ bytes_kept asked bytes

-- The run is read, or it fails.
abbrev pub RunAnswers : {S : Type 0} → (S → Option (List ℕ)) → (S → S → Type 0) → (S → ℕ) → Bool → ℕ → Stand S
    → Stand S → Result (Unit {0}) ValueFault → Type 0
RunAnswers left still faults asked count old new (Ok _) = RunSoFar left still faults asked count old new
RunAnswers left still faults asked count old new (Err fault) =
    IsSome new.building × Ends left still faults (shortage count) old.taker new.taker (cause fault)
