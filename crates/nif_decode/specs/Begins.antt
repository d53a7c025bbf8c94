-- What the calls answer that begin a run of bytes, a group or a row.
use Rattle.std.specs.Prelude.{ℕ, ◌≡◌, ◌+◌, ◌<◌, ◌≤◌, ◌⊎◌, List, [], ◌∷◌, ◌++◌, Ok, Err, Some, IsSome, length}
use Rattle.std.specs.declared.result.Result.{Result}
use Rattle.nif_base.specs.Node as node
use Rattle.nif_base.specs.Node.{Node}
use Rattle.nif_stream.specs.Taking.{place_of}
use Rattle.nif_layout.specs.Fault as plain
use Rattle.nif_base.specs.Limits.{most_nodes}
use Rattle.nif_layout.specs.Fault.{Fault, Point}
use Rattle.nif_layout.specs.Leaf.{AreBytes}
use Rattle.nif_layout.specs.LeafFault.{shortage}
use Rattle.nif_layout.specs.Fails.{Counted}
use Rattle.nif_cells.specs.Building.{Level, opened, left_out}
use Rattle.nif_value.specs.Trees.{after}
use Rattle.nif_scope.specs.declared.entries.Entry.{Entry}
use Rattle.nif_scope.specs.declared.entries.Entry.TheVariants as entry
use Rattle.nif_decode.specs.declared.faults.ValueFault.{ValueFault}
use Rattle.nif_decode.specs.Faults.{OfValue, OfMemory, cause}
use Rattle.nif_decode.specs.Answers.{Stand}

-- A node was counted and its level is open, or there are too many nodes, or memory ran out.
pub record Opens {S : Type 0} (level : Level) (kept : List Entry) (old new : Stand S) : Type 0 where
  pub room : old.nodes < most_nodes
  pub nodes : new.nodes ≡ old.nodes + 1
  pub building : new.building ≡ after old.building (opened level)
  pub told : new.told ≡ old.told ++ kept

abbrev pub Begins : {S : Type 0} → Level → List Entry → Stand S → Stand S → Result (Unit {0}) ValueFault → Type 0
Begins level kept old new (Ok _) = Opens level kept old new
Begins level kept old new (Err fault) =
    IsSome new.building × ((cause fault ≡ OfMemory)
    ⊎ ((most_nodes ≤ old.nodes) × (cause fault ≡ OfValue (plain.TooManyNodes (place_of old.taker)))))

-- An absent member was counted and left out.
pub record LeftOut {S : Type 0} (old new : Stand S) : Type 0 where
  pub room : old.nodes < most_nodes
  pub nodes : new.nodes ≡ old.nodes + 1
  pub building : new.building ≡ after old.building left_out
  pub told : new.told ≡ old.told ++ entry.Absent ∷ []

abbrev pub LeavesOut : {S : Type 0} → Stand S → Stand S → Result (Unit {0}) ValueFault → Type 0
LeavesOut old new (Ok _) = LeftOut old new
LeavesOut old new (Err fault) =
    IsSome new.building × ((cause fault ≡ OfMemory)
    ⊎ ((most_nodes ≤ old.nodes) × (cause fault ≡ OfValue (plain.TooManyNodes (place_of old.taker)))))

-- a run of so many bytes
abbrev pub IsRun : ℕ → Node → Type 0
IsRun n at = (bytes : List ℕ) × (at ≡ node.Bytes bytes) × (length bytes ≡ n) × AreBytes bytes

abbrev pub RunFails : ℕ → Point → Fault → Type 0
RunFails n at fault = Counted (λ f. f) (λ next f. shortage n next ≡ Some f) at fault
