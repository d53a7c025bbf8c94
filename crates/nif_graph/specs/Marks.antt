-- Marks of names, and a queue of those that are still to be looked at.
use Rattle.std.specs.Prelude.{ℕ, suc, ◌≡◌, ◌+◌, ◌≤◌, length, Bool, true, false, Some, List, [], ◌∷◌, ◌++◌, ◌⊎◌, slice_get, slice_set, if◌then◌else◌}
use Rattle.nif_base.specs.Node.{Reference}
use Rattle.nif_base.specs.Graph.{Named}
use Rattle.nif_graph.specs.Reach.{Reaches}

abbrev pub IsMarked : List Bool → ℕ → Type 0
IsMarked marks n = slice_get marks n ≡ Some true

-- how many are not marked
abbrev pub unmarked : List Bool → ℕ
unmarked [] = 0
unmarked (m ∷ marks) = if m then unmarked marks else suc (unmarked marks)

-- a name stands in the queue, from a place on
abbrev pub IsQueued : List ℕ → ℕ → ℕ → Type 0
IsQueued queue from n = (i : ℕ) × (from ≤ i) × (slice_get queue i ≡ Some n)

-- A name that was not marked is marked and queued.
abbrev pub IsMarkedOnce : ℕ → List Bool → List ℕ → List Bool → List ℕ → Type 0
IsMarkedOnce n marks0 queue0 marks queue =
    (IsMarked marks0 n × (marks ≡ marks0) × (queue ≡ queue0))
    ⊎ ((slice_get marks0 n ≡ Some false) × (marks ≡ slice_set marks0 n true) × (queue ≡ queue0 ++ n ∷ []))

-- one of these references is strong and to this block
abbrev pub Links : List Reference → ℕ → Type 0
Links links t =
    (k : ℕ) × (r : Reference) × (slice_get links k ≡ Some r) × (r.strong ≡ true) × (r.target ≡ Some t)

-- All that they link to is marked.
abbrev pub AllMarked : List Reference → List Bool → Type 0
AllMarked links marks = (t : ℕ) → Links links t → IsMarked marks t

-- What stands after the targets of strong references were marked.
pub record IsExpanded (links : List Reference) (marks0 : List Bool) (queue0 : List ℕ) (marks : List Bool)
    (queue : List ℕ) : Type 0 where
  pub len : length marks ≡ length marks0
  pub longer : length queue0 ≤ length queue
  pub grown : (n : ℕ) → IsMarked marks0 n → IsMarked marks n
  pub led : (n : ℕ) → IsMarked marks n → IsMarked marks0 n ⊎ (Links links n × IsQueued queue (length queue0) n)
  pub front : (i x : ℕ) → slice_get queue0 i ≡ Some x → slice_get queue i ≡ Some x
  pub back : (i x : ℕ) → slice_get queue i ≡ Some x → (slice_get queue0 i ≡ Some x) ⊎ Links links x
  pub all : AllMarked links marks
  pub count : length queue + unmarked marks ≡ length queue0 + unmarked marks0

-- What is marked is what a walk of strong references leads to.
abbrev pub TellsReached : List Named → ℕ → List Bool → Type 0
TellsReached blocks from marks =
    (n : ℕ) (marked : Bool) → slice_get marks n ≡ Some marked
    → (marked ≡ true → Reaches blocks from n) × (Reaches blocks from n → marked ≡ true)
