-- What a sink has taken of the bytes that were put to it through a putter.
use Rattle.std.specs.Prelude.{◌≡◌, ◌≤◌, ℕ, List, ◌++◌, take, true, false}
use Rattle.std.specs.Borrow.{MutBor}
use Rattle.nif_base.specs.Outside.{Rose}
use Rattle.nif_stream.specs.declared.putters.Putter.{Putter}

-- the sink of the putter, as it stands
abbrev pub sink_of : {K : Type 0} → Putter K → K
sink_of putter = putter.sink.now

-- the putter writes through this reference
abbrev pub WritesTo : {K : Type 0} → Putter K → MutBor K → Type 0
WritesTo putter reference = putter.sink.ghost_name ≡ reference.ghost_name

-- no write of the putter has failed
abbrev pub IsSound : {K : Type 0} → Putter K → Type 0
IsSound putter = putter.failed ≡ false

-- a write of the putter has failed
abbrev pub HasFailed : {K : Type 0} → Putter K → Type 0
HasFailed putter = putter.failed ≡ true

-- since the start the sink took the first of these bytes, in order, and nothing else
unfoldable pub HasTaken : {K : Type 0} → (K → List ℕ → K → Type 0) → K → K → List ℕ → Type 0
HasTaken grew start now all = (count : ℕ) × grew start (take count all) now

-- these are all the bytes that were put since the start: those that the sink took, and behind them those that are
-- pending
unfoldable pub HasPut : {K : Type 0} → (K → List ℕ → K → Type 0) → K → Putter K → List ℕ → Type 0
HasPut grew start putter all = (sent : List ℕ) × grew start sent (sink_of putter) × (sent ++ putter.pending ≡ all)

-- whatever was put before, these bytes were put behind it
unfoldable pub Adds : {K : Type 0} → (K → List ℕ → K → Type 0) → Putter K → List ℕ → Putter K → Type 0
Adds {K = K} grew old bytes new =
    (start : K) (all : List ℕ) → HasPut grew start old all → HasPut grew start new (all ++ bytes)

-- whatever was put before, the sink took the first of it and of these bytes behind it
unfoldable pub AddsPart : {K : Type 0} → (K → List ℕ → K → Type 0) → Putter K → List ℕ → Putter K → Type 0
AddsPart {K = K} grew old bytes new =
    (start : K) (all : List ℕ) → HasPut grew start old all → HasTaken grew start (sink_of new) (all ++ bytes)

-- a call put these bytes
pub record Puts {K : Type 0} (grew : K → List ℕ → K → Type 0) (faults : K → ℕ) (old : Putter K) (bytes : List ℕ)
    (new : Putter K) : Type 0 where
  pub same_reference : new.sink.ghost_name ≡ old.sink.ghost_name
  pub later : faults (sink_of old) ≤ faults (sink_of new)
  pub sound : IsSound new
  pub adds : Adds grew old bytes new

-- a call that was to put these bytes answered a fault: the sink's count of faults rose in it, unless a write had
-- failed before
pub record Fails {K : Type 0} (grew : K → List ℕ → K → Type 0) (faults : K → ℕ) (old : Putter K) (bytes : List ℕ)
    (new : Putter K) : Type 0 where
  pub same_reference : new.sink.ghost_name ≡ old.sink.ghost_name
  pub later : faults (sink_of old) ≤ faults (sink_of new)
  pub failed : HasFailed new
  pub rose : IsSound old → Rose (faults (sink_of old)) (faults (sink_of new))
  pub adds_part : AddsPart grew old bytes new
