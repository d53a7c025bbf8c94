-- What a walk leaves behind it, node after node, and what is kept of each on the way.
use Rattle.std.specs.Prelude.{ℕ, zero, suc, false, List, [], ◌∷◌}
use Rattle.nif_base.specs.Node.{Bytes}
use Rattle.nif_cells.specs.Walks.{Met, Leaf, Opens}
use Rattle.nif_cells.specs.declared.steps.Step.{Step}
use Rattle.nif_value.specs.Walking.{step_of, bytes_met, walked}
use Rattle.nif_encode.specs.Texts.{given, depth_after, where_open, behind_one}

-- behind the first nodes and absent members, so many of them
abbrev pub behind_first : ℕ → List Met → List Met
behind_first zero ahead = ahead
behind_first (suc count) ahead = behind_one 0 (behind_first count ahead)

-- what is ahead behind the next step
abbrev pub behind_step : List Met → List Met
behind_step ahead = (walked ahead).ahead

-- how many members the group has that is met next
abbrev pub members_ahead : List Met → ℕ
members_ahead (Opens false members ∷ rest) = members
members_ahead _ = 0

-- the run of bytes that is met next
abbrev pub run_ahead : List Met → List ℕ
run_ahead (Leaf (Bytes bytes) ∷ rest) = bytes
run_ahead _ = []

-- what is kept, after a step with the bytes that it gives to be copied
abbrev pub Keeps : Type 0 → Type 0
Keeps A = Step → List ℕ → A → A

-- what is kept behind the step with which none is open
abbrev pub kept_one : {A : Type 0} → Keeps A → ℕ → List Met → A → A
kept_one keep depth [] kept = kept
kept_one keep depth (met ∷ rest) kept =
    where_open (depth_after depth (step_of met))
    (kept_one keep (depth_after depth (step_of met)) rest (keep (step_of met) (given (bytes_met met)) kept))
    (keep (step_of met) (given (bytes_met met)) kept)
