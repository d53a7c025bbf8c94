-- A walk on its way.
use Rattle.std.specs.Prelude.{ℕ, true, false, List, [], ◌∷◌, length, Option, None, Some}
use Rattle.nif_base.specs.Node.{Num, Line, Ref, Text, Bytes, Group, Row}
use Rattle.nif_cells.specs.Walks.{Met, Leaf, Opens, LeftOut, Ends}
use Rattle.nif_cells.specs.declared.steps.Step.{Step}
use Rattle.nif_cells.specs.declared.steps.Step.TheVariants as step

-- what it has still to meet, and the bytes that were not yet copied of the line or run of bytes that it met last, or
-- none where it met something else
pub record Walking : Type 0 where
  pub ahead : List Met
  pub bytes : Option (List ℕ)

-- the step that says what was met
abbrev pub step_of : Met → Step
step_of (Leaf (Num width little bits)) = step.Num width little bits
step_of (Leaf (Line bytes)) = step.Line (length bytes)
step_of (Leaf (Ref strong wanted target)) = step.Ref (record { strong = strong; wanted = wanted; target = target })
step_of (Leaf (Text index)) = step.Text index
step_of (Leaf (Bytes bytes)) = step.Bytes (length bytes)
step_of (Leaf (Group members)) = step.Absent
step_of (Leaf (Row items)) = step.Absent
step_of (Opens false count) = step.Group count
step_of (Opens true count) = step.Row count
step_of LeftOut = step.Absent
step_of Ends = step.End

-- the bytes to be copied of what was met
abbrev pub bytes_met : Met → Option (List ℕ)
bytes_met (Leaf (Line bytes)) = Some bytes
bytes_met (Leaf (Bytes bytes)) = Some bytes
bytes_met _ = None

-- one step further
abbrev pub walked : List Met → Walking
walked [] = record { ahead = []; bytes = None }
walked (met ∷ rest) = record { ahead = rest; bytes = bytes_met met }

-- the next step
abbrev pub next_step : List Met → Option Step
next_step [] = None
next_step (met ∷ rest) = Some (step_of met)
