-- The bytes of what a walk meets, and those of one node or absent member among them.
use Rattle.std.specs.Prelude.{ℕ, zero, suc, ◌-◌, ◌<◌, ◌||◌, true, false, List, [], ◌∷◌, ◌++◌, Option, None, Some, IsSome, slice_get, unwrap_or, option_and_then}
use Rattle.nif_base.specs.Node.{Node, Members, Group, Row, End, Here, Absent, number, is_little, place_or_none, text, texts, retargeted, retargeted_in}
use Rattle.nif_cells.specs.Walks.{Met, Leaf, Opens, LeftOut, count}
use Rattle.nif_cells.specs.declared.steps.Step.{Step}
use Rattle.nif_cells.specs.declared.steps.Step.TheVariants as step
use Rattle.nif_encode.specs.declared.steps.Targets.{Targets}
use Rattle.nif_value.specs.Walking.{step_of, bytes_met}

-- the bytes to be copied, or none
abbrev pub given : Option (List ℕ) → List ℕ
given None = []
given (Some bytes) = bytes

-- the place that the table tells of a name, none past its end
abbrev pub placed : List (Option ℕ) → ℕ → Option ℕ
placed places name = unwrap_or (slice_get places name) None

-- The bytes of a node in which the targets are names, each put as its place.
abbrev pub spelled : Targets → Node → List ℕ
spelled to node = text to.order (retargeted (placed to.places.now) node)

abbrev pub spelled_in : Targets → Members → List ℕ
spelled_in to members = texts to.order (retargeted_in (placed to.places.now) members)

-- the bytes of a step, with the bytes to be copied of it
abbrev pub step_text : Targets → Step → Option (List ℕ) → List ℕ
step_text to (step.Num width little bits) bytes = number (little || is_little to.order) width bits
step_text to (step.Line len) bytes = given bytes ++ 0x0A ∷ []
step_text to (step.Ref view) bytes =
    number (is_little to.order) 4 (place_or_none (option_and_then (placed to.places.now) view.target))
step_text to (step.Text index) bytes = number (is_little to.order) 4 (place_or_none index)
step_text to (step.Bytes len) bytes = given bytes
step_text to (step.Group members) bytes = []
step_text to (step.Row items) bytes = []
step_text to step.Absent bytes = []
step_text to step.End bytes = []

-- there are bytes to be copied of a line or a run of bytes
abbrev pub HasGiven : Step → Option (List ℕ) → Type 0
HasGiven (step.Line len) bytes = IsSome bytes
HasGiven (step.Bytes len) bytes = IsSome bytes
HasGiven _ bytes = Unit {0}

abbrev pub met_text : Targets → Met → List ℕ
met_text to met = step_text to (step_of met) (bytes_met met)

-- how many groups and rows are open after a step
abbrev pub depth_after : ℕ → Step → ℕ
depth_after depth (step.Group members) = suc depth
depth_after depth (step.Row items) = suc depth
depth_after depth step.End = depth - 1
depth_after depth _ = depth

-- one thing where some group or row is open, another where none is
abbrev pub where_open : {A : Type 0} → ℕ → A → A → A
where_open zero some none = none
where_open (suc depth) some none = some

-- Of what is ahead where so many groups and rows are open: the bytes up to the step with which none is open.
abbrev pub one_text : Targets → ℕ → List Met → List ℕ
one_text to depth [] = []
one_text to depth (met ∷ rest) =
    met_text to met ++ where_open (depth_after depth (step_of met))
    (one_text to (depth_after depth (step_of met)) rest) []

-- and what is ahead behind that step
abbrev pub behind_one : ℕ → List Met → List Met
behind_one depth [] = []
behind_one depth (met ∷ rest) =
    where_open (depth_after depth (step_of met)) (behind_one (depth_after depth (step_of met)) rest) rest

-- behind so many
abbrev pub behind_many : ℕ → List Met → List Met
behind_many zero ahead = ahead
behind_many (suc more) ahead = behind_many more (behind_one 0 ahead)

-- the bytes of a member, none where it is absent
abbrev pub text_at : Targets → ℕ → Members → List ℕ
text_at to k End = []
text_at to zero (Here node rest) = spelled to node
text_at to zero (Absent rest) = []
text_at to (suc k) (Here node rest) = text_at to k rest
text_at to (suc k) (Absent rest) = text_at to k rest

-- The bytes of a member of a group.
abbrev pub member_text : Targets → ℕ → Node → List ℕ
member_text to k (Group members) = text_at to k members
member_text to k _ = []

-- a group has more members than so many
abbrev pub HasMember : ℕ → Node → Type 0
HasMember k (Group members) = k < count members
HasMember k _ = ⊥

-- what a walk meets first of the member at a place
abbrev pub first_met : Node → Met
first_met (Group members) = Opens false (count members)
first_met (Row items) = Opens true (count items)
first_met node = Leaf node

abbrev pub met_at : ℕ → Members → Option Met
met_at k End = None
met_at zero (Here node rest) = Some (first_met node)
met_at zero (Absent rest) = Some LeftOut
met_at (suc k) (Here node rest) = met_at k rest
met_at (suc k) (Absent rest) = met_at k rest
