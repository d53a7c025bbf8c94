-- Where reading a value stops, and why: the first fault that is met. The first members are read, and the next one
-- fails at the place behind them.
use Rattle.std.specs.Prelude.{ℕ, zero, suc, ◌≡◌, ◌+◌, ◌<◌, ◌≤◌, ◌⊎◌, Bool, true, false, None, Some, List, [], ◌∷◌}
use Rattle.std.specs.declared.option.Option.{Option}
use Rattle.nif_base.specs.declared.orders.Order.{Order}
use Rattle.nif_base.specs.Node.{Node}
use Rattle.nif_schema.specs.Declaration.{Field}
use Rattle.nif_schema.specs.Schema.{Schema}
use Rattle.nif_layout.specs.Context.{Context}
use Rattle.nif_layout.specs.Earlier.{Env, behind}
use Rattle.nif_layout.specs.Present.{present}
use Rattle.nif_layout.specs.Kind.{Kind, Number, Line, Ref, Text, Group, Unknown}
use Rattle.nif_layout.specs.Form.{Form, One, Run, Row, form_of}
use Rattle.nif_base.specs.Limits.{most_nodes}
use Rattle.nif_layout.specs.Fault.{Fault, TooDeep, TooManyNodes, Point, Reads, one_more}
use Rattle.nif_layout.specs.LeafFault.{shortage, leaf_fault}
use Rattle.nif_layout.specs.Members.{Check, no_check}
use Rattle.nif_layout.specs.Shape.{IsForm, Shape, FormShape}

-- A node or an absent member is counted first; then `Rest` says what fails.
abbrev pub Counted : {Why : Type 0} → (Fault → Why) → (Point → Why → Type 0) → Point → Why → Type 0
Counted by_fault Rest at why =
    ((most_nodes ≤ at.nodes) × (why ≡ by_fault (TooManyNodes at.place)))
    ⊎ ((at.nodes < most_nodes) × Rest (one_more at) why)

-- A fault of a value as the reason of what it stands in.
abbrev pub Lifted : {Why : Type 0} → (Fault → Why) → (Point → Fault → Type 0) → Point → Why → Type 0
Lifted by_fault Fails at why = (fault : Fault) × (why ≡ by_fault fault) × Fails at fault

-- The next member fails, or it is read and what `Rest` says fails behind it.
abbrev pub MemberFails : {Why : Type 0} → (Fault → Why) → Order → Bool → (Node → Type 0) → (Point → Fault → Type 0)
    → (Option Node → Point → Why → Type 0) → Point → Why → Type 0
MemberFails by_fault order true Value Fails Rest at why =
    Lifted by_fault Fails at why
    ⊎ ((node : Node) × (next : Point) × Value node × Reads order node at next × Rest (Some node) next why)
MemberFails by_fault order false Value Fails Rest at why = Counted by_fault (Rest None) at why

-- The first members of a line are read and not refused, and the next one fails or is refused.
abbrev pub FieldsFail : {Why : Type 0} → (Fault → Why) → (Env → Order) → (Env → Field → Bool)
    → (Env → Field → Node → Type 0) → (Env → Field → Point → Fault → Type 0) → Check Why → List Field → Env → Point
    → Why → Type 0
FieldsFail by_fault order here Value Fails check [] E at why = ⊥
FieldsFail by_fault order here Value Fails check (f ∷ fields) E at why =
    MemberFails by_fault (order E) (here E f) (Value E f) (Fails E f)
    (λ got next w. (check E f got ≡ Some w) ⊎ ((check E f got ≡ None)
    × FieldsFail by_fault order here Value Fails check fields (behind f got E) next w)) at why

-- The first of n items are read, and the next one fails.
abbrev pub ItemsFail : Order → (ℕ → Node → Type 0) → (ℕ → Point → Fault → Type 0) → ℕ → ℕ → Point → Fault → Type 0
ItemsFail order Value Fails i zero at fault = ⊥
ItemsFail order Value Fails i (suc n) at fault =
    MemberFails (λ f. f) order true (Value i) (Fails i) (λ got. ItemsFail order Value Fails (i + 1) n) at fault

-- The value of a field fails, where `Single` says what one value is and `Fails` where it fails.
abbrev pub FormFails : Order → (Kind → Node → Type 0) → (Kind → Point → Fault → Type 0) → Form → Point → Fault → Type 0
FormFails order Single Fails (One kind) at fault = Fails kind at fault
FormFails order Single Fails (Run n) at fault = Counted (λ f. f) (λ next f. shortage n next ≡ Some f) at fault
FormFails order Single Fails (Row n item) at fault =
    Counted (λ f. f) (ItemsFail order (λ i. IsForm Single (item i))
    (λ i. FormFails order Single Fails (item i)) 0 n) at fault

abbrev pub LeafFails : Context → Kind → Point → Fault → Type 0
LeafFails C kind at fault = Counted (λ f. f) (λ next f. leaf_fault C kind next ≡ Some f) at fault

abbrev pub GroupFails : Schema → Context → (Kind → Node → Type 0) → (Kind → Point → Fault → Type 0) → List Field
    → Option ℕ → ℕ → Point → Fault → Type 0
GroupFails schema C Single Fails fields template arg at fault =
    FieldsFail (λ f. f) (λ E. C.order) (present schema C arg) (λ E f. IsForm Single (form_of schema C template arg E f))
    (λ E f. FormFails C.order Single Fails (form_of schema C template arg E f)) no_check fields [] at fault

-- One value of a kind, in which groups may lie at most d deep, fails at this point with this fault.
abbrev pub Fails : Schema → Context → ℕ → Kind → Point → Fault → Type 0
Fails schema C d (Number width little) at fault = LeafFails C (Number width little) at fault
Fails schema C d Line at fault = LeafFails C Line at fault
Fails schema C d (Ref strong wanted) at fault = LeafFails C (Ref strong wanted) at fault
Fails schema C d Text at fault = LeafFails C Text at fault
Fails schema C zero (Group fields template arg) at fault = fault ≡ TooDeep at.place
Fails schema C (suc d) (Group fields template arg) at fault =
    Counted (λ f. f) (GroupFails schema C (Shape schema C d) (Fails schema C d) fields template arg) at fault
Fails schema C d Unknown at fault = ⊥

-- The value of a field fails.
abbrev pub FormShapeFails : Schema → Context → ℕ → Form → Point → Fault → Type 0
FormShapeFails schema C d form at fault = FormFails C.order (Shape schema C d) (Fails schema C d) form at fault

-- The members of a line fail, each in the context that holds for it behind those before it, or one is refused.
abbrev pub LineFails : {Why : Type 0} → Schema → (Env → Context) → ℕ → Option ℕ → ℕ → (Fault → Why) → Check Why
    → List Field → Env → Point → Why → Type 0
LineFails schema at d template arg by_fault check fields E point why =
    FieldsFail by_fault (λ E. (at E).order) (λ E f. present schema (at E) arg E f)
    (λ E f. FormShape schema (at E) d (form_of schema (at E) template arg E f))
    (λ E f. FormShapeFails schema (at E) d (form_of schema (at E) template arg E f)) check fields E point why
