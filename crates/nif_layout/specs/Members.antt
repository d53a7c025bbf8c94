-- One member behind another: of a group by the fields of a line, of a row by the places of its items.
use Rattle.std.specs.Prelude.{ℕ, zero, suc, ◌≡◌, ◌+◌, Bool, true, false, None, Some, List, [], ◌∷◌, ◌++◌}
use Rattle.std.specs.declared.option.Option.{Option}
use Rattle.nif_base.specs.declared.orders.Order.{Order}
use Rattle.nif_base.specs.Node.{Node, Members, End, Here, Absent, text}
use Rattle.nif_schema.specs.Declaration.{Field}
use Rattle.nif_layout.specs.Earlier.{Env, behind}

-- The next member is present and what `Value` says, or it is absent. `Rest` says what follows it.
abbrev pub Member : Bool → (Node → Type 0) → (Option Node → Members → Type 0) → Members → Type 0
Member true Value Rest members =
    (node : Node) × (rest : Members) × (members ≡ Here node rest) × Value node × Rest (Some node) rest
Member false Value Rest members = (rest : Members) × (members ≡ Absent rest) × Rest None rest

-- Why a member that was read is refused, if it is, behind the fields before it. Only members of the header are checked.
abbrev pub Check : Type 0 → Type 0
Check Why = Env → Field → Option Node → Option Why

abbrev pub no_check : {Why : Type 0} → Check Why
no_check E f got = None

-- One member for each field, absent exactly where the field isn't present behind those before it, and none refused.
abbrev pub Fields : {Why : Type 0} → (Env → Field → Bool) → (Env → Field → Node → Type 0) → Check Why → List Field
    → Env → Members → Type 0
Fields here Value check [] E members = members ≡ End
Fields here Value check (f ∷ fields) E members =
    Member (here E f) (Value E f) (λ got rest. (check E f got ≡ None)
    × Fields here Value check fields (behind f got E) rest) members

-- exactly n items from place i on, each as `Value` says of its place
abbrev pub Items : (ℕ → Node → Type 0) → ℕ → ℕ → Members → Type 0
Items Value i zero items = items ≡ End
Items Value i (suc n) items = Member true (Value i) (λ got rest. Items Value (i + 1) n rest) items

-- the bytes of the next member, in this order, and then of those that follow it
abbrev pub member_text : Order → (Option Node → Members → List ℕ) → Members → List ℕ
member_text order rest_text End = []
member_text order rest_text (Here node rest) = text order node ++ rest_text (Some node) rest
member_text order rest_text (Absent rest) = rest_text None rest

-- The bytes of the members of a line, each in the order that holds for it behind those before it: that of the header
-- isn't known until its field was read.
abbrev pub fields_text : (Env → Order) → List Field → Env → Members → List ℕ
fields_text order [] E members = []
fields_text order (f ∷ fields) E members =
    member_text (order E) (λ got rest. fields_text order fields (behind f got E) rest) members
