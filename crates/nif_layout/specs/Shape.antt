-- Which nodes a value of a type may be, and the bytes that spell it.
use Rattle.std.specs.Prelude.{ℕ, zero, suc, ◌≡◌, List, [], length}
use Rattle.std.specs.declared.option.Option.{Option}
use Rattle.nif_base.specs.Node as node
use Rattle.nif_base.specs.Node.{Node, Members, text}
use Rattle.nif_schema.specs.Declaration.{Field}
use Rattle.nif_schema.specs.Schema.{Schema}
use Rattle.nif_layout.specs.Context.{Context}
use Rattle.nif_layout.specs.Earlier.{Env}
use Rattle.nif_layout.specs.Present.{present}
use Rattle.nif_layout.specs.Kind.{Kind, Number, Line, Ref, Text, Group, Unknown, kind_of}
use Rattle.nif_layout.specs.Form.{Form, One, Run, Row, form_of}
use Rattle.nif_layout.specs.Leaf.{AreBytes, IsLeaf}
use Rattle.nif_layout.specs.Fault.{Fault}
use Rattle.nif_layout.specs.Members.{Check, no_check, Fields, Items}

-- The value of a field, where `Single` says what one value is.
abbrev pub IsForm : (Kind → Node → Type 0) → Form → Node → Type 0
IsForm Single (One kind) at = Single kind at
IsForm Single (Run n) at = (bytes : List ℕ) × (at ≡ node.Bytes bytes) × (length bytes ≡ n) × AreBytes bytes
IsForm Single (Row n item) at =
    (items : Members) × (at ≡ node.Row items) × Items (λ i. IsForm Single (item i)) 0 n items

-- The members of a group by the fields of a line.
abbrev pub IsGroup : Schema → Context → (Kind → Node → Type 0) → List Field → Option ℕ → ℕ → Node → Type 0
IsGroup schema C Single fields template arg at =
    (members : Members) × (at ≡ node.Group members)
    × Fields (present schema C arg) (λ E f. IsForm Single (form_of schema C template arg E f))
    (no_check {Why = Fault}) fields [] members

-- One value of a kind, in which groups lie at most d deep.
abbrev pub Shape : Schema → Context → ℕ → Kind → Node → Type 0
Shape schema C d (Number width little) at = IsLeaf C (Number width little) at
Shape schema C d Line at = IsLeaf C Line at
Shape schema C d (Ref strong wanted) at = IsLeaf C (Ref strong wanted) at
Shape schema C d Text at = IsLeaf C Text at
Shape schema C zero (Group fields template arg) at = ⊥
Shape schema C (suc d) (Group fields template arg) at = IsGroup schema C (Shape schema C d) fields template arg at
Shape schema C d Unknown at = ⊥

-- The value of a field, in which groups lie at most d deep.
abbrev pub FormShape : Schema → Context → ℕ → Form → Node → Type 0
FormShape schema C d form at = IsForm (Shape schema C d) form at

-- The members of a line, each in the context that holds for it behind those before it, and none refused.
abbrev pub LineShape : {Why : Type 0} → Schema → (Env → Context) → ℕ → Option ℕ → ℕ → Check Why → List Field → Env
    → Members → Type 0
LineShape schema at d template arg check fields E members =
    Fields (λ E f. present schema (at E) arg E f)
    (λ E f. FormShape schema (at E) d (form_of schema (at E) template arg E f)) check fields E members

-- These bytes spell this node as a value of a type, by the number of its declaration, under a template and with an
-- argument, in which groups lie at most d deep.
abbrev pub Spells : Schema → Context → ℕ → ℕ → Option ℕ → ℕ → Node → List ℕ → Type 0
Spells schema C d number template arg at bytes =
    Shape schema C d (kind_of schema C number template arg) at × (bytes ≡ text C.order at)
