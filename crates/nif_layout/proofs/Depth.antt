-- Groups lie no deeper in a value than its bound.
use Rattle.std.proofs.Common.{◌≡◌, ℕ, zero, suc, ◌+◌, ◌≤◌, max, Bool, true, false, Option, Some, None, List, [], ◌∷◌, sym, subst, arith}
use Rattle.nif_base.specs.Node.{Node, Members, depth, depth_in}
use Rattle.nif_schema.specs.Declaration.{Field}
use Rattle.nif_schema.specs.Schema.{Schema}
use Rattle.nif_layout.specs.Context.{Context}
use Rattle.nif_layout.specs.Earlier.{Env, behind}
use Rattle.nif_layout.specs.Present.{present}
use Rattle.nif_layout.specs.Kind.{Kind, Number, Line, Ref, Text, Group, Unknown}
use Rattle.nif_layout.specs.Form.{Form, One, Run, Row, form_of}
use Rattle.nif_layout.specs.Leaf.{IsLeaf}
use Rattle.nif_layout.specs.Fault.{Fault}
use Rattle.nif_layout.specs.Members.{Member, Check, no_check, Fields, Items}
use Rattle.nif_layout.specs.Shape.{IsForm, Shape}

abbrev AtMost : ℕ → (Node → Type 0) → Type 0
AtMost d V = (at : Node) → V at → depth at ≤ d

both_at_most : (a b d : ℕ) → a ≤ d → b ≤ d → max a b ≤ d
both_at_most a b d x y = grind (arith, x, y)

member_depth : (d : ℕ) (here : Bool) (V : Node → Type 0) (R : Option Node → Members → Type 0) (a : Members) → AtMost d V
    → ((got : Option Node) (rest : Members) → R got rest → depth_in rest ≤ d) → Member here V R a → depth_in a ≤ d
member_depth d true V R a each rest h =
    let P : Members → Type 0 = λ m. depth_in m ≤ d in
    subst P (sym h.2) (both_at_most (depth h.0) (depth_in h.1) d (each h.0 h.3) (rest (Some h.0) h.1 h.4))
member_depth d false V R a each rest h =
    let P : Members → Type 0 = λ m. depth_in m ≤ d in
    subst P (sym h.1) (rest None h.0 h.2)

fields_depth : {Why : Type 0} (d : ℕ) (here : Env → Field → Bool) (V : Env → Field → Node → Type 0) (check : Check Why) → ((E : Env) (f : Field) → AtMost d (V E f))
    → (fields : List Field) (E : Env) (a : Members) → Fields here V check fields E a → depth_in a ≤ d
fields_depth d here V check each [] E a h = let P : Members → Type 0 = λ m. depth_in m ≤ d in subst P (sym h) (omega arith)
fields_depth d here V check each (f ∷ fields) E a h =
    member_depth d (here E f) (V E f) (λ got rest. (check E f got ≡ None) × Fields here V check fields (behind f got E) rest) a (each E f)
    (λ got rest r. fields_depth d here V check each fields (behind f got E) rest r.1) h

items_depth : (d : ℕ) (V : ℕ → Node → Type 0) → ((i : ℕ) → AtMost d (V i)) → (i n : ℕ) (a : Members) → Items V i n a → depth_in a ≤ d
items_depth d V each i zero a h = let P : Members → Type 0 = λ m. depth_in m ≤ d in subst P (sym h) (omega arith)
items_depth d V each i (suc n) a h = member_depth d true (V i) (λ got. Items V (i + 1) n) a (each i) (λ got rest r. items_depth d V each (i + 1) n rest r) h

form_depth : (d : ℕ) (V : Kind → Node → Type 0) → ((k : Kind) → AtMost d (V k)) → (form : Form) → AtMost d (IsForm V form)
form_depth d V each (One kind) at h = each kind at h
form_depth d V each (Run n) at h = let P : Node → Type 0 = λ m. depth m ≤ d in subst P (sym h.1) (omega arith)
form_depth d V each (Row n item) at h =
    let P : Node → Type 0 = λ m. depth m ≤ d in
    subst P (sym h.1) (items_depth d (λ i. IsForm V (item i)) (λ i. form_depth d V each (item i)) 0 n h.0 h.2)

leaf_depth : (C : Context) (d : ℕ) (kind : Kind) → AtMost d (IsLeaf C kind)
leaf_depth C d (Number width little) at h = let P : Node → Type 0 = λ m. depth m ≤ d in subst P (sym h.1) (omega arith)
leaf_depth C d Line at h = let P : Node → Type 0 = λ m. depth m ≤ d in subst P (sym h.1) (omega arith)
leaf_depth C d (Ref strong wanted) at h = let P : Node → Type 0 = λ m. depth m ≤ d in subst P (sym h.1) (omega arith)
leaf_depth C d Text at h = let P : Node → Type 0 = λ m. depth m ≤ d in subst P (sym h.1) (omega arith)
leaf_depth C d (Group fields template arg) at h = absurd h
leaf_depth C d Unknown at h = absurd h

pub shape_depth : (S : Schema) (C : Context) (d : ℕ) (kind : Kind) → (at : Node) → Shape S C d kind at → depth at ≤ d
shape_depth S C d (Number width little) at h = leaf_depth C d (Number width little) at h
shape_depth S C d Line at h = leaf_depth C d Line at h
shape_depth S C d (Ref strong wanted) at h = leaf_depth C d (Ref strong wanted) at h
shape_depth S C d Text at h = leaf_depth C d Text at h
shape_depth S C zero (Group fields template arg) at h = absurd h
shape_depth S C (suc d) (Group fields template arg) at h =
    let P : Node → Type 0 = λ m. depth m ≤ suc d in
    let in_it : depth_in h.0 ≤ d =
    fields_depth d (present S C arg) (λ E f. IsForm (Shape S C d) (form_of S C template arg E f)) (no_check {Why = Fault})
    (λ E f. form_depth d (Shape S C d) (λ k. shape_depth S C d k) (form_of S C template arg E f)) fields [] h.0 h.2 in
    subst P (sym h.1) (omega arith)
shape_depth S C d Unknown at h = absurd h
