-- A value is read or fails: whole values.
use Rattle.std.proofs.Common.{◌≡◌, ℕ, zero, suc, ◌≤◌, inl, inr, Option, Some, List, [], ◌∷◌, take, refl, subst, length-take-le}
use Rattle.nif_base.specs.declared.orders.Order.{Order}
use Rattle.nif_base.specs.Node as node
use Rattle.nif_base.specs.Node.{Node, Members, text, texts, nodes, nodes_in}
use Rattle.nif_schema.specs.Declaration.{Field}
use Rattle.nif_schema.specs.Schema.{Schema}
use Rattle.nif_layout.specs.Context.{Context}
use Rattle.nif_layout.specs.Earlier.{Env}
use Rattle.nif_layout.specs.Present.{present}
use Rattle.nif_layout.specs.Kind.{Kind, Number, Line, Ref, Text, Group, Unknown}
use Rattle.nif_layout.specs.Form.{Form, One, Run, Row, form_of}
use Rattle.nif_base.specs.Limits.{most_nodes}
use Rattle.nif_layout.specs.Fault.{Fault, TooDeep, Point, Passes}
use Rattle.nif_layout.specs.LeafFault.{shortage}
use Rattle.nif_layout.specs.Members.{Check, no_check, Fields, Items, fields_text}
use Rattle.nif_layout.specs.Shape.{IsForm, IsGroup, Shape, FormShape, LineShape}
use Rattle.nif_layout.specs.Fails.{ItemsFail, FormFails, GroupFails, Fails, FormShapeFails, LineFails}
use Rattle.nif_layout.specs.CancelLaws.{same_text}
use Rattle.nif_layout.specs.DecideLaws.{Within, Decides, AllDecided, AllDecide, EachField, fields_decide, items_decide}
use Rattle.nif_layout.specs.ByteLaws.{bytes_take}
use Rattle.nif_layout.specs.RoomLaws.{Enough, enough, skip, passes_skip}
use Rattle.nif_layout.specs.DecideLeafLaws.{Inside, counted_decides, leaf_decides_number, leaf_decides_line, leaf_decides_ref, leaf_decides_text}

-- Each value of a form is of a kind that is known, however far down.
abbrev pub KnownForm : (Kind → Type 0) → Form → Type 0
KnownForm U (One kind) = U kind
KnownForm U (Run n) = Unit {0}
KnownForm U (Row n item) = (i : ℕ) → KnownForm U (item i)

-- No walk of at most d groups leads from a kind to one that is unknown.
abbrev pub Known : Schema → Context → ℕ → Kind → Type 0
Known S C d (Number width little) = Unit {0}
Known S C d Line = Unit {0}
Known S C d (Ref strong wanted) = Unit {0}
Known S C d Text = Unit {0}
Known S C zero (Group fields template arg) = Unit {0}
Known S C (suc d) (Group fields template arg) =
    EachField (λ f. (E : Env) → KnownForm (Known S C d) (form_of S C template arg E f)) fields
Known S C d Unknown = ⊥

run_inside : (order : Order) (V : Kind → Node → Type 0) (n : ℕ) (at : Point) → Within at → at.nodes ≤ most_nodes
    → Enough n at
    → Inside order (IsForm V (Run n)) (λ q x. shortage n q ≡ Some x) at
run_inside order V n at w c (inl r) = inr (r.0, r.1)
run_inside order V n at w c (inr r) =
    inl (
      node.Bytes (take n at.left),
      skip n at,
      0,
      (take n at.left, refl, length-take-le n at.left r.1, bytes_take n at.left w.bytes),
      refl,
      passes_skip n at (take n at.left) refl r.1 r.2 c,
    )

row_inside : (order : Order) (V : Kind → Node → Type 0) (F : Kind → Point → Fault → Type 0) (n : ℕ) (item : ℕ → Form)
    (at : Point)
    → AllDecided (texts order) (Items (λ i. IsForm V (item i)) 0 n)
    (ItemsFail order (λ i. IsForm V (item i)) (λ i. FormFails order V F (item i)) 0 n) at
    → Inside order (IsForm V (Row n item)) (ItemsFail order (λ i. IsForm V (item i))
    (λ i. FormFails order V F (item i)) 0 n) at
row_inside order V F n item at (inl r) = inl (node.Row r.0, r.1, nodes_in r.0, (r.0, refl, r.2), refl, r.3)
row_inside order V F n item at (inr r) = inr r

pub form_decides : (order : Order) (V : Kind → Node → Type 0) (F : Kind → Point → Fault → Type 0) (U : Kind → Type 0)
    → ((k : Kind) → U k → Decides order (V k) (F k))
    → (form : Form) → KnownForm U form → Decides order (IsForm V form) (FormFails order V F form)
form_decides order V F U each (One kind) u at w = each kind u at w
form_decides order V F U each (Run n) u at w =
    counted_decides order (IsForm V (Run n)) (λ q x. shortage n q ≡ Some x)
    (λ q hw hn. run_inside order V n q hw hn (enough n q)) at w
form_decides order V F U each (Row n item) u at w =
    counted_decides order (IsForm V (Row n item))
    (ItemsFail order (λ i. IsForm V (item i)) (λ i. FormFails order V F (item i)) 0 n)
    (λ q hw hn. row_inside order V F n item q
    (items_decide order (λ i. IsForm V (item i)) (λ i. FormFails order V F (item i))
    (λ i. form_decides order V F U each (item i) (u i)) 0 n q hw hn)) at w

group_inside : (S : Schema) (C : Context) (V : Kind → Node → Type 0) (F : Kind → Point → Fault → Type 0)
    (fields : List Field) (template : Option ℕ) (arg : ℕ) (at : Point)
    → AllDecided (fields_text (λ E. C.order) fields [])
    (Fields (present S C arg) (λ E f. IsForm V (form_of S C template arg E f)) (no_check {Why = Fault}) fields [])
    (GroupFails S C V F fields template arg) at
    → Inside C.order (IsGroup S C V fields template arg) (GroupFails S C V F fields template arg) at
group_inside S C V F fields template arg at (inl r) =
    let P : List ℕ → Type 0 = λ s. Passes s (nodes_in r.0) at r.1 in
    let p : Passes (texts C.order r.0) (nodes_in r.0) at r.1 =
    subst P (same_text C.order (present S C arg) (λ E f. IsForm V (form_of S C template arg E f))
    (no_check {Why = Fault}) fields [] r.0 r.2) r.3 in
    inl (node.Group r.0, r.1, nodes_in r.0, (r.0, refl, r.2), refl, p)
group_inside S C V F fields template arg at (inr r) = inr r

pub each_field : (P Q : Field → Type 0) → ((f : Field) → P f → Q f) → (fields : List Field) → EachField P fields
    → EachField Q fields
each_field P Q h [] e = tt
each_field P Q h (f ∷ fields) e = (h f e.0, each_field P Q h fields e.1)

pub shape_decides : (S : Schema) (C : Context) (d : ℕ) (kind : Kind) → Known S C d kind
    → Decides C.order (Shape S C d kind) (Fails S C d kind)
shape_decides S C d (Number width little) u at w = leaf_decides_number C width little at w
shape_decides S C d Line u at w = leaf_decides_line C at w
shape_decides S C d (Ref strong wanted) u at w = leaf_decides_ref C strong wanted at w
shape_decides S C d Text u at w = leaf_decides_text C at w
shape_decides S C zero (Group fields template arg) u at w = inr (TooDeep at.place, refl)
shape_decides S C (suc d) (Group fields template arg) u at w =
    let V = Shape S C d in
    let F = Fails S C d in
    let each : EachField (λ f. (E : Env) → Decides C.order (IsForm V (form_of S C template arg E f)) (FormFails C.order V F (form_of S C template arg E f))) fields =
    each_field (λ f. (E : Env) → KnownForm (Known S C d) (form_of S C template arg E f)) _
    (λ f h E. form_decides C.order V F (Known S C d) (λ k uk. shape_decides S C d k uk) (form_of S C template arg E f)
    (h E)) fields u in
    counted_decides C.order (IsGroup S C V fields template arg) (GroupFails S C V F fields template arg)
    (λ q hw hn. group_inside S C V F fields template arg q
    (fields_decide (λ f. f) (λ E. C.order) (present S C arg) (λ E f. IsForm V (form_of S C template arg E f))
    (λ E f. FormFails C.order V F (form_of S C template arg E f)) no_check
    fields each [] q hw hn)) at w
shape_decides S C d Unknown u at w = absurd u

pub form_shape_decides : (S : Schema) (C : Context) (d : ℕ) (form : Form) → KnownForm (Known S C d) form
    → Decides C.order (FormShape S C d form) (FormShapeFails S C d form)
form_shape_decides S C d form known =
    form_decides C.order (Shape S C d) (Fails S C d) (Known S C d) (λ k uk. shape_decides S C d k uk) form known

pub line_decides : {Why : Type 0} (S : Schema) (at : Env → Context) (d : ℕ) (template : Option ℕ) (arg : ℕ)
    (by_fault : Fault → Why) (check : Check Why) (fields : List Field)
    → EachField (λ f. (E : Env) → KnownForm (Known S (at E) d) (form_of S (at E) template arg E f)) fields
    → (E : Env) → AllDecide (fields_text (λ E. (at E).order) fields E) (LineShape S at d template arg check fields E)
    (LineFails S at d template arg by_fault check fields E)
line_decides S at d template arg by_fault check fields known E =
    fields_decide by_fault (λ E. (at E).order) (λ E f. present S (at E) arg E f)
    (λ E f. FormShape S (at E) d (form_of S (at E) template arg E f))
    (λ E f. FormShapeFails S (at E) d (form_of S (at E) template arg E f)) check
    fields (each_field (λ f. (E : Env) → KnownForm (Known S (at E) d) (form_of S (at E) template arg E f)) _
    (λ f h E. form_shape_decides S (at E) d (form_of S (at E) template arg E f) (h E)) fields known) E
