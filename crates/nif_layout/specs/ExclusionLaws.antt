-- What is read doesn't fail, and what fails does so in one way: whole values.
use Rattle.std.proofs.Common.{◌≡◌, ℕ, zero, suc, ◌+◌, Option, Some, None, List, [], sym, ◌∙◌, subst}
use Rattle.nif_base.specs.declared.orders.Order.{Order}
use Rattle.nif_base.specs.Node.{Node, texts, nodes_in}
use Rattle.nif_schema.specs.Declaration.{Field}
use Rattle.nif_schema.specs.Schema.{Schema}
use Rattle.nif_layout.specs.Context.{Context}
use Rattle.nif_layout.specs.Earlier.{Env}
use Rattle.nif_layout.specs.Present.{present}
use Rattle.nif_layout.specs.Kind.{Kind, Number, Line, Ref, Text, Group, Unknown}
use Rattle.nif_layout.specs.Form.{Form, One, Run, Row, form_of}
use Rattle.nif_layout.specs.Fault.{Fault, Point, Passes, one_more}
use Rattle.nif_layout.specs.LeafFault.{shortage}
use Rattle.nif_layout.specs.Members.{Check, no_check, fields_text}
use Rattle.nif_layout.specs.Shape.{IsForm, IsGroup, Shape, FormShape, LineShape}
use Rattle.nif_layout.specs.Fails.{Counted, ItemsFail, FormFails, GroupFails, Fails, FormShapeFails, LineFails}
use Rattle.nif_layout.specs.Laws.{Fits}
use Rattle.nif_layout.specs.CancelLaws.{Cancels, same_text, form_cancel, shape_cancel, form_shape_cancel}
use Rattle.nif_layout.specs.ExclusiveLaws.{Excludes, AllExclude, OneFault, counted_one, counted_excludes, fields_exclude, fields_one, items_exclude, items_one}
use Rattle.nif_layout.specs.RoomLaws.{no_shortage}
use Rattle.nif_layout.specs.LeafLaws.{leaf_excludes, leaf_one, some_inj}

pub form_excludes : (order : Order) (V : Kind → Node → Type 0) (F : Kind → Point → Fault → Type 0)
    → ((k : Kind) → Cancels order (V k) (V k)) → ((k : Kind) → Excludes order (V k) (F k))
    → (form : Form) → Excludes order (IsForm V form) (FormFails order V F form)
form_excludes order V F cancels each (One kind) node at next f ha p bad = each kind node at next f ha p bad
form_excludes order V F cancels each (Run n) node at next f ha p bad =
    let p' : Passes ha.0 1 at next = rw ha.1 at p in
    counted_excludes (λ f. f) (λ q w. shortage n q ≡ Some w) ha.0 0 at next f
    (λ q w. let e : shortage n (one_more at) ≡ None = rw ha.2 at (no_shortage ha.0 0 (one_more at) next q) in cc) p' bad
form_excludes order V F cancels each (Row n item) node at next f ha p bad =
    let p' : Passes (texts order ha.0) (1 + nodes_in ha.0) at next = rw ha.1 at p in
    counted_excludes (λ f. f) (ItemsFail order (λ i. IsForm V (item i)) (λ i. FormFails order V F (item i)) 0 n)
    (texts order ha.0) (nodes_in ha.0) at next f
    (λ q w. items_exclude order (λ i. IsForm V (item i)) (λ i. FormFails order V F (item i))
    (λ i. form_cancel order V V cancels (item i)) (λ i. form_excludes order V F cancels each (item i)) 0 n ha.0
    (one_more at) next f ha.2 q w) p' bad

pub form_one : (order : Order) (V : Kind → Node → Type 0) (F : Kind → Point → Fault → Type 0)
    → ((k : Kind) → Cancels order (V k) (V k)) → ((k : Kind) → Excludes order (V k) (F k))
    → ((k : Kind) → OneFault (F k))
    → (form : Form) → OneFault (FormFails order V F form)
form_one order V F cancels each one (One kind) at f g a b = one kind at f g a b
form_one order V F cancels each one (Run n) at f g a b =
    counted_one (λ f. f) (λ q w. shortage n q ≡ Some w) (λ q x y hx hy. some_inj x y (sym hx ∙ hy)) at f g a b
form_one order V F cancels each one (Row n item) at f g a b =
    counted_one (λ f. f) (ItemsFail order (λ i. IsForm V (item i)) (λ i. FormFails order V F (item i)) 0 n)
    (items_one order (λ i. IsForm V (item i)) (λ i. FormFails order V F (item i))
    (λ i. form_cancel order V V cancels (item i)) (λ i. form_excludes order V F cancels each (item i))
    (λ i. form_one order V F cancels each one (item i)) 0 n) at f g a b

pub group_excludes : (S : Schema) (C : Context) (V : Kind → Node → Type 0) (F : Kind → Point → Fault → Type 0)
    → ((k : Kind) → Cancels C.order (V k) (V k)) → ((k : Kind) → Excludes C.order (V k) (F k))
    → (fields : List Field) (template : Option ℕ) (arg : ℕ)
    → Excludes C.order (IsGroup S C V fields template arg) (Counted (λ f. f) (GroupFails S C V F fields template arg))
group_excludes S C V F cancels each fields template arg node at next f ha p bad =
    let p' : Passes (texts C.order ha.0) (1 + nodes_in ha.0) at next = rw ha.1 at p in
    counted_excludes (λ f. f) (GroupFails S C V F fields template arg) (texts C.order ha.0) (nodes_in ha.0) at next f
    (λ q w.
    let P : List ℕ → Type 0 = λ s. Passes s (nodes_in ha.0) (one_more at) next in
    let q' : Passes (fields_text (λ E. C.order) fields [] ha.0) (nodes_in ha.0) (one_more at) next =
    subst P (sym (same_text C.order (present S C arg) (λ E f. IsForm V (form_of S C template arg E f))
    (no_check {Why = Fault}) fields [] ha.0 ha.2)) q in
    fields_exclude (λ f. f) (λ E. C.order) (present S C arg) (λ E f. IsForm V (form_of S C template arg E f))
    (λ E f. FormFails C.order V F (form_of S C template arg E f)) no_check
    (λ E f. form_cancel C.order V V cancels (form_of S C template arg E f))
    (λ E f. form_excludes C.order V F cancels each (form_of S C template arg E f))
    fields [] ha.0 (one_more at) next f ha.2 q' w) p' bad

pub group_one : (S : Schema) (C : Context) (V : Kind → Node → Type 0) (F : Kind → Point → Fault → Type 0)
    → ((k : Kind) → Cancels C.order (V k) (V k)) → ((k : Kind) → Excludes C.order (V k) (F k))
    → ((k : Kind) → OneFault (F k))
    → (fields : List Field) (template : Option ℕ) (arg : ℕ)
    → OneFault (Counted (λ f. f) (GroupFails S C V F fields template arg))
group_one S C V F cancels each one fields template arg =
    counted_one (λ f. f) (GroupFails S C V F fields template arg)
    (fields_one (λ f. f) (λ E. C.order) (present S C arg) (λ E f. IsForm V (form_of S C template arg E f))
    (λ E f. FormFails C.order V F (form_of S C template arg E f)) no_check
    (λ E f. form_cancel C.order V V cancels (form_of S C template arg E f))
    (λ E f. form_excludes C.order V F cancels each (form_of S C template arg E f))
    (λ E f. form_one C.order V F cancels each one (form_of S C template arg E f)) fields [])

pub shape_excludes : (S : Schema) (C : Context) → Fits C → (d : ℕ) (kind : Kind)
    → Excludes C.order (Shape S C d kind) (Fails S C d kind)
shape_excludes S C fits d (Number width little) node at next f ha p bad =
    leaf_excludes C fits (Number width little) node at next f ha p bad
shape_excludes S C fits d Line node at next f ha p bad = leaf_excludes C fits Line node at next f ha p bad
shape_excludes S C fits d (Ref strong wanted) node at next f ha p bad =
    leaf_excludes C fits (Ref strong wanted) node at next f ha p bad
shape_excludes S C fits d Text node at next f ha p bad = leaf_excludes C fits Text node at next f ha p bad
shape_excludes S C fits zero (Group fields template arg) node at next f ha p bad = ha
shape_excludes S C fits (suc d) (Group fields template arg) node at next f ha p bad =
    group_excludes S C (Shape S C d) (Fails S C d) (λ k. shape_cancel S C fits d d k)
    (λ k. shape_excludes S C fits d k) fields template arg node at next f ha p bad
shape_excludes S C fits d Unknown node at next f ha p bad = ha

pub shape_one : (S : Schema) (C : Context) → Fits C → (d : ℕ) (kind : Kind) → OneFault (Fails S C d kind)
shape_one S C fits d (Number width little) at f g a b = leaf_one C (Number width little) at f g a b
shape_one S C fits d Line at f g a b = leaf_one C Line at f g a b
shape_one S C fits d (Ref strong wanted) at f g a b = leaf_one C (Ref strong wanted) at f g a b
shape_one S C fits d Text at f g a b = leaf_one C Text at f g a b
shape_one S C fits zero (Group fields template arg) at f g a b = a ∙ sym b
shape_one S C fits (suc d) (Group fields template arg) at f g a b =
    group_one S C (Shape S C d) (Fails S C d) (λ k. shape_cancel S C fits d d k) (λ k. shape_excludes S C fits d k)
    (λ k. shape_one S C fits d k) fields template arg at f g a b
shape_one S C fits d Unknown at f g a b = absurd a

pub form_shape_excludes : (S : Schema) (C : Context) → Fits C → (d : ℕ) (form : Form)
    → Excludes C.order (FormShape S C d form) (FormShapeFails S C d form)
form_shape_excludes S C fits d form = form_excludes C.order (Shape S C d) (Fails S C d)
    (λ k. shape_cancel S C fits d d k) (λ k. shape_excludes S C fits d k) form

pub form_shape_one : (S : Schema) (C : Context) → Fits C → (d : ℕ) (form : Form) → OneFault (FormShapeFails S C d form)
form_shape_one S C fits d form =
    form_one C.order (Shape S C d) (Fails S C d) (λ k. shape_cancel S C fits d d k) (λ k. shape_excludes S C fits d k)
    (λ k. shape_one S C fits d k) form

pub line_excludes : {Why : Type 0} (S : Schema) (at : Env → Context) → ((E : Env) → Fits (at E))
    → (d : ℕ) (template : Option ℕ) (arg : ℕ) (by_fault : Fault → Why) (check : Check Why) (fields : List Field)
    (E : Env)
    → AllExclude (fields_text (λ E. (at E).order) fields E) (LineShape S at d template arg check fields E)
    (LineFails S at d template arg by_fault check fields E)
line_excludes S at fits d template arg by_fault check fields E =
    fields_exclude by_fault (λ E. (at E).order) (λ E f. present S (at E) arg E f)
    (λ E f. FormShape S (at E) d (form_of S (at E) template arg E f))
    (λ E f. FormShapeFails S (at E) d (form_of S (at E) template arg E f)) check
    (λ E f. form_shape_cancel S (at E) (fits E) d d (form_of S (at E) template arg E f))
    (λ E f. form_shape_excludes S (at E) (fits E) d (form_of S (at E) template arg E f)) fields E

pub line_one : {Why : Type 0} (S : Schema) (at : Env → Context) → ((E : Env) → Fits (at E))
    → (d : ℕ) (template : Option ℕ) (arg : ℕ) (by_fault : Fault → Why) (check : Check Why) (fields : List Field)
    (E : Env)
    → OneFault (LineFails S at d template arg by_fault check fields E)
line_one S at fits d template arg by_fault check fields E =
    fields_one by_fault (λ E. (at E).order) (λ E f. present S (at E) arg E f)
    (λ E f. FormShape S (at E) d (form_of S (at E) template arg E f))
    (λ E f. FormShapeFails S (at E) d (form_of S (at E) template arg E f)) check
    (λ E f. form_shape_cancel S (at E) (fits E) d d (form_of S (at E) template arg E f))
    (λ E f. form_shape_excludes S (at E) (fits E) d (form_of S (at E) template arg E f))
    (λ E f. form_shape_one S (at E) (fits E) d (form_of S (at E) template arg E f)) fields E
