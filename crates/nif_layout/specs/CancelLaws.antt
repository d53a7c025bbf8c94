-- No spelling begins another one, and each is of one node.
use Rattle.std.proofs.Common.{◌≡◌, ℕ, zero, suc, ◌+◌, ◌^◌, ◌<◌, Bool, true, false, ◌||◌, Option, Some, None, List, [], ◌∷◌, ◌++◌, refl, sym, ◌∙◌, ap, subst, arith, append_assoc, lit<}
use Rattle.nif_base.specs.declared.orders.Order.{Order}
use Rattle.nif_base.specs.Node as node
use Rattle.nif_base.specs.Node.{Node, Members, End, Here, Absent, text, texts, number, place_or_none, is_little}
use Rattle.nif_schema.specs.Declaration.{Field}
use Rattle.nif_schema.specs.Schema.{Schema}
use Rattle.nif_layout.specs.Context.{Context}
use Rattle.nif_layout.specs.Earlier.{Env, behind}
use Rattle.nif_layout.specs.Present.{present}
use Rattle.nif_layout.specs.Kind.{Kind, Number, Line, Ref, Text, Group, Unknown}
use Rattle.nif_layout.specs.Form.{Form, One, Run, Row, form_of}
use Rattle.nif_layout.specs.Leaf.{IsLeaf, IsBelow}
use Rattle.nif_layout.specs.Fault.{Fault}
use Rattle.nif_layout.specs.Members.{Member, Check, no_check, Fields, Items, member_text, fields_text}
use Rattle.nif_layout.specs.Shape.{IsForm, Shape, FormShape, LineShape}
use Rattle.nif_layout.specs.Laws.{Fits}
use Rattle.nif_layout.specs.ByteLaws.{same_front, number_front, line_front}

-- A node of the one kind and a node of the other that begin the same bytes are one.
abbrev pub Cancels : Order → (Node → Type 0) → (Node → Type 0) → Type 0
Cancels order V W = (a b : Node) (x y : List ℕ) → V a → W b → text order a ++ x ≡ text order b ++ y → (a ≡ b) × (x ≡ y)

-- the same of members that are written as T says
abbrev pub AllCancel : (Members → List ℕ) → (Members → Type 0) → (Members → Type 0) → Type 0
AllCancel T V W = (a b : Members) (x y : List ℕ) → V a → W b → T a ++ x ≡ T b ++ y → (a ≡ b) × (x ≡ y)

pub member : (order : Order) (T : Option Node → Members → List ℕ) (here : Bool) (V W : Node → Type 0)
    (R Q : Option Node → Members → Type 0)
    → Cancels order V W → ((got : Option Node) → AllCancel (T got) (R got) (Q got))
    → AllCancel (member_text order T) (Member here V R) (Member here W Q)
member order T true V W R Q first rest a b x y ha hb e =
    let e' : text order ha.0 ++ (T (Some ha.0) ha.1 ++ x) ≡ text order hb.0 ++ (T (Some hb.0) hb.1 ++ y) =
    rw (
      ← append_assoc (text order ha.0) (T (Some ha.0) ha.1) x,
      ← append_assoc (text order hb.0)
          (T (Some hb.0) hb.1) y,
    ) (rw (ha.2, hb.2) at e) in
    let one = first ha.0 hb.0 (T (Some ha.0) ha.1 ++ x) (T (Some hb.0) hb.1 ++ y) ha.3 hb.3 e' in
    let same : ha.0 ≡ hb.0 = one.0 in
    let P : Node → Type 0 = λ m. R (Some m) ha.1 × (T (Some m) ha.1 ++ x ≡ T (Some hb.0) hb.1 ++ y) in
    let moved : P hb.0 = subst P same (ha.4, one.1) in
    let more = rest (Some hb.0) ha.1 hb.1 x y moved.0 hb.4 moved.1 in
    let same_rest : ha.1 ≡ hb.1 = more.0 in
    let ea : a ≡ Here ha.0 ha.1 = ha.2 in
    let eb : b ≡ Here hb.0 hb.1 = hb.2 in
    (cc, more.1)
member order T false V W R Q first rest a b x y ha hb e =
    let e' : T None ha.0 ++ x ≡ T None hb.0 ++ y = rw (ha.1, hb.1) at e in
    let more = rest None ha.0 hb.0 x y ha.2 hb.2 e' in
    let same_rest : ha.0 ≡ hb.0 = more.0 in
    let ea : a ≡ Absent ha.0 = ha.1 in
    let eb : b ≡ Absent hb.0 = hb.1 in
    (cc, more.1)

pub fields_cancel : {Why : Type 0} (order : Env → Order) (here : Env → Field → Bool) (V W : Env → Field → Node → Type 0)
    (check : Check Why)
    → ((E : Env) (f : Field) → Cancels (order E) (V E f) (W E f))
    → (fields : List Field) (E : Env)
    → AllCancel (fields_text order fields E) (Fields here V check fields E) (Fields here W check fields E)
fields_cancel order here V W check each [] E a b x y ha hb e = (ha ∙ sym hb, e)
fields_cancel order here V W check each (f ∷ fields) E a b x y ha hb e =
    member (order E) (λ got. fields_text order fields (behind f got E)) (here E f) (V E f) (W E f) _ _ (each E f)
    (λ got a b x y ha hb e. fields_cancel order here V W check each fields
    (behind f got E) a b x y ha.1 hb.1 e) a b x y ha hb e

-- In one order the bytes of the members of a line are those of the members.
pub same_text : {Why : Type 0} (order : Order) (here : Env → Field → Bool) (V : Env → Field → Node → Type 0)
    (check : Check Why)
    (fields : List Field) (E : Env) (a : Members) → Fields here V check fields E a
    → fields_text (λ E. order) fields E a ≡ texts order a
same_text order here V check [] E a h = ap (texts order) (sym h)
same_text order here V check (f ∷ fields) E a h =
    by (here E f) a h (λ got rest k. same_text order here V check fields (behind f got E) rest k)
  where
    by : (b : Bool) (a : Members)
        → Member b (V E f) (λ got rest. (check E f got ≡ None) × Fields here V check fields (behind f got E) rest) a
        → ((got : Option Node) (rest : Members) → Fields here V check fields (behind f got E) rest
        → fields_text (λ E. order) fields (behind f got E) rest ≡ texts order rest)
        → fields_text (λ E. order) (f ∷ fields) E a ≡ texts order a
    by true End h ih = let e : End ≡ Here h.0 h.1 = h.2 in absurd (cc)
    by false End h ih = let e : End ≡ Absent h.0 = h.1 in absurd (cc)
    by true (Here m rest) h ih =
        let e1 : m ≡ h.0 = cc in
        let e2 : rest ≡ h.1 = cc in
        let P : Node → Members → Type 0 = λ n r. fields_text (λ E. order) fields (behind f (Some n) E) r ≡ texts order r in
        let Q : Node → Type 0 = λ n. P n rest in
        let R : Members → Type 0 = λ r. P h.0 r in
        ap (λ s. text order m ++ s) (subst Q (sym e1) (subst R (sym e2) (ih (Some h.0) h.1 h.4.1)))
    by false (Here m rest) h ih = let e : Here m rest ≡ Absent h.0 = h.1 in absurd (cc)
    by true (Absent rest) h ih = let e : Absent rest ≡ Here h.0 h.1 = h.2 in absurd (cc)
    by false (Absent rest) h ih =
        let e : rest ≡ h.0 = cc in
        let R : Members → Type 0 = λ r. fields_text (λ E. order) fields (behind f None E) r ≡ texts order r in
        subst R (sym e) (ih None h.0 h.2.1)

-- all in one order
pub in_one_order : (order : Order) (a : Members) → member_text order (λ got. texts order) a ≡ texts order a
in_one_order order End = refl
in_one_order order (Here node rest) = refl
in_one_order order (Absent rest) = refl

pub one_order_cancel : (order : Order) (V W : Members → Type 0)
    → AllCancel (member_text order (λ got. texts order)) V W → AllCancel (texts order) V W
one_order_cancel order V W h a b x y ha hb e =
    h a b x y ha hb (ap (λ s. s ++ x) (in_one_order order a) ∙ e ∙ ap (λ s. s ++ y) (sym (in_one_order order b)))

pub items_cancel : (order : Order) (V W : ℕ → Node → Type 0) → ((i : ℕ) → Cancels order (V i) (W i))
    → (i n : ℕ) → AllCancel (texts order) (Items V i n) (Items W i n)
items_cancel order V W each i zero a b x y ha hb e = (ha ∙ sym hb, rw (ha, hb) at e)
items_cancel order V W each i (suc n) a b x y ha hb e =
    one_order_cancel order (Items V i (suc n)) (Items W i (suc n))
    (member order (λ got. texts order) true (V i) (W i) (λ got. Items V (i + 1) n) (λ got. Items W (i + 1) n) (each i)
    (λ got. items_cancel order V W each (i + 1) n)) a b x y ha hb e

pub form_cancel : (order : Order) (V W : Kind → Node → Type 0) → ((k : Kind) → Cancels order (V k) (W k))
    → (form : Form) → Cancels order (IsForm V form) (IsForm W form)
form_cancel order V W each (One kind) a b x y ha hb e = each kind a b x y ha hb e
form_cancel order V W each (Run n) a b x y ha hb e =
    let r = same_front ha.0 hb.0 x y (ha.2 ∙ sym hb.2) (rw (ha.1, hb.1) at e) in
    let same : ha.0 ≡ hb.0 = r.0 in
    (ha.1 ∙ ap node.Bytes same ∙ sym hb.1, r.1)
form_cancel order V W each (Row n item) a b x y ha hb e =
    let r = items_cancel order (λ i. IsForm V (item i)) (λ i. IsForm W (item i)) (λ i. form_cancel order V W each (item i)) 0 n ha.0 hb.0 x y ha.2 hb.2 (rw (ha.1, hb.1) at e) in
    let same : ha.0 ≡ hb.0 = r.0 in
    (ha.1 ∙ ap node.Row same ∙ sym hb.1, r.1)

-- a place below a limit of 32 bits is no 0xFFFFFFFF
pub place_fits : (most : ℕ) (place : Option ℕ) → most < 2 ^ 32 → IsBelow most place → place_or_none place < 256 ^ 4
place_fits most None h b = lit< tt
place_fits most (Some k) h b = omega arith

pub place_inj : (most : ℕ) (a b : Option ℕ) → most < 2 ^ 32 → IsBelow most a → IsBelow most b
    → place_or_none a ≡ place_or_none b → a ≡ b
place_inj most None None h ha hb e = refl
place_inj most None (Some k) h ha hb e = absurd (omega arith)
place_inj most (Some j) None h ha hb e = absurd (omega arith)
place_inj most (Some j) (Some k) h ha hb e = ap (λ n. Some n) e

pub place_cancel : (little : Bool) (most : ℕ) (a b : Option ℕ) (x y : List ℕ) → most < 2 ^ 32 → IsBelow most a
    → IsBelow most b
    → number little 4 (place_or_none a) ++ x ≡ number little 4 (place_or_none b) ++ y → (a ≡ b) × (x ≡ y)
place_cancel little most a b x y h ha hb e =
    let r = number_front little 4 (place_or_none a) (place_or_none b) x y (place_fits most a h ha) (place_fits most b h hb) e in
    (place_inj most a b h ha hb r.0, r.1)

pub leaf_cancel : (C : Context) → Fits C → (kind : Kind) → Cancels C.order (IsLeaf C kind) (IsLeaf C kind)
leaf_cancel C fits (Number width little) a b x y ha hb e =
    let r = number_front (little || is_little C.order) width ha.0 hb.0 x y ha.2 hb.2 (rw (ha.1, hb.1) at e) in
    (ha.1 ∙ ap (λ n. node.Num width little n) r.0 ∙ sym hb.1, r.1)
leaf_cancel C fits Line a b x y ha hb e =
    let e' : ha.0 ++ 0x0A ∷ x ≡ hb.0 ++ 0x0A ∷ y = rw (← append_assoc ha.0 (0x0A ∷ []) x, ← append_assoc hb.0 (0x0A ∷ []) y) (rw (ha.1, hb.1) at e) in
    let r = line_front ha.0 hb.0 x y ha.2 hb.2 e' in
    (ha.1 ∙ ap (λ s. node.Line s) r.0 ∙ sym hb.1, r.1)
leaf_cancel C fits (Ref strong wanted) a b x y ha hb e =
    let r = place_cancel (is_little C.order) C.blocks ha.0 hb.0 x y fits.blocks ha.2 hb.2 (rw (ha.1, hb.1) at e) in
    (ha.1 ∙ ap (λ t. node.Ref strong wanted t) r.0 ∙ sym hb.1, r.1)
leaf_cancel C fits Text a b x y ha hb e =
    let r = place_cancel (is_little C.order) C.strings ha.0 hb.0 x y fits.strings ha.2 hb.2 (rw (ha.1, hb.1) at e) in
    (ha.1 ∙ ap (λ t. node.Text t) r.0 ∙ sym hb.1, r.1)
leaf_cancel C fits (Group fields template arg) a b x y ha hb e = absurd ha
leaf_cancel C fits Unknown a b x y ha hb e = absurd ha

-- the members of a group
pub group_cancel : {Why : Type 0} (order : Order) (here : Env → Field → Bool) (V W : Env → Field → Node → Type 0)
    (check : Check Why)
    → ((E : Env) (f : Field) → Cancels order (V E f) (W E f))
    → (fields : List Field) → AllCancel (texts order) (Fields here V check fields []) (Fields here W check fields [])
group_cancel order here V W check each fields a b x y ha hb e =
    fields_cancel (λ E. order) here V W check each fields [] a b x y ha hb
    (ap (λ s. s ++ x) (same_text order here V check fields [] a ha) ∙ e
    ∙ ap (λ s. s ++ y) (sym (same_text order here W check fields [] b hb)))

-- Two values of one kind that begin the same bytes are one, whatever their bounds of depth.
pub shape_cancel : (S : Schema) (C : Context) → Fits C → (c d : ℕ) (kind : Kind)
    → Cancels C.order (Shape S C c kind) (Shape S C d kind)
shape_cancel S C fits c d (Number width little) a b x y ha hb e =
    leaf_cancel C fits (Number width little) a b x y ha hb e
shape_cancel S C fits c d Line a b x y ha hb e = leaf_cancel C fits Line a b x y ha hb e
shape_cancel S C fits c d (Ref strong wanted) a b x y ha hb e = leaf_cancel C fits (Ref strong wanted) a b x y ha hb e
shape_cancel S C fits c d Text a b x y ha hb e = leaf_cancel C fits Text a b x y ha hb e
shape_cancel S C fits zero d (Group fields template arg) a b x y ha hb e = absurd ha
shape_cancel S C fits (suc c) zero (Group fields template arg) a b x y ha hb e = absurd hb
shape_cancel S C fits (suc c) (suc d) (Group fields template arg) a b x y ha hb e =
    let r = group_cancel C.order (present S C arg)
    (λ E f. IsForm (Shape S C c) (form_of S C template arg E f))
    (λ E f. IsForm (Shape S C d) (form_of S C template arg E f)) (no_check {Why = Fault})
    (λ E f. form_cancel C.order (Shape S C c) (Shape S C d) (λ k. shape_cancel S C fits c d k)
    (form_of S C template arg E f))
    fields ha.0 hb.0 x y ha.2 hb.2 (rw (ha.1, hb.1) at e) in
    (ha.1 ∙ ap (λ m. node.Group m) r.0 ∙ sym hb.1, r.1)
shape_cancel S C fits c d Unknown a b x y ha hb e = absurd ha

pub form_shape_cancel : (S : Schema) (C : Context) → Fits C → (c d : ℕ) (form : Form)
    → Cancels C.order (FormShape S C c form) (FormShape S C d form)
form_shape_cancel S C fits c d form =
    form_cancel C.order (Shape S C c) (Shape S C d) (λ k. shape_cancel S C fits c d k) form

pub line_cancel : {Why : Type 0} (S : Schema) (at : Env → Context) → ((E : Env) → Fits (at E))
    → (c d : ℕ) (template : Option ℕ) (arg : ℕ) (check : Check Why) (fields : List Field) (E : Env)
    → AllCancel (fields_text (λ E. (at E).order) fields E) (LineShape S at c template arg check fields E)
    (LineShape S at d template arg check fields E)
line_cancel S at fits c d template arg check fields E =
    fields_cancel (λ E. (at E).order) (λ E f. present S (at E) arg E f)
    (λ E f. FormShape S (at E) c (form_of S (at E) template arg E f))
    (λ E f. FormShape S (at E) d (form_of S (at E) template arg E f))
    check (λ E f. form_shape_cancel S (at E) (fits E) c d (form_of S (at E) template arg E f)) fields E
