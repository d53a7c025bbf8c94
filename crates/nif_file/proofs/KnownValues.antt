-- The fault of a value is known within the file.
use Rattle.std.proofs.Common.{◌≡◌, ℕ, zero, suc, ◌+◌, ◌≤◌, ◌⊎◌, inl, inr, Bool, true, false, Option, Some, None, List, [], ◌∷◌, length, refl, sym, ◌∙◌, ap, subst, arith, length-append, if◌then◌else◌, eqb, ltb, ltb-true}
use Rattle.nif_base.specs.declared.orders.Order.{Order}
use Rattle.nif_base.specs.Node.{Node, text, nodes, is_little}
use Rattle.nif_schema.specs.Declaration.{Field}
use Rattle.nif_schema.specs.Schema.{Schema}
use Rattle.nif_layout.specs.Context.{Context}
use Rattle.nif_layout.specs.Earlier.{Env, behind}
use Rattle.nif_layout.specs.Present.{present}
use Rattle.nif_layout.specs.Kind.{Kind, Number, Line, Ref, Text, Group, Unknown}
use Rattle.nif_layout.specs.Form.{Form, One, Run, Row, form_of}
use Rattle.nif_base.specs.Limits.{most_file_bytes}
use Rattle.nif_layout.specs.Fault.{Fault, Ended, TooLong, LineTooLong, RefRange, StringRange, TooManyNodes, Point, Passes, one_more}
use Rattle.nif_layout.specs.LeafFault.{shortage, leaf_fault, or_else, newline, line_needs, line_fault, number_at, range_fault}
use Rattle.nif_layout.specs.Members.{no_check}
use Rattle.nif_layout.specs.Shape.{IsForm, Shape}
use Rattle.nif_layout.specs.Fails.{Counted, Lifted, MemberFails, FieldsFail, ItemsFail, FormFails, LeafFails, GroupFails, Fails, FormShapeFails}
use Rattle.nif_layout.specs.RoomLaws.{Enough, enough}
use Rattle.nif_file.specs.Stops.{Stop, of_value}
use Rattle.nif_file.proofs.Walks.{none_some, some_same}

-- so many bytes has the file of a point
abbrev pub IsOf : ℕ → Point → Type 0
IsOf total at = at.place + length at.left ≡ total

pub of_behind : (total : ℕ) (s : List ℕ) (n : ℕ) (at next : Point) → IsOf total at → Passes s n at next → IsOf total next
of_behind total s n at next of p =
    let a : length at.left ≡ length s + length next.left = ap length p.here ∙ length-append s next.left in
    let b : next.place ≡ at.place + length s = p.place in
    omega arith

pub left_within : (total : ℕ) (s : List ℕ) (n : ℕ) (at next : Point) → IsOf total at → Passes s n at next → next.place ≤ total
left_within total s n at next of p = let e = of_behind total s n at next of p in omega arith

module _ (total : ℕ) where
  abbrev known : Fault → ℕ
  known fault = (of_value total fault).known

  -- A fault is known within the file, by a measure of it.
  abbrev pub Kept : {Why : Type 0} → (Why → ℕ) → (Point → Why → Type 0) → Type 0
  Kept {Why} K F = (at : Point) (w : Why) → IsOf total at → F at w → K w ≤ total

  short_by : (k : ℕ) (at : Point) (f : Fault) (a b c : Bool) → ltb most_file_bytes (at.place + k) ≡ a → ltb most_file_bytes (at.place + length at.left) ≡ b → ltb (length at.left) k ≡ c
      → IsOf total at → shortage k at ≡ Some f → (of_value total f).known ≤ total
  short_by k at f true true c ea eb ec of e =
      let same : TooLong ≡ f = some_same (shortage k at) TooLong f (rw (ea, eb) refl) e in
      let long = ltb-true most_file_bytes (at.place + length at.left) eb in
      subst (λ (f : Fault). (of_value total f).known ≤ total) same (omega arith)
  short_by k at f true false true ea eb ec of e =
      let same : Ended at.place ≡ f = some_same (shortage k at) (Ended at.place) f (rw (ea, eb, ec) refl) e in
      subst (λ (f : Fault). (of_value total f).known ≤ total) same (omega arith)
  short_by k at f true false false ea eb ec of e = absurd (none_some (shortage k at) f (rw (ea, eb, ec) refl) e)
  short_by k at f false b true ea eb ec of e =
      let same : Ended at.place ≡ f = some_same (shortage k at) (Ended at.place) f (rw (ea, ec) refl) e in
      subst (λ (f : Fault). (of_value total f).known ≤ total) same (omega arith)
  short_by k at f false b false ea eb ec of e = absurd (none_some (shortage k at) f (rw (ea, ec) refl) e)

  pub short_kept : (k : ℕ) (at : Point) (f : Fault) → IsOf total at → shortage k at ≡ Some f → (of_value total f).known ≤ total
  short_kept k at f of e =
      short_by k at f (ltb most_file_bytes (at.place + k)) (ltb most_file_bytes (at.place + length at.left)) (ltb (length at.left) k) refl refl refl of e

  pub there : (k : ℕ) (at : Point) → IsOf total at → shortage k at ≡ None → at.place + k ≤ total
  there k at of e = by (enough k at)
    where
      by : Enough k at → at.place + k ≤ total
      by (inl r) = absurd (none_some (shortage k at) r.0 e r.1)
      by (inr r) = let l : k ≤ length at.left = r.1 in omega arith

  -- a shortage, or another fault where there is none
  either : (k : ℕ) (at : Point) (second : Option Fault) (f : Fault) (o : Option Fault) → shortage k at ≡ o → IsOf total at → or_else o second ≡ Some f
      → ((g : Fault) → second ≡ Some g → at.place + k ≤ total → (of_value total g).known ≤ total) → (of_value total f).known ≤ total
  either k at second f None es of e then_ = then_ f e (there k at of es)
  either k at second f (Some g) es of e then_ =
      let same : g ≡ f = some_same (Some g) g f refl e in
      subst (λ (f : Fault). (of_value total f).known ≤ total) same (short_kept k at g of es)

  line_kept : (at : Point) (f : Fault) (o : Option ℕ) → IsOf total at → or_else (shortage (line_needs o) at) (line_fault o at.place) ≡ Some f → (of_value total f).known ≤ total
  line_kept at f None of e =
      either 256 at (Some (LineTooLong at.place)) f (shortage 256 at) refl of e
      (λ g eg room. let same : LineTooLong at.place ≡ g = some_same (Some (LineTooLong at.place)) (LineTooLong at.place) g refl eg in
      subst (λ (f : Fault). (of_value total f).known ≤ total) same room)
  line_kept at f (Some k) of e = either (suc k) at None f (shortage (suc k) at) refl of e (λ g eg room. absurd (none_some None g refl eg))

  range_by : (most v : ℕ) (fault g : Fault) → range_fault most v fault ≡ Some g → fault ≡ g
  range_by most v fault g e = by (eqb v 0xFFFFFFFF) (ltb v most) e
    where
      by : (a b : Bool) → (if a then None else (if b then None else Some fault)) ≡ Some g → fault ≡ g
      by true b e = absurd (none_some None g refl e)
      by false true e = absurd (none_some None g refl e)
      by false false e = some_same (Some fault) fault g refl e

  place_kept : (at : Point) (f fault : Fault) (most v : ℕ) → IsOf total at → ((at.place + 4 ≤ total) → (of_value total fault).known ≤ total)
      → or_else (shortage 4 at) (range_fault most v fault) ≡ Some f → (of_value total f).known ≤ total
  place_kept at f fault most v of fine e =
      either 4 at (range_fault most v fault) f (shortage 4 at) refl of e
      (λ g eg room. subst (λ (f : Fault). (of_value total f).known ≤ total) (range_by most v fault g eg) (fine room))

  leaf_kept : (C : Context) (kind : Kind) → Kept known (λ at f. leaf_fault C kind at ≡ Some f)
  leaf_kept C (Number width little) at f of e = short_kept width at f of e
  leaf_kept C Line at f of e = line_kept at f (newline 256 at.left) of e
  leaf_kept C (Ref strong wanted) at f of e =
      place_kept at f (RefRange at.place (number_at (is_little C.order) 4 at.left)) C.blocks (number_at (is_little C.order) 4 at.left) of (λ room. room) e
  leaf_kept C Text at f of e =
      place_kept at f (StringRange at.place (number_at (is_little C.order) 4 at.left)) C.strings (number_at (is_little C.order) 4 at.left) of (λ room. room) e
  leaf_kept C (Group fields template arg) at f of e = absurd (none_some None f refl e)
  leaf_kept C Unknown at f of e = absurd (none_some None f refl e)

  -- ---- parts of values

  abbrev pub Measures : {Why : Type 0} → (Fault → Why) → (Why → ℕ) → Type 0
  Measures by_fault K = (f : Fault) → K (by_fault f) ≡ (of_value total f).known

  pub counted_kept : {Why : Type 0} (by_fault : Fault → Why) (K : Why → ℕ) (F : Point → Why → Type 0) → Measures by_fault K → Kept K F → Kept K (Counted by_fault F)
  counted_kept by_fault K F measures inner at w of (inl bad) =
      let a : K w ≡ at.place = ap K bad.1 ∙ measures (TooManyNodes at.place) in omega arith
  counted_kept by_fault K F measures inner at w of (inr bad) = inner (one_more at) w of bad.1

  pub member_kept : {Why : Type 0} (by_fault : Fault → Why) (K : Why → ℕ) (order : Order) (b : Bool) (V : Node → Type 0) (F : Point → Fault → Type 0) (Q : Option Node → Point → Why → Type 0)
      → Measures by_fault K → Kept known F → ((got : Option Node) → Kept K (Q got)) → Kept K (MemberFails by_fault order b V F Q)
  member_kept by_fault K order true V F Q measures first rest at w of (inl bad) =
      let a : K w ≡ (of_value total bad.0).known = ap K bad.1 ∙ measures bad.0 in
      subst (λ (n : ℕ). n ≤ total) (sym a) (first at bad.0 of bad.2)
  member_kept by_fault K order true V F Q measures first rest at w of (inr bad) =
      rest (Some bad.0) bad.1 w (of_behind total (text order bad.0) (nodes bad.0) at bad.1 of bad.3) bad.4
  member_kept by_fault K order false V F Q measures first rest at w of bad = counted_kept by_fault K (Q None) measures (rest None) at w of bad

  same_measure : Measures (λ f. f) known
  same_measure f = refl

  unchecked : (F : Point → Fault → Type 0) → Kept known F → (next : Point) (v : Fault) → IsOf total next → (◌≡◌ {A = Option Fault} None (Some v) ⊎ (◌≡◌ {A = Option Fault} None None × F next v)) → known v ≤ total
  unchecked F inner next v of (inl refused) = absurd (none_some None v refl refused)
  unchecked F inner next v of (inr bad) = inner next v of bad.1

  fields_kept : (order : Env → Order) (here : Env → Field → Bool) (V : Env → Field → Node → Type 0) (F : Env → Field → Point → Fault → Type 0)
      → ((E : Env) (f : Field) → Kept known (F E f)) → (fields : List Field) (E : Env) → Kept known (FieldsFail (λ f. f) order here V F no_check fields E)
  fields_kept order here V F each [] E at w of bad = absurd bad
  fields_kept order here V F each (f ∷ fields) E at w of bad =
      member_kept (λ f. f) known (order E) (here E f) (V E f) (F E f) _ same_measure (each E f)
      (λ got next v of' bad'. unchecked (FieldsFail (λ f. f) order here V F no_check fields (behind f got E)) (fields_kept order here V F each fields (behind f got E)) next v of' bad') at w of bad

  items_kept : (order : Order) (V : ℕ → Node → Type 0) (F : ℕ → Point → Fault → Type 0) → ((i : ℕ) → Kept known (F i)) → (i n : ℕ) → Kept known (ItemsFail order V F i n)
  items_kept order V F each i zero at w of bad = absurd bad
  items_kept order V F each i (suc n) at w of bad =
      member_kept (λ f. f) known order true (V i) (F i) (λ got. ItemsFail order V F (i + 1) n) same_measure (each i) (λ got. items_kept order V F each (i + 1) n) at w of bad

  form_kept : (order : Order) (V : Kind → Node → Type 0) (F : Kind → Point → Fault → Type 0) → ((k : Kind) → Kept known (F k)) → (form : Form) → Kept known (FormFails order V F form)
  form_kept order V F each (One kind) at w of bad = each kind at w of bad
  form_kept order V F each (Run n) at w of bad =
      counted_kept (λ f. f) known (λ next f. shortage n next ≡ Some f) same_measure (λ next f of' e. short_kept n next f of' e) at w of bad
  form_kept order V F each (Row n item) at w of bad =
      counted_kept (λ f. f) known (ItemsFail order (λ i. IsForm V (item i)) (λ i. FormFails order V F (item i)) 0 n) same_measure
      (items_kept order (λ i. IsForm V (item i)) (λ i. FormFails order V F (item i)) (λ i. form_kept order V F each (item i)) 0 n) at w of bad

  leaves_kept : (C : Context) (kind : Kind) → Kept known (LeafFails C kind)
  leaves_kept C kind at w of bad = counted_kept (λ f. f) known (λ next f. leaf_fault C kind next ≡ Some f) same_measure (leaf_kept C kind) at w of bad

  pub fails_kept : (S : Schema) (C : Context) (d : ℕ) (kind : Kind) → Kept known (Fails S C d kind)
  fails_kept S C d (Number width little) at w of bad = leaves_kept C (Number width little) at w of bad
  fails_kept S C d Line at w of bad = leaves_kept C Line at w of bad
  fails_kept S C d (Ref strong wanted) at w of bad = leaves_kept C (Ref strong wanted) at w of bad
  fails_kept S C d Text at w of bad = leaves_kept C Text at w of bad
  fails_kept S C zero (Group fields template arg) at w of bad =
      let a : known w ≡ at.place = ap known bad in omega arith
  fails_kept S C (suc d) (Group fields template arg) at w of bad =
      counted_kept (λ f. f) known (GroupFails S C (Shape S C d) (Fails S C d) fields template arg) same_measure
      (fields_kept (λ E. C.order) (present S C arg) (λ E f. IsForm (Shape S C d) (form_of S C template arg E f)) (λ E f. FormFails C.order (Shape S C d) (Fails S C d) (form_of S C template arg E f))
      (λ E f. form_kept C.order (Shape S C d) (Fails S C d) (λ k. fails_kept S C d k) (form_of S C template arg E f)) fields []) at w of bad
  fails_kept S C d Unknown at w of bad = absurd bad

  pub form_fails_kept : (S : Schema) (C : Context) (d : ℕ) (form : Form) → Kept known (FormShapeFails S C d form)
  form_fails_kept S C d form = form_kept C.order (Shape S C d) (Fails S C d) (λ k. fails_kept S C d k) form

  pub lifted_kept : (F : Point → Fault → Type 0) → Kept known F → (at : Point) (s : Stop) → IsOf total at → Lifted (of_value total) F at s → s.known ≤ total
  lifted_kept F inner at s of bad =
      let a : s.known ≡ known bad.0 = ap (λ (s : Stop). s.known) bad.1 in
      let b = inner at bad.0 of bad.2 in omega arith
