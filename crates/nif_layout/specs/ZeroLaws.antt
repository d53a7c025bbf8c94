-- Laws of zero nodes: their references are empty, and one in which groups lie deep enough is a value of its type.
use Rattle.std.proofs.Common.{◌≡◌, ◌⊎◌, ℕ, zero, suc, ◌+◌, ◌^◌, ◌<◌, ◌≤◌, max, inl, inr, Bool, true, false, Option, Some, None, List, [], ◌∷◌, ◌++◌, refl, subst, arith}
use Rattle.std.proofs.lemmas.List.{length-replicate}
use Rattle.std.specs.Prelude.{if◌then◌else◌, replicate, slice_get}
use Rattle.nif_base.specs.Limits.{most_depth}
use Rattle.nif_base.specs.Node.{Node, Members, Here, Absent, Reference, refs, refs_in, depth, depth_in}
use Rattle.nif_schema.specs.Declaration.{Field}
use Rattle.nif_schema.specs.Schema.{Schema}
use Rattle.nif_layout.specs.Context.{Context}
use Rattle.nif_layout.specs.Earlier.{Env, behind}
use Rattle.nif_layout.specs.Present.{present}
use Rattle.nif_layout.specs.Kind.{Kind, Number, Line, Ref, Text, Group, Unknown, kind_of}
use Rattle.nif_layout.specs.Form.{Form, One, Run, Row, form_of}
use Rattle.nif_layout.specs.Fault.{Fault}
use Rattle.nif_layout.specs.Leaf.{AreBytes}
use Rattle.nif_layout.specs.Members.{no_check, Member, Fields, Items}
use Rattle.nif_layout.specs.Shape.{IsForm, Shape}
use Rattle.nif_layout.specs.Laws.{IsOpenType, HasTemplate}
use Rattle.nif_layout.specs.DecideLaws.{EachField}
use Rattle.nif_layout.specs.DecideShapeLaws.{KnownForm, Known}
use Rattle.nif_layout.specs.OpenKindLaws.{open_known}
use Rattle.nif_layout.specs.Zero.{zero_items, zero_form, zero_members, zero_node, zero_of}

-- Each reference of a zero node is empty.
abbrev pub LeadsNowhere : Type 0
LeadsNowhere = (S : Schema) (C : Context) (number k : ℕ) (r : Reference)
    → slice_get (refs (zero_of S C number)) k ≡ Some r → r.target ≡ None

-- The zero node of an open type, where no group lies deeper in it than a value may have them, is a value of the type.
abbrev pub IsZeroValue : Type 0
IsZeroValue = (S : Schema) (C : Context) (number : ℕ) → IsOpenType S number → HasTemplate S number None
    → depth (zero_of S C number) ≤ most_depth
    → Shape S C most_depth (kind_of S C number None 0) (zero_of S C number)

-- ---- empty references

-- all references of a list are empty
abbrev Empty : List Reference → Type 0
Empty [] = Unit {0}
Empty (r ∷ rs) = (r.target ≡ None) × Empty rs

both_empty : (a b : List Reference) → Empty a → Empty b → Empty (a ++ b)
both_empty [] b x y = y
both_empty (r ∷ a) b x y = (x.0, both_empty a b x.1 y)

items_empty : (item : ℕ → Node) → ((i : ℕ) → Empty (refs (item i))) → (i n : ℕ) → Empty (refs_in (zero_items item i n))
items_empty item each i zero = tt
items_empty item each i (suc n) =
    both_empty (refs (item i)) (refs_in (zero_items item (i + 1) n)) (each i) (items_empty item each (i + 1) n)

form_empty : (single : Kind → Node) → ((kind : Kind) → Empty (refs (single kind))) → (form : Form)
    → Empty (refs (zero_form single form))
form_empty single each (One kind) = each kind
form_empty single each (Run n) = tt
form_empty single each (Row n item) =
    items_empty (λ i. zero_form single (item i)) (λ i. form_empty single each (item i)) 0 n

test : (b : Bool) → (b ≡ true) ⊎ (b ≡ false)
test true = inl refl
test false = inr refl

members_empty : (here : Env → Field → Bool) (value : Env → Field → Node)
    → ((E : Env) (f : Field) → Empty (refs (value E f)))
    → (fields : List Field) (E : Env) → Empty (refs_in (zero_members here value fields E))
members_empty here value each [] E = tt
members_empty here value each (f ∷ fields) E = elim (test (here E f)) [
  | inl q ↦ rw q (both_empty (refs (value E f))
      (refs_in (zero_members here value fields (behind f (Some (value E f)) E))) (each E f)
      (members_empty here value each fields (behind f (Some (value E f)) E)))
  | inr q ↦ rw q (members_empty here value each fields (behind f None E))
]

zero_empty : (S : Schema) (C : Context) (d : ℕ) (kind : Kind) → Empty (refs (zero_node S C d kind))
zero_empty S C d (Number width little) = tt
zero_empty S C d Line = tt
zero_empty S C d (Ref strong wanted) = (refl, tt)
zero_empty S C d Text = tt
zero_empty S C zero (Group fields template arg) = tt
zero_empty S C (suc d) (Group fields template arg) =
    members_empty (present S C arg) (λ E f. zero_form (zero_node S C d) (form_of S C template arg E f))
    (λ E f. form_empty (zero_node S C d) (λ k. zero_empty S C d k) (form_of S C template arg E f)) fields []
zero_empty S C d Unknown = tt

one_empty : (rs : List Reference) (k : ℕ) (r : Reference) → Empty rs → slice_get rs k ≡ Some r → r.target ≡ None
one_empty [] k r h at = absurd cc
one_empty (x ∷ rs) zero r h at = let e : x ≡ r = cc in subst (λ (y : Reference). y.target ≡ None) e h.0
one_empty (x ∷ rs) (suc k) r h at = one_empty rs k r h.1 at

pub leads_nowhere : LeadsNowhere
leads_nowhere S C number k r at =
    one_empty (refs (zero_of S C number)) k r (zero_empty S C most_depth (kind_of S C number None 0)) at

-- ---- values

positive : (width : ℕ) → 0 < 256 ^ width
positive zero = omega arith
positive (suc width) = let h : 0 < 256 ^ width = positive width in omega arith

zero_bytes : (n : ℕ) → AreBytes (replicate n 0)
zero_bytes zero = tt
zero_bytes (suc n) = (omega arith, zero_bytes n)

-- the deeper of two isn't too deep
within : (a b d : ℕ) → max a b ≤ d → (a ≤ d) × (b ≤ d)
within a b d h = (grind (arith, h), grind (arith, h))

-- what stands here is a value where it isn't too deep
abbrev Fine : ℕ → (Node → Type 0) → Node → Type 0
Fine d V at = depth at ≤ d → V at

items_fine : (d : ℕ) (V : ℕ → Node → Type 0) (item : ℕ → Node) → ((i : ℕ) → Fine d (V i) (item i)) → (i n : ℕ)
    → depth_in (zero_items item i n) ≤ d → Items V i n (zero_items item i n)
items_fine d V item each i zero h = refl
items_fine d V item each i (suc n) h =
    let two = within (depth (item i)) (depth_in (zero_items item (i + 1) n)) d h in
    (item i, zero_items item (i + 1) n, refl, each i two.0, items_fine d V item each (i + 1) n two.1)

form_fine : (d : ℕ) (V : Kind → Node → Type 0) (U : Kind → Type 0) (single : Kind → Node)
    → ((kind : Kind) → U kind → Fine d (V kind) (single kind)) → (form : Form) → KnownForm U form
    → Fine d (IsForm V form) (zero_form single form)
form_fine d V U single each (One kind) u h = each kind u h
form_fine d V U single each (Run n) u h = (replicate n 0, refl, length-replicate n 0, zero_bytes n)
form_fine d V U single each (Row n item) u h =
    let items : Members = zero_items (λ i. zero_form single (item i)) 0 n in (
      items,
      refl,
      items_fine d (λ i. IsForm V (item i)) (λ i. zero_form single (item i))
          (λ i. form_fine d V U single each (item i) (u i)) 0 n h,
    )

fields_fine : (d : ℕ) (here : Env → Field → Bool) (V : Env → Field → Node → Type 0) (value : Env → Field → Node)
    → (fields : List Field) → EachField (λ f. (E : Env) → Fine d (V E f) (value E f)) fields → (E : Env)
    → depth_in (zero_members here value fields E) ≤ d
    → Fields here V (no_check {Why = Fault}) fields E (zero_members here value fields E)
fields_fine d here V value [] each E h = refl
fields_fine d here V value (f ∷ fields) each E h =
    by (here E f) (λ got k. fields_fine d here V value fields each.1 (behind f got E) k) h
  where
    More : Type 0
    More = (got : Option Node) → depth_in (zero_members here value fields (behind f got E)) ≤ d
        → Fields here V (no_check {Why = Fault}) fields (behind f got E)
        (zero_members here value fields (behind f got E))

    Rest : Option Node → Members → Type 0
    Rest got rest = (no_check {Why = Fault} E f got ≡ None)
        × Fields here V (no_check {Why = Fault}) fields (behind f got E) rest

    by : (b : Bool) → More
        → depth_in (if b then Here (value E f) (zero_members here value fields (behind f (Some (value E f)) E))
        else Absent (zero_members here value fields (behind f None E))) ≤ d
        → Member b (V E f) Rest
        (if b then Here (value E f) (zero_members here value fields (behind f (Some (value E f)) E))
        else Absent (zero_members here value fields (behind f None E)))
    by true more h =
        let rest : Members = zero_members here value fields (behind f (Some (value E f)) E) in
        let two = within (depth (value E f)) (depth_in rest) d h in
        (value E f, rest, refl, each.0 E two.0, (refl, more (Some (value E f)) two.1))
    by false more h = (zero_members here value fields (behind f None E), refl, (refl, more None h))

each_field : (P Q : Field → Type 0) → ((f : Field) → P f → Q f) → (fields : List Field) → EachField P fields
    → EachField Q fields
each_field P Q h [] e = tt
each_field P Q h (f ∷ fields) e = (h f e.0, each_field P Q h fields e.1)

zero_fine : (S : Schema) (C : Context) (d : ℕ) (kind : Kind) → Known S C d kind
    → Fine d (Shape S C d kind) (zero_node S C d kind)
zero_fine S C d (Number width little) u h = (0, refl, positive width)
zero_fine S C d Line u h = ([], refl, tt, omega arith)
zero_fine S C d (Ref strong wanted) u h = (None, refl, tt)
zero_fine S C d Text u h = (None, refl, tt)
zero_fine S C zero (Group fields template arg) u h = absurd (omega arith)
zero_fine S C (suc d) (Group fields template arg) u h =
    let V = Shape S C d in
    let value : Env → Field → Node = λ E f. zero_form (zero_node S C d) (form_of S C template arg E f) in
    let each : EachField (λ f. (E : Env) → Fine d (IsForm V (form_of S C template arg E f)) (value E f)) fields =
    each_field (λ f. (E : Env) → KnownForm (Known S C d) (form_of S C template arg E f)) _
    (λ f k E. form_fine d V (Known S C d) (zero_node S C d) (λ kind uk. zero_fine S C d kind uk)
    (form_of S C template arg E f) (k E)) fields u in
    let members : Members = zero_members (present S C arg) value fields [] in (
      members,
      refl,
      fields_fine d (present S C arg) (λ E f. IsForm V (form_of S C template arg E f)) value fields each []
          (omega arith),
    )
zero_fine S C d Unknown u h = absurd u

pub is_zero_value : IsZeroValue
is_zero_value S C number opened has h =
    let kind = kind_of S C number None 0 in
    zero_fine S C most_depth kind (open_known S C most_depth number None 0 opened has) h
