-- References that are well typed stay so.
use Rattle.std.proofs.Common.{◌≡◌, ◌≢◌, inl, inr, ℕ, zero, suc, ◌<◌, Bool, true, false, Option, Some, None, List, [], ◌∷◌, ◌++◌, refl, sym, ◌∙◌, ap, subst, arith}
use Rattle.std.proofs.lemmas.Bool.{eqb-true, eqb-false}
use Rattle.std.specs.Prelude.{◌==◌, ◌&&◌, if◌then◌else◌, not, option_and_then, slice_get}
use Rattle.std.specs.Option.{option_map}
use Rattle.nif_base.specs.Node.{Node, Reference, refs}
use Rattle.nif_base.specs.File.{Block}
use Rattle.nif_base.specs.Graph.{Named, Graph}
use Rattle.nif_cells.specs.Building.{with_target}
use Rattle.nif_schema.specs.Schema.{Schema, is_a}
use Rattle.nif_graph.specs.Graph.{IsGraph, find, is_live, reference, kind_of}
use Rattle.nif_graph.specs.Changes.{emptied, with_node}
use Rattle.nif_graph.specs.Reach.{is_wanted, well_typed}
use Rattle.nif_graph.specs.declared.places.RolePlaces.{RolePlaces}
use Rattle.nif_edit.specs.declared.edits.Edit.{Edit}
use Rattle.nif_edit.specs.declared.edits.Edit.TheVariants.{Remove, Copy, Insert, Replace, Move, Reorder, Point}
use Rattle.nif_edit.specs.Edit.{EditFault, WrongType}
use Rattle.nif_edit.specs.After.{after, after_all}
use Rattle.nif_edit.specs.Refused.{Unsuited, Mistypes, Accepted, refs_beside, first_of, goes_wrong, aims_at}
use Rattle.nif_edit.specs.Laws.{same_holder, removes, touches, touched, left, seen, Typed, StaysTyped, KeepsTyped}
use Rattle.nif_edit.proofs.Finding.{test, same, differ}
use Rattle.nif_edit.proofs.Seen.{find-after, not_first, not_second, lives}
use Rattle.nif_edit.proofs.References.{ref_at}
use Rattle.nif_edit.proofs.Origins.{kept, Held, Origin, before, put_in, pointed, origin, aim_lives, keeps_graph}
use Rattle.nif_edit.proofs.Surviving.{one_survives, or_false, and_false, left_one, if_same}

wanted_none : (S : Schema) (wanted : Option ℕ) → is_wanted S wanted None ≡ true
wanted_none S None = refl
wanted_none S (Some w) = refl

-- the type of a target
abbrev pub found : Graph → Option ℕ → Option ℕ
found G target = option_and_then (kind_of G) target

abbrev pub kind_in : Option Block → Option ℕ
kind_in o = option_map (λ (b : Block). b.kind) o

-- the type of a block that was there, after an edit
abbrev pub new_kind : Graph → Edit → ℕ → Option ℕ
new_kind G (Remove name) t = kind_of G t
new_kind G (Copy name at) t = kind_of G t
new_kind G (Insert kind at) t = kind_of G t
new_kind G (Replace name by) t = if t == name then kind_of G by else kind_of G t
new_kind G (Move name at) t = kind_of G t
new_kind G (Reorder names) t = kind_of G t
new_kind G (Point from k to) t = kind_of G t

kind_with_node : (f : Block → Node) (o : Option Block) → kind_in (option_map (λ (b : Block). with_node b (f b)) o) ≡ kind_in o
kind_with_node f None = refl
kind_with_node f (Some b) = refl

kind_if : (c : Bool) (x y : Option Block) → kind_in (if c then x else y) ≡ (if c then kind_in x else kind_in y)
kind_if true x y = refl
kind_if false x y = refl

not_next : (G : Graph) → IsGraph G → (t : ℕ) → is_live t G.blocks ≡ true → (t == G.next) ≡ false
not_next G g t h = differ t G.next (λ e. let l : t < G.next = g.below t h in omega arith)

kind-seen : (S : Schema) (places : RolePlaces) (G : Graph) (e : Edit) → IsGraph G → (t : ℕ) → is_live t G.blocks ≡ true → removes e t ≡ false → kind_in (seen S places G e t) ≡ new_kind G e t
kind-seen S places G (Remove name) g t h q = rw q (kind_with_node (λ b. emptied name b.node) (find t G.blocks))
kind-seen S places G (Copy name at) g t h q = rw (not_next G g t h) refl
kind-seen S places G (Insert kind at) g t h q = rw (not_next G g t h) refl
kind-seen S places G (Replace name by) g t h q = kind_if (t == name) (find by G.blocks) (find t G.blocks)
kind-seen S places G (Move name at) g t h q = refl
kind-seen S places G (Reorder names) g t h q = refl
kind-seen S places G (Point None k to) g t h q = refl
kind-seen S places G (Point (Some name) k to) g t h q =
    kind_if (t == name) (option_map (λ (b : Block). with_node b (with_target k to b.node)) (find t G.blocks)) (find t G.blocks)
    ∙ if_same (t == name) (kind_in (option_map (λ (b : Block). with_node b (with_target k to b.node)) (find t G.blocks))) (kind_of G t) (kind_of G t)
    (λ p. kind_with_node (λ b. with_target k to b.node) (find t G.blocks)) (λ p. refl)

kind-after : (S : Schema) (places : RolePlaces) (G : Graph) (e : Edit) → IsGraph G → Accepted S places G e → (t : ℕ) → is_live t G.blocks ≡ true → removes e t ≡ false
    → kind_of (after S places G e) t ≡ new_kind G e t
kind-after S places G e g a t h q = ap (λ o. kind_in o) (find-after S places G e g a t) ∙ kind-seen S places G e g t h q

first_some : (P : Reference → Bool) (rs : List Reference) (r : Reference) → first_of P rs ≡ Some r → P r ≡ true
first_some P [] r h = absurd cc
first_some P (x ∷ rs) r h = elim (test (P x)) [
  | inl q ↦ let e : Some x ≡ Some r = rw q at h in let e' : x ≡ r = cc in subst (λ y. P y ≡ true) e' q
  | inr q ↦ first_some P rs r (rw q at h)
]

first_parts : (P : Reference → Bool) (xs ys : List Reference) → first_of P (xs ++ ys) ≡ None → (first_of P xs ≡ None) × (first_of P ys ≡ None)
first_parts P [] ys h = (refl, h)
first_parts P (x ∷ xs) ys h = elim (test (P x)) [
  | inl q ↦ absurd (let e : Some x ≡ None = rw q at h in cc)
  | inr q ↦ rw q (first_parts P xs ys (rw q at h))
]

first_none : (P : Reference → Bool) (rs : List Reference) (k : ℕ) (r : Reference) → first_of P rs ≡ None → slice_get rs k ≡ Some r → P r ≡ false
first_none P [] k r h s = absurd cc
first_none P (x ∷ rs) zero r h s = elim (test (P x)) [
  | inl q ↦ absurd (let e : Some x ≡ None = rw q at h in cc)
  | inr q ↦ let e : x ≡ r = cc in subst (λ y. P y ≡ false) e q
]
first_none P (x ∷ rs) (suc k) r h s = elim (test (P x)) [
  | inl q ↦ absurd (let e : Some x ≡ None = rw q at h in cc)
  | inr q ↦ first_none P rs k r (rw q at h) s
]

beside_none : (P : Reference → Bool) (name n : ℕ) (blocks : List Named) (b : Block) → first_of P (refs_beside name blocks) ≡ None → find n blocks ≡ Some b → n ≢ name
    → first_of P (refs b.node) ≡ None
beside_none P name n [] b h f ne = absurd cc
beside_none P name n (c ∷ blocks) b h f ne =
    elim (test (n == c.name)) [
      | inl q ↦
          let e : Some c.block ≡ Some b = rw q at f in
          let e' : c.block ≡ b = cc in
          let far : (name == c.name) ≡ false = differ name c.name (λ p. ne (eqb-true n c.name q ∙ sym p)) in
          subst (λ (x : Block). first_of P (refs x.node) ≡ None) e' (first_parts P (refs c.block.node) (refs_beside name blocks) (rw far at h)).0
      | inr q ↦
          let f' : find n blocks ≡ Some b = rw q at f in
          elim (test (name == c.name)) [
            | inl p ↦ beside_none P name n blocks b (rw p at h) f' ne
            | inr p ↦ beside_none P name n blocks b (first_parts P (refs c.block.node) (refs_beside name blocks) (rw p at h)).1 f' ne
          ]
    ]

wrong_parts : (S : Schema) (name : ℕ) (old new : Option ℕ) (r : Reference) → goes_wrong S name old new r ≡ true → is_wanted S r.wanted new ≡ false
wrong_parts S name old new r h = by (aims_at name r.target) (is_wanted S r.wanted old) (is_wanted S r.wanted new) h
  where
    by : (a b c : Bool) → (a && (b && not c)) ≡ true → c ≡ false
    by true true true h = absurd cc
    by true true false h = refl
    by true false c h = absurd cc
    by false b c h = absurd cc

right_parts : (S : Schema) (name : ℕ) (old new : Option ℕ) (r : Reference) → goes_wrong S name old new r ≡ false → aims_at name r.target ≡ true
    → is_wanted S r.wanted old ≡ true → is_wanted S r.wanted new ≡ true
right_parts S name old new r h p q = by (aims_at name r.target) (is_wanted S r.wanted old) (is_wanted S r.wanted new) h p q
  where
    by : (a b c : Bool) → (a && (b && not c)) ≡ false → a ≡ true → b ≡ true → c ≡ true
    by true true true h p q = refl
    by true true false h p q = absurd cc
    by true false c h p q = absurd cc
    by false b c h p q = absurd cc

-- a replacement that is not refused makes no reference wrong
none_wrong : (S : Schema) (places : RolePlaces) (G : Graph) (name by : ℕ) → name ≢ by → Accepted S places G (Replace name by)
    → first_of (goes_wrong S name (kind_of G name) (kind_of G by)) (refs_beside name G.blocks ++ refs G.footer) ≡ None
none_wrong S places G name by ne a =
    at (first_of P list) refl
  where
    P : Reference → Bool
    P = goes_wrong S name (kind_of G name) (kind_of G by)

    list : List Reference
    list = refs_beside name G.blocks ++ refs G.footer

    new : (b : Block) × (find by G.blocks ≡ Some b)
    new = lives G by (not_first (not_second a))

    refuse : (f : EditFault) → Mistypes S G name by f → ⊥
    refuse f m = not_second (not_second a) f (ne, inl m)

    wants : (r : Reference) (w : Option ℕ) → first_of P list ≡ Some r → r.wanted ≡ w → ⊥
    wants r None e p = let c : is_wanted S r.wanted (kind_of G by) ≡ false = wrong_parts S name (kind_of G name) (kind_of G by) r (first_some P list r e) in
        let c' : is_wanted S None (kind_of G by) ≡ false = rw p at c in cc
    wants r (Some w) e p = refuse (WrongType w new.0.kind) (r, w, new.0.kind, e, p, ap (λ o. kind_in o) new.1, refl)

    at : (o : Option Reference) → first_of P list ≡ o → o ≡ None
    at None e = refl
    at (Some r) e = absurd (wants r r.wanted e refl)

-- a reference to the replaced block is well typed with the new one
suits_new : (S : Schema) (places : RolePlaces) (G : Graph) (name by : ℕ) → Accepted S places G (Replace name by) → (h : Option ℕ) (k : ℕ) (r : Reference)
    → reference G h k ≡ Some r → (h ≡ Some name → name ≡ by) → r.target ≡ Some name → is_wanted S r.wanted (kind_of G name) ≡ true → is_wanted S r.wanted (kind_of G by) ≡ true
suits_new S places G name by a h k r s held aims old =
    elim (test (name == by)) [
      | inl q ↦ let e : name ≡ by = eqb-true name by q in subst (λ x. is_wanted S r.wanted (kind_of G x) ≡ true) e old
      | inr q ↦ right_parts S name (kind_of G name) (kind_of G by) r (at h s (λ p. eqb-false name by q (held p)) (eqb-false name by q)) (rw aims (same name)) old
    ]
  where
    P : Reference → Bool
    P = goes_wrong S name (kind_of G name) (kind_of G by)

    none : name ≢ by → (first_of P (refs_beside name G.blocks) ≡ None) × (first_of P (refs G.footer) ≡ None)
    none apart = first_parts P (refs_beside name G.blocks) (refs G.footer) (none_wrong S places G name by apart a)

    block : (o : Option Block) (n : ℕ) → find n G.blocks ≡ o → option_and_then (ref_at k) (option_map (λ (b : Block). b.node) o) ≡ Some r → n ≢ name → name ≢ by → P r ≡ false
    block None n e s ne apart = absurd cc
    block (Some b) n e s ne apart = first_none P (refs b.node) k r (beside_none P name n G.blocks b (none apart).0 e ne) s

    at : (h : Option ℕ) → reference G h k ≡ Some r → (h ≡ Some name → ⊥) → name ≢ by → P r ≡ false
    at None s ne apart = first_none P (refs G.footer) k r (none apart).1 s
    at (Some n) s ne apart = block (find n G.blocks) n refl s (λ e. ne (ap (λ x. Some x) e)) apart

new_suits : (S : Schema) (places : RolePlaces) (G : Graph) (e : Edit) → Accepted S places G e → (h : Option ℕ) (k : ℕ) (r : Reference) (t : ℕ)
    → reference G h k ≡ Some r → Held e h → r.target ≡ Some t → is_wanted S r.wanted (kind_of G t) ≡ true → is_wanted S r.wanted (new_kind G e t) ≡ true
new_suits S places G (Remove name) a h k r t s held p q = q
new_suits S places G (Copy name at) a h k r t s held p q = q
new_suits S places G (Insert kind at) a h k r t s held p q = q
new_suits S places G (Replace name by) a h k r t s held p q =
    elim (test (t == name)) [
      | inl c ↦
          let e : t ≡ name = eqb-true t name c in
          rw c (suits_new S places G name by a h k r s held (p ∙ ap (λ x. Some x) e) (subst (λ x. is_wanted S r.wanted (kind_of G x) ≡ true) e q))
      | inr c ↦ rw c q
    ]
new_suits S places G (Move name at) a h k r t s held p q = q
new_suits S places G (Reorder names) a h k r t s held p q = q
new_suits S places G (Point from j to) a h k r t s held p q = q

-- a reference that was well typed is so with what is left of its target
one_typed : (S : Schema) (places : RolePlaces) (G : Graph) (e : Edit) → IsGraph G → Accepted S places G e → (h : Option ℕ) (k : ℕ) (r : Reference)
    → reference G h k ≡ Some r → Held e h → well_typed S G r ≡ true → is_wanted S r.wanted (found (after S places G e) (kept e r.target)) ≡ true
one_typed S places G e g a h k r s held w = at r.target refl w
  where
    live : (t : ℕ) → r.target ≡ Some t → is_live t G.blocks ≡ true
    live t p = g.aimed h k r t s p

    at : (o : Option ℕ) → r.target ≡ o → is_wanted S r.wanted (found G o) ≡ true → is_wanted S r.wanted (found (after S places G e) (kept e o)) ≡ true
    at None p w = wanted_none S r.wanted
    at (Some t) p w = elim (test (removes e t)) [
      | inl q ↦ rw q (wanted_none S r.wanted)
      | inr q ↦
          let there : kind_of (after S places G e) t ≡ new_kind G e t = kind-after S places G e g a t (live t p) q in
          let new : is_wanted S r.wanted (new_kind G e t) ≡ true = new_suits S places G e a h k r t s held p w in
          rw q (subst (λ x. is_wanted S r.wanted x ≡ true) (sym there) new)
    ]

-- the reference is well typed when it is pointed
point_typed : (S : Schema) (places : RolePlaces) (G : Graph) (from : Option ℕ) (k : ℕ) (to : Option ℕ) (r : Reference) → IsGraph G → Accepted S places G (Point from k to)
    → reference G from k ≡ Some r → is_wanted S r.wanted (found (after S places G (Point from k to)) to) ≡ true
point_typed S places G from k None r g a s = wanted_none S r.wanted
point_typed S places G from k (Some t) r g a s =
    let there : kind_of (after S places G (Point from k (Some t))) t ≡ kind_of G t = kind-after S places G (Point from k (Some t)) g a t (aim_lives S places G from k t a) refl in
    subst (λ x. is_wanted S r.wanted x ≡ true) (sym there) (at (reference G from k) (not_first (not_second (not_second (not_second a)))) s)
  where
    new : (b : Block) × (find t G.blocks ≡ Some b)
    new = lives G t (not_first (not_second a))

    wants : (w : Option ℕ) → r.wanted ≡ w → ((f : EditFault) → Unsuited S G (Some r) t f → ⊥) → is_wanted S w (kind_of G t) ≡ true
    wants None p h = refl
    wants (Some w) p h = rw new.1 (elim (test (is_a S new.0.kind w)) [
      | inl q ↦ q
      | inr q ↦ absurd (h (WrongType w new.0.kind) (w, new.0.kind, p, ap (λ o. kind_in o) new.1, q, refl))
    ])

    at : (o : Option Reference) → ((f : EditFault) → Unsuited S G o t f → ⊥) → o ≡ Some r → is_wanted S r.wanted (kind_of G t) ≡ true
    at o h e = wants r.wanted refl (subst (λ x. (f : EditFault) → Unsuited S G x t f → ⊥) e h)

keeps_typed_one : (S : Schema) (places : RolePlaces) (G : Graph) (e : Edit) → IsGraph G → Accepted S places G e → Typed S G → Typed S (after S places G e)
keeps_typed_one S places G e g a all from k new s = by (origin S places G e g a from k new s)
  where
    by : Origin G e from k new → well_typed S (after S places G e) new ≡ true
    by (before h r s' p held) = subst (λ x. well_typed S (after S places G e) x ≡ true) (sym p) (one_typed S places G e g a h k r s' held (all h k r s'))
    by (put_in p) = rw p (wanted_none S new.wanted)
    by (pointed to r p s' q) =
        subst (λ x. well_typed S (after S places G e) x ≡ true) (sym q)
        (subst (λ x. is_wanted S r.wanted (found (after S places G x) to) ≡ true) (sym p)
        (point_typed S places G from k to r g (subst (λ x. Accepted S places G x) p a) s'))

pub keeps_typed : KeepsTyped
keeps_typed S places G [] g all typed = typed
keeps_typed S places G (e ∷ edits) g all typed =
    keeps_typed S places (after S places G e) edits (keeps_graph S places G e g all.0) all.1 (keeps_typed_one S places G e g all.0 typed)

-- a holder that is not touched
untouched_held : (e : Edit) (from : Option ℕ) (k : ℕ) → touches e from k ≡ false → Held e from
untouched_held (Remove name) from k t = tt
untouched_held (Copy name at) from k t = tt
untouched_held (Insert kind at) from k t = tt
untouched_held (Replace name by) from k t = λ p. eqb-true name by (and_false (same_holder from (Some name)) (name == by) t (rw p (same name)))
untouched_held (Move name at) from k t = tt
untouched_held (Reorder names) from k t = tt
untouched_held (Point holder j to) from k t = tt

pub stays_typed : StaysTyped
stays_typed S places G [] g all from k r s t w = at r.target w
  where
    at : (o : Option ℕ) → is_wanted S r.wanted (found G o) ≡ true → is_wanted S r.wanted (found G (left [] o)) ≡ true
    at None w = w
    at (Some n) w = w
stays_typed S places G (e ∷ edits) g all from k r s t w =
    let two = or_false (touches e from k) (touched edits from k) t in
    let one = one_survives S places G e g all.0 from k r s two.0 in
    let typed = one_typed S places G e g all.0 from k r s (untouched_held e from k two.0) w in
    subst (λ x. is_wanted S r.wanted (found (after_all S places (after S places G e) edits) x) ≡ true) (left_one e edits r.target)
    (stays_typed S places (after S places G e) edits (keeps_graph S places G e g all.0) all.1 from k (record r { target = kept e r.target }) one two.1 typed)
