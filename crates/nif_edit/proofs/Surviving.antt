-- A reference that no edit touched has its first target, or none where that block was removed.
use Rattle.std.proofs.Common.{◌≡◌, inl, inr, ℕ, Bool, true, false, Option, Some, None, List, [], ◌∷◌, refl, sym, ◌∙◌, ap}
use Rattle.std.proofs.lemmas.Bool.{eqb-true}
use Rattle.std.specs.Prelude.{◌==◌, ◌&&◌, ◌||◌, if◌then◌else◌, not, option_and_then}
use Rattle.std.specs.Option.{option_map}
use Rattle.nif_base.specs.Node.{Reference}
use Rattle.nif_base.specs.Graph.{Graph}
use Rattle.nif_schema.specs.Schema.{Schema, find_block}
use Rattle.nif_graph.specs.Graph.{IsGraph, find, reference}
use Rattle.nif_graph.specs.declared.places.RolePlaces.{RolePlaces}
use Rattle.nif_edit.specs.declared.edits.Edit.{Edit}
use Rattle.nif_edit.specs.declared.edits.Edit.TheVariants.{Remove, Copy, Insert, Replace, Move, Reorder, Point}
use Rattle.nif_edit.specs.After.{after}
use Rattle.nif_edit.specs.Refused.{Accepted}
use Rattle.nif_edit.specs.Laws.{same_holder, removes, touches, touched, left, new_block, Survives}
use Rattle.nif_edit.proofs.Finding.{test}
use Rattle.nif_edit.proofs.Nodes.{aimed}
use Rattle.nif_edit.proofs.Seen.{fresh}
use Rattle.nif_edit.proofs.References.{slot_of, reference-after, pointing, empty}
use Rattle.nif_edit.proofs.Origins.{kept, whole, holder_is, keeps_graph}

same_ref : (r : Reference) → Some r ≡ Some (record r { target = option_and_then (λ (target : ℕ). Some target) r.target })
same_ref r = ap (λ (t : Option ℕ). Some (record r { target = t })) (sym (whole r.target))

-- no reference stands in the new block before it is there
old_holder : (G : Graph) → IsGraph G → (from : Option ℕ) (k : ℕ) (r : Reference) → reference G from k ≡ Some r → same_holder from (Some G.next) ≡ false
old_holder G g from k r s =
    elim (test (same_holder from (Some G.next))) [
      | inl q ↦ absurd (
          let e : from ≡ Some G.next = holder_is from (Some G.next) q in
          let s' : slot_of (find G.next G.blocks) k ≡ Some r = rw e at s in
          let none : slot_of None k ≡ Some r = rw (fresh G g) at s' in cc)
      | inr q ↦ q
    ]

pub if_same : {X : Type 0} (c : Bool) (x y z : X) → (c ≡ true → x ≡ z) → (c ≡ false → y ≡ z) → (if c then x else y) ≡ z
if_same true x y z p q = p refl
if_same false x y z p q = q refl

pub if_false : {X : Type 0} (c : Bool) (x y z : X) → c ≡ false → y ≡ z → (if c then x else y) ≡ z
if_false true x y z h q = absurd cc
if_false false x y z h q = q

pub and_false : (a b : Bool) → (a && not b) ≡ false → a ≡ true → b ≡ true
and_false true true h p = refl
and_false true false h p = absurd cc
and_false false b h p = absurd cc

pub one_survives : (S : Schema) (places : RolePlaces) (G : Graph) (e : Edit) → IsGraph G → Accepted S places G e → (from : Option ℕ) (k : ℕ) (r : Reference)
    → reference G from k ≡ Some r → touches e from k ≡ false → reference (after S places G e) from k ≡ Some (record r { target = kept e r.target })
one_survives S places G (Remove name) g a from k r s t =
    reference-after S places G (Remove name) g a from k
    ∙ if_false (same_holder from (Some name)) None (option_map (aimed (empty name)) (reference G from k)) (Some (aimed (empty name) r)) t (ap (λ o. option_map (aimed (empty name)) o) s)
one_survives S places G (Copy name at) g a from k r s t =
    reference-after S places G (Copy name at) g a from k
    ∙ if_false (same_holder from (Some G.next)) (reference G (Some name) k) (reference G from k) (Some r) (old_holder G g from k r s) s ∙ same_ref r
one_survives S places G (Insert kind at) g a from k r s t =
    reference-after S places G (Insert kind at) g a from k
    ∙ if_false (same_holder from (Some G.next)) (slot_of (option_map (new_block S places G kind) (find_block S kind)) k) (reference G from k) (Some r) (old_holder G g from k r s) s ∙ same_ref r
one_survives S places G (Replace name by) g a from k r s t =
    reference-after S places G (Replace name by) g a from k
    ∙ if_same (same_holder from (Some name)) (reference G (Some by) k) (reference G from k) (Some r)
    (λ q.
    let e : from ≡ Some name = holder_is from (Some name) q in
    let e' : name ≡ by = eqb-true name by (and_false (same_holder from (Some name)) (name == by) t q) in
    ap (λ x. reference G x k) (sym (e ∙ ap (λ x. Some x) e')) ∙ s)
    (λ q. s)
    ∙ same_ref r
one_survives S places G (Move name at) g a from k r s t = reference-after S places G (Move name at) g a from k ∙ s ∙ same_ref r
one_survives S places G (Reorder names) g a from k r s t = reference-after S places G (Reorder names) g a from k ∙ s ∙ same_ref r
one_survives S places G (Point holder j to) g a from k r s t =
    reference-after S places G (Point holder j to) g a from k
    ∙ if_false (same_holder from holder && (k == j)) (option_map (pointing to) (reference G from k)) (reference G from k) (Some r) t s ∙ same_ref r

pub left_one : (e : Edit) (edits : List Edit) (t : Option ℕ) → left edits (kept e t) ≡ left (e ∷ edits) t
left_one e edits None = refl
left_one e edits (Some n) = elim (test (removes e n)) [ inl q ↦ rw q refl | inr q ↦ rw q refl ]

pub or_false : (a b : Bool) → (a || b) ≡ false → (a ≡ false) × (b ≡ false)
or_false true b h = absurd cc
or_false false b h = (refl, h)

pub survives : Survives
survives S places G [] g all from k r s t = s ∙ same_ref r
survives S places G (e ∷ edits) g all from k r s t =
    let two = or_false (touches e from k) (touched edits from k) t in
    let one = one_survives S places G e g all.0 from k r s two.0 in
    survives S places (after S places G e) edits (keeps_graph S places G e g all.0) all.1 from k (record r { target = kept e r.target }) one two.1
    ∙ ap (λ x. Some (record r { target = x })) (left_one e edits r.target)
