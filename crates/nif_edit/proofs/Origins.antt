-- Where each reference of a graph after an accepted edit comes from; so that graph is one.
use Rattle.std.proofs.Common.{◌≡◌, ℕ, Bool, true, false, Option, Some, None, refl, sym, ◌∙◌, ap, ap₂, subst}
use Rattle.std.proofs.lemmas.Bool.{eqb-true}
use Rattle.std.specs.Prelude.{◌==◌, ◌&&◌, if◌then◌else◌, is_some, option_and_then}
use Rattle.std.specs.Option.{option_map}
use Rattle.nif_base.specs.Node.{Reference}
use Rattle.nif_base.specs.Graph.{Graph}
use Rattle.nif_schema.specs.Schema.{Schema, find_block}
use Rattle.nif_graph.specs.Graph.{IsGraph, is_live, reference}
use Rattle.nif_graph.specs.declared.places.RolePlaces.{RolePlaces}
use Rattle.nif_edit.specs.declared.edits.Edit.{Edit}
use Rattle.nif_edit.specs.declared.edits.Edit.TheVariants.{Remove, Copy, Insert, Replace, Move, Reorder, Point}
use Rattle.nif_edit.specs.After.{after}
use Rattle.nif_edit.specs.Refused.{Accepted}
use Rattle.nif_edit.specs.Laws.{same_holder, removes, new_block, KeepsGraph}
use Rattle.nif_edit.proofs.Finding.{same}
use Rattle.nif_edit.proofs.Nodes.{aimed}
use Rattle.nif_edit.proofs.Zeros.{new_leads_nowhere}
use Rattle.nif_edit.proofs.Seen.{find-after, not_first, not_second, lives}
use Rattle.nif_edit.proofs.References.{reference-after, slot_of, pointing, empty}
use Rattle.nif_edit.proofs.Kept.{different-after, below-seen, live-kept, is_live-some}

-- what an edit leaves of a target
abbrev pub kept : Edit → Option ℕ → Option ℕ
kept e = option_and_then (λ target. if removes e target then None else Some target)

-- the holder is not replaced by another
abbrev pub Held : Edit → Option ℕ → Type 0
Held (Remove name) h = Unit {0}
Held (Copy name at) h = Unit {0}
Held (Insert kind at) h = Unit {0}
Held (Replace name by) h = h ≡ Some name → name ≡ by
Held (Move name at) h = Unit {0}
Held (Reorder names) h = Unit {0}
Held (Point from k to) h = Unit {0}

-- A reference stood in the graph before, stands in a new block and is empty, or was pointed.
pub data Origin (G : Graph) (e : Edit) (from : Option ℕ) (k : ℕ) (new : Reference) : Type 0 where
  before : (h : Option ℕ) → (r : Reference) → reference G h k ≡ Some r → new ≡ record r { target = kept e r.target } → Held e h → Origin G e from k new
  put_in : new.target ≡ None → Origin G e from k new
  pointed : (to : Option ℕ) → (r : Reference) → e ≡ Point from k to → reference G from k ≡ Some r → new ≡ record r { target = to } → Origin G e from k new

pub whole : (t : Option ℕ) → option_and_then (λ (target : ℕ). Some target) t ≡ t
whole None = refl
whole (Some t) = refl

-- the same reference
whole_ref : (r new : Reference) → r ≡ new → new ≡ record r { target = option_and_then (λ (target : ℕ). Some target) r.target }
whole_ref r new e = sym e ∙ ap (λ t. record r { target = t }) (sym (whole r.target))

pub map_some : {X Y : Type 0} (f : X → Y) (o : Option X) (y : Y) → option_map f o ≡ Some y → (x : X) × (o ≡ Some x) × (y ≡ f x)
map_some f None y h = absurd cc
map_some f (Some x) y h = (x, refl, cc)

-- a value that stands in one of two cases
pub split : {X : Type 0} (c : Bool) (x y z : Option X) (P : Type 0) → (if c then x else y) ≡ z → (c ≡ true → x ≡ z → P) → (c ≡ false → y ≡ z → P) → P
split true x y z P h p q = p refl h
split false x y z P h p q = q refl h

pub holder_is : (h from : Option ℕ) → same_holder h from ≡ true → h ≡ from
holder_is None None q = refl
holder_is None (Some m) q = absurd cc
holder_is (Some n) None q = absurd cc
holder_is (Some n) (Some m) q = ap (λ x. Some x) (eqb-true n m q)

pub same_is : (h : Option ℕ) → same_holder h h ≡ true
same_is None = refl
same_is (Some n) = same n

pub both : (a b : Bool) → (a && b) ≡ true → (a ≡ true) × (b ≡ true)
both true true h = (refl, refl)
both true false h = absurd cc
both false b h = absurd cc

pub origin : (S : Schema) (places : RolePlaces) (G : Graph) (e : Edit) → IsGraph G → Accepted S places G e → (from : Option ℕ) (k : ℕ) (new : Reference)
    → reference (after S places G e) from k ≡ Some new → Origin G e from k new
origin S places G (Remove name) g a from k new h =
    split (same_holder from (Some name)) None (option_map (aimed (empty name)) (reference G from k)) (Some new) (Origin G (Remove name) from k new)
    (sym (reference-after S places G (Remove name) g a from k) ∙ h)
    (λ q e. absurd cc)
    (λ q e. let m = map_some (aimed (empty name)) (reference G from k) new e in before from m.0 m.1 m.2 tt)
origin S places G (Copy name at) g a from k new h =
    split (same_holder from (Some G.next)) (reference G (Some name) k) (reference G from k) (Some new) (Origin G (Copy name at) from k new)
    (sym (reference-after S places G (Copy name at) g a from k) ∙ h)
    (λ q e. before (Some name) new e (whole_ref new new refl) tt)
    (λ q e. before from new e (whole_ref new new refl) tt)
origin S places G (Insert kind at) g a from k new h =
    split (same_holder from (Some G.next)) (slot_of (option_map (new_block S places G kind) (find_block S kind)) k) (reference G from k) (Some new) (Origin G (Insert kind at) from k new)
    (sym (reference-after S places G (Insert kind at) g a from k) ∙ h)
    (λ q e. put_in (new_leads_nowhere S places G kind (find_block S kind) k new e))
    (λ q e. before from new e (whole_ref new new refl) tt)
origin S places G (Replace name by) g a from k new h =
    split (same_holder from (Some name)) (reference G (Some by) k) (reference G from k) (Some new) (Origin G (Replace name by) from k new)
    (sym (reference-after S places G (Replace name by) g a from k) ∙ h)
    (λ q e. before (Some by) new e (whole_ref new new refl) (λ p. cc))
    (λ q e. before from new e (whole_ref new new refl) (λ p. absurd (let t : same_holder from (Some name) ≡ true = rw p (same name) in cc)))
origin S places G (Move name at) g a from k new h = before from new (sym (reference-after S places G (Move name at) g a from k) ∙ h) (whole_ref new new refl) tt
origin S places G (Reorder names) g a from k new h = before from new (sym (reference-after S places G (Reorder names) g a from k) ∙ h) (whole_ref new new refl) tt
origin S places G (Point holder j to) g a from k new h =
    split (same_holder from holder && (k == j)) (option_map (pointing to) (reference G from k)) (reference G from k) (Some new) (Origin G (Point holder j to) from k new)
    (sym (reference-after S places G (Point holder j to) g a from k) ∙ h)
    (λ q e.
    let two = both (same_holder from holder) (k == j) q in
    let m = map_some (pointing to) (reference G from k) new e in
    let p : from ≡ holder = holder_is from holder two.0 in
    let p' : k ≡ j = eqb-true k j two.1 in
    pointed to m.0 (ap₂ (λ x y. Point x y to) (sym p) (sym p')) m.1 m.2)
    (λ q e. before from new e (whole_ref new new refl) tt)

pub kept_some : (e : Edit) (o : Option ℕ) (t : ℕ) → kept e o ≡ Some t → (o ≡ Some t) × (removes e t ≡ false)
kept_some e None t h = absurd cc
kept_some e (Some x) t h =
    split (removes e x) None (Some x) (Some t) ((Some x ≡ Some t) × (removes e t ≡ false)) h
    (λ q p. absurd cc)
    (λ q p. (p, let s : x ≡ t = cc in subst (λ y. removes e y ≡ false) s q))

pub live-after : (S : Schema) (places : RolePlaces) (G : Graph) (e : Edit) → IsGraph G → Accepted S places G e → (n : ℕ) → is_live n G.blocks ≡ true → removes e n ≡ false
    → is_live n (after S places G e).blocks ≡ true
live-after S places G e g a n h q = ap (λ o. is_some o) (find-after S places G e g a n) ∙ live-kept S places G e a n h q

-- the block that a reference is pointed at lives
pub aim_lives : (S : Schema) (places : RolePlaces) (G : Graph) (from : Option ℕ) (k t : ℕ) → Accepted S places G (Point from k (Some t)) → is_live t G.blocks ≡ true
aim_lives S places G from k t a = let l = lives G t (not_first (not_second a)) in is_live-some t G.blocks l.0 l.1

pub keeps_graph : KeepsGraph
keeps_graph S places G e g a = record {
  different = different-after S places G e g a;
  below = λ n h. below-seen S places G e g a n (sym (ap (λ o. is_some o) (find-after S places G e g a n)) ∙ h);
  aimed = λ from k r t s h. aims from k r t h (origin S places G e g a from k r s);
}
  where
    aims : (from : Option ℕ) (k : ℕ) (r : Reference) (t : ℕ) → r.target ≡ Some t → Origin G e from k r → is_live t (after S places G e).blocks ≡ true
    aims from k r t h (before holder old s p held) =
        let p' : kept e old.target ≡ Some t = sym (ap (λ (x : Reference). x.target) p) ∙ h in
        let two = kept_some e old.target t p' in
        live-after S places G e g a t (g.aimed holder k old t s two.0) two.1
    aims from k r t h (put_in p) = absurd cc
    aims from k r t h (pointed to old p s q) =
        let to_is : to ≡ Some t = sym (ap (λ (x : Reference). x.target) q) ∙ h in
        let p' : e ≡ Point from k (Some t) = p ∙ ap (λ x. Point from k x) to_is in
        live-after S places G e g a t (aim_lives S places G from k t (subst (λ x. Accepted S places G x) p' a)) (ap (λ x. removes x t) p')
