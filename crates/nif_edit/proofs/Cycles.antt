-- An accepted edit makes no cycle.
use Rattle.std.proofs.Common.{◌≡◌, ◌≢◌, inl, inr, ℕ, ◌<◌, true, Option, Some, None, [], ◌∷◌, refl, sym, ◌∙◌, ap, subst, arith}
use Rattle.std.proofs.lemmas.Bool.{eqb-true}
use Rattle.std.specs.Prelude.{◌==◌, ◌&&◌, if◌then◌else◌}
use Rattle.std.specs.Option.{option_map}
use Rattle.nif_base.specs.Node.{Reference}
use Rattle.nif_base.specs.File.{Block}
use Rattle.nif_base.specs.Graph.{Graph}
use Rattle.nif_schema.specs.Schema.{Schema, find_block}
use Rattle.nif_graph.specs.Graph.{IsGraph, find, is_live, reference}
use Rattle.nif_graph.specs.Reach.{Walk, Here, Then, Leads, Reaches}
use Rattle.nif_graph.specs.declared.places.RolePlaces.{RolePlaces}
use Rattle.nif_edit.specs.declared.edits.Edit.{Edit}
use Rattle.nif_edit.specs.declared.edits.Edit.TheVariants.{Remove, Copy, Insert, Replace, Move, Reorder, Point}
use Rattle.nif_edit.specs.Edit.{EditFault, WouldCycle}
use Rattle.nif_edit.specs.After.{after}
use Rattle.nif_edit.specs.Refused.{First, Where, Mistypes, TooLarge, Closes, Accepted}
use Rattle.nif_edit.specs.Laws.{same_holder, new_block, KeepsAcyclic}
use Rattle.nif_edit.proofs.Finding.{same}
use Rattle.nif_edit.proofs.Nodes.{aimed}
use Rattle.nif_edit.proofs.Walks.{NoCycle, fewer, new_steps, either, walk_as}
use Rattle.nif_edit.proofs.Zeros.{new_leads_nowhere}
use Rattle.nif_edit.proofs.Seen.{not_first, not_second}
use Rattle.nif_edit.proofs.References.{slot_of, reference-after, pointing, empty}
use Rattle.nif_edit.proofs.Origins.{split, map_some, kept, kept_some, keeps_graph, both}

-- a strong reference of block a, by its number, is to block b
abbrev Links : Graph → ℕ → ℕ → Type 0
Links G a b =
    (k : ℕ) × (r : Reference) × (reference G (Some a) k ≡ Some r) × (r.strong ≡ true) × (r.target ≡ Some b)

to_leads : (G : Graph) (a b : ℕ) → Links G a b → Leads G.blocks a b
to_leads G a b l = by (find a G.blocks) refl l.2
  where
    by : (o : Option Block) → find a G.blocks ≡ o → slot_of o l.0 ≡ Some l.1 → Leads G.blocks a b
    by None e s = absurd cc
    by (Some block) e s = (block, l.0, l.1, e, s, l.3, l.4)

from_leads : (G : Graph) (a b : ℕ) → Leads G.blocks a b → Links G a b
from_leads G a b l = (l.1, l.2, ap (λ o. slot_of o l.1) l.3 ∙ l.4, l.5, l.6)

-- the same reference of an earlier graph
led : (G : Graph) (a b k : ℕ) (r : Reference) → r.strong ≡ true → r.target ≡ Some b → reference G (Some a) k ≡ Some r → Links G a b
led G a b k r strong target s = (k, r, s, strong, target)

-- from another block than the new one
beside : (G : Graph) (n a b k : ℕ) (x : Option Reference) (r : Reference) → r.strong ≡ true → r.target ≡ Some b → a ≢ n
    → (if same_holder (Some a) (Some n) then x else reference G (Some a) k) ≡ Some r → Links G a b
beside G n a b k x r strong target ne s =
    split (a == n) x (reference G (Some a) k) (Some r) (Links G a b) s (λ q e. absurd (ne (eqb-true a n q))) (λ q e. led G a b k r strong target e)

-- from the new one
from_it : (n : ℕ) (x y : Option Reference) (r : Reference) → (if same_holder (Some n) (Some n) then x else y) ≡ Some r → x ≡ Some r
from_it n x y r s = rw (same n) at s

no_walk : (G : Graph) → IsGraph G → {a b : ℕ} → Walk (Links G) a b → b ≡ G.next → is_live a G.blocks ≡ true → ⊥
no_walk G g (Here {a}) e live = let h : a < G.next = g.below a live in absurd (omega arith)
no_walk G g (Then {a} {b} {c} l w) e live = no_walk G g w e (g.aimed (Some a) l.0 l.1 b l.2 l.4)

-- a walk from the other block that a replacement would close
replace_walk : (S : Schema) (places : RolePlaces) (G : Graph) (name by : ℕ) → Accepted S places G (Replace name by) → name ≢ by
    → (y : ℕ) → Links G by y → Walk (Links G) y name → ⊥
replace_walk S places G name by a ne y l w =
    let refuse : (f : EditFault) → First (Mistypes S G name by) (First (Where (Reaches G.blocks by name) WouldCycle)
    (TooLarge S places (after S places G (Replace name by)))) f → ⊥ = λ f x. not_second (not_second a) f (ne, x) in
    not_first (not_second refuse) WouldCycle ((y, to_leads G by y l, walk_as {S = Leads G.blocks} {R = Links G} (to_leads G) w), refl)

keeps_acyclic_one : (S : Schema) (places : RolePlaces) (G : Graph) (e : Edit) → IsGraph G → Accepted S places G e → NoCycle (Links G) → NoCycle (Links (after S places G e))
keeps_acyclic_one S places G (Remove name) g a none =
    fewer {S = Links G} {R = Links (after S places G (Remove name))} (λ x y l.
    split (same_holder (Some x) (Some name)) None (option_map (aimed (empty name)) (reference G (Some x) l.0)) (Some l.1) (Links G x y)
    (sym (reference-after S places G (Remove name) g a (Some x) l.0) ∙ l.2)
    (λ q p. absurd cc)
    (λ q p.
    let m = map_some (aimed (empty name)) (reference G (Some x) l.0) l.1 p in
    let target : kept (Remove name) m.0.target ≡ Some y = sym (ap (λ (r : Reference). r.target) m.2) ∙ l.4 in
    (l.0, m.0, m.1, sym (ap (λ (r : Reference). r.strong) m.2) ∙ l.3, (kept_some (Remove name) m.0.target y target).0))) none
keeps_acyclic_one S places G (Copy name at) g a none =
    new_steps G.next (Links G) (Links (after S places G (Copy name at)))
    (λ x y ne l. beside G G.next x y l.0 (reference G (Some name) l.0) l.1 l.3 l.4 ne (sym (reference-after S places G (Copy name at) g a (Some x) l.0) ∙ l.2)) none
    (λ y l w.
    let s = from_it G.next (reference G (Some name) l.0) (reference G (Some G.next) l.0) l.1 (sym (reference-after S places G (Copy name at) g a (Some G.next) l.0) ∙ l.2) in
    no_walk G g w refl (g.aimed (Some name) l.0 l.1 y s l.4))
keeps_acyclic_one S places G (Insert kind at) g a none =
    new_steps G.next (Links G) (Links (after S places G (Insert kind at)))
    (λ x y ne l. beside G G.next x y l.0 (slot_of (option_map (new_block S places G kind) (find_block S kind)) l.0) l.1 l.3 l.4 ne (sym (reference-after S places G (Insert kind at) g a (Some x) l.0) ∙ l.2)) none
    (λ y l w.
    let s = from_it G.next (slot_of (option_map (new_block S places G kind) (find_block S kind)) l.0) (reference G (Some G.next) l.0) l.1 (sym (reference-after S places G (Insert kind at) g a (Some G.next) l.0) ∙ l.2) in
    let e : l.1.target ≡ None = new_leads_nowhere S places G kind (find_block S kind) l.0 l.1 s in
    let e' : l.1.target ≡ Some y = l.4 in absurd cc)
keeps_acyclic_one S places G (Replace name by) g a none = elim (either name by) [
  | inl q ↦ fewer {S = Links G} {R = Links (after S places G (Replace name by))} (λ x y l.
      split (same_holder (Some x) (Some name)) (reference G (Some by) l.0) (reference G (Some x) l.0) (Some l.1) (Links G x y)
      (sym (reference-after S places G (Replace name by) g a (Some x) l.0) ∙ l.2)
      (λ p e.
      let same_name : x ≡ by = eqb-true x name p ∙ q in
      led G x y l.0 l.1 l.3 l.4 (ap (λ n. reference G (Some n) l.0) same_name ∙ e))
      (λ p e. led G x y l.0 l.1 l.3 l.4 e)) none
  | inr q ↦ new_steps name (Links G) (Links (after S places G (Replace name by)))
      (λ x y ne l. beside G name x y l.0 (reference G (Some by) l.0) l.1 l.3 l.4 ne (sym (reference-after S places G (Replace name by) g a (Some x) l.0) ∙ l.2)) none
      (λ y l w.
      let s = from_it name (reference G (Some by) l.0) (reference G (Some name) l.0) l.1 (sym (reference-after S places G (Replace name by) g a (Some name) l.0) ∙ l.2) in
      replace_walk S places G name by a q y (led G by y l.0 l.1 l.3 l.4 s) w)
]
keeps_acyclic_one S places G (Move name at) g a none =
    fewer {S = Links G} {R = Links (after S places G (Move name at))} (λ x y l. led G x y l.0 l.1 l.3 l.4 (sym (reference-after S places G (Move name at) g a (Some x) l.0) ∙ l.2)) none
keeps_acyclic_one S places G (Reorder names) g a none =
    fewer {S = Links G} {R = Links (after S places G (Reorder names))} (λ x y l. led G x y l.0 l.1 l.3 l.4 (sym (reference-after S places G (Reorder names) g a (Some x) l.0) ∙ l.2)) none
keeps_acyclic_one S places G (Point None k to) g a none = none
keeps_acyclic_one S places G (Point (Some name) k to) g a none =
    new_steps name (Links G) (Links (after S places G (Point (Some name) k to)))
    (λ x y ne l.
    split (same_holder (Some x) (Some name) && (l.0 == k)) (option_map (pointing to) (reference G (Some x) l.0)) (reference G (Some x) l.0) (Some l.1) (Links G x y)
    (sym (reference-after S places G (Point (Some name) k to) g a (Some x) l.0) ∙ l.2)
    (λ q e. absurd (ne (eqb-true x name (both (x == name) (l.0 == k) q).0)))
    (λ q e. led G x y l.0 l.1 l.3 l.4 e)) none
    (λ y l w.
    split (same_holder (Some name) (Some name) && (l.0 == k)) (option_map (pointing to) (reference G (Some name) l.0)) (reference G (Some name) l.0) (Some l.1) ⊥
    (sym (reference-after S places G (Point (Some name) k to) g a (Some name) l.0) ∙ l.2)
    (λ q e.
    let m = map_some (pointing to) (reference G (Some name) l.0) l.1 e in
    let at : l.0 ≡ k = eqb-true l.0 k (both (name == name) (l.0 == k) q).1 in
    let to_is : to ≡ Some y = sym (ap (λ (r : Reference). r.target) m.2) ∙ l.4 in
    closes m.0 y w (sym (ap (λ n. reference G (Some name) n) at) ∙ m.1) (sym (ap (λ (r : Reference). r.strong) m.2) ∙ l.3) to_is)
    (λ q e. none name (y, led G name y l.0 l.1 l.3 l.4 e, w)))
  where
    closes : (r : Reference) (y : ℕ) → Walk (Links G) y name → reference G (Some name) k ≡ Some r → r.strong ≡ true → to ≡ Some y → ⊥
    closes r y w s strong to_is =
        let at : Closes G (Some name) (Some r) y = (strong, walk_as {S = Leads G.blocks} {R = Links G} (to_leads G) w) in
        let a' : Accepted S places G (Point (Some name) k (Some y)) =
        subst (λ t. Accepted S places G (Point (Some name) k t)) to_is a in
        not_second (not_second (not_second (not_second a'))) WouldCycle (subst (λ o. Closes G (Some name) o y) (sym s) at, refl)

pub keeps_acyclic : KeepsAcyclic
keeps_acyclic S places G [] g all none = none
keeps_acyclic S places G (e ∷ edits) g all none =
    let next = after S places G e in
    keeps_acyclic S places next edits (keeps_graph S places G e g all.0) all.1
    (fewer {S = Links next} {R = Leads next.blocks} (from_leads next)
    (keeps_acyclic_one S places G e g all.0 (fewer {S = Leads G.blocks} {R = Links G} (to_leads G) none)))
