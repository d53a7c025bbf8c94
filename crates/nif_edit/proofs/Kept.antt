-- An accepted edit leaves a graph, and where each reference of that graph comes from.
use Rattle.std.proofs.Common.{◌≡◌, inl, inr, ℕ, suc, ◌<◌, ◌≤◌, Bool, true, false, Option, Some, None, List, refl, sym, ◌∙◌, ap, subst, arith}
use Rattle.std.proofs.lemmas.Bool.{eqb-true}
use Rattle.std.specs.Prelude.{◌==◌, if◌then◌else◌, is_some, insert}
use Rattle.std.specs.Option.{option_map, option_map_or}
use Rattle.nif_base.specs.File.{Block}
use Rattle.nif_base.specs.Graph.{Named, Graph}
use Rattle.nif_cells.specs.Building.{with_target}
use Rattle.nif_schema.specs.Schema.{Schema, find_block}
use Rattle.nif_layout.specs.Zero.{zero_of}
use Rattle.nif_graph.specs.Graph.{IsGraph, Different, find, is_live}
use Rattle.nif_graph.specs.Changes.{emptied, with_node, without, changed, added}
use Rattle.nif_graph.specs.declared.places.RolePlaces.{RolePlaces}
use Rattle.nif_edit.specs.declared.edits.Edit.{Edit}
use Rattle.nif_edit.specs.declared.edits.Edit.TheVariants.{Remove, Copy, Insert, Replace, Move, Reorder, Point}
use Rattle.nif_edit.specs.Inserted.{context_of, inserted}
use Rattle.nif_edit.specs.After.{after}
use Rattle.nif_graph.specs.Changes.{times}
use Rattle.nif_edit.specs.Refused.{Accepted}
use Rattle.nif_edit.specs.Laws.{seen, removes, new_block}
use Rattle.nif_edit.proofs.Finding.{test, same, find-without, different-insert, different-without, different-all_emptied, different-changed, different-listed}
use Rattle.nif_edit.proofs.Seen.{not_first, not_second, lives, fresh, is_order, declared}

different_with : (G : Graph) (f : Block → List Named) (o : Option Block) → Different G.blocks → ((b : Block) → Different (f b))
    → Different (option_map_or (λ (b : Block). record G { blocks = f b }) o G).blocks
different_with G f None d h = d
different_with G f (Some b) d h = h b

different_copied : (G : Graph) (at : ℕ) (o : Option Block) → Different G.blocks → find G.next G.blocks ≡ None
    → Different (option_map_or (λ (b : Block). added G at b) o G).blocks
different_copied G at None d h = d
different_copied G at (Some b) d h = different-insert at (record { name = G.next; block = b }) G.blocks h d

different_put_in : (S : Schema) (places : RolePlaces) (G : Graph) (kind : List ℕ) (at : ℕ) (o : Option ℕ) → Different G.blocks
    → find G.next G.blocks ≡ None
    → Different (option_map_or (λ number. inserted places G kind at number (zero_of S (context_of G (Some number)) number)) o G).blocks
different_put_in S places G kind at None d h = d
different_put_in S places G kind at (Some number) d h =
    different-insert at (record { name = G.next; block = new_block S places G kind number }) G.blocks h d

one_or_none : (b : Bool) (k : ℕ) → k ≡ (if b then 1 else 0) → k ≤ 1
one_or_none true k h = omega arith
one_or_none false k h = omega arith

pub different-after : (S : Schema) (places : RolePlaces) (G : Graph) (e : Edit) → IsGraph G → Accepted S places G e → Different (after S places G e).blocks
different-after S places G (Remove name) g a = different-all_emptied name (without name G.blocks) (different-without name G.blocks g.different)
different-after S places G (Copy name at) g a = different_copied G at (find name G.blocks) g.different (fresh G g)
different-after S places G (Insert kind at) g a = different_put_in S places G kind at (find_block S kind) g.different (fresh G g)
different-after S places G (Replace name by) g a =
    different_with G (λ b. changed name (λ old. b) G.blocks) (find by G.blocks) g.different (λ b. different-changed name (λ old. b) G.blocks g.different)
different-after S places G (Move name at) g a =
    different_with G (λ b. insert (without name G.blocks) at (record { name = name; block = b })) (find name G.blocks) g.different
    (λ b. different-insert at (record { name = name; block = b }) (without name G.blocks) (find-without name name G.blocks g.different ∙ rw (same name) refl)
    (different-without name G.blocks g.different))
different-after S places G (Reorder names) g a =
    different-listed names G.blocks (λ n. one_or_none (is_live n G.blocks) (times n names) (is_order names G.blocks a n))
different-after S places G (Point None k to) g a = g.different
different-after S places G (Point (Some name) k to) g a = different-changed name (λ b. with_node b (with_target k to b.node)) G.blocks g.different

some-map : {X : Type 0} (f : X → X) (o : Option X) → is_some (option_map f o) ≡ is_some o
some-map f None = refl
some-map f (Some x) = refl

pub is_live-some : (n : ℕ) (blocks : List Named) (b : Block) → find n blocks ≡ Some b → is_live n blocks ≡ true
is_live-some n blocks b e = ap (λ o. is_some o) e

-- the next name of a graph with other blocks
next_with : (G : Graph) (f : Block → List Named) (o : Option Block) → (option_map_or (λ (b : Block). record G { blocks = f b }) o G).next ≡ G.next
next_with G f None = refl
next_with G f (Some b) = refl

next_copied : (G : Graph) (at : ℕ) (o : Option Block) (b : Block) → o ≡ Some b → (option_map_or (λ (b : Block). added G at b) o G).next ≡ suc G.next
next_copied G at None b e = absurd cc
next_copied G at (Some x) b e = refl

next_put_in : (S : Schema) (places : RolePlaces) (G : Graph) (kind : List ℕ) (at : ℕ) (o : Option ℕ) (number : ℕ) → o ≡ Some number
    → (option_map_or (λ number. inserted places G kind at number (zero_of S (context_of G (Some number)) number)) o G).next ≡ suc G.next
next_put_in S places G kind at None number e = absurd cc
next_put_in S places G kind at (Some x) number e = refl

-- a name that stands in one of two cases
either_below : (c : Bool) (x y : Option Block) (P : Type 0) → is_some (if c then x else y) ≡ true → (c ≡ true → P) → (is_some y ≡ true → P) → P
either_below true x y P h p q = p refl
either_below false x y P h p q = q h

pub below-seen : (S : Schema) (places : RolePlaces) (G : Graph) (e : Edit) → IsGraph G → Accepted S places G e → (n : ℕ) → is_some (seen S places G e n) ≡ true → n < (after S places G e).next
below-seen S places G (Remove name) g a n h =
    elim (test (n == name)) [
      | inl q ↦ absurd (let h' : is_some {T = Block} None ≡ true = rw q at h in cc)
      | inr q ↦ g.below n (sym (some-map (λ (b : Block). with_node b (emptied name b.node)) (find n G.blocks)) ∙ rw q at h)
    ]
below-seen S places G (Copy name at) g a n h =
    let l = lives G name (not_first a) in
    let e : (after S places G (Copy name at)).next ≡ suc G.next = next_copied G at (find name G.blocks) l.0 l.1 in
    either_below (n == G.next) (find name G.blocks) (find n G.blocks) (n < (after S places G (Copy name at)).next) h
    (λ q. let k : n ≡ G.next = eqb-true n G.next q in omega (arith, e)) (λ q. let k : n < G.next = g.below n q in omega (arith, e))
below-seen S places G (Insert kind at) g a n h =
    let t = declared S places G kind at a in
    let e : (after S places G (Insert kind at)).next ≡ suc G.next = next_put_in S places G kind at (find_block S kind) t.0 t.1 in
    either_below (n == G.next) (option_map (new_block S places G kind) (find_block S kind)) (find n G.blocks)
    (n < (after S places G (Insert kind at)).next) h
    (λ q. let k : n ≡ G.next = eqb-true n G.next q in omega (arith, e)) (λ q. let k : n < G.next = g.below n q in omega (arith, e))
below-seen S places G (Replace name by) g a n h =
    let l = lives G name (not_first a) in
    subst (λ m. n < m) (sym (next_with G (λ b. changed name (λ old. b) G.blocks) (find by G.blocks)))
    (either_below (n == name) (find by G.blocks) (find n G.blocks) (n < G.next) h
    (λ q. let k : n ≡ name = eqb-true n name q in g.below n (ap (λ x. is_live x G.blocks) k ∙ is_live-some name G.blocks l.0 l.1)) (λ q. g.below n q))
below-seen S places G (Move name at) g a n h =
    subst (λ m. n < m) (sym (next_with G (λ b. insert (without name G.blocks) at (record { name = name; block = b })) (find name G.blocks))) (g.below n h)
below-seen S places G (Reorder names) g a n h = g.below n h
below-seen S places G (Point None k to) g a n h = g.below n h
below-seen S places G (Point (Some name) k to) g a n h =
    elim (test (n == name)) [
      | inl q ↦ g.below n (sym (some-map (λ (b : Block). with_node b (with_target k to b.node)) (find n G.blocks)) ∙ rw q at h)
      | inr q ↦ g.below n (rw q at h)
    ]

if_some : (c : Bool) (x y : Option Block) → is_some x ≡ true → is_some y ≡ true → is_some (if c then x else y) ≡ true
if_some true x y p q = p
if_some false x y p q = q

-- a block that is not removed stays
pub live-kept : (S : Schema) (places : RolePlaces) (G : Graph) (e : Edit) → Accepted S places G e → (n : ℕ) → is_live n G.blocks ≡ true → removes e n ≡ false
    → is_some (seen S places G e n) ≡ true
live-kept S places G (Remove name) a n h q = rw q (some-map (λ (b : Block). with_node b (emptied name b.node)) (find n G.blocks) ∙ h)
live-kept S places G (Copy name at) a n h q =
    let l = lives G name (not_first a) in if_some (n == G.next) (find name G.blocks) (find n G.blocks) (is_live-some name G.blocks l.0 l.1) h
live-kept S places G (Insert kind at) a n h q =
    let t = declared S places G kind at a in
    if_some (n == G.next) (option_map (new_block S places G kind) (find_block S kind)) (find n G.blocks)
    (ap (λ o. is_some (option_map (new_block S places G kind) o)) t.1) h
live-kept S places G (Replace name by) a n h q =
    let l = lives G by (not_first (not_second a)) in if_some (n == name) (find by G.blocks) (find n G.blocks) (is_live-some by G.blocks l.0 l.1) h
live-kept S places G (Move name at) a n h q = h
live-kept S places G (Reorder names) a n h q = h
live-kept S places G (Point None k to) a n h q = h
live-kept S places G (Point (Some name) k to) a n h q =
    if_some (n == name) (option_map (λ (b : Block). with_node b (with_target k to b.node)) (find n G.blocks)) (find n G.blocks)
    (some-map (λ (b : Block). with_node b (with_target k to b.node)) (find n G.blocks) ∙ h) h
