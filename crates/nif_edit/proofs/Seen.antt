-- What an accepted edit tells, and what stands under each name after it.
use Rattle.std.proofs.Common.{◌≡◌, inl, inr, ℕ, ◌<◌, true, false, Option, Some, None, List, refl, sym, ◌∙◌, ap, arith}
use Rattle.std.proofs.lemmas.Bool.{eqb-true, eqb-false}
use Rattle.std.specs.Prelude.{◌==◌, if◌then◌else◌, insert, is_some}
use Rattle.std.specs.Option.{option_map, option_map_or}
use Rattle.nif_base.specs.File.{Block}
use Rattle.nif_base.specs.Graph.{Named, Graph}
use Rattle.nif_cells.specs.Building.{with_target}
use Rattle.nif_schema.specs.Schema.{Schema, find_block}
use Rattle.nif_layout.specs.Zero.{zero_of}
use Rattle.nif_graph.specs.Graph.{IsGraph, find, is_live, Different}
use Rattle.nif_graph.specs.Changes.{emptied, with_node, without, changed, added}
use Rattle.nif_graph.specs.declared.places.RolePlaces.{RolePlaces}
use Rattle.nif_edit.specs.declared.edits.Edit.{Edit}
use Rattle.nif_edit.specs.declared.edits.Edit.TheVariants.{Remove, Copy, Insert, Replace, Move, Reorder, Point}
use Rattle.nif_edit.specs.Edit.{EditFault, NoBlock, UnknownType, NotAnOrder}
use Rattle.nif_edit.specs.Inserted.{context_of, inserted}
use Rattle.nif_edit.specs.After.{after}
use Rattle.nif_graph.specs.Changes.{IsOrder, times}
use Rattle.nif_edit.specs.Refused.{First, Where, Dead, Accepted}
use Rattle.nif_edit.specs.Laws.{seen, new_block}
use Rattle.nif_edit.proofs.Finding.{test, same, find-insert, find-without, find-all_emptied, find-changed, find-reordered}

-- neither of two conditions holds
pub not_first : {A B : EditFault → Type 0} → ((f : EditFault) → First A B f → ⊥) → (f : EditFault) → A f → ⊥
not_first h f a = h f (inl a)

pub not_second : {A B : EditFault → Type 0} → ((f : EditFault) → First A B f → ⊥) → (f : EditFault) → B f → ⊥
not_second h f b = h f (inr ((λ g a. h g (inl a)), b))

pub some_of : {X : Type 0} (o : Option X) → is_some o ≡ true → (x : X) × (o ≡ Some x)
some_of None h = absurd cc
some_of (Some x) h = (x, refl)

pub none_of : {X : Type 0} (o : Option X) → is_some o ≡ false → o ≡ None
none_of None h = refl
none_of (Some x) h = absurd cc

pub lives : (G : Graph) (n : ℕ) → ((f : EditFault) → Dead G n f → ⊥) → (b : Block) × (find n G.blocks ≡ Some b)
lives G n h = elim (test (is_live n G.blocks)) [ inl q ↦ some_of (find n G.blocks) q | inr q ↦ absurd (h (NoBlock n) (q, refl)) ]

-- the next name is new
pub fresh : (G : Graph) → IsGraph G → find G.next G.blocks ≡ None
fresh G g = elim (test (is_live G.next G.blocks)) [
  | inl q ↦ absurd (let h : G.next < G.next = g.below G.next q in omega arith)
  | inr q ↦ none_of (find G.next G.blocks) q
]

moved : (n name at : ℕ) (b : Block) (blocks : List Named) → Different blocks → find name blocks ≡ Some b
    → find n (insert (without name blocks) at (record { name = name; block = b })) ≡ find n blocks
moved n name at b blocks d e =
    let out : find name (without name blocks) ≡ None = find-without name name blocks d ∙ rw (same name) refl in
    find-insert n at (record { name = name; block = b }) (without name blocks) out ∙ (elim (test (n == name)) [
      | inl q ↦ rw q (sym (let k : n ≡ name = eqb-true n name q in ap (λ x. find x blocks) k ∙ e))
      | inr q ↦ rw q (find-without n name blocks d ∙ rw q refl)
    ])

replaced : (n name : ℕ) (old new : Block) (blocks : List Named) → find name blocks ≡ Some old
    → find n (changed name (λ b. new) blocks) ≡ (if n == name then Some new else find n blocks)
replaced n name old new blocks there = find-changed n name (λ b. new) blocks ∙ (elim (test (n == name)) [
  | inl q ↦ rw q (let k : n ≡ name = eqb-true n name q in ap (λ x. option_map (λ (b : Block). new) (find x blocks)) k ∙ rw there refl)
  | inr q ↦ rw q refl
])

-- an order that is not refused is one
pub is_order : (names : List ℕ) (blocks : List Named) → ((f : EditFault) → Where (IsOrder names blocks → ⊥) NotAnOrder f → ⊥) → IsOrder names blocks
is_order names blocks h n =
    elim (test (times n names == (if is_live n blocks then 1 else 0))) [
      | inl q ↦ eqb-true (times n names) (if is_live n blocks then 1 else 0) q
      | inr q ↦ absurd (h NotAnOrder ((λ o. eqb-false (times n names) (if is_live n blocks then 1 else 0) q (o n)), refl))
    ]

module _ (G : Graph) (n : ℕ) where
  copied : (at : ℕ) (o : Option Block) (b : Block) → o ≡ Some b → find G.next G.blocks ≡ None
      → find n (option_map_or (λ (b : Block). added G at b) o G).blocks ≡ (if n == G.next then o else find n G.blocks)
  copied at None b e h = absurd cc
  copied at (Some x) b e h = find-insert n at (record { name = G.next; block = x }) G.blocks h

  replaced_by : (name : ℕ) (o : Option Block) (old new : Block) → o ≡ Some new → find name G.blocks ≡ Some old
      → find n (option_map_or (λ (b : Block). record G { blocks = changed name (λ old. b) G.blocks }) o G).blocks ≡ (if n == name then o else find n G.blocks)
  replaced_by name None old new e h = absurd cc
  replaced_by name (Some x) old new e h = replaced n name old x G.blocks h

  moved_to : (name at : ℕ) (o : Option Block) (b : Block) → o ≡ Some b → Different G.blocks → find name G.blocks ≡ o
      → find n (option_map_or (λ (b : Block). record G { blocks = insert (without name G.blocks) at (record { name = name; block = b }) }) o G).blocks ≡ find n G.blocks
  moved_to name at None b e d h = absurd cc
  moved_to name at (Some x) b e d h = moved n name at x G.blocks d h

  put_in : (S : Schema) (places : RolePlaces) (kind : List ℕ) (at : ℕ) (o : Option ℕ) (number : ℕ) → o ≡ Some number
      → find G.next G.blocks ≡ None
      → find n (option_map_or (λ number. inserted places G kind at number (zero_of S (context_of G (Some number)) number)) o G).blocks
      ≡ (if n == G.next then option_map (new_block S places G kind) o else find n G.blocks)
  put_in S places kind at None number e h = absurd cc
  put_in S places kind at (Some x) number e h =
      find-insert n at (record { name = G.next; block = new_block S places G kind x }) G.blocks h

-- the type of an insertion that is not refused
pub declared : (S : Schema) (places : RolePlaces) (G : Graph) (kind : List ℕ) (at : ℕ) → Accepted S places G (Insert kind at)
    → (number : ℕ) × (find_block S kind ≡ Some number)
declared S places G kind at a = by (find_block S kind) refl
  where
    by : (o : Option ℕ) → find_block S kind ≡ o → (number : ℕ) × (find_block S kind ≡ Some number)
    by None e = absurd (not_first (not_second a) UnknownType (e, refl))
    by (Some number) e = (number, e)

-- What stands under each name after an accepted edit.
pub find-after : (S : Schema) (places : RolePlaces) (G : Graph) (e : Edit) → IsGraph G → Accepted S places G e → (n : ℕ) → find n (after S places G e).blocks ≡ seen S places G e n
find-after S places G (Remove name) g a n =
    find-all_emptied n name (without name G.blocks)
    ∙ ap (λ o. option_map (λ (b : Block). with_node b (emptied name b.node)) o) (find-without n name G.blocks g.different)
    ∙ (elim (test (n == name)) [ inl q ↦ rw q refl | inr q ↦ rw q refl ])
find-after S places G (Copy name at) g a n =
    let l = lives G name (not_first a) in copied G n at (find name G.blocks) l.0 l.1 (fresh G g)
find-after S places G (Insert kind at) g a n =
    let t = declared S places G kind at a in put_in G n S places kind at (find_block S kind) t.0 t.1 (fresh G g)
find-after S places G (Replace name by) g a n =
    let old = lives G name (not_first a) in
    let new = lives G by (not_first (not_second a)) in
    replaced_by G n name (find by G.blocks) old.0 new.0 new.1 old.1
find-after S places G (Move name at) g a n =
    let l = lives G name (not_first a) in moved_to G n name at (find name G.blocks) l.0 l.1 g.different refl
find-after S places G (Reorder names) g a n = find-reordered n names G.blocks (is_order names G.blocks a)
find-after S places G (Point None k to) g a n = refl
find-after S places G (Point (Some name) k to) g a n = find-changed n name (λ b. with_node b (with_target k to b.node)) G.blocks
