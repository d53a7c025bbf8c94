-- The references of a graph after an accepted edit.
use Rattle.std.proofs.Common.{◌≡◌, inl, inr, ℕ, Bool, true, false, Option, Some, None, List, refl, ◌∙◌, ap}
use Rattle.std.proofs.lemmas.Bool.{eqb-true}
use Rattle.std.proofs.lemmas.Option.{slice_get-map, slice_get_within}
use Rattle.std.specs.Prelude.{◌==◌, ◌&&◌, if◌then◌else◌, option_and_then, slice_get, insert}
use Rattle.std.specs.Option.{option_map, option_map_or}
use Rattle.nif_base.specs.Node.{Node, Reference, refs}
use Rattle.nif_base.specs.File.{Block}
use Rattle.nif_base.specs.Graph.{Named, Graph}
use Rattle.nif_cells.specs.Building.{with_target}
use Rattle.nif_schema.specs.Schema.{Schema, find_block}
use Rattle.nif_layout.specs.Zero.{zero_of}
use Rattle.nif_graph.specs.Graph.{IsGraph, find, reference}
use Rattle.nif_graph.specs.Changes.{emptied, with_node, without, changed, added}
use Rattle.nif_graph.specs.declared.places.RolePlaces.{RolePlaces}
use Rattle.nif_edit.specs.declared.edits.Edit.{Edit}
use Rattle.nif_edit.specs.declared.edits.Edit.TheVariants.{Remove, Copy, Insert, Replace, Move, Reorder, Point}
use Rattle.nif_edit.specs.Edit.{NoPlace}
use Rattle.nif_edit.specs.Inserted.{context_of, inserted}
use Rattle.nif_edit.specs.After.{after}
use Rattle.nif_edit.specs.Refused.{Accepted}
use Rattle.nif_edit.specs.Laws.{same_holder, new_block}
use Rattle.nif_edit.proofs.Finding.{test}
use Rattle.nif_edit.proofs.Nodes.{aimed, refs-retargeted, refs-with_target, at-pointed}
use Rattle.nif_edit.proofs.Seen.{find-after, not_first, not_second}

-- reference k of a node
abbrev pub ref_at : ℕ → Node → Option Reference
ref_at k node = slice_get (refs node) k

-- reference k of a block, if there is one
abbrev pub slot_of : Option Block → ℕ → Option Reference
slot_of o k = option_and_then (ref_at k) (option_map (λ (b : Block). b.node) o)

abbrev pub empty : ℕ → ℕ → Option ℕ
empty name target = if target == name then None else Some target

abbrev pub pointing : Option ℕ → Reference → Reference
pointing to r = record r { target = to }

-- the references after an edit, by those before
abbrev pub slot_seen : Schema → RolePlaces → Graph → Edit → Option ℕ → ℕ → Option Reference
slot_seen S places G (Remove name) from k = if same_holder from (Some name) then None else option_map (aimed (empty name)) (reference G from k)
slot_seen S places G (Copy name at) from k = if same_holder from (Some G.next) then reference G (Some name) k else reference G from k
slot_seen S places G (Insert kind at) from k =
    if same_holder from (Some G.next) then slot_of (option_map (new_block S places G kind) (find_block S kind)) k
    else reference G from k
slot_seen S places G (Replace name by) from k = if same_holder from (Some name) then reference G (Some by) k else reference G from k
slot_seen S places G (Move name at) from k = reference G from k
slot_seen S places G (Reorder names) from k = reference G from k
slot_seen S places G (Point holder j to) from k = if same_holder from holder && (k == j) then option_map (pointing to) (reference G from k) else reference G from k

reference-emptied : (name k : ℕ) (node : Node) → ref_at k (emptied name node) ≡ option_map (aimed (empty name)) (ref_at k node)
reference-emptied name k node = ap (λ l. slice_get l k) (refs-retargeted (empty name) node) ∙ slice_get-map (aimed (empty name)) (refs node) k

reference-pointed : (k j : ℕ) (to : Option ℕ) (node : Node) (r : Reference) → ref_at j node ≡ Some r
    → ref_at k (with_target j to node) ≡ (if k == j then option_map (pointing to) (ref_at k node) else ref_at k node)
reference-pointed k j to node r h =
    ap (λ l. slice_get l k) (refs-with_target j to node (slice_get_within (refs node) j r h)) ∙ at-pointed j k to (refs node)

slot_of-emptied : (name k : ℕ) (o : Option Block)
    → slot_of (option_map (λ (b : Block). with_node b (emptied name b.node)) o) k ≡ option_map (aimed (empty name)) (slot_of o k)
slot_of-emptied name k None = refl
slot_of-emptied name k (Some b) = reference-emptied name k b.node

slot_of-pointed : (k j : ℕ) (to : Option ℕ) (o : Option Block) (r : Reference) → slot_of o j ≡ Some r
    → slot_of (option_map (λ (b : Block). with_node b (with_target j to b.node)) o) k ≡ (if k == j then option_map (pointing to) (slot_of o k) else slot_of o k)
slot_of-pointed k j to None r h = absurd cc
slot_of-pointed k j to (Some b) r h = reference-pointed k j to b.node r h

slot_of-if : (c : Bool) (x y : Option Block) (k : ℕ) → slot_of (if c then x else y) k ≡ (if c then slot_of x k else slot_of y k)
slot_of-if true x y k = refl
slot_of-if false x y k = refl

footer_copied : (G : Graph) (at : ℕ) (o : Option Block) → (option_map_or (λ (b : Block). added G at b) o G).footer ≡ G.footer
footer_copied G at None = refl
footer_copied G at (Some b) = refl

footer_put_in : (S : Schema) (places : RolePlaces) (G : Graph) (kind : List ℕ) (at : ℕ) (o : Option ℕ)
    → (option_map_or (λ number. inserted places G kind at number (zero_of S (context_of G (Some number)) number)) o G).footer ≡ G.footer
footer_put_in S places G kind at None = refl
footer_put_in S places G kind at (Some number) = refl

footer_with : (G : Graph) (f : Block → List Named) (o : Option Block) → (option_map_or (λ (b : Block). record G { blocks = f b }) o G).footer ≡ G.footer
footer_with G f None = refl
footer_with G f (Some b) = refl

-- reference j of a point that is accepted
pub pointed_slot : (S : Schema) (places : RolePlaces) (G : Graph) (from : Option ℕ) (j : ℕ) (to : Option ℕ) → Accepted S places G (Point from j to) → (r : Reference) × (reference G from j ≡ Some r)
pointed_slot S places G from j to a =
    by (reference G from j) refl
  where
    by : (o : Option Reference) → reference G from j ≡ o → (r : Reference) × (reference G from j ≡ Some r)
    by None e = absurd (not_first (not_second (not_second a)) (NoPlace j) (e, refl))
    by (Some r) e = (r, e)

pub reference-after : (S : Schema) (places : RolePlaces) (G : Graph) (e : Edit) → IsGraph G → Accepted S places G e → (from : Option ℕ) (k : ℕ) → reference (after S places G e) from k ≡ slot_seen S places G e from k
reference-after S places G (Remove name) g a None k = reference-emptied name k G.footer
reference-after S places G (Copy name at) g a None k = ap (λ n. ref_at k n) (footer_copied G at (find name G.blocks))
reference-after S places G (Insert kind at) g a None k = ap (λ n. ref_at k n) (footer_put_in S places G kind at (find_block S kind))
reference-after S places G (Replace name by) g a None k = ap (λ n. ref_at k n) (footer_with G (λ b. changed name (λ old. b) G.blocks) (find by G.blocks))
reference-after S places G (Move name at) g a None k =
    ap (λ n. ref_at k n) (footer_with G (λ b. insert (without name G.blocks) at (record { name = name; block = b })) (find name G.blocks))
reference-after S places G (Reorder names) g a None k = refl
reference-after S places G (Point None j to) g a None k = let r = pointed_slot S places G None j to a in reference-pointed k j to G.footer r.0 r.1
reference-after S places G (Point (Some name) j to) g a None k = refl
reference-after S places G (Remove name) g a (Some n) k =
    ap (λ o. slot_of o k) (find-after S places G (Remove name) g a n)
    ∙ slot_of-if (n == name) None (option_map (λ (b : Block). with_node b (emptied name b.node)) (find n G.blocks)) k
    ∙ ap (λ o. if n == name then None else o) (slot_of-emptied name k (find n G.blocks))
reference-after S places G (Copy name at) g a (Some n) k =
    ap (λ o. slot_of o k) (find-after S places G (Copy name at) g a n) ∙ slot_of-if (n == G.next) (find name G.blocks) (find n G.blocks) k
reference-after S places G (Insert kind at) g a (Some n) k =
    ap (λ o. slot_of o k) (find-after S places G (Insert kind at) g a n)
    ∙ slot_of-if (n == G.next) (option_map (new_block S places G kind) (find_block S kind)) (find n G.blocks) k
reference-after S places G (Replace name by) g a (Some n) k =
    ap (λ o. slot_of o k) (find-after S places G (Replace name by) g a n) ∙ slot_of-if (n == name) (find by G.blocks) (find n G.blocks) k
reference-after S places G (Move name at) g a (Some n) k = ap (λ o. slot_of o k) (find-after S places G (Move name at) g a n)
reference-after S places G (Reorder names) g a (Some n) k = ap (λ o. slot_of o k) (find-after S places G (Reorder names) g a n)
reference-after S places G (Point None j to) g a (Some n) k = refl
reference-after S places G (Point (Some name) j to) g a (Some n) k =
    ap (λ o. slot_of o k) (find-after S places G (Point (Some name) j to) g a n)
    ∙ slot_of-if (n == name) (option_map (λ (b : Block). with_node b (with_target j to b.node)) (find n G.blocks)) (find n G.blocks) k
    ∙ (elim (test (n == name)) [
      | inl q ↦
          let r = pointed_slot S places G (Some name) j to a in
          let e : n ≡ name = eqb-true n name q in
          let there : slot_of (find n G.blocks) j ≡ Some r.0 = ap (λ x. slot_of (find x G.blocks) j) e ∙ r.1 in
          rw q (slot_of-pointed k j to (find n G.blocks) r.0 there)
      | inr q ↦ rw q refl
    ])
