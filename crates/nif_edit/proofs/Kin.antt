-- Where each block of a graph after an accepted edit comes from.
use Rattle.std.proofs.Common.{◌≡◌, ℕ, Option, Some, None, List, refl, sym, ◌∙◌, ap}
use Rattle.std.specs.Prelude.{◌==◌, if◌then◌else◌, insert}
use Rattle.std.specs.Option.{option_map, option_map_or}
use Rattle.nif_base.specs.Node.{Node}
use Rattle.nif_base.specs.File.{Block}
use Rattle.nif_base.specs.Graph.{Graph}
use Rattle.nif_cells.specs.Building.{with_target}
use Rattle.nif_schema.specs.Schema.{Schema, find_block}
use Rattle.nif_layout.specs.Zero.{zero_of}
use Rattle.nif_layout.specs.BareLaws.{bare}
use Rattle.nif_graph.specs.Graph.{IsGraph, find}
use Rattle.nif_graph.specs.Changes.{emptied, with_node, without, changed, added}
use Rattle.nif_graph.specs.declared.places.RolePlaces.{RolePlaces}
use Rattle.nif_edit.specs.declared.edits.Edit.{Edit}
use Rattle.nif_edit.specs.declared.edits.Edit.TheVariants.{Remove, Copy, Insert, Replace, Move, Reorder, Point}
use Rattle.nif_edit.specs.Inserted.{context_of, inserted, is_appended, types_with}
use Rattle.nif_edit.specs.After.{after}
use Rattle.nif_edit.specs.Refused.{Accepted}
use Rattle.nif_edit.specs.Laws.{seen, new_block}
use Rattle.nif_edit.proofs.Seen.{find-after}
use Rattle.nif_edit.proofs.Origins.{split, map_some}
use Rattle.nif_edit.proofs.Alike.{bare_retargeted, bare_with_target}

-- It is a block that was there, but for its targets, or it was put in.
pub data Kin (S : Schema) (places : RolePlaces) (G : Graph) (e : Edit) (new : Block) : Type 0 where
  old : (name : ℕ) → (block : Block) → find name G.blocks ≡ Some block → new.kind ≡ block.kind → new.index ≡ block.index
      → bare new.node ≡ bare block.node → Kin S places G e new
  put : (kind : List ℕ) → (at : ℕ) → (number : ℕ) → e ≡ Insert kind at → find_block S kind ≡ Some number
      → new ≡ new_block S places G kind number → Kin S places G e new

module _ (S : Schema) (places : RolePlaces) (G : Graph) where
  same : (e : Edit) (n : ℕ) (b : Block) → find n G.blocks ≡ Some b → Kin S places G e b
  same e n b h = old n b h refl refl refl

  with_bare : (e : Edit) (n : ℕ) (f : Node → Node) → ((at : Node) → bare (f at) ≡ bare at) → (b : Block)
      → option_map (λ (x : Block). with_node x (f x.node)) (find n G.blocks) ≡ Some b → Kin S places G e b
  with_bare e n f h b at =
      let m = map_some (λ (x : Block). with_node x (f x.node)) (find n G.blocks) b at in
      old n m.0 m.1 (ap (λ (x : Block). x.kind) m.2) (ap (λ (x : Block). x.index) m.2)
      (ap (λ (x : Block). bare x.node) m.2 ∙ h m.0.node)

  kin_seen : (e : Edit) (n : ℕ) (b : Block) → seen S places G e n ≡ Some b → Kin S places G e b
  kin_seen (Remove name) n b h =
      split (n == name) None (option_map (λ (x : Block). with_node x (emptied name x.node)) (find n G.blocks)) (Some b)
      (Kin S places G (Remove name) b) h (λ q p. absurd cc)
      (λ q p. with_bare (Remove name) n (emptied name)
      (bare_retargeted (λ target. if target == name then None else Some target)) b p)
  kin_seen (Copy name at) n b h =
      split (n == G.next) (find name G.blocks) (find n G.blocks) (Some b) (Kin S places G (Copy name at) b) h
      (λ q p. same (Copy name at) name b p) (λ q p. same (Copy name at) n b p)
  kin_seen (Insert kind at) n b h =
      split (n == G.next) (option_map (new_block S places G kind) (find_block S kind)) (find n G.blocks) (Some b)
      (Kin S places G (Insert kind at) b) h
      (λ q p.
      let m = map_some (new_block S places G kind) (find_block S kind) b p in put kind at m.0 refl m.1 m.2)
      (λ q p. same (Insert kind at) n b p)
  kin_seen (Replace name by) n b h =
      split (n == name) (find by G.blocks) (find n G.blocks) (Some b) (Kin S places G (Replace name by) b) h
      (λ q p. same (Replace name by) by b p) (λ q p. same (Replace name by) n b p)
  kin_seen (Move name at) n b h = same (Move name at) n b h
  kin_seen (Reorder names) n b h = same (Reorder names) n b h
  kin_seen (Point None k to) n b h = same (Point None k to) n b h
  kin_seen (Point (Some name) k to) n b h =
      split (n == name) (option_map (λ (x : Block). with_node x (with_target k to x.node)) (find n G.blocks)) (find n G.blocks)
      (Some b) (Kin S places G (Point (Some name) k to) b) h
      (λ q p. with_bare (Point (Some name) k to) n (with_target k to) (bare_with_target k to) b p)
      (λ q p. same (Point (Some name) k to) n b p)

  pub kin : (e : Edit) → IsGraph G → Accepted S places G e → (n : ℕ) (b : Block)
      → find n (after S places G e).blocks ≡ Some b → Kin S places G e b
  kin e g a n b h = kin_seen e n b (sym (find-after S places G e g a n) ∙ h)

  -- ---- what stays

  pub by_block : {X : Type 0} (part : Graph → X) (f : Block → Graph) → ((b : Block) → part (f b) ≡ part G) → (o : Option Block)
      → part (option_map_or f o G) ≡ part G
  by_block part f h None = refl
  by_block part f h (Some b) = h b

  pub by_number : {X : Type 0} (part : Graph → X) (f : ℕ → Graph) → ((n : ℕ) → part (f n) ≡ part G) → (o : Option ℕ)
      → part (option_map_or f o G) ≡ part G
  by_number part f h None = refl
  by_number part f h (Some n) = h n

  pub header_stays : (e : Edit) → (after S places G e).header ≡ G.header
  header_stays (Remove name) = refl
  header_stays (Copy name at) = by_block (λ (x : Graph). x.header) (added G at) (λ b. refl) (find name G.blocks)
  header_stays (Insert kind at) = by_number (λ (x : Graph). x.header)
      (λ number. inserted places G kind at number (zero_of S (context_of G (Some number)) number)) (λ n. refl)
      (find_block S kind)
  header_stays (Replace name by) = by_block (λ (x : Graph). x.header)
      (λ b. record G { blocks = changed name (λ old. b) G.blocks }) (λ b. refl) (find by G.blocks)
  header_stays (Move name at) = by_block (λ (x : Graph). x.header)
      (λ b. record G { blocks = insert (without name G.blocks) at (record { name = name; block = b }) }) (λ b. refl)
      (find name G.blocks)
  header_stays (Reorder names) = refl
  header_stays (Point None k to) = refl
  header_stays (Point (Some name) k to) = refl

  pub origin_stays : (e : Edit) → (after S places G e).origin ≡ G.origin
  origin_stays (Remove name) = refl
  origin_stays (Copy name at) = by_block (λ (x : Graph). x.origin) (added G at) (λ b. refl) (find name G.blocks)
  origin_stays (Insert kind at) = by_number (λ (x : Graph). x.origin)
      (λ number. inserted places G kind at number (zero_of S (context_of G (Some number)) number)) (λ n. refl)
      (find_block S kind)
  origin_stays (Replace name by) = by_block (λ (x : Graph). x.origin)
      (λ b. record G { blocks = changed name (λ old. b) G.blocks }) (λ b. refl) (find by G.blocks)
  origin_stays (Move name at) = by_block (λ (x : Graph). x.origin)
      (λ b. record G { blocks = insert (without name G.blocks) at (record { name = name; block = b }) }) (λ b. refl)
      (find name G.blocks)
  origin_stays (Reorder names) = refl
  origin_stays (Point None k to) = refl
  origin_stays (Point (Some name) k to) = refl

  -- the footer stays, but for its targets
  pub footer_stays : (e : Edit) → bare (after S places G e).footer ≡ bare G.footer
  footer_stays (Remove name) = bare_retargeted (λ target. if target == name then None else Some target) G.footer
  footer_stays (Copy name at) = by_block (λ (x : Graph). bare x.footer) (added G at) (λ b. refl) (find name G.blocks)
  footer_stays (Insert kind at) = by_number (λ (x : Graph). bare x.footer)
      (λ number. inserted places G kind at number (zero_of S (context_of G (Some number)) number)) (λ n. refl)
      (find_block S kind)
  footer_stays (Replace name by) = by_block (λ (x : Graph). bare x.footer)
      (λ b. record G { blocks = changed name (λ old. b) G.blocks }) (λ b. refl) (find by G.blocks)
  footer_stays (Move name at) = by_block (λ (x : Graph). bare x.footer)
      (λ b. record G { blocks = insert (without name G.blocks) at (record { name = name; block = b }) }) (λ b. refl)
      (find name G.blocks)
  footer_stays (Reorder names) = refl
  footer_stays (Point None k to) = bare_with_target k to G.footer
  footer_stays (Point (Some name) k to) = refl

  -- the names of the types after an edit
  abbrev pub types_after : Edit → List (List ℕ)
  types_after (Insert kind at) = option_map_or (λ number. types_with (is_appended places G kind) kind G.types) (find_block S kind) G.types
  types_after _ = G.types

  types_of : (f : ℕ → Graph) (types : List (List ℕ)) → ((n : ℕ) → (f n).types ≡ types) → (o : Option ℕ)
      → (option_map_or f o G).types ≡ option_map_or (λ number. types) o G.types
  types_of f types h None = refl
  types_of f types h (Some n) = h n

  pub types_are : (e : Edit) → (after S places G e).types ≡ types_after e
  types_are (Remove name) = refl
  types_are (Copy name at) = by_block (λ (x : Graph). x.types) (added G at) (λ b. refl) (find name G.blocks)
  types_are (Insert kind at) =
      types_of (λ number. inserted places G kind at number (zero_of S (context_of G (Some number)) number))
      (types_with (is_appended places G kind) kind G.types) (λ n. refl) (find_block S kind)
  types_are (Replace name by) = by_block (λ (x : Graph). x.types)
      (λ b. record G { blocks = changed name (λ old. b) G.blocks }) (λ b. refl) (find by G.blocks)
  types_are (Move name at) = by_block (λ (x : Graph). x.types)
      (λ b. record G { blocks = insert (without name G.blocks) at (record { name = name; block = b }) }) (λ b. refl)
      (find name G.blocks)
  types_are (Reorder names) = refl
  types_are (Point None k to) = refl
  types_are (Point (Some name) k to) = refl
