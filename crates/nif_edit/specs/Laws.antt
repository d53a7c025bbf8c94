-- What every list of accepted edits keeps.
use Rattle.std.specs.Prelude.{ℕ, ◌≡◌, Bool, true, false, not, ◌==◌, ◌&&◌, ◌||◌, None, Some, List, [], ◌∷◌, if◌then◌else◌, option_and_then}
use Rattle.std.specs.declared.option.Option.{Option}
use Rattle.std.specs.Option.{option_map}
use Rattle.nif_base.specs.Node.{Reference}
use Rattle.nif_base.specs.File.{Block}
use Rattle.nif_base.specs.Graph.{Named, Graph}
use Rattle.nif_cells.specs.Building.{with_target}
use Rattle.nif_schema.specs.Schema.{Schema, find_block}
use Rattle.nif_layout.specs.Zero.{zero_of}
use Rattle.nif_graph.specs.Graph.{find, is_live, reference, IsGraph}
use Rattle.nif_graph.specs.Reach.{Reaches, well_typed}
use Rattle.nif_graph.specs.Changes.{with_node, emptied}
use Rattle.nif_graph.specs.Written.{is_indexed}
use Rattle.nif_graph.specs.declared.places.RolePlaces.{RolePlaces}
use Rattle.nif_edit.specs.declared.edits.Edit.{Edit}
use Rattle.nif_edit.specs.declared.edits.Edit.TheVariants.{Remove, Copy, Insert, Replace, Move, Reorder, Point}
use Rattle.nif_edit.specs.Edit.{EditFault}
use Rattle.nif_edit.specs.Inserted.{context_of, entry_of, entry_where}
use Rattle.nif_edit.specs.After.{after, after_all}
use Rattle.nif_edit.specs.Refused.{Refused, Accepted, AllAccepted}

-- ---- the blocks after an edit

-- the block that an insertion puts in
abbrev pub new_block : Schema → RolePlaces → Graph → List ℕ → ℕ → Block
new_block S places G kind number = record {
  kind = number;
  index = entry_where (is_indexed places G.header) (entry_of kind G.types);
  node = zero_of S (context_of G (Some number)) number;
}

-- The block that stands under a name after an accepted edit.
abbrev pub seen : Schema → RolePlaces → Graph → Edit → ℕ → Option Block
seen S places G (Remove name) n =
    if n == name then None else option_map (λ b. with_node b (emptied name b.node)) (find n G.blocks)
seen S places G (Copy name at) n = if n == G.next then find name G.blocks else find n G.blocks
seen S places G (Insert kind at) n =
    if n == G.next then option_map (new_block S places G kind) (find_block S kind) else find n G.blocks
seen S places G (Replace name by) n = if n == name then find by G.blocks else find n G.blocks
seen S places G (Move name at) n = find n G.blocks
seen S places G (Reorder names) n = find n G.blocks
seen S places G (Point None k to) n = find n G.blocks
seen S places G (Point (Some name) k to) n =
    if n == name then option_map (λ b. with_node b (with_target k to b.node)) (find n G.blocks) else find n G.blocks

-- An accepted edit leaves a graph.
abbrev pub KeepsGraph : Type 0
KeepsGraph = (S : Schema) (places : RolePlaces) (G : Graph) (e : Edit) → IsGraph G → Accepted S places G e
    → IsGraph (after S places G e)

-- After an accepted edit, what stands under each name is as `seen` says.
abbrev pub LeavesSeen : Type 0
LeavesSeen = (S : Schema) (places : RolePlaces) (G : Graph) (e : Edit) → IsGraph G → Accepted S places G e
    → (n : ℕ) → find n (after S places G e).blocks ≡ seen S places G e n

-- An edit leaves what the header says beside the blocks, and what the file says of itself.
abbrev pub KeepsHeader : Type 0
KeepsHeader = (S : Schema) (places : RolePlaces) (G : Graph) (e : Edit)
    → ((after S places G e).header ≡ G.header) × ((after S places G e).origin ≡ G.origin)

-- An edit has at most one fault.
abbrev pub OneFault : Type 0
OneFault = (S : Schema) (places : RolePlaces) (G : Graph) (e : Edit) (f g : EditFault) → Refused S places G e f
    → Refused S places G e g → f ≡ g

-- A block that is there may be replaced by itself, and that changes nothing.
abbrev pub ReplacesItself : Type 0
ReplacesItself = (S : Schema) (places : RolePlaces) (G : Graph) (name : ℕ) → IsGraph G → is_live name G.blocks ≡ true
    → Accepted S places G (Replace name name) × (after S places G (Replace name name) ≡ G)

-- ---- what edits touch

-- both are the footer, or blocks of one name
abbrev pub same_holder : Option ℕ → Option ℕ → Bool
same_holder None None = true
same_holder None (Some m) = false
same_holder (Some n) None = false
same_holder (Some n) (Some m) = n == m

-- the edit takes the block out
abbrev pub removes : Edit → ℕ → Bool
removes (Remove name) n = n == name
removes _ n = false

-- The edit removes the block, replaces it by another, or points this reference.
abbrev pub touches : Edit → Option ℕ → ℕ → Bool
touches (Remove name) from k = same_holder from (Some name)
touches (Replace name by) from k = same_holder from (Some name) && not (name == by)
touches (Point holder j to) from k = same_holder from holder && (k == j)
touches _ from k = false

abbrev pub removed : List Edit → ℕ → Bool
removed [] n = false
removed (e ∷ edits) n = removes e n || removed edits n

abbrev pub touched : List Edit → Option ℕ → ℕ → Bool
touched [] from k = false
touched (e ∷ edits) from k = touches e from k || touched edits from k

-- what is left of a target: none where its block was removed
abbrev pub left : List Edit → Option ℕ → Option ℕ
left edits = option_and_then (λ target. if removed edits target then None else Some target)

-- ---- what lists of edits keep

-- Surviving references: a reference that no edit touched has its first target, or none where that block was removed.
abbrev pub Survives : Type 0
Survives = (S : Schema) (places : RolePlaces) (G : Graph) (edits : List Edit) → IsGraph G → AllAccepted S places G edits
    → (from : Option ℕ) (k : ℕ) (r : Reference) → reference G from k ≡ Some r → touched edits from k ≡ false
    → reference (after_all S places G edits) from k ≡ Some (record r { target = left edits r.target })

-- Types kept: such a reference that was well typed is, and where all were, all are.
abbrev pub StaysTyped : Type 0
StaysTyped = (S : Schema) (places : RolePlaces) (G : Graph) (edits : List Edit) → IsGraph G
    → AllAccepted S places G edits → (from : Option ℕ) (k : ℕ) (r : Reference) → reference G from k ≡ Some r
    → touched edits from k ≡ false → well_typed S G r ≡ true
    → well_typed S (after_all S places G edits) (record r { target = left edits r.target }) ≡ true

-- all references are well typed
abbrev pub Typed : Schema → Graph → Type 0
Typed S G = (from : Option ℕ) (k : ℕ) (r : Reference) → reference G from k ≡ Some r → well_typed S G r ≡ true

abbrev pub KeepsTyped : Type 0
KeepsTyped = (S : Schema) (places : RolePlaces) (G : Graph) (edits : List Edit) → IsGraph G
    → AllAccepted S places G edits → Typed S G → Typed S (after_all S places G edits)

-- no block reaches itself
abbrev pub Acyclic : List Named → Type 0
Acyclic blocks = (name : ℕ) → Reaches blocks name name → ⊥

-- No new cycles: where no block reached itself, none does.
abbrev pub KeepsAcyclic : Type 0
KeepsAcyclic = (S : Schema) (places : RolePlaces) (G : Graph) (edits : List Edit) → IsGraph G
    → AllAccepted S places G edits → Acyclic G.blocks → Acyclic (after_all S places G edits).blocks
