-- What a graph in memory stands for, and what holds of it at every moment.
use Rattle.std.specs.Prelude.{ℕ, ◌≡◌, ◌+◌, ◌≤◌, ◌<◌, ◌^◌, Bool, List, ◌∷◌, length, map, None, Some, slice_get, vec_capacity}
use Rattle.nif_base.specs.Graph.{Origin, Named, Graph}
use Rattle.nif_base.specs.File.{nodes_of}
use Rattle.nif_value.specs.Trees.{Trees, IsLive}
use Rattle.nif_value.specs.declared.stores.TreeId.{TreeId}
use Rattle.nif_graph.specs.Graph.{IsGraph}
use Rattle.nif_graph.specs.State.{node_at, Differ}
use Rattle.nif_graph.specs.Slots.{Listed}
use Rattle.nif_graph.specs.Written.{rest_of, numbered, is_indexed}
use Rattle.nif_graph.specs.declared.places.RolePlaces.{RolePlaces}
use Rattle.nif_graph.specs.declared.marks.Marks.{Marks}
use Rattle.nif_graph.specs.declared.slots.Slot.{Slot}

-- the block of a slot under its name
abbrev pub named_in : Trees → Slot → Named
named_in store s = record {
  name = s.name;
  block = record { kind = s.kind; index = s.index_word; node = node_at store s.tree };
}

abbrev pub kept_graph : Trees → TreeId → TreeId → RolePlaces → Origin → List (List ℕ) → Listed → Graph
kept_graph store header footer places origin types listed = record {
  header = rest_of places (node_at store header);
  origin = origin;
  types = types;
  blocks = map (named_in store) listed.slots;
  footer = node_at store footer;
  next = listed.next;
}

-- the keys of all trees
abbrev pub kept_keys : TreeId → TreeId → List Slot → List ℕ
kept_keys header footer slots = header.run.key ∷ footer.run.key ∷ map (λ (s : Slot). s.tree.run.key) slots

-- Each tree is live and one thing's alone, none is being built; they make a graph, whose nodes are counted; and there are
-- marks for all names, and the room that is told.
pub record IsKept (store : Trees) (header footer : TreeId) (places : RolePlaces) (origin : Origin) (indexed : Bool)
    (types : List (List ℕ)) (listed : Listed) (nodes : ℕ) (marks : Marks) (room : ℕ) : Type 0 where
  pub live : (k key : ℕ) → slice_get (kept_keys header footer listed.slots) k ≡ Some key → IsLive store key
  pub apart : Differ (kept_keys header footer listed.slots)
  pub idle : store.building ≡ None
  pub tells_index : indexed ≡ is_indexed places (node_at store header)
  pub graph : IsGraph (kept_graph store header footer places origin types listed)
  pub counted : nodes ≡ nodes_of (numbered places (kept_graph store header footer places origin types listed))
  pub marked : length marks.marks.items ≡ listed.next
  pub queued : listed.next + room ≤ vec_capacity marks.queue
  pub markable : listed.next + room ≤ vec_capacity marks.marks
  pub roomy : room ≤ listed.room
  pub few_types : length types < 2 ^ 32
  pub few_names : listed.next < 2 ^ 32

-- the trees of the blocks are live
abbrev pub SlotsLive : Trees → List Slot → Type 0
SlotsLive store slots = (k : ℕ) (s : Slot) → slice_get slots k ≡ Some s → IsLive store s.tree.run.key
