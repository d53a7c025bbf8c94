-- Blocks in order as they are kept, each with its name and its tree.
use Rattle.std.specs.Prelude.{ℕ, suc, ◌≡◌, ◌^◌, ◌<◌, ◌≤◌, ◌==◌, None, Some, List, [], ◌∷◌, length, slice_get, if◌then◌else◌, refl}
use Rattle.std.specs.Coded.{Coded, code_by, coded×, coded_ℕ, coded_list}
use Rattle.std.specs.declared.option.Option.{Option}
use Rattle.std.specs.Option.{option_map, option_map_or}
use Rattle.nif_graph.specs.declared.parts.BlockPart.{BlockPart}
use Rattle.nif_graph.specs.declared.slots.Slot.{Slot}
use Rattle.nif_graph.specs.contracts.slots.Slot as slot

-- the blocks, the number of names that were given, and for how many more there is room
pub record Listed : Type 0 where
  pub slots : List Slot
  pub next : ℕ
  pub room : ℕ

abbrev pub coded_listed : Coded Listed
coded_listed =
    code_by (List Slot × (ℕ × ℕ)) (coded× (coded_list slot.the_row.coded) (coded× coded_ℕ coded_ℕ))
    (λ l. (l.slots, (l.next, l.room))) (λ p. record { slots = p.0; next = p.1.0; room = p.1.1 }) (λ _. refl)

-- the place of the block of a name
abbrev pub place_in : ℕ → List Slot → Option ℕ
place_in name [] = None
place_in name (s ∷ slots) = if name == s.name then Some 0 else option_map suc (place_in name slots)

-- no two blocks have one name
abbrev pub DifferentSlots : List Slot → Type 0
DifferentSlots [] = Unit {0}
DifferentSlots (s ∷ slots) = (place_in s.name slots ≡ None) × DifferentSlots slots

-- What the table says of each name, and names of blocks stand in the table.
pub record IsTable (places : List (Option ℕ)) (slots : List Slot) : Type 0 where
  pub table : (n : ℕ) → n < length places → slice_get places n ≡ Some (place_in n slots)
  pub below : (k : ℕ) (s : Slot) → slice_get slots k ≡ Some s → s.name < length places
  pub different : DifferentSlots slots
  pub fewer : length slots ≤ length places
  pub few : length places < 2 ^ 32

-- blocks under the names from one on
abbrev pub slots_from : ℕ → List BlockPart → List Slot
slots_from name [] = []
slots_from name (b ∷ blocks) = record {
  name = name;
  kind = b.kind;
  index_word = b.index_word;
  tree = b.tree;
} ∷ slots_from (suc name) blocks

-- what a table says of a name, once the blocks are entered in it
abbrev pub tabled : ℕ → List Slot → List (Option ℕ) → Option (Option ℕ)
tabled n slots old = option_map_or (λ place. Some (Some place)) (place_in n slots) (slice_get old n)
