-- The lists of a header that say something of the blocks.
use Rattle.std.specs.Prelude.{ℕ, zero, suc, ◌≡◌, ◌%◌, ◌^◌, Bool, false, nat_eq, codes, List, [], ◌∷◌, ◌++◌, map, Option, None, Some, IfSome, slice_get, if◌then◌else◌}
use Rattle.std.specs.Option.{option_map, unwrap_or}
use Rattle.nif_base.specs.Node.{Node}
use Rattle.nif_schema.specs.Schema.{Schema, IsSchema, find_block}
use Rattle.nif_schema.specs.Roles.{Roles}
use Rattle.nif_layout.specs.Earlier.{Env}
use Rattle.nif_file.specs.Head.{type_names, index_word, stated_size}
use Rattle.nif_file.specs.Files.{IsHeader, header_line, head_of, members_of}
use Rattle.nif_file.specs.HeaderParts.{IsPlaceOf}
use Rattle.nif_cells.specs.Walks.{Met, walk}
use Rattle.nif_cells.specs.declared.steps.Step.{Step}
use Rattle.nif_cells.specs.declared.steps.Step.TheVariants as step
use Rattle.nif_graph.specs.declared.places.RolePlaces.{RolePlaces}
use Rattle.nif_lists.specs.declared.roles.Role.{Role}
use Rattle.nif_lists.specs.declared.roles.Role.TheVariants as role
use Rattle.nif_lists.specs.Passing.{Keeps, kept_one, behind_first, behind_step, members_ahead}

-- The names of the types, and the block type of each, or none where no block type has the name; the index of types and the
-- sizes of the blocks, or none where the header has no such list.
pub record Listed : Type 0 where
  pub names : List (List ℕ)
  pub types : List (Option ℕ)
  pub index : Option (List ℕ)
  pub sizes : Option (List ℕ)

abbrev pub no_lists : Listed
no_lists = record { names = []; types = []; index = None; sizes = None }

-- the entry of a block in a list, which is 0 behind the last
abbrev pub entry_of : Option (List ℕ) → ℕ → Option ℕ
entry_of list block = option_map (λ entries. unwrap_or (slice_get entries block) 0) list

-- the lists say of a header what is defined by its members
pub record AreListsOf (S : Schema) (E : Env) (lists : Listed) : Type 0 where
  pub names : lists.names ≡ type_names E
  pub types : lists.types ≡ map (find_block S) (type_names E)
  pub index : (block : ℕ) → index_word E block ≡ entry_of lists.index block
  pub sizes : (block : ℕ) → stated_size E block ≡ entry_of lists.sizes block

-- these are the places of the lists
pub record ArePlaces (S : Schema) (places : RolePlaces) : Type 0 where
  pub types : IsPlaceOf (codes "Block Types") (header_line S) places.types
  pub index : IsPlaceOf (codes "Block Type Index") (header_line S) places.index
  pub sizes : IsPlaceOf (codes "Block Size") (header_line S) places.sizes

-- the name that an entry of the types has, by whatever schema the node is a header
abbrev pub IsNameOf : RolePlaces → ℕ → Node → List ℕ → Type 0
IsNameOf places entry node name =
    (S : Schema) → IsSchema S → Roles S → ArePlaces S places → IsHeader S node
    → IfSome (slice_get (type_names (head_of S (members_of node))) entry) (λ named. name ≡ named)

-- ---- what is kept of the members, one after another

abbrev pub is_at : Option ℕ → ℕ → Bool
is_at None k = false
is_at (Some place) k = nat_eq place k

-- which of the lists the member at a place is
abbrev pub role_at : RolePlaces → ℕ → Role
role_at places k =
    if is_at places.types k then role.Types
    else if is_at places.index k then role.Index
    else if is_at places.sizes k then role.Sizes
    else role.Other

-- The name that each run of bytes is, and its type, are put behind the others.
abbrev pub with_type : Schema → Step → List ℕ → Listed → Listed
with_type S (step.Bytes len) name lists = record lists {
  names = lists.names ++ name ∷ [];
  types = lists.types ++ find_block S name ∷ [];
}
with_type S _ name lists = lists

-- A row begins a list, and each number is put behind the others, below this one.
abbrev pub with_number : ℕ → Step → Option (List ℕ) → Option (List ℕ)
with_number below (step.Row items) list = Some []
with_number below (step.Num width little bits) list = option_map (λ entries. entries ++ (bits % below) ∷ []) list
with_number below _ list = list

abbrev pub kept : Schema → Role → Keeps Listed
kept S role.Types step bytes lists = with_type S step bytes lists
kept S role.Index step bytes lists = record lists { index = with_number (2 ^ 16) step lists.index }
kept S role.Sizes step bytes lists = record lists { sizes = with_number (2 ^ 32) step lists.sizes }
kept S role.Other step bytes lists = lists

-- the lists behind so many members, each by its role
abbrev pub kept_first : Schema → RolePlaces → ℕ → List Met → Listed
kept_first S places zero ahead = no_lists
kept_first S places (suc count) ahead =
    kept_one (kept S (role_at places count)) 0 (behind_first count ahead) (kept_first S places count ahead)

-- the lists that the members of a group give
abbrev pub kept_of : Schema → RolePlaces → Node → Listed
kept_of S places node = kept_first S places (members_ahead (walk node)) (behind_step (walk node))
