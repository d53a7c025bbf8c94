-- The members of a line that were read so far, of which numbers may be asked by their places.
use Rattle.std.specs.Prelude.{ℕ, zero, suc, ◌≡◌, ◌+◌, ◌≤◌, Bool, true, false, List, [], ◌∷◌, take, drop, None, Some, option_and_then}
use Rattle.std.specs.declared.option.Option.{Option}
use Rattle.nif_base.specs.Node as node
use Rattle.nif_base.specs.Node.{Node, Members, End, Here, Absent, nodes_in}
use Rattle.nif_schema.specs.Schema.{Schema, line}
use Rattle.nif_cells.specs.Building.{Building, InGroup, bytes_of}
use Rattle.nif_scope.specs.declared.entries.Entry.{Entry}
use Rattle.nif_scope.specs.declared.entries.Entry.TheVariants as entry
use Rattle.nif_scope.specs.Keeping.{AreFor}
use Rattle.nif_scope.specs.Scope.{asks}
use Rattle.nif_scope.specs.Lookup.{inside}
use Rattle.nif_scope.specs.Told.{line_told}

-- what is kept of the members of a line
abbrev pub kept : Schema → ℕ → Members → List Entry
kept schema kind members = line_told (asks schema kind) (line schema kind) members

-- the member at a place, or none where it is absent
abbrev pub member_at : Members → ℕ → Option Node
member_at End k = None
member_at (Here node rest) zero = Some node
member_at (Absent rest) zero = None
member_at (Here node rest) (suc k) = member_at rest k
member_at (Absent rest) (suc k) = member_at rest k

-- the bits of a number
abbrev pub number_in : Node → Option ℕ
number_in (node.Num width little bits) = Some bits
number_in _ = None

-- the bits of the number at a place inside a group
abbrev pub inner_number : ℕ → Node → Option ℕ
inner_number k (node.Group members) = option_and_then number_in (member_at members k)
inner_number k _ = None

-- The bits of the member at a place; or of a member of it, where it is a group. There are none where it is absent, or
-- no number.
abbrev pub number_at : Members → ℕ → Option ℕ → Option ℕ
number_at members k None = option_and_then number_in (member_at members k)
number_at members k (Some inner) = option_and_then (inner_number inner) (member_at members k)

-- These members are those of the first fields of the line, and their entries are kept.
pub record AreKept (schema : Schema) (kind : ℕ) (count : ℕ) (entries : List Entry) (members : Members) : Type 0 where
  pub each : AreFor (take count (line schema kind)) members
  pub told : entries ≡ kept schema kind members

-- ---- the same by the entries

-- the entries without those of the first member
abbrev pub behind_member : List Entry → List Entry
behind_member [] = []
behind_member (e ∷ rest) = drop (inside e) rest

-- the entries behind those of so many members
abbrev pub from_member : ℕ → List Entry → List Entry
from_member zero entries = entries
from_member (suc k) entries = behind_member (from_member k entries)

-- the entries inside the first member, where it is a group
abbrev pub inside_group : List Entry → List Entry
inside_group (entry.Group entries ∷ rest) = take entries rest
inside_group _ = []

-- the bits of the first member, where it is a number
abbrev pub first_bits : List Entry → Option ℕ
first_bits (entry.Number bits signed ∷ rest) = Some bits
first_bits _ = None

-- there is a first member, and it isn't absent
abbrev pub is_first : List Entry → Bool
is_first [] = false
is_first (entry.Absent ∷ rest) = false
is_first _ = true

-- ---- the members of a group that is being read

-- members before others
abbrev pub joined : Members → Members → Members
joined End rest = rest
joined (Here node held) rest = Here node (joined held rest)
joined (Absent held) rest = Absent (joined held rest)

-- The group that is open at the top of a tree holds the members of the first fields of a line, which were counted and
-- taken.
pub record HoldsMembers (schema : Schema) (kind : ℕ) (count : ℕ) (entries : List Entry) (building : Option Building)
    (counted place : ℕ) (held : Members) : Type 0 where
  pub are : AreKept schema kind count entries held
  pub is : building ≡ Some (record { top = None; levels = InGroup held ∷ [] })
  pub nodes : 1 + nodes_in held ≤ counted
  pub bytes : bytes_of (node.Group held) ≤ place
