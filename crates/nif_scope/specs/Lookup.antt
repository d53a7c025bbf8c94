-- The value of a path, by what is kept of the members of a line. It is the value by their nodes.
use Rattle.std.specs.Prelude.{ℕ, Bool, true, false, ◌&&◌, ◌||◌, bytes_eq, if◌then◌else◌, is_some, None, Some, List, [], ◌∷◌, take, drop, slice_get}
use Rattle.std.specs.declared.option.Option.{Option}
use Rattle.std.specs.Option.{option_map, option_map_or}
use Rattle.std.specs.List as list
use Rattle.nif_schema.specs.Declaration.{Name, Field}
use Rattle.nif_schema.specs.Schema.{Schema}
use Rattle.nif_schema.specs.declared.members.BitMember.{BitMember}
use Rattle.nif_layout.specs.Context.{Context}
use Rattle.nif_layout.specs.PathValue.{is_signed, fields_in, bits_in, member_bits, header_value}
use Rattle.nif_scope.specs.declared.entries.Entry.{Entry}
use Rattle.nif_scope.specs.declared.entries.Entry.TheVariants.{Absent, Number, Group, Items}

-- how many entries of its own stand behind an entry
abbrev pub inside : Entry → ℕ
inside (Group entries) = entries
inside (Items entries) = entries
inside _ = 0

abbrev pub is_here : Entry → Bool
is_here Absent = false
is_here _ = true

-- a member that was found: its field, its entry, and the entries that are its own
pub record Member : Type 0 where
  pub field : Field
  pub entry : Entry
  pub own : List Entry

-- this member, where it has the name and is present, else what was found before it
abbrev pub later_told : Name → Field → Entry → List Entry → Option Member → Option Member
later_told name f e own got = if bytes_eq name f.name && is_here e
    then Some (record { field = f; entry = e; own = own }) else got

-- The last member of a name that is present, behind one that was found before.
abbrev pub last_told : Name → Option Member → List Field → List Entry → Option Member
last_told name got [] entries = got
last_told name got (f ∷ fields) [] = got
last_told name got (f ∷ fields) (e ∷ rest) =
    last_told name (later_told name f e (take (inside e) rest) got) fields (drop (inside e) rest)

-- the entries behind those of the members of these fields
abbrev pub rest_told : List Field → List Entry → List Entry
rest_told [] entries = entries
rest_told (f ∷ fields) [] = []
rest_told (f ∷ fields) (e ∷ rest) = rest_told fields (drop (inside e) rest)

-- a member has this name, present or absent
abbrev pub name_told : Name → List Field → List Entry → Bool
name_told name [] entries = false
name_told name (f ∷ fields) [] = false
name_told name (f ∷ fields) (e ∷ rest) = bytes_eq name f.name || name_told name fields (drop (inside e) rest)

-- the last member of a name, present or absent, is an array; `got` says it of those before
abbrev pub array_told : Name → Bool → List Field → List Entry → Bool
array_told name got [] entries = got
array_told name got (f ∷ fields) [] = got
array_told name got (f ∷ fields) (e ∷ rest) =
    array_told name (if bytes_eq name f.name then is_some f.length else got) fields (drop (inside e) rest)

-- the number that an entry is, extended by its sign where it is signed, and 0 where it is none
abbrev pub number_told : Bool → Entry → ℕ
number_told signed (Number bits extended) = if signed then extended else bits
number_told signed _ = 0

-- what a path has led to: nothing that is present, a member, or the bits of a member of a bitfield
pub data Told : Type 0 where
  Nowhere : Told
  At : (member : Member) → Told
  Bits : (value : ℕ) → Told

abbrev pub told_at : Option Member → Told
told_at None = Nowhere
told_at (Some m) = At m

-- the bits of the first member of a bitfield of a name
abbrev pub bits_named : Name → ℕ → List BitMember → Option ℕ
bits_named name bits members = option_map (λ member. member_bits bits member)
    (list.find (λ (member : BitMember). bytes_eq name member.name) members)

abbrev pub bits_inside : Schema → Name → Field → ℕ → Option ℕ
bits_inside schema name f bits = bits_named name bits (bits_in schema f)

abbrev pub told_bits : Option ℕ → Told
told_bits None = Nowhere
told_bits (Some value) = Bits value

-- where a name leads from a member
abbrev pub member_step : Schema → Name → Field → Entry → List Entry → Told
member_step schema name f (Group entries) own = told_at (last_told name None (fields_in schema f) own)
member_step schema name f (Number bits extended) own = told_bits (bits_inside schema name f bits)
member_step schema name f _ own = Nowhere

abbrev pub step_told : Schema → Name → Told → Told
step_told schema name (At m) = member_step schema name m.field m.entry m.own
step_told schema name _ = Nowhere

abbrev pub value_told : Schema → Told → ℕ
value_told schema Nowhere = 0
value_told schema (At m) = number_told (is_signed schema m.field) m.entry
value_told schema (Bits value) = value

abbrev pub follow_told : Schema → Told → List Name → ℕ
follow_told schema at [] = value_told schema at
follow_told schema at (name ∷ names) = follow_told schema (step_told schema name at) names

-- the value of a path behind the members that are told
abbrev pub path_told : Schema → Context → List Field → List Entry → List Name → Option ℕ
path_told schema C fields entries [] = None
path_told schema C fields entries (name ∷ names) =
    if name_told name fields entries then Some (follow_told schema (told_at (last_told name None fields entries)) names)
    else header_value C (name ∷ names)

-- the number of item i of an array whose items are kept, 0 where there is no such item
abbrev pub item_value : Bool → ℕ → Entry → List Entry → ℕ
item_value signed i (Items count) own = option_map_or (number_told signed) (slice_get own i) 0
item_value signed i _ own = 0
