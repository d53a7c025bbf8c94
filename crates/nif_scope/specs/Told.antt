-- What is kept of the members that were read, as far as expressions may ask for it: numbers, those in groups among
-- them, and the items of an array that the width of a later field is the bare name of. One entry stands behind
-- another; that of a group or of an array says how many entries of its own stand behind it.
use Rattle.std.specs.Prelude.{ℕ, Bool, true, false, List, [], ◌∷◌, ◌++◌, length, map}
use Rattle.nif_base.specs.Node.{Node, Members, Num, Line, Ref, Text, Bytes, Group, Row, End, Here, Absent}
use Rattle.nif_schema.specs.Declaration.{Field}
use Rattle.nif_layout.specs.PathValue.{extended}
use Rattle.nif_scope.specs.declared.entries.Entry.{Entry}
use Rattle.nif_scope.specs.declared.entries.Entry.TheVariants as entry

abbrev mutual
  pub told : Node → List Entry
  told (Num width little bits) = entry.Number bits (extended true width bits) ∷ []
  told (Line bytes) = entry.Nothing ∷ []
  told (Ref strong wanted target) = entry.Nothing ∷ []
  told (Text index) = entry.Nothing ∷ []
  told (Bytes bytes) = entry.Nothing ∷ []
  told (Group members) = entry.Group (length (told_in members)) ∷ told_in members
  told (Row items) = entry.Nothing ∷ []

  pub told_in : Members → List Entry
  told_in End = []
  told_in (Here node rest) = told node ++ told_in rest
  told_in (Absent rest) = entry.Absent ∷ told_in rest

-- an item of an array: its number, or nothing
abbrev pub item_told : Node → Entry
item_told (Num width little bits) = entry.Number bits (extended true width bits)
item_told _ = entry.Nothing

abbrev pub items_told : Members → List Entry
items_told End = []
items_told (Here node rest) = item_told node ∷ items_told rest
items_told (Absent rest) = []

-- the items of a run of bytes
abbrev pub bytes_told : List ℕ → List Entry
bytes_told bytes = map (λ b. entry.Number b (extended true 1 b)) bytes

-- an array, with its items
abbrev pub array_told : Node → List Entry
array_told (Bytes bytes) = entry.Items (length bytes) ∷ bytes_told bytes
array_told (Row items) = entry.Items (length (items_told items)) ∷ items_told items
array_told node = told node

-- a member of the line that is read, with its items where they are asked for
abbrev pub member_told : Bool → Node → List Entry
member_told true node = array_told node
member_told false node = told node

-- the members of a line so far, where `asks` says of which arrays the items are asked for
abbrev pub line_told : (Field → Bool) → List Field → Members → List Entry
line_told asks [] members = []
line_told asks (f ∷ fields) End = []
line_told asks (f ∷ fields) (Here node rest) = member_told (asks f) node ++ line_told asks fields rest
line_told asks (f ∷ fields) (Absent rest) = entry.Absent ∷ line_told asks fields rest
