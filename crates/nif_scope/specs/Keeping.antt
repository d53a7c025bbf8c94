-- How what is kept grows by a member, and what is kept of a group once its members were read.
use Rattle.std.specs.Prelude.{ℕ, zero, suc, Bool, None, Some, List, [], ◌∷◌}
use Rattle.std.specs.declared.option.Option.{Option}
use Rattle.nif_base.specs.Node.{Node, Members, Bytes, Row, End, Here, Absent}
use Rattle.nif_schema.specs.Declaration.{Field}
use Rattle.nif_scope.specs.declared.entries.Entry.{Entry}
use Rattle.nif_scope.specs.declared.entries.Entry.TheVariants as entry
use Rattle.nif_scope.specs.Told.{member_told}

-- an entry without its items
abbrev pub plain : Entry → Entry
plain (entry.Items entries) = entry.Nothing
plain e = e

-- how many entries of items stand behind an entry
abbrev pub items_behind : Entry → ℕ
items_behind (entry.Items entries) = entries
items_behind e = 0

-- the entries behind so many, without the items of arrays
abbrev pub without_items : ℕ → List Entry → List Entry
without_items passed [] = []
without_items zero (e ∷ rest) = plain e ∷ without_items (items_behind e) rest
without_items (suc passed) (e ∷ rest) = without_items passed rest

-- there is one member for each of these fields
abbrev pub AreFor : List Field → Members → Type 0
AreFor [] End = Unit {0}
AreFor (f ∷ fields) (Here node rest) = AreFor fields rest
AreFor (f ∷ fields) (Absent rest) = AreFor fields rest
AreFor _ _ = ⊥

-- one member more behind the others, absent where there is no node
abbrev pub added : Members → Option Node → Members
added End (Some node) = Here node End
added End None = Absent End
added (Here node rest) got = Here node (added rest got)
added (Absent rest) got = Absent (added rest got)

-- what is kept of it
abbrev pub got_told : Bool → Option Node → List Entry
got_told asked (Some node) = member_told asked node
got_told asked None = entry.Absent ∷ []

-- a node that isn't an array
abbrev pub IsSingle : Node → Type 0
IsSingle (Bytes bytes) = ⊥
IsSingle (Row items) = ⊥
IsSingle _ = Unit {0}
