-- The basics: how a basic is spelled goes by its name, whatever else its declaration says. One whose name isn't
-- listed is an unsigned number of 1, 2, 4 or 8 bytes, or it can't be read.
use Rattle.std.specs.Prelude.{ℕ, ◌≡◌, true, false, List, [], ◌∷◌, codes, bytes_eq, find, MatchOption}
use Rattle.std.specs.declared.option.Option.{Option}
use Rattle.std.specs.Option.{option_map}
use Rattle.nif_schema.specs.Declaration.{Name, Declaration}
use Rattle.nif_schema.specs.declared.decls.Leaf.{Leaf}
use Rattle.nif_schema.specs.declared.decls.Leaf.TheVariants as leaf
use Rattle.nif_schema.specs.declared.decls.What.TheVariants.{Basic, Stored, Struct, Block}

abbrev pub unsigned : ℕ → Leaf
unsigned width = leaf.Num width false false false

abbrev pub signed : ℕ → Leaf
signed width = leaf.Num width true false false

abbrev pub always_little : ℕ → Leaf
always_little width = leaf.Num width false true false

abbrev pub bit_pattern : ℕ → Leaf
bit_pattern width = leaf.Num width false false true

abbrev pub listed : List (Name × Leaf)
listed =
    (codes "uint64", unsigned 8)
    ∷ (codes "int64", signed 8)
    ∷ (codes "uint", unsigned 4)
    ∷ (codes "int", signed 4)
    ∷ (codes "ulittle32", always_little 4)
    ∷ (codes "FileVersion", always_little 4)
    ∷ (codes "StringOffset", unsigned 4)
    ∷ (codes "ushort", unsigned 2)
    ∷ (codes "short", signed 2)
    ∷ (codes "BlockTypeIndex", unsigned 2)
    ∷ (codes "byte", unsigned 1)
    ∷ (codes "sbyte", signed 1)
    ∷ (codes "char", unsigned 1)
    ∷ (codes "normbyte", unsigned 1)
    ∷ (codes "bool", leaf.Bool)
    ∷ (codes "float", bit_pattern 4)
    ∷ (codes "hfloat", bit_pattern 2)
    ∷ (codes "HeaderString", leaf.Line)
    ∷ (codes "LineString", leaf.Line)
    ∷ (codes "Ref", leaf.Ref)
    ∷ (codes "Ptr", leaf.Ptr)
    ∷ (codes "NiFixedString", leaf.Text)
    ∷ []

-- the leaf of a listed name
unfoldable pub listed_leaf : Name → Option Leaf
listed_leaf name = option_map (λ row. row.1) (find (λ row. bytes_eq name row.0) listed)

-- the leaf of a basic whose name isn't listed
pub data IsOtherLeaf : Leaf → Type 0 where
  One : IsOtherLeaf (unsigned 1)
  Two : IsOtherLeaf (unsigned 2)
  Four : IsOtherLeaf (unsigned 4)
  Eight : IsOtherLeaf (unsigned 8)
  Unread : IsOtherLeaf leaf.Unread

-- a basic of this name may have this leaf
abbrev pub IsLeafOf : Name → Leaf → Type 0
IsLeafOf name own = MatchOption (listed_leaf name) (IsOtherLeaf own) (λ wanted. own ≡ wanted)

-- a declaration has its leaf, if it is a basic
abbrev pub HasItsLeaf : Declaration → Type 0
HasItsLeaf d = elim d.what [
  | Basic own ↦ IsLeafOf d.name own
  | Stored storage members ↦ Unit {0}
  | Struct ↦ Unit {0}
  | Block parent is_abstract ↦ Unit {0}
]
