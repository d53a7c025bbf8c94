-- What a reader of a part answers: the words of the contracts inside this crate.
use Rattle.std.specs.Prelude.{ℕ, ◌-◌, ◌≡◌, ◌⊎◌, ◌↔◌, [], ◌∷◌, ◌++◌, ◌≤◌, length, Bool, true, false, Result, Ok, Err, Option, Some, None, List, codes}
use Rattle.nif_base.specs.Limits.{most_element_depth}
use Rattle.nif_text.specs.Parts.{Many, Byte, Literal}
use Rattle.nif_base.specs.Ascii.{is_blank}
use Rattle.nif_text.specs.Bytes.{is_name_start}
use Rattle.nif_text.specs.Attributes.{Attribute}
use Rattle.nif_text.specs.Comments.{Enclosed}
use Rattle.nif_text.specs.Elements.{bracket, Start, Piece, children_among, Nested}
use Rattle.nif_text.specs.Tree.{Tree, children_of}
use Rattle.nif_text.specs.declared.tree.TextFault.{TextFault}
use Rattle.nif_text.specs.declared.tree.TextFault.TheVariants as faults
use Rattle.nif_text.specs.declared.stop.Stop.{Stop}
use Rattle.nif_text.specs.declared.stop.Stop.TheVariants as stops

-- no spelling by P begins the text
abbrev pub Never : {I : Type 0} → (I → List ℕ → List ℕ → Type 0) → List ℕ → Type 0
Never {I} P text = (item : I) (rest : List ℕ) → P item text rest → ⊥

-- spellings one behind another, and no further one
pub record Longest {I : Type 0} (P : I → List ℕ → List ℕ → Type 0) (items : List I) (text rest : List ℕ) : Type 0 where
  pub many : Many P items text rest
  pub ends : Never P rest

-- the text doesn't begin with these bytes
abbrev pub NoLiteral : List ℕ → List ℕ → Type 0
NoLiteral bytes text = (rest : List ℕ) → Literal bytes text rest → ⊥

-- the text begins with none of the five names of references
abbrev pub NoName : List ℕ → Type 0
NoName text =
    NoLiteral (codes "&lt;") text × NoLiteral (codes "&gt;") text × NoLiteral (codes "&amp;") text
    × NoLiteral (codes "&quot;") text
    × NoLiteral (codes "&apos;") text

-- What the reader of a part answers: a spelling of its item goes from the old place to the new one, or none begins at
-- the old place. Memory may run out anywhere.
abbrev pub Read : {I : Type 0} → (I → List ℕ → List ℕ → Type 0) → List ℕ → List ℕ → Result I Stop → Type 0
Read P old new (Ok item) = P item old new
Read P old new (Err stops.NotWritten) = Never P old
Read P old new (Err stops.NoMemory) = Unit {0}

-- one of the two quotes
abbrev pub IsQuote : ℕ → Type 0
IsQuote quote = (quote ≡ 0x22) ⊎ (quote ≡ 0x27)

-- no bracket of a start comes next
abbrev pub NoBracket : List ℕ → Type 0
NoBracket text = (empty : Bool) → NoLiteral (bracket empty) text

-- What the reader of an attribute answers. Where none comes next it has passed the blanks. Where blanks and a name
-- come next, and no attribute, an error.
abbrev pub AttributeRead : List ℕ → List ℕ → Result (Option (List ℕ × List ℕ)) Stop → Type 0
AttributeRead old new (Ok (Some pair)) = Attribute pair old new
AttributeRead old new (Ok None) = Never Attribute old × (blanks : List ℕ) × Longest (Byte is_blank) blanks old new
AttributeRead old new (Err stops.NotWritten) =
    Never Attribute old × (blanks next : List ℕ) × Longest (Byte is_blank) blanks old next × NoBracket next
AttributeRead old new (Err stops.NoMemory) = Unit {0}

-- All attributes, and the blanks behind them.
abbrev pub AttributesRead : List ℕ → List ℕ → Result (List (List ℕ × List ℕ)) Stop → Type 0
AttributesRead old new (Ok attrs) =
    (next : List ℕ) × Longest Attribute attrs old next × (blanks : List ℕ) × Longest (Byte is_blank) blanks next new
AttributesRead old new (Err stops.NotWritten) =
    (attrs : List (List ℕ × List ℕ)) × (next : List ℕ) × Longest Attribute attrs old next
    × (blanks last : List ℕ) × Longest (Byte is_blank) blanks next last × NoBracket last
AttributesRead old new (Err stops.NoMemory) = Unit {0}

-- What is enclosed from the old place is what is enclosed from the new one, whatever the rest of the end is.
abbrev pub SameEnclosed : ℕ → ℕ → List ℕ → List ℕ → Type 0
SameEnclosed first second old new =
    (tail rest : List ℕ)
    → Enclosed first second (first ∷ second ∷ tail) old rest ↔ Enclosed first second (first ∷ second ∷ tail) new rest

-- no spelling by P begins the text, where P has no item
abbrev pub NeverTo : (List ℕ → List ℕ → Type 0) → List ℕ → Type 0
NeverTo P text = (rest : List ℕ) → P text rest → ⊥

-- What the reader of a piece of content answers: it has put the piece's child, if it is one, behind the others; or the
-- end of the element begins here; or neither.
abbrev pub PieceRead : (Tree → List ℕ → List ℕ → Type 0) → List ℕ → List ℕ → List Tree → List Tree → Result Bool Stop
    → Type 0
PieceRead Child old new before now (Ok true) =
    (piece : Option Tree) × Piece Child piece old new × (now ≡ before ++ children_among (piece ∷ []))
PieceRead Child old new before now (Ok false) = Never (Piece Child) old × (new ≡ old) × (now ≡ before)
PieceRead Child old new before now (Err stops.NotWritten) =
    Never (Piece Child) old × NoLiteral (codes "</") old × (now ≡ before)
PieceRead Child old new before now (Err stops.NoMemory) = Unit {0}

-- All pieces of content, up to the end of the element or to where neither stands.
abbrev pub ContentRead : (Tree → List ℕ → List ℕ → Type 0) → List ℕ → List ℕ → List Tree → List Tree
    → Result (Unit {0}) Stop → Type 0
ContentRead Child old new before now (Ok done) =
    (pieces : List (Option Tree)) × Longest (Piece Child) pieces old new × (now ≡ before ++ children_among pieces)
ContentRead Child old new before now (Err stops.NotWritten) =
    (pieces : List (Option Tree)) × (last : List ℕ) × Longest (Piece Child) pieces old last
    × NoLiteral (codes "</") last × (now ≡ before ++ children_among pieces)
ContentRead Child old new before now (Err stops.NoMemory) = Unit {0}

-- An element begins with `<` and the first byte of a name.
abbrev pub Begins : List ℕ → Type 0
Begins text = (c : ℕ) × (more : List ℕ) × (text ≡ 0x3C ∷ c ∷ more) × (is_name_start c ≡ true)

-- the root's start and content with exactly so many whole children
pub record BegunRoot (count : ℕ) (text rest : List ℕ) : Type 0 where
  pub content_at : List ℕ
  pub name : List ℕ
  pub attrs : List (List ℕ × List ℕ)
  pub pieces : List (Option Tree)
  pub start : Start name attrs false text content_at
  pub content : Many (Piece (Nested (most_element_depth - 1))) pieces content_at rest
  pub counted : count ≡ length (children_among pieces)

-- the greatest number of children with which the root is begun here, 0 where it isn't
pub record IsAfterRoot (text : List ℕ) (count : ℕ) : Type 0 where
  pub most : (other : ℕ) (rest : List ℕ) → BegunRoot other text rest → other ≤ count
  pub reached : (count ≡ 0) ⊎ ((rest : List ℕ) × BegunRoot count text rest)

-- why a text isn't written, where a part of its root isn't, after so many children
abbrev pub fault_of : Stop → ℕ → TextFault
fault_of stops.NotWritten count = faults.NotWritten count
fault_of stops.NoMemory count = faults.NoMemory

-- What the reader of the root answers.
abbrev pub RootRead : List ℕ → List ℕ → Result Tree TextFault → Type 0
RootRead old new (Ok tree) = Nested most_element_depth tree old new × IsAfterRoot old (length (children_of tree))
RootRead old new (Err (faults.NotWritten count)) = Never (Nested most_element_depth) old × IsAfterRoot old count
RootRead old new (Err faults.NoMemory) = Unit {0}

-- no declaration comes next
abbrev pub NoDeclaration : List ℕ → Type 0
NoDeclaration text = NoLiteral (codes "<?xml") text
