-- Elements: their starts, their content and their ends.
use Rattle.std.specs.Prelude.{ℕ, zero, suc, ◌≡◌, Bool, true, false, not, ◌&&◌, ◌==◌, ◌⊎◌, Option, Some, None, if◌then◌else◌, List, [], ◌∷◌, ◌++◌, codes, map}
use Rattle.std.specs.List.{AllByRecursion}
use Rattle.nif_text.specs.Tree.{Tree, Trees, Node, End, trees}
use Rattle.nif_text.specs.Parts.{Many, Byte, Literal}
use Rattle.nif_text.specs.Bytes.{is_allowed, Name, Blanks}
use Rattle.nif_text.specs.References.{Reference}
use Rattle.nif_text.specs.Attributes.{Attribute}
use Rattle.nif_text.specs.Comments.{Comment}

-- no two names are one
abbrev pub AllDiffer : List (List ℕ) → Type 0
AllDiffer [] = Unit {0}
AllDiffer (name ∷ names) = AllByRecursion (λ other. name ≡ other → ⊥) names × AllDiffer names

-- what ends a start: `/>` of an element without content, `>` of one with content
abbrev pub bracket : Bool → List ℕ
bracket empty = if empty then codes "/>" else codes ">"

-- A start is `<`, a name, attributes, blanks or none, and `/>` or `>`. No two attributes have one name.
pub record Start (name : List ℕ) (attrs : List (List ℕ × List ℕ)) (empty : Bool) (text rest : List ℕ) : Type 0 where
  pub name_at : List ℕ
  pub attrs_at : List ℕ
  pub blanks_at : List ℕ
  pub bracket_at : List ℕ
  pub opens : Literal (codes "<") text name_at
  pub named : Name name name_at attrs_at
  pub attributes : Many Attribute attrs attrs_at blanks_at
  pub blanks : Blanks blanks_at bracket_at
  pub closes : Literal (bracket empty) bracket_at rest
  pub differ : AllDiffer (map (λ pair. pair.0) attrs)

abbrev pub StartOf : List ℕ × List (List ℕ × List ℕ) × Bool → List ℕ → List ℕ → Type 0
StartOf start text rest = Start start.0 start.1 start.2 text rest

-- The end of an element is `</`, its name again, blanks or none, and `>`.
pub record Finish (name : List ℕ) (text rest : List ℕ) : Type 0 where
  pub blanks_at : List ℕ
  pub bracket_at : List ℕ
  pub named : Literal (codes "</" ++ name) text blanks_at
  pub blanks : Blanks blanks_at bracket_at
  pub closes : Literal (codes ">") bracket_at rest

-- Text has no `<`, and `&` only in references.
abbrev pub is_text_byte : ℕ → Bool
is_text_byte c = is_allowed c && not (c == 0x3C) && not (c == 0x26)

-- A byte of text, a reference and a comment are passed over.
abbrev pub PassedOver : List ℕ → List ℕ → Type 0
PassedOver text rest =
    ((c : ℕ) × Byte is_text_byte c text rest) ⊎ (((c : ℕ) × Reference c text rest) ⊎ Comment text rest)

-- A piece of content is a child, or what is passed over.
abbrev pub Piece : (Tree → List ℕ → List ℕ → Type 0) → Option Tree → List ℕ → List ℕ → Type 0
Piece Child (Some child) text rest = Child child text rest
Piece Child None text rest = PassedOver text rest

-- the children among the pieces
abbrev pub children_among : List (Option Tree) → List Tree
children_among [] = []
children_among (Some child ∷ pieces) = child ∷ children_among pieces
children_among (None ∷ pieces) = children_among pieces

-- An element is a start without content, or a start, pieces of content in any order, and the end.
pub data Spelled (Child : Tree → List ℕ → List ℕ → Type 0) : Tree → List ℕ → List ℕ → Type 0 where
  Empty : {name : List ℕ} {attrs : List (List ℕ × List ℕ)} {text rest : List ℕ} →
      Start name attrs true text rest → Spelled Child (Node name attrs End) text rest
  Full : {name : List ℕ} {attrs : List (List ℕ × List ℕ)} {children : Trees} {text rest : List ℕ} →
      (content_at finish_at : List ℕ) (pieces : List (Option Tree)) →
      Start name attrs false text content_at → Many (Piece Child) pieces content_at finish_at
      → Finish name finish_at rest →
      children ≡ trees (children_among pieces) → Spelled Child (Node name attrs children) text rest

-- an element that nests at most so many levels deep, itself counted
unfoldable pub Nested : ℕ → Tree → List ℕ → List ℕ → Type 0
Nested zero tree text rest = ⊥
Nested (suc levels) tree text rest = Spelled (Nested levels) tree text rest
