-- Schema texts as a whole.
use Rattle.std.specs.Prelude.{ℕ, ◌-◌, ◌≡◌, ◌≤◌, false, ◌⊎◌, Option, List, [], ◌∷◌, length}
use Rattle.nif_base.specs.Limits.{most_element_depth}
use Rattle.nif_text.specs.Tree.{Tree}
use Rattle.nif_text.specs.Parts.{Many, Byte, Literal, Optional}
use Rattle.nif_base.specs.Ascii.{is_blank}
use Rattle.nif_text.specs.Comments.{Comment, Declaration, DocumentType}
use Rattle.nif_text.specs.declared.tree.TextFault.{TextFault}
use Rattle.nif_text.specs.declared.tree.TextFault.TheVariants as faults
use Rattle.nif_text.specs.Elements.{Start, Piece, children_among, Nested}

-- a byte order mark
abbrev pub Mark : List ℕ → List ℕ → Type 0
Mark text rest = Literal (0xEF ∷ 0xBB ∷ 0xBF ∷ []) text rest

-- blanks and comments, any number of them in any order
abbrev pub Aside : List ℕ → List ℕ → Type 0
Aside text rest = ((c : ℕ) × Byte is_blank c text rest) ⊎ Comment text rest

abbrev pub Asides : List ℕ → List ℕ → Type 0
Asides text rest = (times : List (Unit {0})) × Many (λ _. Aside) times text rest

-- a document type, and what may stand behind it
abbrev pub TypeAndAsides : List ℕ → List ℕ → Type 0
TypeAndAsides text rest = (next : List ℕ) × DocumentType text next × Asides next rest

-- What may stand before the root: a byte order mark or none, a declaration or none, and then blanks, comments and at
-- most one document type.
pub record Before (text rest : List ℕ) : Type 0 where
  pub declaration_at : List ℕ
  pub asides_at : List ℕ
  pub type_at : List ℕ
  pub mark : Optional Mark text declaration_at
  pub declaration : Optional Declaration declaration_at asides_at
  pub asides : Asides asides_at type_at
  pub type : Optional TypeAndAsides type_at rest

-- A text is what may stand before the root, the root, which nests at most 64 deep, and blanks and comments to the end.
pub record Written (tree : Tree) (text : List ℕ) : Type 0 where
  pub root_at : List ℕ
  pub asides_at : List ℕ
  pub before : Before text root_at
  pub root : Nested most_element_depth tree root_at asides_at
  pub behind : Asides asides_at []

-- what may stand before the root, the root's start and content with exactly so many whole children
pub record Begun (count : ℕ) (text rest : List ℕ) : Type 0 where
  pub root_at : List ℕ
  pub content_at : List ℕ
  pub name : List ℕ
  pub attrs : List (List ℕ × List ℕ)
  pub pieces : List (Option Tree)
  pub before : Before text root_at
  pub start : Start name attrs false root_at content_at
  pub content : Many (Piece (Nested (most_element_depth - 1))) pieces content_at rest
  pub counted : count ≡ length (children_among pieces)

-- the greatest number of children that a front of the text is begun with, 0 where there is none
pub record IsAfter (text : List ℕ) (count : ℕ) : Type 0 where
  pub most : (other : ℕ) (rest : List ℕ) → Begun other text rest → other ≤ count
  pub reached : (count ≡ 0) ⊎ ((rest : List ℕ) × Begun count text rest)

-- no tree is written so
abbrev pub Unwritten : List ℕ → Type 0
Unwritten text = (tree : Tree) → Written tree text → ⊥

-- where a fault is that a text isn't written, P of its number
abbrev pub IfNotWritten : TextFault → (ℕ → Type 0) → Type 0
IfNotWritten (faults.NotWritten after) P = P after
IfNotWritten faults.NoMemory P = Unit {0}
