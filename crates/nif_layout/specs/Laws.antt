-- The laws of spellings and faults.
use Rattle.std.specs.Prelude.{ℕ, ◌≡◌, ◌+◌, ◌^◌, ◌<◌, ◌≤◌, ◌⊎◌, true, false, Some, List, [], ◌++◌, length, drop}
use Rattle.std.specs.declared.option.Option.{Option}
use Rattle.nif_base.specs.Node.{Node, Members, text, nodes, nodes_in}
use Rattle.nif_schema.specs.Declaration.{Field}
use Rattle.nif_schema.specs.Schema.{Schema}
use Rattle.nif_schema.specs.Uses.{is_generic}
use Rattle.nif_schema.specs.Reasons.{IsOpen}
use Rattle.nif_layout.specs.Context.{Context}
use Rattle.nif_layout.specs.Earlier.{Env}
use Rattle.nif_layout.specs.Kind.{kind_of}
use Rattle.nif_layout.specs.Form.{Form}
use Rattle.nif_layout.specs.Leaf.{AreBytes}
use Rattle.nif_base.specs.Limits.{most_file_bytes, most_nodes}
use Rattle.nif_layout.specs.Fault.{Fault, Point}
use Rattle.nif_layout.specs.Members.{Check, fields_text}
use Rattle.nif_layout.specs.Shape.{Shape, Spells, FormShape, LineShape}
use Rattle.nif_layout.specs.Fails.{Fails, FormShapeFails, LineFails}

-- The numbers of blocks and of strings have 32 bits, so that no place is spelled as none.
pub record Fits (C : Context) : Type 0 where
  pub blocks : C.blocks < 2 ^ 32
  pub strings : C.strings < 2 ^ 32

-- The same of the context of each member of a line.
abbrev pub AllFit : (Env → Context) → Type 0
AllFit at = (E : Env) → Fits (at E)

-- the number of a declaration that is open
abbrev pub IsOpenType : Schema → ℕ → Type 0
IsOpenType schema number = (number < length schema) × IsOpen schema number

-- A generic type needs a template: an open type that isn't generic.
abbrev pub HasTemplate : Schema → ℕ → Option ℕ → Type 0
HasTemplate schema number template =
    is_generic schema number ≡ true → (inner : ℕ) × (template ≡ Some inner) × IsOpenType schema inner
    × (is_generic schema inner ≡ false)

-- ---- same bytes, same node: two values that are spelled by the same bytes are one, whatever their bounds of depth

abbrev pub OneNode : Schema → Context → ℕ → Option ℕ → ℕ → Type 0
OneNode schema C number template arg = (c d : ℕ) (a b : Node) (bytes : List ℕ)
    → Spells schema C c number template arg a bytes → Spells schema C d number template arg b bytes → a ≡ b

-- ---- no spelling is a proper prefix of another

abbrev pub NoProperPrefix : Schema → Context → ℕ → Option ℕ → ℕ → Type 0
NoProperPrefix schema C number template arg = (c d : ℕ) (a b : Node) (bytes more : List ℕ)
    → Spells schema C c number template arg a bytes → Spells schema C d number template arg b (bytes ++ more)
    → more ≡ []

-- Both at once, of the values of a field and of the members of a line: whatever stands behind them.
abbrev pub OneForm : Schema → Context → Form → Type 0
OneForm schema C form = (c d : ℕ) (a b : Node) (x y : List ℕ)
    → FormShape schema C c form a → FormShape schema C d form b → text C.order a ++ x ≡ text C.order b ++ y → (a ≡ b)
    × (x ≡ y)

-- the bytes of the members of a line, each in the order of its context
abbrev pub line_text : (Env → Context) → List Field → Env → Members → List ℕ
line_text at fields E members = fields_text (λ E. (at E).order) fields E members

abbrev pub OneLine : {Why : Type 0} → Schema → (Env → Context) → Option ℕ → ℕ → Check Why → List Field → Env → Type 0
OneLine schema at template arg check fields E = (c d : ℕ) (a b : Members) (x y : List ℕ)
    → LineShape schema at c template arg check fields E a → LineShape schema at d template arg check fields E b
    → line_text at fields E a ++ x ≡ line_text at fields E b ++ y → (a ≡ b) × (x ≡ y)

-- ---- spelled or fails: exactly one of them holds, the second in exactly one way

abbrev pub ExactlyOne : {Why : Type 0} → Type 0 → (Why → Type 0) → Type 0
ExactlyOne {Why} Spelled Fails =
    (Spelled × ((w : Why) → Fails w → ⊥)) ⊎ ((Spelled → ⊥) × ((w : Why) × Fails w × ((v : Why) → Fails v → v ≡ w)))

-- A place of a file, with n nodes before it.
abbrev pub at_place : ℕ → List ℕ → ℕ → Point
at_place n bytes p = record { nodes = n; place = p; left = drop p bytes }

-- The place lies in the file and within the limit.
pub record IsPlace (bytes : List ℕ) (p : ℕ) : Type 0 where
  pub are_bytes : AreBytes bytes
  pub within : p ≤ most_file_bytes
  pub inside : p ≤ length bytes

-- A prefix of the bytes from a place on is so many bytes, with so many nodes, within the limits.
pub record Stands (bytes : List ℕ) (p n : ℕ) (front : List ℕ) (count : ℕ) : Type 0 where
  pub rest : List ℕ
  pub here : drop p bytes ≡ front ++ rest
  pub within : p + length front ≤ most_file_bytes
  pub counted : n + count ≤ most_nodes

-- a node of this shape is spelled there
abbrev pub NodeStands : Context → (Node → Type 0) → List ℕ → ℕ → ℕ → Type 0
NodeStands C IsIt bytes p n = (at : Node) × IsIt at × Stands bytes p n (text C.order at) (nodes at)

abbrev pub SpelledOrFails : Schema → Context → ℕ → Option ℕ → ℕ → Type 0
SpelledOrFails schema C number template arg = (d n p : ℕ) (bytes : List ℕ) → IsPlace bytes p
    → ExactlyOne (NodeStands C (Shape schema C d (kind_of schema C number template arg)) bytes p n)
    (Fails schema C d (kind_of schema C number template arg) (at_place n bytes p))

-- The same of the value of a field.
abbrev pub FormSpelledOrFails : Schema → Context → Form → Type 0
FormSpelledOrFails schema C form = (d n p : ℕ) (bytes : List ℕ) → IsPlace bytes p
    → ExactlyOne (NodeStands C (FormShape schema C d form) bytes p n)
    (FormShapeFails schema C d form (at_place n bytes p))

-- The same of the members of a line, where there aren't too many nodes before them.
abbrev pub LineSpelledOrFails : {Why : Type 0} → Schema → (Env → Context) → Option ℕ → ℕ → (Fault → Why) → Check Why
    → List Field → Type 0
LineSpelledOrFails schema at template arg by_fault check fields =
    (d n p : ℕ) (bytes : List ℕ) → IsPlace bytes p → n ≤ most_nodes
    → ExactlyOne ((members : Members) × LineShape schema at d template arg check fields [] members
    × Stands bytes p n (line_text at fields [] members) (nodes_in members))
    (LineFails schema at d template arg by_fault check fields [] (at_place n bytes p))
