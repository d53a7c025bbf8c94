-- Which nodes a value without members may be.
use Rattle.std.specs.Prelude.{ℕ, ◌≡◌, ◌≢◌, ◌^◌, ◌<◌, ◌≤◌, IfSome, List, [], ◌∷◌, length}
use Rattle.std.specs.declared.option.Option.{Option}
use Rattle.nif_base.specs.Node as node
use Rattle.nif_base.specs.Node.{Node}
use Rattle.nif_layout.specs.Context.{Context}
use Rattle.nif_layout.specs.Kind.{Kind, Number, Line, Ref, Text}

abbrev pub AreBytes : List ℕ → Type 0
AreBytes [] = Unit {0}
AreBytes (b ∷ bs) = (b < 256) × AreBytes bs

-- bytes of a line: none is 0x0A
abbrev pub AreInLine : List ℕ → Type 0
AreInLine [] = Unit {0}
AreInLine (b ∷ bs) = (b < 256) × (b ≢ 0x0A) × AreInLine bs

-- a place below this number, or none
abbrev pub IsBelow : ℕ → Option ℕ → Type 0
IsBelow most place = IfSome place (λ k. k < most)

-- A number has any bits of its width; a line has at most 255 bytes; a reference is below the number of blocks, and a
-- text index below that of strings.
abbrev pub IsLeaf : Context → Kind → Node → Type 0
IsLeaf C (Number width little) at = (bits : ℕ) × (at ≡ node.Num width little bits) × (bits < 256 ^ width)
IsLeaf C Line at = (bytes : List ℕ) × (at ≡ node.Line bytes) × AreInLine bytes × (length bytes ≤ 255)
IsLeaf C (Ref strong wanted) at = (target : Option ℕ) × (at ≡ node.Ref strong wanted target) × IsBelow C.blocks target
IsLeaf C Text at = (index : Option ℕ) × (at ≡ node.Text index) × IsBelow C.strings index
IsLeaf C _ at = ⊥
