-- Basics that can be read.
use Rattle.std.specs.Prelude.{ℕ, ◌≡◌, ◌⊎◌}
use Rattle.nif_schema.specs.declared.decls.Leaf.{Leaf}
use Rattle.nif_schema.specs.declared.decls.Leaf.TheVariants as leaf

-- a number has 1, 2, 4 or 8 bytes
abbrev pub IsWidth : ℕ → Type 0
IsWidth width = (width ≡ 1) ⊎ ((width ≡ 2) ⊎ ((width ≡ 4) ⊎ (width ≡ 8)))

abbrev pub IsReadable : Leaf → Type 0
IsReadable (leaf.Num width signed little float) = IsWidth width
IsReadable leaf.Unread = ⊥
IsReadable _ = Unit {0}
