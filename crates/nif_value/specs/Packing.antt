-- Bytes on their way into cells.
use Rattle.std.specs.Prelude.{ℕ, []}
use Rattle.nif_cells.specs.Encoding.{Packed}

-- bytes that are left, and no full cell yet
abbrev pub started : ℕ → ℕ → Packed
started left bits = record { words = []; bits = bits; left = left }
