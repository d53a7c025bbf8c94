-- Bytes that are packed behind others.
use Rattle.std.proofs.Common.{ℕ, zero, suc, ◌≡◌, ◌+◌, ◌*◌, ◌/◌, ◌%◌, ◌^◌, ◌<◌, List, [], ◌∷◌, ◌++◌, length, sym, ◌∙◌, ap, refl, arith, inl, inr, length-append, append_assoc, append-nil}
use Rattle.std.proofs.lemmas.Bool.Decides.{eqb_tells}
use Rattle.nif_cells.specs.Encoding.{Packed, packed_more, packed_from, packed}
use Rattle.nif_value.specs.Packing.{started}

-- full cells before those of others
abbrev pub prefixed : List ℕ → Packed → Packed
prefixed ws p = record { words = ws ++ p.words; bits = p.bits; left = p.left }

pub more-prefixed : (ws : List ℕ) (p : Packed) (byte : ℕ) → packed_more (prefixed ws p) byte ≡ prefixed ws (packed_more p byte)
more-prefixed ws p byte = elim (eqb_tells p.left 7) [
  | inl e ↦ rw e.0 (ap (λ l. record { words = l; bits = 0; left = 0 }) (append_assoc ws p.words ((p.bits + byte * 256 ^ 7) ∷ [])))
  | inr e ↦ rw e.0 refl
]

pub from-prefixed : (ws : List ℕ) (p : Packed) (bytes : List ℕ) → packed_from (prefixed ws p) bytes ≡ prefixed ws (packed_from p bytes)
from-prefixed ws p [] = refl
from-prefixed ws p (b ∷ rest) = ap (λ q. packed_from q rest) (more-prefixed ws p b) ∙ from-prefixed ws (packed_more p b) rest

pub from-append : (p : Packed) (a b : List ℕ) → packed_from p (a ++ b) ≡ packed_from (packed_from p a) b
from-append p [] b = refl
from-append p (x ∷ rest) b = from-append (packed_more p x) rest b

pub from-started : (p : Packed) (bytes : List ℕ) → packed_from p bytes ≡ prefixed p.words (packed_from (started p.left p.bits) bytes)
from-started p bytes =
    ap (λ l. packed_from (record { words = l; bits = p.bits; left = p.left }) bytes) (sym (append-nil p.words)) ∙ from-prefixed p.words (started p.left p.bits) bytes

-- bytes packed behind others
pub packed-behind : (before bytes : List ℕ) → packed (before ++ bytes) ≡ prefixed (packed before).words (packed_from (started (packed before).left (packed before).bits) bytes)
packed-behind before bytes = from-append (record { words = []; bits = 0; left = 0 }) before bytes ∙ from-started (packed before) bytes

more-count : (p : Packed) (byte : ℕ) → p.left < 8 → ((packed_more p byte).left < 8) × (8 * length (packed_more p byte).words + (packed_more p byte).left ≡ 8 * length p.words + p.left + 1)
more-count p byte l = elim (eqb_tells p.left 7) [
  | inl e ↦ rw e.0 (omega arith, simp length-append (omega arith))
  | inr e ↦ rw e.0 (omega arith, omega arith)
]

from-count : (p : Packed) (bytes : List ℕ) → p.left < 8 → ((packed_from p bytes).left < 8) × (8 * length (packed_from p bytes).words + (packed_from p bytes).left ≡ 8 * length p.words + p.left + length bytes)
from-count p [] l = (l, omega arith)
from-count p (b ∷ rest) l =
    let m = more-count p b l in
    let t = from-count (packed_more p b) rest m.0 in
    (t.0, more (length rest) t.1 m.1)
  where
    more : (n : ℕ) → 8 * length (packed_from (packed_more p b) rest).words + (packed_from (packed_more p b) rest).left ≡ 8 * length (packed_more p b).words + (packed_more p b).left + n
        → 8 * length (packed_more p b).words + (packed_more p b).left ≡ 8 * length p.words + p.left + 1
        → 8 * length (packed_from (packed_more p b) rest).words + (packed_from (packed_more p b) rest).left ≡ 8 * length p.words + p.left + suc n
    more n e f = omega arith

-- how many full cells there are
pub words-count : (left bits : ℕ) (bytes : List ℕ) → left < 8 → length (packed_from (started left bits) bytes).words ≡ (left + length bytes) / 8
words-count left bits bytes l =
    let c = from-count (started left bits) bytes l in
    omega (arith, c.0, c.1)

pub left-count : (left bits : ℕ) (bytes : List ℕ) → left < 8 → (packed_from (started left bits) bytes).left < 8
left-count left bits bytes l = (from-count (started left bits) bytes l).0

-- one more byte
pub started-more : (left bits : ℕ) (bytes : List ℕ) (byte : ℕ) →
    packed_from (started left bits) (bytes ++ byte ∷ []) ≡ prefixed (packed_from (started left bits) bytes).words (packed_more (started (packed_from (started left bits) bytes).left (packed_from (started left bits) bytes).bits) byte)
started-more left bits bytes byte =
    from-append (started left bits) bytes (byte ∷ []) ∙ from-started (packed_from (started left bits) bytes) (byte ∷ [])

-- the bytes so far, and one more
pub pack-step : (p : Packed) (taken : List ℕ) (byte left bits : ℕ) (q : Packed) → left ≡ (packed_from p taken).left → bits ≡ (packed_from p taken).bits → packed_more (started left bits) byte ≡ q
    → packed_from p (taken ++ byte ∷ []) ≡ prefixed (packed_from p taken).words q
pack-step p taken byte left bits q l b e =
    from-append p taken (byte ∷ []) ∙ from-started (packed_from p taken) (byte ∷ [])
    ∙ ap (prefixed (packed_from p taken).words) (ap (λ n. packed_more (started n (packed_from p taken).bits) byte) (sym l) ∙ ap (λ n. packed_more (started left n) byte) (sym b) ∙ e)

-- a byte moved to its place
pub shifted : (left bits byte : ℕ) → left < 8 → byte < 256 → bits < 256 ^ left
    → (byte * 2 ^ (8 * left) % 18446744073709551616 ≡ byte * 256 ^ left) × (bits + byte * 256 ^ left < 256 ^ (left + 1)) × (bits + byte * 256 ^ left < 18446744073709551616)
shifted zero bits byte l b s = (omega arith, omega arith, omega arith)
shifted (suc zero) bits byte l b s = (omega arith, omega arith, omega arith)
shifted (suc (suc zero)) bits byte l b s = (omega arith, omega arith, omega arith)
shifted (suc (suc (suc zero))) bits byte l b s = (omega arith, omega arith, omega arith)
shifted (suc (suc (suc (suc zero)))) bits byte l b s = (omega arith, omega arith, omega arith)
shifted (suc (suc (suc (suc (suc zero))))) bits byte l b s = (omega arith, omega arith, omega arith)
shifted (suc (suc (suc (suc (suc (suc zero)))))) bits byte l b s = (omega arith, omega arith, omega arith)
shifted (suc (suc (suc (suc (suc (suc (suc zero))))))) bits byte l b s = (omega arith, omega arith, omega arith)
shifted (suc (suc (suc (suc (suc (suc (suc (suc more)))))))) bits byte l b s = absurd (omega arith)
