-- Bytes, eight to a cell.
use Rattle.std.proofs.Common.{ℕ, zero, suc, ◌+◌, ◌*◌, ◌/◌, ◌%◌, ◌^◌, ◌<◌, ◌≡◌, List, [], ◌∷◌, ◌++◌, length, All, refl, sym, ◌∙◌, ap, subst, arith, inl, inr, append_assoc, append-nil, length-append, pow-suc, mul_assoc, lit<}
use Rattle.std.proofs.lemmas.Bool.Decides.{eqb_tells}
use Rattle.std.proofs.lemmas.List.{length-map}
use Rattle.std.proofs.lemmas.List.Elements.{All-nil, All-head, All-tail, All-push}
use Rattle.std.proofs.lemmas.Nat.{mul-add-lt}
use Rattle.nif_base.specs.Node.{low_first}
use Rattle.nif_cells.specs.Encoding.{Packed, packed_more, packed_from, packed, words, byte_cells}
use Rattle.nif_cells.specs.Reading.{bytes_at}
use Rattle.nif_cells.specs.Progress.{unpacked}
use Rattle.nif_cells.specs.declared.contents.Content.{Content}
use Rattle.nif_cells.specs.declared.contents.Content.TheVariants.{Word, Tail}

-- no byte yet
abbrev none : Packed
none = record { words = []; bits = 0; left = 0 }

-- one more byte
pub packed_next : (bytes : List ℕ) (byte : ℕ) → packed (bytes ++ byte ∷ []) ≡ packed_more (packed bytes) byte
packed_next bytes byte = from none bytes
  where
    from : (p : Packed) (bytes : List ℕ) → packed_from p (bytes ++ byte ∷ []) ≡ packed_more (packed_from p bytes) byte
    from p [] = refl
    from p (b ∷ rest) = from (packed_more p b) rest

more_left : (p : Packed) (byte : ℕ) → p.left < 8 → (packed_more p byte).left < 8
more_left p byte l = elim (eqb_tells p.left 7) [
  | inl e ↦ rw e.0 (lit< tt)
  | inr e ↦ rw e.0 (let ne = e.1 in omega arith)
]

from_left : (p : Packed) (bytes : List ℕ) → p.left < 8 → (packed_from p bytes).left < 8
from_left p [] l = l
from_left p (b ∷ rest) l = from_left (packed_more p b) rest (more_left p b l)

pub packed_left : (bytes : List ℕ) → (packed bytes).left < 8
packed_left bytes = from_left none bytes (lit< tt)

more_count : (p : Packed) (byte : ℕ)
    → 8 * length (packed_more p byte).words + (packed_more p byte).left ≡ 8 * length p.words + p.left + 1
more_count p byte = elim (eqb_tells p.left 7) [
  | inl e ↦ rw e.0 (let is = e.1 in omega (arith, length-append p.words ((p.bits + byte * 256 ^ 7) ∷ [])))
  | inr e ↦ rw e.0 (omega arith)
]

from_count : (p : Packed) (bytes : List ℕ)
    → 8 * length (packed_from p bytes).words + (packed_from p bytes).left ≡ 8 * length p.words + p.left + length bytes
from_count p [] = omega arith
from_count p (b ∷ rest) =
    let more = more_count p b in
    let tail = from_count (packed_more p b) rest in
    omega arith

by_eight : (words left n : ℕ) → 8 * words + left ≡ n → left < 8 → (words ≡ n / 8) × (left ≡ n % 8)
by_eight words left n e l = (omega arith, omega arith)

pub packed_left_is : (bytes : List ℕ) → (packed bytes).left ≡ length bytes % 8
packed_left_is bytes = (by_eight (length (packed bytes).words) (packed bytes).left (length bytes)
    (from_count none bytes ∙ omega arith) (packed_left bytes)).1

pub packed_words : (bytes : List ℕ) → length (packed bytes).words ≡ length bytes / 8
packed_words bytes = (by_eight (length (packed bytes).words) (packed bytes).left (length bytes)
    (from_count none bytes ∙ omega arith) (packed_left bytes)).0

-- the bits of the bytes that are left are no more
record AreBits (p : Packed) : Type 0 where
  left : p.left < 8
  bits : p.bits < 256 ^ p.left
  words : All (λ w. w < 2 ^ 64) p.words

-- one more byte above those that are there
above : (n byte k : ℕ) → n < 256 ^ k → byte < 256 → n + byte * 256 ^ k < 256 ^ suc k
above n byte k h b = let fits : byte * 256 ^ k + n
    < 256 ^ k * 256 = mul-add-lt byte (256 ^ k) n 256 b h in omega (arith, pow-suc 256 k)

more_bits : (p : Packed) (byte : ℕ) → byte < 256 → AreBits p → AreBits (packed_more p byte)
more_bits p byte b h = elim (eqb_tells p.left 7) [
  | inl e ↦
      let full : p.bits < 256 ^ 7 = subst (λ k. p.bits < 256 ^ k) e.1 h.bits in
      let one : All (λ w. w < 2 ^ 64) (p.words ++ (p.bits + byte * 256 ^ 7) ∷ []) = All-push (λ w. w < 2 ^ 64) p.words (p.bits + byte * 256 ^ 7) h.words (omega arith) in
      rw e.0 (record { left = lit< tt; bits = lit< tt; words = one })
  | inr e ↦ rw e.0 (let ne = e.1 in let l = h.left in record { left = omega arith; bits = above p.bits byte p.left h.bits b; words = h.words })
]

from_bits : (p : Packed) (bytes : List ℕ) → All (λ b. b < 256) bytes → AreBits p → AreBits (packed_from p bytes)
from_bits p [] small h = h
from_bits p (b ∷ rest) small h = from_bits (packed_more p b) rest (All-tail (λ b. b < 256) b rest small)
    (more_bits p b (All-head (λ b. b < 256) b rest small) h)

none_bits : AreBits none
none_bits = record { left = lit< tt; bits = lit< tt; words = All-nil (λ w. w < 2 ^ 64) }

pub packed_bits : (bytes : List ℕ) → All (λ b. b < 256) bytes → (packed bytes).bits < 256 ^ (packed bytes).left
packed_bits bytes small = (from_bits none bytes small none_bits).bits

pub packed_fits : (bytes : List ℕ) → All (λ b. b < 256) bytes → All (λ w. w < 2 ^ 64) (packed bytes).words
packed_fits bytes small = (from_bits none bytes small none_bits).words

-- the byte above the others is the last
low_next : (k n byte : ℕ) → n < 256 ^ k → byte < 256
    → low_first (suc k) (n + byte * 256 ^ k) ≡ low_first k n ++ byte ∷ []
low_next zero n byte h b = ap (λ m. m ∷ []) (omega arith)
low_next (suc k) n byte h b =
    let wide : byte * 256 ^ suc k ≡ byte * 256 ^ k * 256 = ap (λ m. byte * m) (pow-suc 256 k) ∙ sym (mul_assoc byte (256 ^ k) 256) in
    let parts = split n (byte * 256 ^ k) in
    let fits : n / 256 < 256 ^ k = omega (arith, pow-suc 256 k) in
    rw (wide, parts.0, parts.1) (ap (λ l. n % 256 ∷ l) (low_next k (n / 256) byte fits b))
  where
    split : (n q : ℕ) → ((n + q * 256) % 256 ≡ n % 256) × ((n + q * 256) / 256 ≡ n / 256 + q)
    split n q = (omega arith, omega arith)

-- the bytes of full cells, one more cell behind
unpacked_next : (ws : List ℕ) (w : ℕ) → unpacked (ws ++ w ∷ []) ≡ unpacked ws ++ low_first 8 w
unpacked_next [] w = append-nil (low_first 8 w)
unpacked_next (v ∷ ws) w =
    ap (λ l. low_first 8 v ++ l) (unpacked_next ws w) ∙ sym (append_assoc (low_first 8 v) (unpacked ws) (low_first 8 w))

abbrev whole : Packed → List ℕ
whole p = unpacked p.words ++ low_first p.left p.bits

more_whole : (p : Packed) (byte : ℕ) → byte < 256 → AreBits p → whole (packed_more p byte) ≡ whole p ++ byte ∷ []
more_whole p byte b h = elim (eqb_tells p.left 7) [
  | inl e ↦
      let full : p.bits < 256 ^ 7 = subst (λ k. p.bits < 256 ^ k) e.1 h.bits in
      let last : low_first 8 (p.bits + byte * 256 ^ 7) ≡ low_first p.left p.bits ++ byte ∷ [] =
      low_next 7 p.bits byte full b ∙ ap (λ k. low_first k p.bits ++ byte ∷ []) (sym e.1) in
      rw e.0 (
      append-nil (unpacked (p.words ++ (p.bits + byte * 256 ^ 7) ∷ []))
      ∙ unpacked_next p.words (p.bits + byte * 256 ^ 7)
      ∙ ap (λ l. unpacked p.words ++ l) last
      ∙ sym (append_assoc (unpacked p.words) (low_first p.left p.bits) (byte ∷ []))
      )
  | inr e ↦ rw e.0 (ap (λ l. unpacked p.words ++ l) (low_next p.left p.bits byte h.bits b)
      ∙ sym (append_assoc (unpacked p.words) (low_first p.left p.bits) (byte ∷ [])))
]

from_whole : (p : Packed) (bytes : List ℕ) → All (λ b. b < 256) bytes → AreBits p
    → whole (packed_from p bytes) ≡ whole p ++ bytes
from_whole p [] small h = sym (append-nil (whole p))
from_whole p (b ∷ rest) small h =
    let here = All-head (λ b. b < 256) b rest small in
    from_whole (packed_more p b) rest (All-tail (λ b. b < 256) b rest small) (more_bits p b here h)
    ∙ ap (λ l. l ++ rest) (more_whole p b here h) ∙ append_assoc (whole p) (b ∷ []) rest

-- the bytes of the full cells and those that are left
pub unpacked_whole : (bytes : List ℕ) → All (λ b. b < 256) bytes
    → unpacked (packed bytes).words ++ low_first (packed bytes).left (packed bytes).bits ≡ bytes
unpacked_whole bytes small = from_whole none bytes small none_bits

pub bytes_at-words : (ws : List ℕ) (rest : List Content) → bytes_at (words ws ++ rest) ≡ unpacked ws ++ bytes_at rest
bytes_at-words [] rest = refl
bytes_at-words (w ∷ ws) rest =
    ap (λ l. low_first 8 w ++ l) (bytes_at-words ws rest)
    ∙ sym (append_assoc (low_first 8 w) (unpacked ws) (bytes_at rest))

pub bytes_at-cells : (bytes : List ℕ) (rest : List Content) → All (λ b. b < 256) bytes
    → bytes_at (byte_cells bytes ++ rest) ≡ bytes
bytes_at-cells bytes rest small =
    ap bytes_at (append_assoc (words (packed bytes).words) (Tail (packed bytes).left (packed bytes).bits ∷ []) rest)
    ∙ bytes_at-words (packed bytes).words (Tail (packed bytes).left (packed bytes).bits ∷ rest)
    ∙ unpacked_whole bytes small

pub byte_cells-length : (bytes : List ℕ) → length (byte_cells bytes) ≡ length bytes / 8 + 1
byte_cells-length bytes =
    length-append (words (packed bytes).words) (Tail (packed bytes).left (packed bytes).bits ∷ [])
    ∙ ap (λ n. n + 1) (length-map (packed bytes).words (λ b. Word b) ∙ packed_words bytes)
