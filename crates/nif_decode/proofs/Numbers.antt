-- Numbers of bytes.
use Rattle.std.specs.Prelude.{All}
use Rattle.std.proofs.Common.{◌≢◌, ◌≡◌, ℕ, zero, suc, ◌+◌, ◌-◌, ◌*◌, ◌^◌, ◌<◌, ◌≤◌, false, List, [], ◌∷◌, length, drop, reverse, get_or, sym, ap, ◌∙◌, subst, arith, drop-cons, add-zero, le_refl}
use Rattle.nif_base.specs.Node.{low_first, number}
use Rattle.std.proofs.lemmas.List.{length-reverse, reverse-reverse}
use Rattle.nif_layout.specs.LeafFault.{low_value}
use Rattle.std.proofs.lemmas.List.{length-reverse, reverse-reverse}
use Rattle.nif_layout.specs.Leaf.{AreBytes, AreInLine}
use Rattle.nif_layout.specs.ByteLaws.{low-value, low_bound}

one_byte : (s : List ℕ) (i bits : ℕ) → i < length s → bits ≡ low_value (drop (suc i) s) → bits * 256 + get_or s i 0 ≡ low_value (drop i s)
one_byte s i bits h e =
    let d : drop i s ≡ get_or s i 0 ∷ drop (suc i) s = drop-cons s i 0 h in
    rw d (rw (← e) (omega arith))

one_bound : (n i b bits : ℕ) → i < n → b < 256 → bits < 256 ^ (n - suc i) → bits * 256 + b < 256 ^ (n - i)
one_bound n i b bits h hb hs =
    let e : n - i ≡ suc (n - suc i) = omega arith in
    rw e (by (n - suc i) hs)
  where
    by : (k : ℕ) → bits < 256 ^ k → bits * 256 + b < 256 ^ suc k
    by k hk = omega arith

pow_up : (k j : ℕ) → 256 ^ k ≤ 256 ^ (k + j)
pow_up k zero = rw add-zero (le_refl (256 ^ k))
pow_up k (suc j) = let ih = pow_up k j in let e : k + suc j ≡ suc (k + j) = omega arith in rw e (next (k + j) (256 ^ k) ih)
  where
    next : (n x : ℕ) → x ≤ 256 ^ n → x ≤ 256 ^ suc n
    next n x h = omega arith

pub fits_64 : (x k : ℕ) → k ≤ 8 → x < 256 ^ k → x < 2 ^ 64
fits_64 x k h hx =
    let e : k + (8 - k) ≡ 8 = omega arith in
    let P : ℕ → Type 0 = λ n. 256 ^ k ≤ 256 ^ n in
    let m : 256 ^ k ≤ 256 ^ 8 = subst P e (pow_up k (8 - k)) in omega arith

-- bytes by their index
pub are_bytes : (s : List ℕ) → ((k : ℕ) → get_or s k 0 < 256) → AreBytes s
are_bytes [] h = tt
are_bytes (b ∷ s) h = (h 0, are_bytes s (λ k. h (suc k)))

pub little_step : (s : List ℕ) (i bits : ℕ) → 0 < i → i ≤ length s → ((k : ℕ) → get_or s k 0 < 256) → bits ≡ low_value (drop i s) → bits < 256 ^ (length s - i)
    → (bits * 256 + get_or s (i - 1) 0 ≡ low_value (drop (i - 1) s)) × (bits * 256 + get_or s (i - 1) 0 < 256 ^ (length s - (i - 1)))
little_step s i bits pos l h e small =
    let up : suc (i - 1) ≡ i = omega arith in
    let here : i - 1 < length s = omega arith in
    let e' : bits ≡ low_value (drop (suc (i - 1)) s) = rw up e in
    let small' : bits < 256 ^ (length s - suc (i - 1)) = rw up small in
    (one_byte s (i - 1) bits here e', one_bound (length s) (i - 1) (get_or s (i - 1) 0) bits here (h (i - 1)) small')

-- bytes are the spelling of the number that they spell
pub spelled_all : (s : List ℕ) (bits : ℕ) → ((k : ℕ) → get_or s k 0 < 256) → bits ≡ low_value s → (low_first (length s) bits ≡ s) × (bits < 256 ^ length s)
spelled_all s bits h e =
    let hb = are_bytes s h in
    subst (λ b. (low_first (length s) b ≡ s) × (b < 256 ^ length s)) (sym e) (low-value s hb, low_bound s hb)

pub turned : (s t : List ℕ) (bits : ℕ) → t ≡ reverse s → low_first (length t) bits ≡ t → number false (length s) bits ≡ s
turned s t bits e h =
    let len : length t ≡ length s = ap length e ∙ length-reverse s in
    ap (λ k. reverse (low_first k bits)) (sym len) ∙ ap reverse (h ∙ e) ∙ reverse-reverse s

in_line_from : (s : List ℕ) → ((k : ℕ) → get_or s k 0 < 256) → ((k : ℕ) → k < length s → get_or s k 0 ≢ 10) → AreInLine s
in_line_from [] h n = tt
in_line_from (b ∷ s) h n = (h 0, n 0 (omega arith), in_line_from s (λ k. h (suc k)) (λ k l. n (suc k) (omega (arith, l))))

-- the bytes of a line
pub are_in_line : (s : List ℕ) → ((k : ℕ) → get_or s k 0 < 256) → All (λ c. c ≢ 10) s → AreInLine s
are_in_line s h all = in_line_from s h (λ k l. all k 0 l)
