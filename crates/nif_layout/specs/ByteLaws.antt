-- Laws of numbers and lines as bytes: their length, that bytes are of one value, and that they are the value's.
use Rattle.std.proofs.Common.{◌≡◌, ℕ, zero, suc, ◌*◌, ◌/◌, ◌^◌, ◌<◌, Bool, true, false, List, [], ◌∷◌, ◌++◌, length, reverse, refl, sym, ◌∙◌, ap, arith, div-lt_iff_lt-mul, lit<, ◌+◌, ◌≤◌, take, subst, append-nil, ◌%◌, length-take-le}
use Rattle.std.proofs.lemmas.List.{reverse-reverse, length-reverse, reverse-append}
use Rattle.nif_base.specs.Node.{low_first, number}
use Rattle.nif_layout.specs.Leaf.{AreInLine, AreBytes}
use Rattle.nif_layout.specs.LeafFault.{low_value, number_at}
use Rattle.std.proofs.Math.Seq.{take-append_seam}

-- Lists that begin one list and are as long are equal.
pub same_front : (s t x y : List ℕ) → length s ≡ length t → s ++ x ≡ t ++ y → (s ≡ t) × (x ≡ y)
same_front [] [] x y l e = (refl, e)
same_front [] (b ∷ t) x y l e = absurd (omega arith)
same_front (a ∷ s) [] x y l e = absurd (omega arith)
same_front (a ∷ s) (b ∷ t) x y l e =
    let tail : s ++ x ≡ t ++ y = cc in
    let len : length s ≡ length t = omega arith in
    let here : a ≡ b = cc in
    let r = same_front s t x y len tail in
    let rs : s ≡ t = r.0 in
    (cc, r.1)

pub length_low : (k n : ℕ) → length (low_first k n) ≡ k
length_low zero n = refl
length_low (suc k) n = ap suc (length_low k (n / 256))

pub length_number : (little : Bool) (k n : ℕ) → length (number little k n) ≡ k
length_number true k n = length_low k n
length_number false k n = length-reverse (low_first k n) ∙ length_low k n

pub value-low : (k n : ℕ) → n < 256 ^ k → low_value (low_first k n) ≡ n
value-low zero n h = omega arith
value-low (suc k) n h =
    let pos : 0 < 256 = lit< tt in
    let under : n < 256 ^ k * 256 = omega (arith, h) in
    let fits : n / 256 < 256 ^ k = (div-lt_iff_lt-mul pos).1 under in
    omega (arith, value-low k (n / 256) fits)

-- A number of one width is known by its bytes.
pub number_inj : (little : Bool) (k m n : ℕ) → m < 256 ^ k → n < 256 ^ k → number little k m ≡ number little k n → m ≡ n
number_inj true k m n hm hn e = sym (value-low k m hm) ∙ ap low_value e ∙ value-low k n hn
number_inj false k m n hm hn e =
    let e' : low_first k m ≡ low_first k n = sym (reverse-reverse (low_first k m)) ∙ ap reverse e ∙ reverse-reverse (low_first k n) in
    sym (value-low k m hm) ∙ ap low_value e' ∙ value-low k n hn

pub number_front : (little : Bool) (k m n : ℕ) (x y : List ℕ) → m < 256 ^ k → n < 256 ^ k
    → number little k m ++ x ≡ number little k n ++ y → (m ≡ n) × (x ≡ y)
number_front little k m n x y hm hn e =
    let r = same_front (number little k m) (number little k n) x y (length_number little k m ∙ sym (length_number little k n)) e in
    (number_inj little k m n hm hn r.0, r.1)

-- A line ends at its first 0x0A.
pub line_front : (s t x y : List ℕ) → AreInLine s → AreInLine t → s ++ 0x0A ∷ x ≡ t ++ 0x0A ∷ y → (s ≡ t) × (x ≡ y)
line_front [] [] x y hs ht e = (refl, cc)
line_front [] (b ∷ t) x y hs ht e = let same : 0x0A ≡ b = cc in absurd (ht.1 (sym same))
line_front (a ∷ s) [] x y hs ht e = let same : a ≡ 0x0A = cc in absurd (hs.1 same)
line_front (a ∷ s) (b ∷ t) x y hs ht e =
    let tail : s ++ 0x0A ∷ x ≡ t ++ 0x0A ∷ y = cc in
    let here : a ≡ b = cc in
    let r = line_front s t x y hs.2 ht.2 tail in
    let rs : s ≡ t = r.0 in
    (cc, r.1)

pub take_front : (k : ℕ) (s rest : List ℕ) → length s ≡ k → take k (s ++ rest) ≡ s
take_front k s rest e = let P : ℕ → Type 0 = λ j. take j (s ++ rest) ≡ s in subst P e (take-append_seam s rest)

pub value_again : (little : Bool) (k n : ℕ) → n < 256 ^ k → number_at little k (number little k n) ≡ n
value_again true k n h =
    let len : length (low_first k n) ≡ k = length_low k n in
    let e : take k (low_first k n ++ []) ≡ low_first k n = take_front k (low_first k n) [] len in
    ap low_value (ap (λ s. take k s) (sym (append-nil (low_first k n))) ∙ e) ∙ value-low k n h
value_again false k n h =
    let e : take k (reverse (low_first k n) ++ []) ≡ reverse (low_first k n) = take_front k (reverse (low_first k n)) [] (length_number false k n) in
    ap low_value (ap reverse (ap (λ s. take k s) (sym (append-nil (reverse (low_first k n)))) ∙ e)
    ∙ reverse-reverse (low_first k n)) ∙ value-low k n h

pub number_again : (little : Bool) (k n : ℕ) (rest : List ℕ) → n < 256 ^ k
    → number_at little k (number little k n ++ rest) ≡ n
number_again true k n rest h = ap low_value (take_front k (low_first k n) rest (length_low k n)) ∙ value-low k n h
number_again false k n rest h =
    ap low_value (ap reverse (take_front k (reverse (low_first k n)) rest (length_number false k n))
    ∙ reverse-reverse (low_first k n)) ∙ value-low k n h

-- what follows bytes are bytes
pub bytes_behind : (s t : List ℕ) → AreBytes (s ++ t) → AreBytes t
bytes_behind [] t h = h
bytes_behind (b ∷ s) t h = bytes_behind s t h.1

pub bytes_append : (s t : List ℕ) → AreBytes s → AreBytes t → AreBytes (s ++ t)
bytes_append [] t hs ht = ht
bytes_append (b ∷ s) t hs ht = (hs.0, bytes_append s t hs.1 ht)

pub bytes_reverse : (s : List ℕ) → AreBytes s → AreBytes (reverse s)
bytes_reverse [] h = tt
bytes_reverse (b ∷ s) h =
    subst AreBytes (sym (reverse-append (b ∷ []) s))
    (bytes_append (reverse s) (reverse (b ∷ [])) (bytes_reverse s h.1) (h.0, tt))

pub bytes_take : (k : ℕ) (s : List ℕ) → AreBytes s → AreBytes (take k s)
bytes_take zero s h = tt
bytes_take (suc k) [] h = tt
bytes_take (suc k) (b ∷ s) h = (h.0, bytes_take k s h.1)

-- bytes are the spelling of their value
pub low-value : (s : List ℕ) → AreBytes s → low_first (length s) (low_value s) ≡ s
low-value [] h = refl
low-value (b ∷ s) h =
    let small : b < 256 = h.0 in
    let m : (b + 256 * low_value s) % 256 ≡ b = omega arith in
    let d : (b + 256 * low_value s) / 256 ≡ low_value s = omega arith in
    rw (m, d, low-value s h.1) refl

pub bound_step : (b v n : ℕ) → b < 256 → v < 256 ^ n → b + 256 * v < 256 ^ suc n
bound_step b v n h i = omega arith

pub low_bound : (s : List ℕ) → AreBytes s → low_value s < 256 ^ length s
low_bound [] h = lit< tt
low_bound (b ∷ s) h = bound_step b (low_value s) (length s) h.0 (low_bound s h.1)

pub number_taken : (little : Bool) (k : ℕ) (s : List ℕ) → AreBytes s → k ≤ length s
    → (number little k (number_at little k s) ≡ take k s) × (number_at little k s < 256 ^ k)
number_taken true k s h l =
    let len : length (take k s) ≡ k = length-take-le k s l in
    let P : ℕ → Type 0 = λ j. (low_first j (low_value (take k s)) ≡ take k s) × (low_value (take k s) < 256 ^ j) in
    subst P len (low-value (take k s) (bytes_take k s h), low_bound (take k s) (bytes_take k s h))
number_taken false k s h l =
    let r = reverse (take k s) in
    let hr : AreBytes r = bytes_reverse (take k s) (bytes_take k s h) in
    let len : length r ≡ k = length-reverse (take k s) ∙ length-take-le k s l in
    let P : ℕ → Type 0 = λ j. (reverse (low_first j (low_value r)) ≡ take k s) × (low_value r < 256 ^ j) in
    subst P len (ap reverse (low-value r hr) ∙ reverse-reverse (take k s), low_bound r hr)
