-- The bytes of a number, one after another.
use Rattle.std.proofs.Common.{ℕ, zero, suc, ◌+◌, ◌*◌, ◌/◌, ◌%◌, ◌^◌, ◌<◌, ◌≡◌, List, [], ◌∷◌, ◌++◌, length, take, set, refl, sym, ◌∙◌, ap, arith, pow-suc, add-one}
use Rattle.std.proofs.Math.Nat.{div-div-eq-div-mul}
use Rattle.nif_base.specs.Node.{low_first}

-- what is left of a number after one byte more
pub rest_more : (n i : ℕ) → n / 256 ^ i / 256 ≡ n / 256 ^ (i + 1)
rest_more n i = div-div-eq-div-mul n (256 ^ i) 256 ∙ ap (λ p. n / p) (sym (ap (λ e. 256 ^ e) (add-one i) ∙ pow-suc 256 i))

-- one byte more
low_more : (i n : ℕ) → low_first (suc i) n ≡ low_first i n ++ (n / 256 ^ i % 256) ∷ []
low_more zero n = ap (λ m. m % 256 ∷ []) (omega arith)
low_more (suc i) n =
    ap (λ l. n % 256 ∷ l)
    (low_more i (n / 256) ∙ ap (λ m. low_first i (n / 256) ++ m % 256 ∷ []) (div-div-eq-div-mul n 256 (256 ^ i) ∙ ap (λ p. n / p) (swap i)))
  where
    swap : (i : ℕ) → 256 * 256 ^ i ≡ 256 ^ suc i
    swap i = omega (arith, pow-suc 256 i)

take_more : (bytes : List ℕ) (i byte : ℕ) → i < length bytes → take (suc i) (set bytes i byte) ≡ take i bytes ++ byte ∷ []
take_more [] i byte h = absurd (omega arith)
take_more (b ∷ bytes) zero byte h = refl
take_more (b ∷ bytes) (suc i) byte h = ap (λ l. b ∷ l) (take_more bytes i byte (omega (arith, h)))

pub filled_more : (bytes : List ℕ) (i n rest : ℕ) → i < length bytes → rest ≡ n / 256 ^ i → take i bytes ≡ low_first i n → take (i + 1) (set bytes i (rest % 256)) ≡ low_first (i + 1) n
filled_more bytes i n rest h is so_far =
    ap (λ k. take k (set bytes i (rest % 256))) (add-one i) ∙ take_more bytes i (rest % 256) h
    ∙ ap (λ l. l ++ (rest % 256) ∷ []) so_far ∙ ap (λ r. low_first i n ++ (r % 256) ∷ []) is ∙ sym (low_more i n) ∙ ap (λ k. low_first k n) (sym (add-one i))
