-- Numbers of references.
use Rattle.std.proofs.Common.{ℕ, ◌+◌, ◌*◌, ◌≡◌, ◌≤◌, ◌<◌, true, false, List, [], ◌∷◌, ◌++◌, length, refl, inl, inr, sym, ◌∙◌, ap, arith, length-append}
use Rattle.std.proofs.Math.Nat.{mul-le-mul_left}
use Rattle.std.proofs.lemmas.Bool.Decides.{nat_tests}
use Rattle.nif_text.specs.Parts.{Many, Byte}
use Rattle.nif_base.specs.Ascii.{digit_value}
use Rattle.nif_text.specs.References.{number, is_character, Number}
use Rattle.nif_text.specs.Bases.{base_of, is_digit, IsCapped}
use Rattle.nif_text.specs.declared.reference.Base.{Base}
use Rattle.nif_text.specs.declared.reference.Base.TheVariants.{Ten, Sixteen}
use Rattle.nif_text.specs.Reading.{Never, Longest}
use Rattle.nif_text.proofs.Runs.{Single, longest_same}
use Rattle.nif_text.proofs.Fronts.{run_is}
use Rattle.nif_text.proofs.SingleParts.{byte_single, byte_never}

pub number_more : (base higher : ℕ) (ds : List ℕ) (c : ℕ) → number base higher (ds ++ c ∷ []) ≡ number base higher ds * base + digit_value c
number_more base higher [] c = refl
number_more base higher (d ∷ ds) c = number_more base (higher * base + digit_value d) ds c

pub not_less : (base v d : ℕ) → 1 ≤ base → v ≤ v * base + d
not_less base v d h = let e : v * 1 ≤ v * base = mul-le-mul_left v h in omega (arith, e)

pub capped_more : (base k v d : ℕ) → IsCapped k v → k < 0x110000 → IsCapped (k * base + d) (v * base + d)
capped_more base k v d (inl e) small = inl (ap (λ x. x * base + d) e)
capped_more base k v d (inr large) small = absurd (omega (arith, large))

pub capped_stays : (base k v d : ℕ) → 1 ≤ base → IsCapped k v → 0x110000 ≤ k → IsCapped k (v * base + d)
capped_stays base k v d h (inl e) large = inr (omega (arith, e, not_less base v d h), large)
capped_stays base k v d h (inr both) large = inr (omega (arith, both, not_less base v d h), large)

pub base_positive : (base : Base) → 1 ≤ base_of base
base_positive Ten = omega arith
base_positive Sixteen = omega arith

pub no_semicolon : (base : Base) → is_digit base 0x3B ≡ false
no_semicolon Ten = refl
no_semicolon Sixteen = refl

-- a number goes through the longest run of digits
pub number_through : (base : Base) (ds text rest : List ℕ) (c : ℕ) (r : List ℕ) → Many (Byte (is_digit base)) ds text rest → Never (Byte (is_digit base)) rest →
    (n : Number (base_of base) (is_digit base) c text r) → (ds ≡ n.digits) × (rest ≡ 0x3B ∷ r)
number_through base ds text rest c r m e n =
    longest_same (Byte (is_digit base)) (byte_single (is_digit base)) ds n.digits text rest (0x3B ∷ r) m e n.run (byte_never (is_digit base) 0x3B r (no_semicolon base))

pub number_single : (base : Base) → Single (Number (base_of base) (is_digit base))
number_single base c d text m n p q =
    let same : (p.digits ≡ q.digits) × (0x3B ∷ m ≡ 0x3B ∷ n) =
    number_through base p.digits text (0x3B ∷ m) d n p.run (byte_never (is_digit base) 0x3B m (no_semicolon base)) q in
    let tail : 0x3B ∷ m ≡ 0x3B ∷ n = same.1 in
    (p.value ∙ ap (λ ds. number (base_of base) 0 ds) same.0 ∙ sym q.value, cc tail)

pub no_items : (ds : List ℕ) → length ds ≡ 0 → ds ≡ []
no_items [] e = refl
no_items (d ∷ ds) e = absurd (omega (arith, e))

-- no digit
pub number_never-empty : (base : Base) (ds text rest : List ℕ) → Longest (Byte (is_digit base)) ds text rest → length rest ≡ length text →
    Never (Number (base_of base) (is_digit base)) text
number_never-empty base ds text rest l e c r n =
    let through : (ds ≡ n.digits) × (rest ≡ 0x3B ∷ r) = number_through base ds text rest c r l.many l.ends n in
    let none : length ds ≡ 0 = omega (arith, e, ap length (run_is (is_digit base) ds text rest l.many), length-append ds rest) in
    n.some (sym through.0 ∙ no_items ds none)

pub below_characters : (c : ℕ) → is_character c ≡ true → c < 0x110000
below_characters c t = grind (arith, nat_tests)

same_range : (code v c : ℕ) → IsCapped code v → v ≡ c → is_character c ≡ true → is_character code ≡ false → ⊥
same_range code v c (inl e) value t f = let t2 : is_character code ≡ true = ap is_character (e ∙ value) ∙ t in cc
same_range code v c (inr both) value t f = omega (arith, both, value, below_characters c t)

-- a number that no character has
pub number_never-range : (base : Base) (ds text rest : List ℕ) (code : ℕ) → Longest (Byte (is_digit base)) ds text rest →
    IsCapped code (number (base_of base) 0 ds) → is_character code ≡ false → Never (Number (base_of base) (is_digit base)) text
number_never-range base ds text rest code l capped f c r n =
    let through : (ds ≡ n.digits) × (rest ≡ 0x3B ∷ r) = number_through base ds text rest c r l.many l.ends n in
    let value : number (base_of base) 0 ds ≡ c = ap (λ x. number (base_of base) 0 x) through.0 ∙ sym n.value in
    same_range code (number (base_of base) 0 ds) c capped value n.in_range f

-- no `;` behind the digits
pub number_never-end : (base : Base) (ds text rest : List ℕ) → Longest (Byte (is_digit base)) ds text rest →
    ((r : List ℕ) → rest ≡ 0x3B ∷ r → ⊥) → Never (Number (base_of base) (is_digit base)) text
number_never-end base ds text rest l end c r n = end r (number_through base ds text rest c r l.many l.ends n).1
