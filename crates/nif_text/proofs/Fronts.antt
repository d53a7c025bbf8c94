-- Whether a list begins with another.
use Rattle.std.proofs.Common.{ℕ, ◌-◌, ◌≡◌, Bool, true, false, IsTrue, List, [], ◌∷◌, ◌++◌, length, take, drop, nat_eq, sym, ◌∙◌, ap, ap₂, subst, arith, length-append}
use Rattle.std.proofs.lemmas.List.{take-append-drop}
use Rattle.std.proofs.Math.Seq.{take-append_seam}
use Rattle.std.specs.Cmp.Lexicographic.{same_text, other_text}
use Rattle.std.proofs.lemmas.Bool.Decides.{nat_tests}
use lib.Pointwise.{pointwise}
use Rattle.nif_text.specs.Parts.{Many, Byte}
use Rattle.nif_text.specs.Bytes.{is_name_start, is_name_byte, Name}

pub begins : (p text part rest : List ℕ) → part ≡ text → pointwise nat_eq (take (length p) part) p ≡ true → rest ≡ drop (length p) part → text ≡ p ++ rest
begins p text part rest e t r =
    let same : take (length p) part ≡ p = same_text (take (length p) part) p (sym t) in
    sym e ∙ sym (take-append-drop (length p) part) ∙ ap (λ x. x ++ drop (length p) part) same ∙ ap (λ x. p ++ x) (sym r)

pub begins_not : (p text part rest : List ℕ) → part ≡ text → pointwise nat_eq (take (length p) part) p ≡ false → text ≡ p ++ rest → ⊥
begins_not p text part rest e t r =
    other_text (take (length p) part) p (sym t) (ap (λ x. take (length p) x) (e ∙ r) ∙ take-append_seam p rest)

-- a run of bytes is what stands before its rest
pub run_is : (test : ℕ → Bool) (bytes text rest : List ℕ) → Many (Byte test) bytes text rest → text ≡ bytes ++ rest
run_is test [] text rest r = r
run_is test (c ∷ bytes) text rest r = r.1.0 ∙ ap (λ x. c ∷ x) (run_is test bytes r.0 rest r.2)

pub front_is : (bytes text rest : List ℕ) → text ≡ bytes ++ rest → take (length text - length rest) text ≡ bytes
front_is bytes text rest e =
    let n : length text - length rest ≡ length bytes = omega (arith, ap length e, length-append bytes rest) in
    ap₂ (λ k x. take k x) n e ∙ take-append_seam bytes rest

pub front_name : (first : ℕ) (bytes text more rest : List ℕ) → text ≡ first ∷ more → IsTrue (is_name_start first) →
    Many (Byte is_name_byte) bytes more rest → Name (take (length text - length rest) text) text rest
front_name first bytes text more rest e begins r =
    let whole : take (length text - length rest) text ≡ first ∷ bytes = front_is (first ∷ bytes) text rest (e ∙ ap (λ x. first ∷ x) (run_is is_name_byte bytes more rest r)) in
    let P : List ℕ → Type 0 = λ x. Name x text rest in
    subst P (sym whole) (more, (e, begins), r)

-- nothing stands at the end of a text
pub no_byte : (text : List ℕ) (c : ℕ) (rest : List ℕ) → length text ≡ 0 → text ≡ c ∷ rest → ⊥
no_byte text c rest n e = omega (arith, n, ap length e)

-- and one byte at a place
pub other_byte : (text : List ℕ) (b c : ℕ) (more rest : List ℕ) → text ≡ b ∷ more → (b ≡ c → ⊥) → text ≡ c ∷ rest → ⊥
other_byte text b c more rest e differ f = let g : b ∷ more ≡ c ∷ rest = sym e ∙ f in differ (cc)

pub head_same : (x y : ℕ) (a b : List ℕ) → x ∷ a ≡ y ∷ b → x ≡ y
head_same x y a b e = cc

pub tail_same : (x y : ℕ) (a b : List ℕ) → x ∷ a ≡ y ∷ b → a ≡ b
tail_same x y a b e = cc

-- two bytes that differ
pub heads_differ : (x y : ℕ) (a b : List ℕ) → nat_eq x y ≡ false → x ∷ a ≡ y ∷ b → ⊥
heads_differ x y a b d e = grind (arith, nat_tests, d, head_same x y a b e)
