-- No text has two lists of parts.
use Rattle.std.proofs.Common.{zero, suc, Contains, get_or, ◌≡◌, ℕ, Bool, true, false, cond, List, [], ◌∷◌, ◌++◌, Option, Some, None, refl, sym, ap, ◌∙◌, subst, arith, inl, inr, length}
use Rattle.std.specs.Prelude.{◌&&◌, ◌||◌, codes, ◌==◌, not, nat_eq, take, drop}
use lib.Pointwise.{pointwise}
use Rattle.std.specs.List.{All, AllPass, starts_with}
use Rattle.std.proofs.lemmas.Bool.{eqb-true}
use Rattle.std.proofs.lemmas.List.Elements.{All-contains}
use Rattle.std.proofs.lemmas.Bool.Decides.{nat_tests}
use Rattle.nif_schema.specs.Expression.{Number}
use Rattle.nif_expr.specs.Value.{Names}
use Rattle.nif_base.specs.Ascii.{is_blank, is_digit, is_hex_digit}
use Rattle.nif_expr.specs.Bytes.{is_letter, is_in_name, is_in_number, is_backslash, begins, front, after, trimmed}
use Rattle.nif_expr.specs.Digits.{number_of}
use Rattle.nif_expr.specs.Number.{IsNumber, IsDecimal, IsHexadecimal, IsVersion}
use Rattle.nif_expr.specs.Parts.{Part, Operand, signs, first_sign, Joined, last, more, operand_of, First, sign, number, path, Parts, none, blank, part}

pub digit-letter : (b : ℕ) → is_digit b ≡ true → is_letter b ≡ false
digit-letter b d = grind (arith, nat_tests)

pub digit-blank : (b : ℕ) → is_digit b ≡ true → is_blank b ≡ false
digit-blank b d = grind (arith, nat_tests)

pub letter-blank : (b : ℕ) → is_letter b ≡ true → is_blank b ≡ false
letter-blank b d = grind (arith, nat_tests)

-- A sign begins with none of these.
abbrev pub is_plain : ℕ → Bool
is_plain b = is_letter b || is_digit b || is_blank b

abbrev pub is_special : List ℕ → Bool
is_special [] = false
is_special (b ∷ spelling) = not (is_plain b)

abbrev pub are_special : List (List ℕ × Part) → Bool
are_special [] = true
are_special (entry ∷ others) = is_special entry.0 && are_special others

pub signs-special : are_special signs ≡ true
unfolding signs
signs-special = refl

pub both-true : (a b : Bool) → (a && b) ≡ true → (a ≡ true) × (b ≡ true)
both-true true b h = (refl, h)
both-true false b h = cc

pub not-plain : (a : Bool) → not a ≡ true → a ≡ false
not-plain true h = sym h
not-plain false h = refl

fits-plain : (spelling : List ℕ) (b : ℕ) (text : List ℕ) → is_special spelling ≡ true → starts_with nat_eq (b ∷ text) spelling ≡ true → is_plain b ≡ false
fits-plain [] b text special fits = cc
fits-plain (c ∷ spelling) b text special fits =
    let same : c ≡ b = eqb-true c b (both-true (nat_eq c b) (pointwise nat_eq spelling (take (length spelling) text)) fits).0 in
    subst (λ x. is_plain x ≡ false) same (not-plain (is_plain c) special)

fits-none : (spelling : List ℕ) → is_special spelling ≡ true → starts_with nat_eq [] spelling ≡ false
fits-none [] special = sym special
fits-none (c ∷ spelling) special = refl

pub first_sign-plain : (table : List (List ℕ × Part)) (b : ℕ) (text rest : List ℕ) (p : Part) → are_special table ≡ true
    → first_sign table (b ∷ text) ≡ Some (p, rest) → is_plain b ≡ false
first_sign-plain [] b text rest p special found = cc
first_sign-plain (entry ∷ others) b text rest p special found =
    first_sign-at (first_sign-plain others b text rest p parts.1) (starts_with nat_eq (b ∷ text) entry.0) refl found
  where
    parts : (is_special entry.0 ≡ true) × (are_special others ≡ true)
    parts = both-true (is_special entry.0) (are_special others) special

    first_sign-at : (first_sign others (b ∷ text) ≡ Some (p, rest) → is_plain b ≡ false) → (fits : Bool) → starts_with nat_eq (b ∷ text) entry.0 ≡ fits
        → cond fits (Some (entry.1, drop (length entry.0) (b ∷ text))) (first_sign others (b ∷ text)) ≡ Some (p, rest) → is_plain b ≡ false
    first_sign-at later true h out = fits-plain entry.0 b text parts.0 h
    first_sign-at later false h out = later out

pub first_sign-none : (table : List (List ℕ × Part)) → are_special table ≡ true → first_sign table [] ≡ None
first_sign-none [] special = refl
first_sign-none (entry ∷ others) special =
    let parts = both-true (is_special entry.0) (are_special others) special in
    ap (λ fits. cond fits (Some (entry.1, drop (length entry.0) [])) (first_sign others [])) (fits-none entry.0 parts.0)
    ∙ first_sign-none others parts.1

pub plain-letter : (b : ℕ) → is_plain b ≡ false → is_letter b ≡ false
plain-letter b h = grind (arith, nat_tests)

pub plain-digit : (b : ℕ) → is_plain b ≡ false → is_digit b ≡ false
plain-digit b h = grind (arith, nat_tests)

plain-blank : (b : ℕ) → is_plain b ≡ false → is_blank b ≡ false
plain-blank b h = grind (arith, nat_tests)

-- what a sign can't begin with
pub sign-apart : (class : ℕ → Bool) → ((b : ℕ) → is_plain b ≡ false → class b ≡ false) → (text rest : List ℕ) (p : Part)
    → first_sign signs text ≡ Some (p, rest) → begins class text ≡ false
sign-apart class of_plain [] rest p found = refl
sign-apart class of_plain (b ∷ text) rest p found = of_plain b (first_sign-plain signs b text rest p signs-special found)

pub unlike : {P : Type 0} {x : Bool} → x ≡ true → x ≡ false → P
unlike holds fails = cc

-- names

pub Joined-letter : (text : List ℕ) (names : Names) (rest : List ℕ) → Joined text names rest → begins is_letter text ≡ true
Joined-letter text names rest (last letter stops) = letter
Joined-letter text names rest (more letter goes tail) = letter

pub Joined-one : (text : List ℕ) (a b : Names) (r s : List ℕ) → Joined text a r → Joined text b s → (a ≡ b) × (r ≡ s)
Joined-one text _ _ _ _ (last l stops) (last m halts) = (refl, refl)
Joined-one text _ _ _ _ (last l stops) (more m goes tail) = unlike (ap (begins is_backslash) goes) stops
Joined-one text _ _ _ _ (more l goes tail) (last m stops) = unlike (ap (begins is_backslash) goes) stops
Joined-one text _ _ r s (more {next = next} {names = names} l goes tail) (more {next = other} {names = names'} m went after_it) =
    let same : next ≡ other = cc in
    let tail' : Joined (after is_blank other) names r = subst (λ x. Joined (after is_blank x) names r) same tail in
    let h = Joined-one (after is_blank other) names names' r s tail' after_it in
    (ap (λ x. trimmed (front is_in_name text) ∷ x) h.0, h.1)

-- numbers

decimal-hexadecimal : (text : List ℕ) (m n : ℕ) → IsDecimal text m → IsHexadecimal text n → ⊥
decimal-hexadecimal text m n d h = unlike ((subst (λ x. AllPass is_digit x) h.spelled d.digits) 1 0 (omega arith)) refl

decimal-version : (text : List ℕ) (m n : ℕ) → IsDecimal text m → IsVersion text n → ⊥
decimal-version text m n d v = unlike (All-contains (λ b. is_digit b ≡ true) text 46 d.digits v.dot) refl

hex-dot : (digits : List ℕ) → AllPass is_hex_digit digits → All (λ b. (b == 46) ≡ false) (codes "0x" ++ digits)
hex-dot digits hex zero d h = refl
hex-dot digits hex (suc zero) d h = refl
hex-dot digits hex (suc (suc k)) d h = let passes = hex k d (omega (arith, h)) in hex-apart (get_or digits k d) passes
  where
    hex-apart : (b : ℕ) → is_hex_digit b ≡ true → (b == 46) ≡ false
    hex-apart b passes = grind (arith, nat_tests)

hexadecimal-version : (text : List ℕ) (m n : ℕ) → IsHexadecimal text m → IsVersion text n → ⊥
hexadecimal-version text m n h v =
    unlike refl (All-contains (λ b. (b == 46) ≡ false) (codes "0x" ++ h.digits) 46 (hex-dot h.digits h.hex) (subst (λ x. Contains x 46) h.spelled v.dot))

hexadecimal-one : (text : List ℕ) (m n : ℕ) → IsHexadecimal text m → IsHexadecimal text n → m ≡ n
hexadecimal-one text m n a b = let e : codes "0x" ++ a.digits ≡ codes "0x" ++ b.digits = sym a.spelled ∙ b.spelled in
    let same : a.digits ≡ b.digits = cc in sym a.value ∙ ap (number_of 16) same ∙ b.value

pub IsNumber-one : (text : List ℕ) (m n : ℕ) → IsNumber text m → IsNumber text n → m ≡ n
IsNumber-one text m n (inl a) (inl b) = sym a.value ∙ b.value
IsNumber-one text m n (inl a) (inr (inl b)) = absurd (decimal-hexadecimal text m n a b)
IsNumber-one text m n (inl a) (inr (inr b)) = absurd (decimal-version text m n a b)
IsNumber-one text m n (inr (inl a)) (inl b) = absurd (decimal-hexadecimal text n m b a)
IsNumber-one text m n (inr (inl a)) (inr (inl b)) = hexadecimal-one text m n a b
IsNumber-one text m n (inr (inl a)) (inr (inr b)) = absurd (hexadecimal-version text m n a b)
IsNumber-one text m n (inr (inr a)) (inl b) = absurd (decimal-version text n m b a)
IsNumber-one text m n (inr (inr a)) (inr (inl b)) = absurd (hexadecimal-version text n m b a)
IsNumber-one text m n (inr (inr a)) (inr (inr b)) = let e : Some m ≡ Some n = sym a.value ∙ b.value in cc

-- parts

pub letter-begins : (text : List ℕ) → begins is_letter text ≡ true → begins is_digit text ≡ true → ⊥
letter-begins [] l d = cc
letter-begins (b ∷ text) l d = unlike l (digit-letter b d)

pub First-blank : (b : ℕ) (text rest : List ℕ) (p : Part) → First (b ∷ text) p rest → is_blank b ≡ false
First-blank b text rest p (sign found) = sign-apart is_blank plain-blank (b ∷ text) rest p found
First-blank b text _ _ (number d n) = digit-blank b d
First-blank b text rest _ (path {names = names} joined) = letter-blank b (Joined-letter (b ∷ text) names rest joined)

pub First-nil : (rest : List ℕ) (p : Part) → First [] p rest → ⊥
First-nil rest p (sign found) = let e = first_sign-none signs signs-special in cc
First-nil _ _ (number d n) = cc
First-nil rest _ (path {names = names} joined) = let e = Joined-letter [] names rest joined in cc

pub First-one : (text : List ℕ) (p q : Part) (r s : List ℕ) → First text p r → First text q s → (p ≡ q) × (r ≡ s)
First-one text p q r s (sign a) (sign b) = let e : ◌≡◌ {A = Option (Part × List ℕ)} (Some (p, r)) (Some (q, s)) = sym a ∙ b in
    let same : ◌≡◌ {A = Part × List ℕ} (p, r) (q, s) = cc in (ap (λ x. x.0) same, ap (λ x. x.1) same)
First-one text p _ r _ (sign a) (number d n) = unlike d (sign-apart is_digit plain-digit text r p a)
First-one text p _ r s (sign a) (path {names = names} joined) =
    unlike (Joined-letter text names s joined) (sign-apart is_letter plain-letter text r p a)
First-one text _ q _ s (number d n) (sign b) = unlike d (sign-apart is_digit plain-digit text s q b)
First-one text _ _ _ _ (number {n = m} d a) (number {n = n} e b) =
    (ap (λ x. Operand (Number x)) (IsNumber-one (front is_in_number text) m n a b), refl)
First-one text _ _ _ s (number d a) (path {names = names} joined) = absurd (letter-begins text (Joined-letter text names s joined) d)
First-one text _ q r s (path {names = names} joined) (sign b) =
    unlike (Joined-letter text names r joined) (sign-apart is_letter plain-letter text s q b)
First-one text _ _ r _ (path {names = names} joined) (number d a) = absurd (letter-begins text (Joined-letter text names r joined) d)
First-one text _ _ r s (path {names = names} joined) (path {names = others} also) =
    let h = Joined-one text names others r s joined also in (ap (λ x. Operand (operand_of x)) h.0, h.1)

-- what parts go on with after the first
pub Parts-part : (text : List ℕ) (p : Part) (rest : List ℕ) (parts : List Part) → First text p rest → Parts text parts
    → (others : List Part) × (parts ≡ p ∷ others) × Parts rest others
Parts-part _ p rest _ first none = absurd (First-nil rest p first)
Parts-part _ p rest parts first (blank {b = b} {text = text} is tail) = unlike is (First-blank b text rest p first)
Parts-part text p rest _ first (part {rest = left} {p = q} {parts = others} same tail) =
    let h = First-one text p q rest left first same in
    (others, ap (λ x. x ∷ others) (sym h.0), subst (λ x. Parts x others) (sym h.1) tail)

pub Parts-blank : (b : ℕ) (text : List ℕ) (parts : List Part) → is_blank b ≡ true → Parts (b ∷ text) parts → Parts text parts
Parts-blank b text parts is (blank also tail) = tail
Parts-blank b text _ is (part {rest = rest} {p = p} first tail) = unlike is (First-blank b text rest p first)

pub Parts-none : (parts : List Part) → Parts [] parts → parts ≡ []
Parts-none _ none = refl
Parts-none _ (part {rest = rest} {p = p} first tail) = absurd (First-nil rest p first)

pub Parts-one : (text : List ℕ) (a b : List Part) → Parts text a → Parts text b → a ≡ b
Parts-one _ _ b none also = sym (Parts-none b also)
Parts-one _ a b (blank {b = x} {text = text} is tail) also = Parts-one text a b tail (Parts-blank x text b is also)
Parts-one text _ b (part {rest = rest} {p = p} {parts = others} first tail) also =
    let h = Parts-part text p rest b first also in
    ap (λ x. p ∷ x) (Parts-one rest others h.0 tail h.2) ∙ sym h.1
