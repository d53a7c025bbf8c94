-- References are read in one way only.
use Rattle.std.proofs.Common.{ℕ, ◌+◌, ◌≡◌, ◌≤◌, length, arith, length-append, Bool, true, cond, nat_eq, Option, Some, None, IfSome, IfNone, ◌⊎◌, inl, inr, List, [], ◌∷◌, refl, sym, ◌∙◌, ap, subst, codes}
use Rattle.nif_text.specs.Parts.{Many, Byte, Literal, After}
use Rattle.nif_text.specs.References.{Number, Reference, Less, Greater, Ampersand, Quote, Apostrophe, Decimal, Hexadecimal, is_decimal, is_hexadecimal}
use Rattle.nif_text.specs.declared.reference.Base.TheVariants.{Ten, Sixteen}
use Rattle.nif_text.specs.Reading.{Never, NoLiteral, NoName}
use Rattle.nif_text.proofs.Runs.{Single}
use Rattle.nif_text.proofs.Fronts.{run_is}
use Rattle.nif_text.proofs.SingleParts.{literal_same, after_single, after_never}
use Rattle.nif_text.proofs.Numbers.{number_single}

-- what stands behind a front
abbrev cut : List ℕ → List ℕ → Option (List ℕ)
cut [] text = Some text
cut (c ∷ front) [] = None
cut (c ∷ front) (d ∷ text) = cond (nat_eq c d) (cut front text) None

abbrev or_else : ℕ → Option (List ℕ) → Option (ℕ × List ℕ) → Option (ℕ × List ℕ)
or_else c None other = other
or_else c (Some rest) other = Some (c, rest)

abbrev named : List ℕ → Option (ℕ × List ℕ)
named text =
    or_else 0x3C (cut (codes "&lt;") text)
    (or_else 0x3E (cut (codes "&gt;") text)
    (or_else 0x26 (cut (codes "&amp;") text)
    (or_else 0x22 (cut (codes "&quot;") text)
    (or_else 0x27 (cut (codes "&apos;") text) None))))

abbrev Numeric : ℕ → List ℕ → List ℕ → Type 0
Numeric c text rest = After (codes "&#") (Number 10 is_decimal) c text rest ⊎ After (codes "&#x") (Number 16 is_hexadecimal) c text rest

abbrev Way : ℕ → List ℕ → List ℕ → Type 0
Way c text rest = (named text ≡ Some (c, rest)) ⊎ ((named text ≡ None) × Numeric c text rest)

way : (c : ℕ) (text rest : List ℕ) → Reference c text rest → Way c text rest
way _ text rest (Less l) = inl (ap named l)
way _ text rest (Greater l) = inl (ap named l)
way _ text rest (Ampersand l) = inl (ap named l)
way _ text rest (Quote l) = inl (ap named l)
way _ text rest (Apostrophe l) = inl (ap named l)
way c text rest (Decimal a) = inr (ap named a.1, inl a)
way c text rest (Hexadecimal a) = inr (ap named a.1, inr a)

-- a number begins with a digit
first_digit : (base : ℕ) (test : ℕ → Bool) (c d : ℕ) (text rest : List ℕ) → Number base test c (d ∷ text) rest → test d ≡ true
first_digit base test c d text rest n = begins n.digits n.some n.run
  where
    begins : (ds : List ℕ) → (ds ≡ [] → ⊥) → Many (Byte test) ds (d ∷ text) (0x3B ∷ rest) → test d ≡ true
    begins [] some r = absurd (some refl)
    begins (x ∷ ds) some r = let e : d ≡ x = cc (r.1.0) in ap test e ∙ r.1.1

-- no decimal number is behind `&#` of `&#x`
no_decimal : (c : ℕ) (text m rest : List ℕ) → Literal (codes "&#x") text m → After (codes "&#") (Number 10 is_decimal) c text rest → ⊥
no_decimal c text m rest l a =
    let e : a.0 ≡ 0x78 ∷ m = literal_same (codes "&#") text a.0 (0x78 ∷ m) a.1 l in
    let Q : List ℕ → Type 0 = λ x. Number 10 is_decimal c x rest in
    let t : is_decimal 0x78 ≡ true = first_digit 10 is_decimal c 0x78 m rest (subst Q e a.2) in cc t

numeric_single : Single Numeric
numeric_single c d text m n (inl p) (inl q) = after_single (codes "&#") (Number 10 is_decimal) (number_single Ten) c d text m n p q
numeric_single c d text m n (inr p) (inr q) = after_single (codes "&#x") (Number 16 is_hexadecimal) (number_single Sixteen) c d text m n p q
numeric_single c d text m n (inl p) (inr q) = absurd (no_decimal c text q.0 m q.1 p)
numeric_single c d text m n (inr p) (inl q) = absurd (no_decimal d text p.0 n p.1 q)

way_single : (c d : ℕ) (text m n : List ℕ) → Way c text m → Way d text n → (c ≡ d) × (m ≡ n)
way_single c d text m n (inl p) (inl q) =
    let e : ◌≡◌ {A = Option (ℕ × List ℕ)} (Some (c, m)) (Some (d, n)) = sym p ∙ q in
    let pair : ◌≡◌ {A = ℕ × List ℕ} (c, m) (d, n) = cc in
    (ap (λ x. x.0) pair, ap (λ x. x.1) pair)
way_single c d text m n (inl p) (inr q) = let e : Some (c, m) ≡ None = sym p ∙ q.0 in absurd (cc e)
way_single c d text m n (inr p) (inl q) = let e : None ≡ Some (d, n) = sym p.0 ∙ q in absurd (cc e)
way_single c d text m n (inr p) (inr q) = numeric_single c d text m n p.1 q.1

pub reference_single : Single Reference
reference_single c d text m n p q = way_single c d text m n (way c text m p) (way d text n q)

-- each reference begins with `&`
pub reference_begins : (c : ℕ) (text rest : List ℕ) → Reference c text rest → (more : List ℕ) × (text ≡ 0x26 ∷ more)
reference_begins _ text rest (Less l) = (_, l)
reference_begins _ text rest (Greater l) = (_, l)
reference_begins _ text rest (Ampersand l) = (_, l)
reference_begins _ text rest (Quote l) = (_, l)
reference_begins _ text rest (Apostrophe l) = (_, l)
reference_begins c text rest (Decimal a) = (_, a.1)
reference_begins c text rest (Hexadecimal a) = (_, a.1)

-- what is left when no name stands
never_numeric : (text : List ℕ) → NoName text → Never (After (codes "&#") (Number 10 is_decimal)) text → Never (After (codes "&#x") (Number 16 is_hexadecimal)) text →
    (c : ℕ) (rest : List ℕ) → Reference c text rest → ⊥
never_numeric text none dec hex _ rest (Less l) = none.0 rest l
never_numeric text none dec hex _ rest (Greater l) = none.1 rest l
never_numeric text none dec hex _ rest (Ampersand l) = none.2 rest l
never_numeric text none dec hex _ rest (Quote l) = none.3 rest l
never_numeric text none dec hex _ rest (Apostrophe l) = none.4 rest l
never_numeric text none dec hex c rest (Decimal a) = dec c rest a
never_numeric text none dec hex c rest (Hexadecimal a) = hex c rest a

pub never_hexadecimal : (text m : List ℕ) → NoName text → Literal (codes "&#x") text m → Never (Number 16 is_hexadecimal) m → Never Reference text
never_hexadecimal text m none l never =
    never_numeric text none (λ c rest a. no_decimal c text m rest l a) (after_never (codes "&#x") (Number 16 is_hexadecimal) text m l never)

pub never_decimal : (text m : List ℕ) → NoName text → NoLiteral (codes "&#x") text → Literal (codes "&#") text m → Never (Number 10 is_decimal) m →
    Never Reference text
never_decimal text m none x l never =
    never_numeric text none (after_never (codes "&#") (Number 10 is_decimal) text m l never) (λ c rest a. x a.0 a.1)

pub never_reference : (text : List ℕ) → NoName text → NoLiteral (codes "&#x") text → NoLiteral (codes "&#") text →
    Never Reference text
never_reference text none x d = never_numeric text none (λ c rest a. d a.0 a.1) (λ c rest a. x a.0 a.1)

-- What a number that was read, or not, tells of a reference.
pub some_hexadecimal : (found : Option ℕ) (old text m new : List ℕ) → old ≡ text → Literal (codes "&#x") text m → IfSome found (λ c. Number 16 is_hexadecimal c m new) →
    IfSome found (λ c. Reference c old new)
some_hexadecimal None old text m new e l n = tt
some_hexadecimal (Some c) old text m new e l n = Hexadecimal (m, e ∙ l, n)

pub some_decimal : (found : Option ℕ) (old text m new : List ℕ) → old ≡ text → Literal (codes "&#") text m → IfSome found (λ c. Number 10 is_decimal c m new) →
    IfSome found (λ c. Reference c old new)
some_decimal None old text m new e l n = tt
some_decimal (Some c) old text m new e l n = Decimal (m, e ∙ l, n)

pub none_hexadecimal : (found : Option ℕ) (old text m : List ℕ) → old ≡ text → NoName old → Literal (codes "&#x") text m → IfNone found (Never (Number 16 is_hexadecimal) m) →
    IfNone found (Never Reference old)
none_hexadecimal None old text m e none l n = never_hexadecimal old m none (e ∙ l) n
none_hexadecimal (Some c) old text m e none l n = tt

pub none_decimal : (found : Option ℕ) (old before text m : List ℕ) → old ≡ before → before ≡ text → NoName old → NoLiteral (codes "&#x") before → Literal (codes "&#") text m →
    IfNone found (Never (Number 10 is_decimal) m) → IfNone found (Never Reference old)
none_decimal None old before text m e f none x l n = never_decimal old m none (λ rest h. x rest (sym e ∙ h)) (e ∙ f ∙ l) n
none_decimal (Some c) old before text m e f none x l n = tt

number_shorter : (base : ℕ) (test : ℕ → Bool) (c : ℕ) (text rest : List ℕ) → Number base test c text rest → length rest + 1 ≤ length text
number_shorter base test c text rest n =
    omega (arith, ap length (run_is test n.digits text (0x3B ∷ rest) n.run), length-append n.digits (0x3B ∷ rest))

-- a reference takes a byte at least
pub reference_shorter : (c : ℕ) (text rest : List ℕ) → Reference c text rest → length rest + 1 ≤ length text
reference_shorter _ text rest (Less l) = omega (arith, ap length l)
reference_shorter _ text rest (Greater l) = omega (arith, ap length l)
reference_shorter _ text rest (Ampersand l) = omega (arith, ap length l)
reference_shorter _ text rest (Quote l) = omega (arith, ap length l)
reference_shorter _ text rest (Apostrophe l) = omega (arith, ap length l)
reference_shorter c text rest (Decimal a) = omega (arith, ap length a.1, number_shorter 10 is_decimal c a.0 rest a.2)
reference_shorter c text rest (Hexadecimal a) = omega (arith, ap length a.1, number_shorter 16 is_hexadecimal c a.0 rest a.2)
