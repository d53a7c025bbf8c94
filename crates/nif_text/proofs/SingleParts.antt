-- Bytes, blanks and names are read in one way only.
use Rattle.std.proofs.Common.{ℕ, ◌≡◌, Bool, true, false, List, [], ◌∷◌, ◌++◌, sym, ◌∙◌, ap, subst}
use Rattle.nif_text.specs.Parts.{Many, Byte, Literal, After}
use Rattle.nif_base.specs.Ascii.{is_blank}
use Rattle.nif_text.specs.Bytes.{is_name_start, is_name_byte, Name, Spaced}
use Rattle.nif_text.specs.Reading.{Never, Longest}
use Rattle.nif_text.proofs.Runs.{Single, longest_same}

pub byte_single : (test : ℕ → Bool) → Single (Byte test)
byte_single test i j text m n p q = let e : i ∷ m ≡ j ∷ n = sym p.0 ∙ q.0 in (cc, cc)

-- a byte that doesn't pass begins no run
pub byte_never : (test : ℕ → Bool) (c : ℕ) (rest : List ℕ) → test c ≡ false → Never (Byte test) (c ∷ rest)
byte_never test c rest f i m p = let e : c ≡ i = cc in let t : test c ≡ true = ap test e ∙ p.1 in cc

pub byte_never-nil : (test : ℕ → Bool) → Never (Byte test) []
byte_never-nil test i m p = cc

pub literal_same : (bytes text m n : List ℕ) → Literal bytes text m → Literal bytes text n → m ≡ n
literal_same bytes text m n p q = same_rest bytes m n (sym p ∙ q)
  where
    same_rest : (bs x y : List ℕ) → bs ++ x ≡ bs ++ y → x ≡ y
    same_rest [] x y e = e
    same_rest (b ∷ bs) x y e = same_rest bs x y (cc)

pub after_single : {I : Type 0} (bytes : List ℕ) (P : I → List ℕ → List ℕ → Type 0) → Single P → Single (After bytes P)
after_single bytes P single i j text m n p q =
    let e : p.0 ≡ q.0 = literal_same bytes text p.0 q.0 p.1 q.1 in
    let Q : List ℕ → Type 0 = λ x. P i x m in
    single i j q.0 m n (subst Q e p.2) q.2

pub after_never : {I : Type 0} (bytes : List ℕ) (P : I → List ℕ → List ℕ → Type 0) (text m : List ℕ) → Literal bytes text m → Never P m → Never (After bytes P) text
after_never bytes P text m l never i rest p =
    let Q : List ℕ → Type 0 = λ x. P i x rest in
    never i rest (subst Q (literal_same bytes text p.0 m p.1 l) p.2)

-- What doesn't begin with a blank stands behind the longest run of blanks.
pub behind_blanks : {I : Type 0} (P : I → List ℕ → List ℕ → Type 0) →
    ((i : I) (text rest : List ℕ) → P i text rest → Never (Byte is_blank) text) →
    (i : I) (blanks text m rest : List ℕ) → Longest (Byte is_blank) blanks text m → Spaced P i text rest → P i m rest
behind_blanks P starts i blanks text m rest l s =
    let same : (s.1.0 ≡ blanks) × (s.0 ≡ m) =
    longest_same (Byte is_blank) (byte_single is_blank) s.1.0 blanks text s.0 m s.1.1 (starts i s.0 rest s.2) l.many l.ends in
    let Q : List ℕ → Type 0 = λ x. P i x rest in
    subst Q same.1 s.2

-- blanks and then P, in one way only
pub spaced_single : {I : Type 0} (P : I → List ℕ → List ℕ → Type 0) →
    ((i : I) (text rest : List ℕ) → P i text rest → Never (Byte is_blank) text) → Single P → Single (Spaced P)
spaced_single P starts single i j text m n p q =
    let longest : Longest (Byte is_blank) p.1.0 text p.0 = record { many = p.1.1; ends = starts i p.0 m p.2 } in
    single i j p.0 m n p.2 (behind_blanks P starts j p.1.0 text p.0 n longest q)

pub spaced_never : {I : Type 0} (P : I → List ℕ → List ℕ → Type 0) →
    ((i : I) (text rest : List ℕ) → P i text rest → Never (Byte is_blank) text) →
    (blanks text m : List ℕ) → Longest (Byte is_blank) blanks text m → Never P m → Never (Spaced P) text
spaced_never P starts blanks text m l never i rest s = never i rest (behind_blanks P starts i blanks text m rest l s)

-- a name that ends where no byte of a name stands
pub name_same : (x y text m n : List ℕ) → Name x text m → Never (Byte is_name_byte) m → Name y text n → Never (Byte is_name_byte) n → (x ≡ y) × (m ≡ n)
name_same [] y text m n p e q f = elim p [ ]
name_same (c ∷ x) [] text m n p e q f = elim q [ ]
name_same (c ∷ x) (d ∷ y) text m n p e q f =
    let first : (c ≡ d) × (p.0 ≡ q.0) = byte_single is_name_start c d text p.0 q.0 p.1 q.1 in
    let Q : List ℕ → Type 0 = λ a. Many (Byte is_name_byte) x a m in
    let more : (x ≡ y) × (m ≡ n) = longest_same (Byte is_name_byte) (byte_single is_name_byte) x y q.0 m n (subst Q first.1 p.2) e q.2 f in
    ((λ k. first.0 k ∷ more.0 k), more.1)
