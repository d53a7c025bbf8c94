-- Attributes are read in one way only.
use Rattle.std.proofs.Common.{ℕ, ◌+◌, ◌≡◌, ◌≤◌, true, false, Err, List, [], ◌∷◌, length, refl, sym, ◌∙◌, ap, subst, arith, length-append}
use Rattle.std.proofs.lemmas.Bool.Decides.{nat_tests}
use Rattle.nif_text.specs.Parts.{Many, Byte}
use Rattle.nif_base.specs.Ascii.{is_blank}
use Rattle.nif_text.specs.Bytes.{is_name_start, is_name_byte, Name, SomeBlanks}
use Rattle.nif_text.specs.Attributes.{Assigned, Attribute}
use Rattle.nif_text.specs.Reading.{Never, NoBracket, Longest, Read, AttributeRead}
use Rattle.nif_text.specs.declared.stop.Stop.{Stop}
use Rattle.nif_text.specs.declared.stop.Stop.TheVariants as stops
use Rattle.nif_text.proofs.Runs.{Single, longest_same}
use Rattle.nif_text.proofs.Fronts.{run_is}
use Rattle.nif_text.proofs.SingleParts.{byte_single, byte_never, name_same}
use Rattle.nif_text.proofs.Values.{assigned_single}

start_no_blank : (c : ℕ) → is_name_start c ≡ true → is_blank c ≡ false
start_no_blank c t = grind (arith, nat_tests)

blank_no_name : (c : ℕ) → is_blank c ≡ true → is_name_byte c ≡ false
blank_no_name c t = grind (arith, nat_tests)

pub name_no_blank : (n text rest : List ℕ) → Name n text rest → Never (Byte is_blank) text
name_no_blank [] text rest p = elim p [ ]
name_no_blank (c ∷ n) text rest p =
    let Q : List ℕ → Type 0 = λ x. Never (Byte is_blank) x in subst Q (sym p.1.0) (byte_never is_blank c p.0 (start_no_blank c p.1.1))

-- no blank is a byte of a name
pub blank_ends_name : (c : ℕ) (text next : List ℕ) → Byte is_blank c text next → Never (Byte is_name_byte) text
blank_ends_name c text next b = let Q : List ℕ → Type 0 = λ x. Never (Byte is_name_byte) x in subst Q (sym b.0) (byte_never is_name_byte c next (blank_no_name c b.1))

pub assigned_ends_name : (v text rest : List ℕ) → Assigned v text rest → Never (Byte is_name_byte) text
assigned_ends_name v text rest a = ends a.1.0 a.1.1 a.2.1
  where
    ends : (blanks : List ℕ) → Many (Byte is_blank) blanks text a.0 → a.0 ≡ 0x3D ∷ a.2.0 → Never (Byte is_name_byte) text
    ends [] r e = let Q : List ℕ → Type 0 = λ x. Never (Byte is_name_byte) x in subst Q (sym (r ∙ e)) (byte_never is_name_byte 0x3D a.2.0 refl)
    ends (c ∷ blanks) r e = blank_ends_name c text r.0 r.1

pub NameAndValue : List ℕ × List ℕ → List ℕ → List ℕ → Type 0
NameAndValue pair text rest = (next : List ℕ) × Name pair.0 text next × Assigned pair.1 next rest

-- an attribute's blanks as a run
blanks_of : (pair : List ℕ × List ℕ) (text rest : List ℕ) → (a : Attribute pair text rest) → Many (Byte is_blank) (a.blanks.0 ∷ a.blanks.3.0) text a.name_at
blanks_of pair text rest a = (a.blanks.1, a.blanks.2, a.blanks.3.1)

pub attribute_at : (blanks text m : List ℕ) → Longest (Byte is_blank) blanks text m → (pair : List ℕ × List ℕ) (rest : List ℕ) → (a : Attribute pair text rest) → a.name_at ≡ m
attribute_at blanks text m l pair rest a =
    (longest_same (Byte is_blank) (byte_single is_blank) (a.blanks.0 ∷ a.blanks.3.0) blanks text a.name_at m
    (blanks_of pair text rest a) (name_no_blank pair.0 a.name_at a.value_at a.name) l.many l.ends).1

pub attribute_behind : (blanks text m : List ℕ) → Longest (Byte is_blank) blanks text m → (pair : List ℕ × List ℕ) (rest : List ℕ) → Attribute pair text rest → NameAndValue pair m rest
unfolding NameAndValue
attribute_behind blanks text m l pair rest a =
    let Q : List ℕ → Type 0 = λ x. Name pair.0 x a.value_at in
    (a.value_at, subst Q (attribute_at blanks text m l pair rest a) a.name, a.value)

pub value_behind : (n m at : List ℕ) → Name n m at → Never (Byte is_name_byte) at → (pair : List ℕ × List ℕ) (rest : List ℕ) → NameAndValue pair m rest →
    (n ≡ pair.0) × Assigned pair.1 at rest
unfolding NameAndValue
value_behind n m at name ends pair rest p =
    let same : (n ≡ pair.0) × (at ≡ p.0) = name_same n pair.0 m at p.0 name ends p.1 (assigned_ends_name pair.1 p.0 rest p.2) in
    let Q : List ℕ → Type 0 = λ x. Assigned pair.1 x rest in
    (same.0, subst Q (sym same.1) p.2)

pub attribute_single : Single Attribute
attribute_single x y text m n p q =
    let blanks : Longest (Byte is_blank) (p.blanks.0 ∷ p.blanks.3.0) text p.name_at = record {
      many = blanks_of x text m p;
      ends = name_no_blank x.0 p.name_at p.value_at p.name;
    } in
    let behind : (x.0 ≡ y.0) × Assigned y.1 p.value_at n = value_behind x.0 p.name_at p.value_at p.name (assigned_ends_name x.1 p.value_at m p.value) y n
    (attribute_behind (p.blanks.0 ∷ p.blanks.3.0) text p.name_at blanks y n q) in
    let values : (x.1 ≡ y.1) × (m ≡ n) = assigned_single x.1 y.1 p.value_at m n p.value behind.1 in
    ((λ k. (behind.0 k, values.0 k)), values.1)

pub attribute_shorter_blanks : (blanks text m : List ℕ) → Longest (Byte is_blank) blanks text m → (pair : List ℕ × List ℕ) (rest : List ℕ) → Attribute pair text rest →
    length m + 1 ≤ length text
attribute_shorter_blanks blanks text m l pair rest a =
    omega (
      arith,
      ap length (attribute_at blanks text m l pair rest a),
      ap length (run_is is_blank (a.blanks.0 ∷ a.blanks.3.0) text a.name_at (blanks_of pair text rest a)),
      length-append a.blanks.3.0 a.name_at,
    )

-- no attribute: no blank, no name, or no value
pub attribute_never-blank : (blanks text m : List ℕ) → Longest (Byte is_blank) blanks text m → length m ≡ length text → Never Attribute text
attribute_never-blank blanks text m l e pair rest a = omega (arith, e, attribute_shorter_blanks blanks text m l pair rest a)

pub attribute_never-name : (blanks text m : List ℕ) → Longest (Byte is_blank) blanks text m → Never Name m → Never Attribute text
unfolding NameAndValue
attribute_never-name blanks text m l never pair rest a = let p : NameAndValue pair m rest = attribute_behind blanks text m l pair rest a in never pair.0 p.0 p.1

pub attribute_never-value : (blanks text m n at : List ℕ) → Longest (Byte is_blank) blanks text m → Name n m at → Never (Byte is_name_byte) at → Never Assigned at → Never Attribute text
attribute_never-value blanks text m n at l name ends never pair rest a =
    never pair.1 rest (value_behind n m at name ends pair rest (attribute_behind blanks text m l pair rest a)).1

-- one blank or more, where the text grew shorter
pub some_blanks : (blanks text m : List ℕ) → Many (Byte is_blank) blanks text m → (length m ≡ length text → ⊥) → SomeBlanks text m
some_blanks [] text m r n = absurd (n (ap length (sym r)))
some_blanks (c ∷ blanks) text m r n = (c, r.0, r.1, (blanks, r.2))

-- no name begins with a bracket
pub bracket_no_name : (n text rest : List ℕ) → Name n text rest → NoBracket text
bracket_no_name [] text rest p empty r l = elim p [ ]
bracket_no_name (c ∷ n) text rest p true r l = byte_never is_name_start 0x2F (0x3E ∷ r) refl c p.0 (sym l ∙ p.1.0, p.1.1)
bracket_no_name (c ∷ n) text rest p false r l = byte_never is_name_start 0x3E r refl c p.0 (sym l ∙ p.1.0, p.1.1)

-- where a name was read and no value stands behind it
pub attribute_stops : (e : Stop) (blanks text m n at some new : List ℕ) → Longest (Byte is_blank) blanks text m → Name n m at → Never (Byte is_name_byte) at →
    Read Assigned at some (Err e) → AttributeRead text new (Err e)
attribute_stops stops.NotWritten blanks text m n at some new l name ends never =
    (attribute_never-value blanks text m n at l name ends never, blanks, m, l, bracket_no_name n m at name)
attribute_stops stops.NoMemory blanks text m n at some new l name ends never = tt
