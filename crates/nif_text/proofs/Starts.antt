-- Starts and ends are read in one way only.
use Rattle.std.proofs.Common.{ℕ, ◌≡◌, Bool, true, false, Err, List, [], ◌∷◌, ◌++◌, map, refl, sym, ◌∙◌, subst, codes}
use Rattle.nif_text.specs.Parts.{Many, Byte, Literal}
use Rattle.nif_base.specs.Ascii.{is_blank}
use Rattle.nif_text.specs.Bytes.{is_name_byte, Name}
use Rattle.nif_text.specs.Attributes.{Attribute}
use Rattle.nif_text.specs.Elements.{bracket, AllDiffer, Start, StartOf, Finish}
use Rattle.nif_text.specs.Reading.{Never, NoLiteral, NoBracket, Longest, AttributesRead, Read}
use Rattle.nif_text.specs.declared.stop.Stop.{Stop}
use Rattle.nif_text.specs.declared.stop.Stop.TheVariants as stops
use Rattle.nif_text.proofs.Runs.{Single, longest_same}
use Rattle.nif_text.proofs.Fronts.{heads_differ}
use Rattle.nif_text.proofs.SingleParts.{byte_single, byte_never, name_same, literal_same}
use Rattle.nif_text.proofs.Attributes.{attribute_single, bracket_no_name, blank_ends_name, attribute_at}

-- a bracket is no blank and no byte of a name
bracket_no_byte : (test : ℕ → Bool) → test 0x2F ≡ false → test 0x3E ≡ false → (empty : Bool) (text rest : List ℕ) → Literal (bracket empty) text rest → Never (Byte test) text
bracket_no_byte test s g true text rest l = let Q : List ℕ → Type 0 = λ x. Never (Byte test) x in subst Q (sym l) (byte_never test 0x2F (0x3E ∷ rest) s)
bracket_no_byte test s g false text rest l = let Q : List ℕ → Type 0 = λ x. Never (Byte test) x in subst Q (sym l) (byte_never test 0x3E rest g)

-- where blanks and a bracket stand, there is no attribute
no_attribute : (blanks text m : List ℕ) → Many (Byte is_blank) blanks text m → (empty : Bool) (rest : List ℕ) → Literal (bracket empty) m rest → Never Attribute text
no_attribute blanks text m run empty rest l pair r a =
    let longest : Longest (Byte is_blank) blanks text m = record { many = run; ends = bracket_no_byte is_blank refl refl empty m rest l } in
    let Q : List ℕ → Type 0 = λ x. Literal (bracket empty) x rest in
    bracket_no_name pair.0 a.name_at a.value_at a.name empty rest (subst Q (sym (attribute_at blanks text m longest pair r a)) l)

-- attributes, blanks and a bracket begin with no byte of a name
ends_name : (attrs : List (List ℕ × List ℕ)) (text m : List ℕ) → Many Attribute attrs text m → (blanks n : List ℕ) → Many (Byte is_blank) blanks m n →
    (empty : Bool) (rest : List ℕ) → Literal (bracket empty) n rest → Never (Byte is_name_byte) text
ends_name (pair ∷ attrs) text m run blanks n b empty rest l = blank_ends_name run.1.blanks.0 text run.1.blanks.1 run.1.blanks.2
ends_name [] text m run (c ∷ blanks) n b empty rest l =
    let Q : List ℕ → Type 0 = λ x. Never (Byte is_name_byte) x in subst Q (sym run) (blank_ends_name c m b.0 b.1)
ends_name [] text m run [] n b empty rest l =
    let Q : List ℕ → Type 0 = λ x. Never (Byte is_name_byte) x in subst Q (sym (run ∙ b)) (bracket_no_byte is_name_byte refl refl empty n rest l)

-- What has been read of a start before its bracket.
pub record Head (name : List ℕ) (attrs : List (List ℕ × List ℕ)) (text rest : List ℕ) : Type 0 where
  pub name_at : List ℕ
  pub attrs_at : List ℕ
  pub blanks_at : List ℕ
  pub opens : Literal (codes "<") text name_at
  pub named : Name name name_at attrs_at
  pub whole : Never (Byte is_name_byte) attrs_at
  pub attributes : Longest Attribute attrs attrs_at blanks_at
  pub blanks : (blanks : List ℕ) × Longest (Byte is_blank) blanks blanks_at rest

-- each start goes through it
pub start_behind : (name : List ℕ) (attrs : List (List ℕ × List ℕ)) (text rest : List ℕ) → Head name attrs text rest →
    (n : List ℕ) (others : List (List ℕ × List ℕ)) (empty : Bool) (r : List ℕ) → Start n others empty text r →
    (name ≡ n) × (attrs ≡ others) × Literal (bracket empty) rest r
start_behind name attrs text rest h n others empty r s =
    let at : h.name_at ≡ s.name_at = literal_same (codes "<") text h.name_at s.name_at h.opens s.opens in
    let N : List ℕ → Type 0 = λ x. Name name x h.attrs_at in
    let names : (name ≡ n) × (h.attrs_at ≡ s.attrs_at) =
    name_same name n s.name_at h.attrs_at s.attrs_at (subst N at h.named) h.whole s.named
    (ends_name others s.attrs_at s.blanks_at s.attributes s.blanks.0 s.bracket_at s.blanks.1 empty r s.closes) in
    let A : List ℕ → Type 0 = λ x. Many Attribute attrs x h.blanks_at in
    let all : (attrs ≡ others) × (h.blanks_at ≡ s.blanks_at) =
    longest_same Attribute attribute_single attrs others s.attrs_at h.blanks_at s.blanks_at (subst A names.1 h.attributes.many) h.attributes.ends s.attributes
    (no_attribute s.blanks.0 s.blanks_at s.bracket_at s.blanks.1 empty r s.closes) in
    let B : List ℕ → Type 0 = λ x. Many (Byte is_blank) h.blanks.0 x rest in
    let last : (h.blanks.0 ≡ s.blanks.0) × (rest ≡ s.bracket_at) =
    longest_same (Byte is_blank) (byte_single is_blank) h.blanks.0 s.blanks.0 s.blanks_at rest s.bracket_at (subst B all.1 h.blanks.1.many) h.blanks.1.ends s.blanks.1
    (bracket_no_byte is_blank refl refl empty s.bracket_at r s.closes) in
    let L : List ℕ → Type 0 = λ x. Literal (bracket empty) x r in
    (names.0, all.0, subst L (sym last.1) s.closes)

-- the head of a start
head_of : (n : List ℕ) (others : List (List ℕ × List ℕ)) (empty : Bool) (text r : List ℕ) → (s : Start n others empty text r) → Head n others text s.bracket_at
head_of n others empty text r s = record {
  name_at = s.name_at;
  attrs_at = s.attrs_at;
  blanks_at = s.blanks_at;
  opens = s.opens;
  named = s.named;
  whole = ends_name others s.attrs_at s.blanks_at s.attributes s.blanks.0 s.bracket_at s.blanks.1 empty r s.closes;
  attributes = record { many = s.attributes; ends = no_attribute s.blanks.0 s.blanks_at s.bracket_at s.blanks.1 empty r s.closes };
  blanks = (s.blanks.0, record { many = s.blanks.1; ends = bracket_no_byte is_blank refl refl empty s.bracket_at r s.closes });
}

bracket_same : (e f : Bool) (text m n : List ℕ) → Literal (bracket e) text m → Literal (bracket f) text n → (e ≡ f) × (m ≡ n)
bracket_same true true text m n p q = (refl, literal_same (codes "/>") text m n p q)
bracket_same false false text m n p q = (refl, literal_same (codes ">") text m n p q)
bracket_same true false text m n p q = absurd (heads_differ 0x2F 0x3E (0x3E ∷ m) n refl (sym p ∙ q))
bracket_same false true text m n p q = absurd (heads_differ 0x3E 0x2F m (0x3E ∷ n) refl (sym p ∙ q))

pub start_single : Single StartOf
start_single x y text m n p q =
    let behind : (x.0 ≡ y.0) × (x.1 ≡ y.1) × Literal (bracket y.2) p.bracket_at n =
    start_behind x.0 x.1 text p.bracket_at (head_of x.0 x.1 x.2 text m p) y.0 y.1 y.2 n q in
    let ends : (x.2 ≡ y.2) × (m ≡ n) = bracket_same x.2 y.2 p.bracket_at m n p.closes behind.2 in
    ((λ k. (behind.0 k, behind.1 k, ends.0 k)), ends.1)

-- no start: no `<`, no name, a faulty attribute, no bracket, or two attributes of one name
pub start_never-open : (text : List ℕ) → NoLiteral (codes "<") text → Never StartOf text
start_never-open text none x r s = none s.name_at s.opens

pub start_never-name : (text m : List ℕ) → Literal (codes "<") text m → Never Name m → Never StartOf text
start_never-name text m l never x r s =
    let Q : List ℕ → Type 0 = λ a. Name x.0 a s.attrs_at in
    never x.0 s.attrs_at (subst Q (literal_same (codes "<") text s.name_at m s.opens l) s.named)

pub start_never-bracket : (name : List ℕ) (attrs : List (List ℕ × List ℕ)) (text rest : List ℕ) → Head name attrs text rest → NoBracket rest → Never StartOf text
start_never-bracket name attrs text rest h none x r s = none x.2 r (start_behind name attrs text rest h x.0 x.1 x.2 r s).2

pub start_never-same : (name : List ℕ) (attrs : List (List ℕ × List ℕ)) (text rest : List ℕ) → Head name attrs text rest → (AllDiffer (map (λ pair. pair.0) attrs) → ⊥) →
    Never StartOf text
start_never-same name attrs text rest h same x r s =
    let Q : List (List ℕ × List ℕ) → Type 0 = λ l. AllDiffer (map (λ pair. pair.0) l) in
    same (subst Q (sym (start_behind name attrs text rest h x.0 x.1 x.2 r s).1) s.differ)

pub start_stops : (e : Stop) (name text at m some new : List ℕ) → Literal (codes "<") text at → Name name at m → Never (Byte is_name_byte) m → AttributesRead m some (Err e) →
    Read StartOf text new (Err e)
start_stops stops.NotWritten name text at m some new l n whole read =
    start_never-bracket name read.0 text read.4 (record {
      name_at = at;
      attrs_at = m;
      blanks_at = read.1;
      opens = l;
      named = n;
      whole = whole;
      attributes = read.2;
      blanks = (read.3, read.5);
    }) read.6
start_stops stops.NoMemory name text at m some new l n whole read = tt

-- the end of an element
pub finish_same : (name text m n : List ℕ) → Finish name text m → Finish name text n → m ≡ n
finish_same name text m n p q =
    let at : p.blanks_at ≡ q.blanks_at = literal_same (codes "</" ++ name) text p.blanks_at q.blanks_at p.named q.named in
    let B : List ℕ → Type 0 = λ x. Many (Byte is_blank) p.blanks.0 x p.bracket_at in
    let last : (p.blanks.0 ≡ q.blanks.0) × (p.bracket_at ≡ q.bracket_at) =
    longest_same (Byte is_blank) (byte_single is_blank) p.blanks.0 q.blanks.0 q.blanks_at p.bracket_at q.bracket_at (subst B at p.blanks.1)
    (bracket_no_byte is_blank refl refl false p.bracket_at m p.closes) q.blanks.1 (bracket_no_byte is_blank refl refl false q.bracket_at n q.closes) in
    let L : List ℕ → Type 0 = λ x. Literal (codes ">") x m in
    literal_same (codes ">") q.bracket_at m n (subst L last.1 p.closes) q.closes

finish_at : (name text next m rest : List ℕ) → Literal (codes "</") text next → Literal name next m → (f : Finish name text rest) → m ≡ f.blanks_at
finish_at name text next m rest l n f =
    let at : next ≡ name ++ f.blanks_at = literal_same (codes "</") text next (name ++ f.blanks_at) l f.named in
    literal_same name next m f.blanks_at n at

pub finish_never-slash : (name text : List ℕ) → NoLiteral (codes "</") text → Never (λ (_ : Unit {0}). Finish name) text
finish_never-slash name text none _ rest f = none (name ++ f.blanks_at) f.named

pub finish_never-name : (name text next : List ℕ) → Literal (codes "</") text next → NoLiteral name next → Never (λ (_ : Unit {0}). Finish name) text
finish_never-name name text next l none _ rest f = none f.blanks_at (literal_same (codes "</") text next (name ++ f.blanks_at) l f.named)

pub finish_never-bracket : (name text next m blanks last : List ℕ) → Literal (codes "</") text next → Literal name next m → Longest (Byte is_blank) blanks m last →
    NoLiteral (codes ">") last → Never (λ (_ : Unit {0}). Finish name) text
finish_never-bracket name text next m blanks last l n longest none _ rest f =
    let B : List ℕ → Type 0 = λ x. Many (Byte is_blank) blanks x last in
    let same : (blanks ≡ f.blanks.0) × (last ≡ f.bracket_at) =
    longest_same (Byte is_blank) (byte_single is_blank) blanks f.blanks.0 f.blanks_at last f.bracket_at (subst B (finish_at name text next m rest l n f) longest.many) longest.ends
    f.blanks.1 (bracket_no_byte is_blank refl refl false f.bracket_at rest f.closes) in
    none rest (same.1 ∙ f.closes)
