-- Each spelling takes bytes, and each element one at least.
use Rattle.std.proofs.Common.{ℕ, zero, suc, ◌+◌, ◌≤◌, inl, inr, Bool, true, false, Option, Some, None, List, [], ◌∷◌, ◌++◌, length, ap, arith, codes, length-append}
use Rattle.nif_text.specs.Tree.{Tree, trees, elements, elements_in}
use Rattle.nif_text.specs.Parts.{Many, Byte, Literal, Optional}
use Rattle.nif_base.specs.Ascii.{is_blank}
use Rattle.nif_text.specs.Bytes.{is_name_byte, Name, Blanks}
use Rattle.nif_text.specs.Attributes.{ValuePart, Quoted, Value, Assigned, Attribute}
use Rattle.nif_text.specs.Comments.{Enclosed, Comment, Declaration, DocumentType, is_type_byte}
use Rattle.nif_text.specs.Elements.{bracket, Start, Finish, PassedOver, Piece, children_among, Spelled, Empty, Full, Nested}
use Rattle.nif_text.specs.Documents.{Mark, Aside, Asides, TypeAndAsides, Before, Written}
use Rattle.nif_text.proofs.References.{reference_shorter}

many_shorter : {I : Type 0} (P : I → List ℕ → List ℕ → Type 0) → ((i : I) (text rest : List ℕ) → P i text rest → length rest ≤ length text) →
    (items : List I) (text rest : List ℕ) → Many P items text rest → length rest ≤ length text
many_shorter P each [] text rest r = omega (arith, ap length r)
many_shorter P each (i ∷ items) text rest r = omega (arith, each i text r.0 r.1, many_shorter P each items r.0 rest r.2)

byte_shorter : (test : ℕ → Bool) (c : ℕ) (text rest : List ℕ) → Byte test c text rest → length rest ≤ length text
byte_shorter test c text rest b = omega (arith, ap length b.0)

blanks_shorter : (text rest : List ℕ) → Blanks text rest → length rest ≤ length text
blanks_shorter text rest b = many_shorter (Byte is_blank) (byte_shorter is_blank) b.0 text rest b.1

name_shorter : (name text rest : List ℕ) → Name name text rest → length rest ≤ length text
name_shorter [] text rest p = elim p [ ]
name_shorter (c ∷ name) text rest p = omega (arith, ap length p.1.0, many_shorter (Byte is_name_byte) (byte_shorter is_name_byte) name p.0 rest p.2)

part_shorter : (quote : ℕ) (bytes text rest : List ℕ) → ValuePart quote bytes text rest → length rest ≤ length text
part_shorter quote bytes text rest (inl p) = omega (arith, ap length p.1.0)
part_shorter quote bytes text rest (inr p) = omega (arith, reference_shorter p.0 text rest p.1)

quoted_shorter : (quote : ℕ) (value text rest : List ℕ) → Quoted quote value text rest → length rest ≤ length text
quoted_shorter quote value text rest p = omega (arith, many_shorter (ValuePart quote) (part_shorter quote) p.0 text (quote ∷ rest) p.2)

value_shorter : (value text rest : List ℕ) → Value value text rest → length rest ≤ length text
value_shorter value text rest (inl p) = omega (arith, ap length p.1, quoted_shorter 0x22 value p.0 rest p.2)
value_shorter value text rest (inr p) = omega (arith, ap length p.1, quoted_shorter 0x27 value p.0 rest p.2)

assigned_shorter : (value text rest : List ℕ) → Assigned value text rest → length rest ≤ length text
assigned_shorter value text rest a =
    omega (arith, blanks_shorter text a.0 a.1, ap length a.2.1, blanks_shorter a.2.0 a.2.2.0 a.2.2.1, value_shorter value a.2.2.0 rest a.2.2.2)

attribute_shorter : (pair : List ℕ × List ℕ) (text rest : List ℕ) → Attribute pair text rest → length rest ≤ length text
attribute_shorter pair text rest a =
    omega (
      arith,
      ap length a.blanks.2.0,
      blanks_shorter a.blanks.1 a.name_at a.blanks.3,
      name_shorter pair.0 a.name_at a.value_at a.name,
      assigned_shorter pair.1 a.value_at rest a.value,
    )

bracket_shorter : (name : List ℕ) (attrs : List (List ℕ × List ℕ)) (empty : Bool) (text rest : List ℕ) → (s : Start name attrs empty text rest) → length rest ≤ length s.bracket_at
bracket_shorter name attrs empty text rest s = closed empty s.closes
  where
    closed : (e : Bool) → Literal (bracket e) s.bracket_at rest → length rest ≤ length s.bracket_at
    closed true l = omega (arith, ap length l)
    closed false l = omega (arith, ap length l)

start_shorter : (name : List ℕ) (attrs : List (List ℕ × List ℕ)) (empty : Bool) (text rest : List ℕ) → Start name attrs empty text rest → length rest + 1 ≤ length text
start_shorter name attrs empty text rest s =
    omega (
      arith,
      ap length s.opens,
      name_shorter name s.name_at s.attrs_at s.named,
      many_shorter Attribute attribute_shorter attrs s.attrs_at s.blanks_at s.attributes,
      blanks_shorter s.blanks_at s.bracket_at s.blanks,
      bracket_shorter name attrs empty text rest s,
    )

finish_shorter : (name text rest : List ℕ) → Finish name text rest → length rest ≤ length text
finish_shorter name text rest f =
    omega (arith, ap length f.named, length-append name f.blanks_at, blanks_shorter f.blanks_at f.bracket_at f.blanks, ap length f.closes)

enclosed_shorter : (first second : ℕ) (end text rest : List ℕ) → Enclosed first second end text rest → length rest ≤ length text
enclosed_shorter first second end text rest p = omega (arith, ap length p.spelled, length-append p.inside (end ++ rest), length-append end rest)

comment_shorter : (text rest : List ℕ) → Comment text rest → length rest ≤ length text
comment_shorter text rest p = omega (arith, ap length p.1, enclosed_shorter 0x2D 0x2D (codes "-->") p.0 rest p.2)

passed_shorter : (text rest : List ℕ) → PassedOver text rest → length rest ≤ length text
passed_shorter text rest (inl p) = omega (arith, ap length p.1.0)
passed_shorter text rest (inr (inl p)) = omega (arith, reference_shorter p.0 text rest p.1)
passed_shorter text rest (inr (inr p)) = comment_shorter text rest p

Counting : (Tree → List ℕ → List ℕ → Type 0) → Type 0
Counting Child = (tree : Tree) (text rest : List ℕ) → Child tree text rest → elements tree + length rest ≤ length text

content_counted : (Child : Tree → List ℕ → List ℕ → Type 0) → Counting Child → (pieces : List (Option Tree)) (text rest : List ℕ) → Many (Piece Child) pieces text rest →
    elements_in (trees (children_among pieces)) + length rest ≤ length text
unfolding Counting
content_counted Child each [] text rest r = omega (arith, ap length r)
content_counted Child each (Some child ∷ pieces) text rest r = omega (arith, each child text r.0 r.1, content_counted Child each pieces r.0 rest r.2)
content_counted Child each (None ∷ pieces) text rest r = omega (arith, passed_shorter text r.0 r.1, content_counted Child each pieces r.0 rest r.2)

spelled_counted : (Child : Tree → List ℕ → List ℕ → Type 0) → Counting Child → Counting (Spelled Child)
unfolding Counting
spelled_counted Child each _ text rest (Empty {name = a} {attrs = b} s) = omega (arith, start_shorter a b true text rest s)
spelled_counted Child each _ text rest (Full {name = a} {attrs = b} {children = k} at finish pieces s run f e) =
    omega (arith, start_shorter a b false text at s, content_counted Child each pieces at finish run, finish_shorter a finish rest f, ap elements_in e)

nested_counted : (levels : ℕ) → Counting (Nested levels)
unfolding Counting Nested
nested_counted zero tree text rest p = elim p [ ]
nested_counted (suc levels) tree text rest p = spelled_counted (Nested levels) (nested_counted levels) tree text rest p

aside_shorter : (text rest : List ℕ) → Aside text rest → length rest ≤ length text
aside_shorter text rest (inl p) = omega (arith, ap length p.1.0)
aside_shorter text rest (inr p) = comment_shorter text rest p

asides_shorter : (text rest : List ℕ) → Asides text rest → length rest ≤ length text
asides_shorter text rest a = many_shorter (λ (_ : Unit {0}). Aside) (λ _. aside_shorter) a.0 text rest a.1

type_shorter : (text rest : List ℕ) → DocumentType text rest → length rest ≤ length text
type_shorter text rest t = omega (arith, ap length t.1, many_shorter (Byte is_type_byte) (byte_shorter is_type_byte) t.2 t.0 (0x3E ∷ rest) t.3)

optional_shorter : (P : List ℕ → List ℕ → Type 0) → ((text rest : List ℕ) → P text rest → length rest ≤ length text) → (text rest : List ℕ) → Optional P text rest →
    length rest ≤ length text
optional_shorter P each text rest (inl e) = omega (arith, ap length e)
optional_shorter P each text rest (inr p) = each text rest p

before_shorter : (text rest : List ℕ) → Before text rest → length rest ≤ length text
before_shorter text rest b =
    omega (
      arith,
      optional_shorter Mark (λ t r m. omega (arith, ap length m)) text b.declaration_at b.mark,
      optional_shorter Declaration (λ t r d. omega (arith, ap length d.1, enclosed_shorter 0x3F 0x3E (codes "?>") d.0 r d.2)) b.declaration_at b.asides_at b.declaration,
      asides_shorter b.asides_at b.type_at b.asides,
      optional_shorter TypeAndAsides (λ t r d. omega (arith, type_shorter t d.0 d.1, asides_shorter d.0 r d.2)) b.type_at rest b.type,
    )

pub written_counted : (tree : Tree) (text : List ℕ) → Written tree text → elements tree ≤ length text
unfolding Counting
written_counted tree text w = omega (arith, before_shorter text w.root_at w.before, nested_counted 64 tree w.root_at w.asides_at w.root)
