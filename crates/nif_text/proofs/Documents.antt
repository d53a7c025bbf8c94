-- Texts as a whole are read in one way only, and how far they are begun.
use Rattle.std.proofs.Common.{ℕ, ◌≡◌, ◌≤◌, Bool, true, false, IsTrue, ◌⊎◌, inl, inr, Option, Some, None, Ok, Err, List, [], ◌∷◌, ◌++◌, length, refl, sym, ◌∙◌, ap, subst, arith, codes, length-append}
use Rattle.nif_text.specs.Tree.{Tree, Node, trees, listed, children_of}
use Rattle.nif_text.specs.Parts.{Many, Byte, Literal, Optional}
use Rattle.nif_base.specs.Ascii.{is_blank}
use Rattle.nif_text.specs.Comments.{Comment, Declaration, DocumentType}
use Rattle.nif_text.specs.Elements.{Start, StartOf, Finish, Piece, children_among, Nested}
use Rattle.nif_text.specs.Documents.{Mark, Aside, TypeAndAsides, Before, Written, IsAfter, Unwritten, IfNotWritten}
use Rattle.nif_text.specs.Reading.{Begins, Never, Read, ContentRead, fault_of, NoLiteral, NeverTo, NoDeclaration, Longest, IsAfterRoot, RootRead}
use Rattle.nif_text.specs.declared.stop.Stop.{Stop}
use Rattle.nif_text.specs.declared.stop.Stop.TheVariants as stops
use Rattle.nif_text.specs.declared.tree.TextFault.{TextFault}
use Rattle.nif_text.specs.declared.tree.TextFault.TheVariants as faults
use Rattle.nif_text.proofs.Runs.{Single, longest_same, longest_begins}
use Rattle.nif_text.proofs.Fronts.{heads_differ, head_same, tail_same}
use Rattle.nif_text.proofs.SingleParts.{byte_single, byte_never, literal_same}
use Rattle.nif_text.proofs.Starts.{start_single}
use Rattle.nif_text.proofs.Comments.{comment_same, declaration_same, type_same}
use Rattle.nif_text.proofs.Nesting.{start_begins, begins_not_second, piece_single, nested_single, nested_opening, element_stops-start, element_empty, element_stops-content, element_stops-finish, element_full}

-- asides are read in one way only
aside_single : Single (λ (_ : Unit {0}). Aside)
aside_single i j text m n (inl p) (inl q) = (refl, (byte_single is_blank p.0 q.0 text m n p.1 q.1).1)
aside_single i j text m n (inl p) (inr q) = absurd (byte_never is_blank 0x3C (0x21 ∷ 0x2D ∷ 0x2D ∷ q.0) refl p.0 m (sym q.1 ∙ p.1.0, p.1.1))
aside_single i j text m n (inr p) (inl q) = absurd (byte_never is_blank 0x3C (0x21 ∷ 0x2D ∷ 0x2D ∷ p.0) refl q.0 n (sym p.1 ∙ q.1.0, q.1.1))
aside_single i j text m n (inr p) (inr q) = (refl, comment_same text m n p q)

-- where `<` and something else than `!-` stand, there is no aside
no_aside : (text more : List ℕ) → text ≡ 0x3C ∷ more → NoLiteral (0x21 ∷ 0x2D ∷ []) more → NeverTo Aside text
no_aside text more e none rest (inl p) = byte_never is_blank 0x3C more refl p.0 rest (sym e ∙ p.1.0, p.1.1)
no_aside text more e none rest (inr p) = none (0x2D ∷ p.0) (tail_same 0x3C 0x3C more (0x21 ∷ 0x2D ∷ 0x2D ∷ p.0) (sym e ∙ p.1))

begins_no_aside : (text : List ℕ) → Begins text → NeverTo Aside text
begins_no_aside text b =
    no_aside text (b.0 ∷ b.1) b.2 (λ rest l. begins_not_second 0x21 text (0x2D ∷ rest) refl b (b.2 ∙ ap (λ x. 0x3C ∷ x) l))

type_no_aside : (text rest : List ℕ) → DocumentType text rest → NeverTo Aside text
type_no_aside text rest t =
    no_aside text (codes "!DOCTYPE" ++ t.0) t.1
    (λ r l. heads_differ 0x44 0x2D (codes "OCTYPE" ++ t.0) r refl (tail_same 0x21 0x21 (codes "DOCTYPE" ++ t.0) (0x2D ∷ r) l))

question_no_aside : (text more : List ℕ) → text ≡ 0x3C ∷ 0x3F ∷ more → NeverTo Aside text
question_no_aside text more e = no_aside text (0x3F ∷ more) e (λ r l. heads_differ 0x3F 0x21 more (0x2D ∷ r) refl l)

nothing_no_aside : NeverTo Aside []
nothing_no_aside rest (inl p) = cc (p.1.0)
nothing_no_aside rest (inr p) = cc (p.1)

-- asides up to where none stands
pub asides_same : (times others : List (Unit {0})) (text m n : List ℕ) → Longest (λ _. Aside) times text m → Many (λ _. Aside) others text n → NeverTo Aside n → m ≡ n
asides_same times others text m n l r never =
    (longest_same (λ (_ : Unit {0}). Aside) aside_single times others text m n l.many l.ends r (λ _ rest a. never rest a)).1

-- what stands first in what may stand before the root, and in the root
pub First : List ℕ → Type 0
First text = (c : ℕ) × (more : List ℕ) × (text ≡ c ∷ more) × ((c ≡ 0x3C) ⊎ (is_blank c ≡ true))

first_root : (text : List ℕ) → Begins text → First text
unfolding First
first_root text b = (0x3C, b.0 ∷ b.1, b.2, inl refl)

first_aside : (text rest : List ℕ) → Aside text rest → First text
unfolding First
first_aside text rest (inl p) = (p.0, rest, p.1.0, inr p.1.1)
first_aside text rest (inr p) = (0x3C, 0x21 ∷ 0x2D ∷ 0x2D ∷ p.0, p.1, inl refl)

first_asides : (times : List (Unit {0})) (text rest : List ℕ) → Many (λ _. Aside) times text rest → First rest → First text
first_asides [] text rest r f = let Q : List ℕ → Type 0 = λ x. First x in subst Q (sym r) f
first_asides (t ∷ times) text rest r f = first_aside text r.0 r.1

first_type : (text rest : List ℕ) → Optional TypeAndAsides text rest → Begins rest → First text
unfolding First
first_type text rest (inl e) b = let Q : List ℕ → Type 0 = λ x. First x in subst Q (sym e) (first_root rest b)
first_type text rest (inr t) b = (0x3C, codes "!DOCTYPE" ++ t.1.0, t.1.1, inl refl)

first_declaration : (text rest : List ℕ) → Optional Declaration text rest → First rest → First text
unfolding First
first_declaration text rest (inl e) f = let Q : List ℕ → Type 0 = λ x. First x in subst Q (sym e) f
first_declaration text rest (inr d) f = (0x3C, codes "?xml" ++ d.0, d.1, inl refl)

-- no byte order mark
first_no_mark : (text rest : List ℕ) → First text → Mark text rest → ⊥
unfolding First
first_no_mark text rest f m = no_mark f.0 (head_same f.0 0xEF f.1 (0xBB ∷ 0xBF ∷ rest) (sym f.2 ∙ m)) f.3
  where
    no_mark : (c : ℕ) → c ≡ 0xEF → (c ≡ 0x3C) ⊎ (is_blank c ≡ true) → ⊥
    no_mark c e (inl same) = omega (arith, e, same)
    no_mark c e (inr t) = let u : is_blank 0xEF ≡ true = ap is_blank (sym e) ∙ t in cc u

-- behind the declaration stands no other
pub no_second : (text root : List ℕ) (times : List (Unit {0})) (at : List ℕ) → Many (λ _. Aside) times text at → Optional TypeAndAsides at root → Begins root → NoDeclaration text
no_second text root (t ∷ times) at r o b rest l = question_no_aside text (codes "xml" ++ rest) l r.0 r.1
no_second text root [] at r (inl e) b rest l = begins_not_second 0x3F root (codes "xml" ++ rest) refl b (sym (r ∙ e) ∙ l)
no_second text root [] at r (inr t) b rest l =
    heads_differ 0x21 0x3F (codes "DOCTYPE" ++ t.1.0) (codes "xml" ++ rest) refl (tail_same 0x3C 0x3C (codes "!DOCTYPE" ++ t.1.0) (codes "?xml" ++ rest) (sym t.1.1 ∙ sym r ∙ l))

-- What was read of the parts before the root is what stands there.
pub mark_behind : (text next : List ℕ) → Optional Mark text next → First next → (read : Bool) (new : List ℕ) → (IsTrue read → Mark text new) → (read ≡ false → NoLiteral (0xEF ∷ 0xBB ∷ 0xBF ∷ []) text) →
    (read ≡ false → new ≡ text) → new ≡ next
mark_behind text next (inl e) f true new told none stays = absurd (first_no_mark next new f (sym e ∙ told refl))
mark_behind text next (inl e) f false new told none stays = stays refl ∙ e
mark_behind text next (inr m) f true new told none stays = literal_same (0xEF ∷ 0xBB ∷ 0xBF ∷ []) text new next (told refl) m
mark_behind text next (inr m) f false new told none stays = absurd (none refl next m)

pub mark_read : (text : List ℕ) (read : Bool) (new : List ℕ) → (IsTrue read → Mark text new) → (read ≡ false → new ≡ text) → Optional Mark text new
mark_read text true new told stays = inr (told refl)
mark_read text false new told stays = inl (sym (stays refl))

pub declared_none : (text next : List ℕ) → NoDeclaration text → Optional Declaration text next → text ≡ next
declared_none text next none (inl e) = e
declared_none text next none (inr d) = absurd (none d.0 d.1)

pub declared_some : (text next : List ℕ) → (rest : List ℕ) → Literal (codes "<?xml") text rest → Optional Declaration text next → NoDeclaration next → (read : Bool) (new : List ℕ) →
    (IsTrue read → Declaration text new) → (read ≡ false → NeverTo Declaration text) → (read ≡ true) × (new ≡ next)
declared_some text next rest l (inl e) none read new told never = absurd (none rest (sym e ∙ l))
declared_some text next rest l (inr d) none true new told never = (refl, declaration_same text new next (told refl) d)
declared_some text next rest l (inr d) none false new told never = absurd (never refl next d)

pub typed_none : (text next : List ℕ) → NoLiteral (codes "<!DOCTYPE") text → Optional TypeAndAsides text next → text ≡ next
typed_none text next none (inl e) = e
typed_none text next none (inr t) = absurd (none t.1.0 t.1.1)

typed_not : (text next rest : List ℕ) → Literal (codes "<!DOCTYPE") text rest → text ≡ next → Begins next → ⊥
typed_not text next rest l e b = begins_not_second 0x21 next (codes "DOCTYPE" ++ rest) refl b (sym e ∙ l)

pub typed_fails : (text next rest : List ℕ) → Literal (codes "<!DOCTYPE") text rest → NeverTo DocumentType text → Optional TypeAndAsides text next → Begins next → ⊥
typed_fails text next rest l never (inl e) b = typed_not text next rest l e b
typed_fails text next rest l never (inr t) b = never t.0 t.1

pub typed_some : (text next rest : List ℕ) → Literal (codes "<!DOCTYPE") text rest → (m : List ℕ) → DocumentType text m → (times : List (Unit {0})) (new : List ℕ) →
    Longest (λ _. Aside) times m new → Optional TypeAndAsides text next → Begins next → new ≡ next
typed_some text next rest l m d times new longest (inl e) b = absurd (typed_not text next rest l e b)
typed_some text next rest l m d times new longest (inr t) b =
    let Q : List ℕ → Type 0 = λ x. Many (λ _. Aside) t.2.0 x next in
    asides_same times t.2.0 m new next longest (subst Q (sym (type_same text m t.0 d t.1)) t.2.1) (begins_no_aside next b)

-- where a document type or a root comes next, no aside does
pub typed_no_aside : (text next : List ℕ) → Optional TypeAndAsides text next → Begins next → NeverTo Aside text
typed_no_aside text next (inl e) b = let Q : List ℕ → Type 0 = λ x. NeverTo Aside x in subst Q (sym e) (begins_no_aside next b)
typed_no_aside text next (inr t) b = type_no_aside text t.0 t.1

pub before_first : (text root : List ℕ) → (b : Before text root) → Begins root → First b.declaration_at
before_first text root b begins =
    first_declaration b.declaration_at b.asides_at b.declaration (first_asides b.asides.0 b.asides_at b.type_at b.asides.1 (first_type b.type_at root b.type begins))

-- How many children the root is begun with.
pub root_after_none : (text : List ℕ) → Never StartOf text → IsAfterRoot text 0
root_after_none text never = record {
  most = λ other rest b. absurd (never (b.name, b.attrs, false) b.content_at b.start);
  reached = inl refl;
}

pub root_after_empty : (name : List ℕ) (attrs : List (List ℕ × List ℕ)) (text at : List ℕ) → Start name attrs true text at → IsAfterRoot text 0
root_after_empty name attrs text at s = record {
  most = λ other rest b.
      let same : ◌≡◌ {A = List ℕ × List (List ℕ × List ℕ) × Bool} (name, attrs, true) (b.name, b.attrs, false) × (at ≡ b.content_at) =
      start_single (name, attrs, true) (b.name, b.attrs, false) text at b.content_at s b.start in
      let t : true ≡ false = ap (λ x. x.2) same.0 in absurd (cc t);
  reached = inl refl;
}

among_joined : (pieces more : List (Option Tree)) → children_among (pieces ++ more) ≡ children_among pieces ++ children_among more
among_joined [] more = refl
among_joined (Some child ∷ pieces) more = ap (λ x. child ∷ x) (among_joined pieces more)
among_joined (None ∷ pieces) more = among_joined pieces more

pub root_after_content : (name : List ℕ) (attrs : List (List ℕ × List ℕ)) (text at m : List ℕ) (pieces : List (Option Tree)) → Start name attrs false text at →
    Longest (Piece (Nested 63)) pieces at m → (count : ℕ) → count ≡ length (children_among pieces) → IsAfterRoot text count
root_after_content name attrs text at m pieces s l count counted = record {
  most = λ other rest b.
      let same : ◌≡◌ {A = List ℕ × List (List ℕ × List ℕ) × Bool} (name, attrs, false) (b.name, b.attrs, false) × (at ≡ b.content_at) =
      start_single (name, attrs, false) (b.name, b.attrs, false) text at b.content_at s b.start in
      let Q : List ℕ → Type 0 = λ x. Many (Piece (Nested 63)) b.pieces x rest in
      let more : (more : List (Option Tree)) × (pieces ≡ b.pieces ++ more) × Many (Piece (Nested 63)) more rest m =
      longest_begins (Piece (Nested 63)) (piece_single (Nested 63) (nested_single 63) (nested_opening 63)) pieces b.pieces at m rest l.many l.ends
      (subst Q (sym same.1) b.content) in
      let e : children_among pieces ≡ children_among b.pieces ++ children_among more.0 = ap children_among more.1 ∙ among_joined b.pieces more.0 in
      omega (arith, counted, b.counted, ap length e, length-append (children_among b.pieces) (children_among more.0));
  reached = inr (m, record { content_at = at; name = name; attrs = attrs; pieces = pieces; start = s; content = l.many; counted = counted });
}

-- Two readings of what stands before the root.
mark_same : (text m n : List ℕ) → Optional Mark text m → First m → Optional Mark text n → First n → m ≡ n
mark_same text m n (inl e) f (inl g) h = sym e ∙ g
mark_same text m n (inl e) f (inr q) h = absurd (first_no_mark m n f (sym e ∙ q))
mark_same text m n (inr p) f (inl g) h = absurd (first_no_mark n m h (sym g ∙ p))
mark_same text m n (inr p) f (inr q) h = literal_same (0xEF ∷ 0xBB ∷ 0xBF ∷ []) text m n p q

optional_declaration_same : (text m n : List ℕ) → Optional Declaration text m → NoDeclaration m → Optional Declaration text n → NoDeclaration n → m ≡ n
optional_declaration_same text m n (inl e) f (inl g) h = sym e ∙ g
optional_declaration_same text m n (inl e) f (inr q) h = absurd (f q.0 (sym e ∙ q.1))
optional_declaration_same text m n (inr p) f (inl g) h = absurd (h p.0 (sym g ∙ p.1))
optional_declaration_same text m n (inr p) f (inr q) h = declaration_same text m n p q

optional_type_same : (text m n : List ℕ) → Optional TypeAndAsides text m → Begins m → Optional TypeAndAsides text n → Begins n → m ≡ n
optional_type_same text m n (inl e) f (inl g) h = sym e ∙ g
optional_type_same text m n (inl e) f (inr q) h = absurd (typed_not text m q.1.0 q.1.1 e f)
optional_type_same text m n (inr p) f q h =
    typed_some text n p.1.0 p.1.1 p.0 p.1 p.2.0 m (record { many = p.2.1; ends = λ _ rest a. begins_no_aside m f rest a }) q h

pub before_same : (text m n : List ℕ) → Before text m → Begins m → Before text n → Begins n → m ≡ n
before_same text m n p f q g =
    let marks : p.declaration_at ≡ q.declaration_at = mark_same text p.declaration_at q.declaration_at p.mark (before_first text m p f) q.mark (before_first text n q g) in
    let D : List ℕ → Type 0 = λ x. Optional Declaration x p.asides_at in
    let declarations : p.asides_at ≡ q.asides_at =
    optional_declaration_same q.declaration_at p.asides_at q.asides_at (subst D marks p.declaration) (no_second p.asides_at m p.asides.0 p.type_at p.asides.1 p.type f)
    q.declaration (no_second q.asides_at n q.asides.0 q.type_at q.asides.1 q.type g) in
    let A : List ℕ → Type 0 = λ x. Many (λ (_ : Unit {0}). Aside) p.asides.0 x p.type_at in
    let types : p.type_at ≡ q.type_at =
    asides_same p.asides.0 q.asides.0 q.asides_at p.type_at q.type_at
    (record { many = subst A declarations p.asides.1; ends = λ _ rest a. typed_no_aside p.type_at m p.type f rest a }) q.asides.1 (typed_no_aside q.type_at n q.type g) in
    let T : List ℕ → Type 0 = λ x. Optional TypeAndAsides x m in
    optional_type_same q.type_at m n (subst T types p.type) f q.type g

-- each root begins with `<` and a name
nested_begins : (tree : Tree) (text rest : List ℕ) → Nested 64 tree text rest → Begins text
nested_begins tree text rest p = nested_opening 64 tree text rest p

-- No bytes spell two trees.
pub written_single : (x y : Tree) (text : List ℕ) → Written x text → Written y text → x ≡ y
written_single x y text p q =
    let roots : p.root_at ≡ q.root_at = before_same text p.root_at q.root_at p.before (nested_begins x p.root_at p.asides_at p.root) q.before (nested_begins y q.root_at q.asides_at q.root) in
    let Q : List ℕ → Type 0 = λ a. Nested 64 x a p.asides_at in
    (nested_single 64 x y q.root_at p.asides_at q.asides_at (subst Q roots p.root) q.root).0

-- What the reader of the parts tells of the whole.
pub unwritten_before : (text : List ℕ) → ((root : List ℕ) → Before text root → Begins root → ⊥) → Unwritten text
unwritten_before text none tree w = none w.root_at w.before (nested_begins tree w.root_at w.asides_at w.root)

pub after_before : (text : List ℕ) → ((root : List ℕ) → Before text root → Begins root → ⊥) → IsAfter text 0
after_before text none = record {
  most = λ other rest b. absurd (none b.root_at b.before (start_begins b.name b.attrs false b.root_at b.content_at b.start));
  reached = inl refl;
}

module _ (text at : List ℕ) (only : (root : List ℕ) → Before text root → Begins root → at ≡ root) where
  pub unwritten_root : Never (Nested 64) at → Unwritten text
  unwritten_root never tree w =
      let Q : List ℕ → Type 0 = λ x. Nested 64 tree x w.asides_at in
      never tree w.asides_at (subst Q (sym (only w.root_at w.before (nested_begins tree w.root_at w.asides_at w.root))) w.root)

  pub unwritten_rest : (tree : Tree) (m : List ℕ) → Nested 64 tree at m → (times : List (Unit {0})) (n : List ℕ) → Longest (λ _. Aside) times m n → (n ≡ [] → ⊥) → Unwritten text
  unwritten_rest tree m p times n l some other w =
      let Q : List ℕ → Type 0 = λ x. Nested 64 other x w.asides_at in
      let same : (tree ≡ other) × (m ≡ w.asides_at) =
      nested_single 64 tree other at m w.asides_at p (subst Q (sym (only w.root_at w.before (nested_begins other w.root_at w.asides_at w.root))) w.root) in
      let M : List ℕ → Type 0 = λ x. Many (λ (_ : Unit {0}). Aside) w.behind.0 x [] in
      some (asides_same times w.behind.0 m n [] l (subst M (sym same.1) w.behind.1) nothing_no_aside)

  pub after_root : Before text at → (count : ℕ) → IsAfterRoot at count → IsAfter text count
  after_root before count after = record {
    most = λ other rest b.
        let same : at ≡ b.root_at = only b.root_at b.before (start_begins b.name b.attrs false b.root_at b.content_at b.start) in
        let Q : List ℕ → Type 0 = λ x. Start b.name b.attrs false x b.content_at in
        after.most other rest (record { content_at = b.content_at; name = b.name; attrs = b.attrs; pieces = b.pieces; start = subst Q (sym same) b.start; content = b.content; counted = b.counted });
    reached = elim after.reached [
      | inl none ↦ inl none
      | inr p ↦ inr (
        p.0,
        record {
          root_at = at;
          content_at = p.1.content_at;
          name = p.1.name;
          attrs = p.1.attrs;
          pieces = p.1.pieces;
          before = before;
          start = p.1.start;
          content = p.1.content;
          counted = p.1.counted;
        },
      )
    ];
  }

-- What was read of the parts of the root tells of the root.
listed_trees : (children : List Tree) → listed (trees children) ≡ children
listed_trees [] = refl
listed_trees (child ∷ children) = ap (λ x. child ∷ x) (listed_trees children)

sixty_four : ◌≡◌ {A = ℕ} 64 0 → ⊥
sixty_four e = omega (arith, e)

root_fault : (e : Stop) (text new : List ℕ) (count : ℕ) → Read (Nested 64) text new (Err e) → (e ≡ stops.NotWritten → IsAfterRoot text count) → RootRead text new (Err (fault_of e count))
root_fault stops.NotWritten text new count never after = (never, after refl)
root_fault stops.NoMemory text new count never after = tt

pub root_stops-start : (e : Stop) (text mid new : List ℕ) → Read StartOf text mid (Err e) → (f : TextFault) → f ≡ fault_of e 0 → RootRead text new (Err f)
root_stops-start e text mid new read f same =
    let Q : TextFault → Type 0 = λ x. RootRead text new (Err x) in
    subst Q (sym same) (root_fault e text new 0 (element_stops-start 64 sixty_four text e mid new read) (after e read))
  where
    after : (e : Stop) → Read StartOf text mid (Err e) → e ≡ stops.NotWritten → IsAfterRoot text 0
    after stops.NotWritten never q = root_after_none text never
    after stops.NoMemory never q = absurd (cc q)

module _ (name : List ℕ) (attrs : List (List ℕ × List ℕ)) (empty : Bool) (text at : List ℕ) (s : Start name attrs empty text at) where
  pub root_empty : empty ≡ true → (children : List Tree) → children ≡ [] → RootRead text at (Ok (Node name attrs (trees children)))
  root_empty e children none =
      let Q : List Tree → Type 0 = λ x. RootRead text at (Ok (Node name attrs (trees x))) in
      let S : Bool → Type 0 = λ x. Start name attrs x text at in
      subst Q (sym none) (element_empty 64 sixty_four text name attrs empty at s e, root_after_empty name attrs text at (subst S e s))

  module _ (full : empty ≡ false) where
    full_root : Start name attrs false text at
    full_root = let S : Bool → Type 0 = λ x. Start name attrs x text at in subst S full s

    pub root_stops-content : (e : Stop) (mid new : List ℕ) (before now : List Tree) → before ≡ [] → ContentRead (Nested 63) at mid before now (Err e) →
        (f : TextFault) (count : ℕ) → count ≡ length now → f ≡ fault_of e count → RootRead text new (Err f)
    root_stops-content e mid new before now none read f count counted same =
        let Q : TextFault → Type 0 = λ x. RootRead text new (Err x) in
        subst Q (sym same)
        (root_fault e text new count (element_stops-content 64 sixty_four text name attrs empty at s full e mid new before now read) (after e read))
      where
        after : (e : Stop) → ContentRead (Nested 63) at mid before now (Err e) → e ≡ stops.NotWritten → IsAfterRoot text count
        after stops.NotWritten read q =
            root_after_content name attrs text at read.1 read.0 full_root read.2 count
            (counted ∙ ap length (read.4 ∙ ap (λ x. x ++ children_among read.0) none))
        after stops.NoMemory read q = absurd (cc q)

    pub root_stops-finish : (e : Stop) (bytes : List ℕ) → bytes ≡ name → (m mid new : List ℕ) (pieces : List (Option Tree)) → Longest (Piece (Nested 63)) pieces at m →
        Read (λ (_ : Unit {0}). Finish bytes) m mid (Err e) → (before now : List Tree) → before ≡ [] → now ≡ before ++ children_among pieces →
        (f : TextFault) (count : ℕ) → count ≡ length now → f ≡ fault_of e count → RootRead text new (Err f)
    root_stops-finish e bytes named m mid new pieces l read before now none all f count counted same =
        let Q : TextFault → Type 0 = λ x. RootRead text new (Err x) in
        subst Q (sym same)
        (root_fault e text new count (element_stops-finish 64 sixty_four text name attrs empty at s full e bytes named m mid new pieces l read)
        (λ _. root_after_content name attrs text at m pieces full_root l count (counted ∙ ap length (all ∙ ap (λ x. x ++ children_among pieces) none))))

    pub root_full : (bytes : List ℕ) → bytes ≡ name → (m rest : List ℕ) (pieces : List (Option Tree)) → Longest (Piece (Nested 63)) pieces at m → Finish bytes m rest →
        (before now : List Tree) → before ≡ [] → now ≡ before ++ children_among pieces → RootRead text rest (Ok (Node name attrs (trees now)))
    root_full bytes named m rest pieces l f before now none all =
        let e : now ≡ children_among pieces = all ∙ ap (λ x. x ++ children_among pieces) none in (
          element_full 64 sixty_four text name attrs empty at s full bytes named m rest pieces l f now e,
          root_after_content name attrs text at m pieces full_root l (length (listed (trees now))) (ap length (listed_trees now ∙ e)),
        )

pub few_children : (children : List Tree) → length (listed (trees children)) ≡ length children
few_children children = ap length (listed_trees children)

pub aside_never : (text here : List ℕ) → here ≡ text → Never (Byte is_blank) text → NeverTo Comment here → NeverTo Aside text
aside_never text here e none never rest (inl p) = none p.0 rest p.1
aside_never text here e none never rest (inr p) = let Q : List ℕ → Type 0 = λ x. Comment x rest in never rest (subst Q (sym e) p)

module _ (text at : List ℕ) (only : (root : List ℕ) → Before text root → Begins root → at ≡ root) where
  pub root_unwritten : (f : TextFault) (new : List ℕ) → RootRead at new (Err f) → IfNotWritten f (λ _. Unwritten text)
  root_unwritten (faults.NotWritten count) new read = unwritten_root text at only read.0
  root_unwritten faults.NoMemory new read = tt

  pub root_after : Before text at → (f : TextFault) (new : List ℕ) → RootRead at new (Err f) → IfNotWritten f (λ count. IsAfter text count)
  root_after before (faults.NotWritten count) new read = after_root text at only before count read.1
  root_after before faults.NoMemory new read = tt

-- the number of children of an element as it is kept
pub kept_children : (tree : Tree) (name : List ℕ) (attrs : List (List ℕ × List ℕ)) (children : List Tree) → Node name attrs (trees children) ≡ tree →
    length (children_of tree) ≡ length children
kept_children tree name attrs children e = ap (λ t. length (children_of t)) (sym e) ∙ few_children children

not_above : (text : List ℕ) (one other : ℕ) → IsAfter text one → IsAfter text other → one ≤ other
not_above text one other p q =
    elim p.reached [ inl none ↦ omega (arith, none) | inr begun ↦ q.most one begun.0 begun.1 ]

pub after_single : (text : List ℕ) (one other : ℕ) → IsAfter text one → IsAfter text other → one ≡ other
after_single text one other p q = omega (arith, not_above text one other p q, not_above text other one q p)
