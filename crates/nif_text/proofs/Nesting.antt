-- Elements are read in one way only.
use Rattle.std.proofs.Common.{ℕ, zero, suc, ◌-◌, ◌≡◌, Bool, true, false, inl, inr, Option, Some, None, Ok, Err, List, [], ◌∷◌, ◌++◌, refl, sym, ◌∙◌, ap, subst, arith, codes, append_assoc}
use Rattle.nif_text.specs.Tree.{Tree, Node, End, trees}
use Rattle.nif_text.specs.Parts.{Many, Byte, Literal}
use Rattle.nif_text.specs.Bytes.{is_name_start, Name}
use Rattle.nif_text.specs.References.{Reference}
use Rattle.nif_text.specs.Comments.{Comment}
use Rattle.nif_text.specs.Elements.{Start, StartOf, Finish, is_text_byte, PassedOver, Piece, children_among, Spelled, Empty, Full, Nested}
use Rattle.nif_text.specs.Reading.{Begins, Never, NoLiteral, NeverTo, Longest, Read, PieceRead, ContentRead}
use Rattle.nif_text.specs.declared.stop.Stop.{Stop}
use Rattle.nif_text.specs.declared.stop.Stop.TheVariants as stops
use Rattle.nif_text.proofs.Runs.{Single, longest_same}
use Rattle.nif_text.proofs.Fronts.{heads_differ, head_same, tail_same}
use Rattle.nif_text.proofs.SingleParts.{byte_single, byte_never}
use Rattle.nif_text.proofs.References.{reference_single, reference_begins}
use Rattle.nif_text.proofs.Starts.{start_single, finish_same}
use Rattle.nif_text.proofs.Comments.{comment_same}

name_first : (name text rest : List ℕ) → Name name text rest → (c : ℕ) × (more : List ℕ) × (text ≡ c ∷ more) × (is_name_start c ≡ true)
name_first [] text rest p = elim p [ ]
name_first (c ∷ name) text rest p = (c, p.0, p.1.0, p.1.1)

pub start_begins : (name : List ℕ) (attrs : List (List ℕ × List ℕ)) (empty : Bool) (text rest : List ℕ) → Start name attrs empty text rest → Begins text
start_begins name attrs empty text rest s =
    let f : (c : ℕ) × (more : List ℕ) × (s.name_at ≡ c ∷ more) × (is_name_start c ≡ true) = name_first name s.name_at s.attrs_at s.named in
    (f.0, f.1, s.opens ∙ ap (λ x. 0x3C ∷ x) f.2, f.3)

pub begins_not_second : (d : ℕ) (text rest : List ℕ) → is_name_start d ≡ false → Begins text → text ≡ 0x3C ∷ d ∷ rest → ⊥
begins_not_second d text rest f b e =
    let same : b.0 ≡ d = head_same b.0 d b.1 rest (tail_same 0x3C 0x3C (b.0 ∷ b.1) (d ∷ rest) (sym b.2 ∙ e)) in
    let t : is_name_start d ≡ true = ap is_name_start (sym same) ∙ b.3 in
    let g : true ≡ false = sym t ∙ f in cc g

pub begins_not_first : (d : ℕ) (text rest : List ℕ) → Begins text → text ≡ d ∷ rest → d ≡ 0x3C
begins_not_first d text rest b e = head_same d 0x3C rest (b.0 ∷ b.1) (sym e ∙ b.2)

pub begins_not_passed : (text rest : List ℕ) → Begins text → PassedOver text rest → ⊥
begins_not_passed text rest b (inl p) =
    let t : is_text_byte 0x3C ≡ true = ap is_text_byte (sym (begins_not_first p.0 text rest b p.1.0)) ∙ p.1.1 in cc t
begins_not_passed text rest b (inr (inl p)) =
    let r : (more : List ℕ) × (text ≡ 0x26 ∷ more) = reference_begins p.0 text rest p.1 in
    let e : 0x26 ≡ 0x3C = begins_not_first 0x26 text r.0 b r.1 in omega (arith, e)
begins_not_passed text rest b (inr (inr p)) = begins_not_second 0x21 text (0x2D ∷ 0x2D ∷ p.0) refl b p.1

-- what is passed over is passed over in one way only
text_not_reference : (c : ℕ) (text m : List ℕ) → Byte is_text_byte c text m → (d : ℕ) (n : List ℕ) → Reference d text n → ⊥
text_not_reference c text m p d n r =
    let b : (more : List ℕ) × (text ≡ 0x26 ∷ more) = reference_begins d text n r in
    byte_never is_text_byte 0x26 b.0 refl c m (sym b.1 ∙ p.0, p.1)

text_not_comment : (c : ℕ) (text m : List ℕ) → Byte is_text_byte c text m → (n : List ℕ) → Comment text n → ⊥
text_not_comment c text m p n r = byte_never is_text_byte 0x3C (0x21 ∷ 0x2D ∷ 0x2D ∷ r.0) refl c m (sym r.1 ∙ p.0, p.1)

reference_not_comment : (d : ℕ) (text m n : List ℕ) → Reference d text m → Comment text n → ⊥
reference_not_comment d text m n r p =
    let b : (more : List ℕ) × (text ≡ 0x26 ∷ more) = reference_begins d text m r in
    heads_differ 0x26 0x3C b.0 (0x21 ∷ 0x2D ∷ 0x2D ∷ p.0) refl (sym b.1 ∙ p.1)

passed_same : (text m n : List ℕ) → PassedOver text m → PassedOver text n → m ≡ n
passed_same text m n (inl p) (inl q) = (byte_single is_text_byte p.0 q.0 text m n p.1 q.1).1
passed_same text m n (inl p) (inr (inl q)) = absurd (text_not_reference p.0 text m p.1 q.0 n q.1)
passed_same text m n (inl p) (inr (inr q)) = absurd (text_not_comment p.0 text m p.1 n q)
passed_same text m n (inr (inl p)) (inl q) = absurd (text_not_reference q.0 text n q.1 p.0 m p.1)
passed_same text m n (inr (inl p)) (inr (inl q)) = (reference_single p.0 q.0 text m n p.1 q.1).1
passed_same text m n (inr (inl p)) (inr (inr q)) = absurd (reference_not_comment p.0 text m n p.1 q)
passed_same text m n (inr (inr p)) (inl q) = absurd (text_not_comment q.0 text n q.1 m p)
passed_same text m n (inr (inr p)) (inr (inl q)) = absurd (reference_not_comment q.0 text n m q.1 p)
passed_same text m n (inr (inr p)) (inr (inr q)) = comment_same text m n p q

-- the end of an element is passed over by nothing
passed_not_end : (text m rest : List ℕ) → Literal (codes "</") text m → PassedOver text rest → ⊥
passed_not_end text m rest l (inl p) = byte_never is_text_byte 0x3C (0x2F ∷ m) refl p.0 rest (sym l ∙ p.1.0, p.1.1)
passed_not_end text m rest l (inr (inl p)) =
    let b : (more : List ℕ) × (text ≡ 0x26 ∷ more) = reference_begins p.0 text rest p.1 in
    heads_differ 0x26 0x3C b.0 (0x2F ∷ m) refl (sym b.1 ∙ l)
passed_not_end text m rest l (inr (inr p)) =
    heads_differ 0x21 0x2F (0x2D ∷ 0x2D ∷ p.0) m refl (tail_same 0x3C 0x3C (0x21 ∷ 0x2D ∷ 0x2D ∷ p.0) (0x2F ∷ m) (sym p.1 ∙ l))

abbrev pub Opening : (Tree → List ℕ → List ℕ → Type 0) → Type 0
Opening Child = (tree : Tree) (text rest : List ℕ) → Child tree text rest → Begins text

module _ (Child : Tree → List ℕ → List ℕ → Type 0) (single : Single Child) (opening : Opening Child) where
  pub piece_single : Single (Piece Child)
  piece_single (Some x) (Some y) text m n p q =
      let same : (x ≡ y) × (m ≡ n) = single x y text m n p q in (ap (λ t. Some t) same.0, same.1)
  piece_single (Some x) None text m n p q = absurd (begins_not_passed text n (opening x text m p) q)
  piece_single None (Some y) text m n p q = absurd (begins_not_passed text m (opening y text n q) p)
  piece_single None None text m n p q = (refl, passed_same text m n p q)

  pub end_no_piece : (text m : List ℕ) → Literal (codes "</") text m → Never (Piece Child) text
  end_no_piece text m l (Some x) rest p = begins_not_second 0x2F text m refl (opening x text rest p) l
  end_no_piece text m l None rest p = passed_not_end text m rest l p

  finish_no_piece : (name text rest : List ℕ) → Finish name text rest → Never (Piece Child) text
  finish_no_piece name text rest f = end_no_piece text (name ++ f.blanks_at) f.named

  -- an element's content goes through the longest run of pieces
  content_behind : (pieces others : List (Option Tree)) (text m n : List ℕ) → Longest (Piece Child) pieces text m → Many (Piece Child) others text n →
      (name rest : List ℕ) → Finish name n rest → (pieces ≡ others) × (m ≡ n)
  content_behind pieces others text m n l r name rest f =
      longest_same (Piece Child) piece_single pieces others text m n l.many l.ends r (finish_no_piece name n rest f)

  pub spelled_single : Single (Spelled Child)
  spelled_single _ _ text m n (Empty {name = a} {attrs = b} s) (Empty {name = c} {attrs = d} q) =
      let same : ◌≡◌ {A = List ℕ × List (List ℕ × List ℕ) × Bool} (a, b, true) (c, d, true) × (m ≡ n) = start_single (a, b, true) (c, d, true) text m n s q in
      (ap (λ x. Node x.0 x.1 End) same.0, same.1)
  spelled_single _ _ text m n (Empty {name = a} {attrs = b} s) (Full {name = c} {attrs = d} at finish pieces q run f e) =
      let same : ◌≡◌ {A = List ℕ × List (List ℕ × List ℕ) × Bool} (a, b, true) (c, d, false) × (m ≡ at) = start_single (a, b, true) (c, d, false) text m at s q in
      let t : true ≡ false = ap (λ x. x.2) same.0 in absurd (cc t)
  spelled_single _ _ text m n (Full {name = a} {attrs = b} at finish pieces s run f e) (Empty {name = c} {attrs = d} q) =
      let same : ◌≡◌ {A = List ℕ × List (List ℕ × List ℕ) × Bool} (a, b, false) (c, d, true) × (at ≡ n) = start_single (a, b, false) (c, d, true) text at n s q in
      let t : false ≡ true = ap (λ x. x.2) same.0 in absurd (cc t)
  spelled_single _ _ text m n (Full {name = a} {attrs = b} {children = k} at finish pieces s run f e) (Full {name = c} {attrs = d} {children = l} at' finish' pieces' q run' f' e') =
      let same : ◌≡◌ {A = List ℕ × List (List ℕ × List ℕ) × Bool} (a, b, false) (c, d, false) × (at ≡ at') = start_single (a, b, false) (c, d, false) text at at' s q in
      let R : List ℕ → Type 0 = λ x. Many (Piece Child) pieces x finish in
      let longest : Longest (Piece Child) pieces at' finish = record { many = subst R same.1 run; ends = finish_no_piece a finish m f } in
      let through : (pieces ≡ pieces') × (finish ≡ finish') = content_behind pieces pieces' at' finish finish' longest run' c n f' in
      let F : List ℕ → List ℕ → Type 0 = λ x y. Finish x y m in
      let N : List ℕ → Type 0 = λ x. F x finish' in
      let O : List ℕ → Type 0 = λ y. F a y in
      let names : a ≡ c = ap (λ x. x.0) same.0 in
      let kids : k ≡ l = e ∙ ap (λ x. trees (children_among x)) through.0 ∙ sym e' in
      ((λ i. Node (same.0 i).0 (same.0 i).1 (kids i)), finish_same c finish' m n (subst N names (subst O through.1 f)) f')

  -- no element: no start, no end behind the content, or another end
  pub spelled_never-start : (text : List ℕ) → Never StartOf text → Never (Spelled Child) text
  spelled_never-start text never _ rest (Empty {name = a} {attrs = b} s) = never (a, b, true) rest s
  spelled_never-start text never _ rest (Full {name = a} {attrs = b} at finish pieces s run f e) = never (a, b, false) at s

  pub spelled_never-content : (name : List ℕ) (attrs : List (List ℕ × List ℕ)) (text at m : List ℕ) (pieces : List (Option Tree)) → Start name attrs false text at →
      Longest (Piece Child) pieces at m → NeverTo (Finish name) m → Never (Spelled Child) text
  spelled_never-content name attrs text at m pieces s l none _ rest (Empty {name = a} {attrs = b} q) =
      let same : ◌≡◌ {A = List ℕ × List (List ℕ × List ℕ) × Bool} (name, attrs, false) (a, b, true) × (at ≡ rest) = start_single (name, attrs, false) (a, b, true) text at rest s q in
      let t : false ≡ true = ap (λ x. x.2) same.0 in cc t
  spelled_never-content name attrs text at m pieces s l none _ rest (Full {name = a} {attrs = b} at' finish others q run f e) =
      let same : ◌≡◌ {A = List ℕ × List (List ℕ × List ℕ) × Bool} (name, attrs, false) (a, b, false) × (at ≡ at') = start_single (name, attrs, false) (a, b, false) text at at' s q in
      let R : List ℕ → Type 0 = λ x. Many (Piece Child) others x finish in
      let through : (pieces ≡ others) × (m ≡ finish) = content_behind pieces others at m finish l (subst R (sym same.1) run) a rest f in
      let F : List ℕ → Type 0 = λ x. Finish x finish rest in
      let G : List ℕ → Type 0 = λ y. Finish name y rest in
      none rest (subst G (sym through.1) (subst F (sym (ap (λ x. x.0) same.0)) f))

pub no_end : (name text : List ℕ) → NoLiteral (codes "</") text → NeverTo (Finish name) text
no_end name text none rest f = none (name ++ f.blanks_at) f.named

spelled_opening : (Child : Tree → List ℕ → List ℕ → Type 0) → Opening (Spelled Child)
spelled_opening Child _ text rest (Empty {name = a} {attrs = b} s) = start_begins a b true text rest s
spelled_opening Child _ text rest (Full {name = a} {attrs = b} at finish pieces s run f e) = start_begins a b false text at s

pub nested_opening : (levels : ℕ) → Opening (Nested levels)
unfolding Nested
nested_opening zero tree text rest p = elim p [ ]
nested_opening (suc levels) tree text rest p = spelled_opening (Nested levels) tree text rest p

pub nested_single : (levels : ℕ) → Single (Nested levels)
unfolding Nested
nested_single zero i j text m n p q = elim p [ ]
nested_single (suc levels) i j text m n p q = spelled_single (Nested levels) (nested_single levels) (nested_opening levels) i j text m n p q

pub nested_never-zero : (levels : ℕ) (text : List ℕ) → levels ≡ 0 → Never (Nested levels) text
unfolding Nested
nested_never-zero zero text e tree rest p = elim p [ ]
nested_never-zero (suc levels) text e tree rest p = omega (arith, e)

-- a level further in
pub nested_of : (levels : ℕ) → (levels ≡ 0 → ⊥) → (tree : Tree) (text rest : List ℕ) → Spelled (Nested (levels - 1)) tree text rest → Nested levels tree text rest
unfolding Nested
nested_of zero some tree text rest p = absurd (some refl)
nested_of (suc levels) some tree text rest p =
    let e : suc levels - 1 ≡ levels = omega arith in
    let Q : ℕ → Type 0 = λ x. Spelled (Nested x) tree text rest in
    subst Q e p

pub nested_never : (levels : ℕ) → (levels ≡ 0 → ⊥) → (text : List ℕ) → Never (Spelled (Nested (levels - 1))) text → Never (Nested levels) text
unfolding Nested
nested_never zero some text never tree rest p = absurd (some refl)
nested_never (suc levels) some text never tree rest p =
    let e : suc levels - 1 ≡ levels = omega arith in
    let Q : ℕ → Type 0 = λ x. Spelled (Nested x) tree text rest in
    never tree rest (subst Q (sym e) p)

-- What was read of the parts of an element tells of the element.
module _ (levels : ℕ) (some : levels ≡ 0 → ⊥) (text : List ℕ) where
  pub element_stops-start : (e : Stop) (mid new : List ℕ) → Read StartOf text mid (Err e) → Read (Nested levels) text new (Err e)
  element_stops-start stops.NotWritten mid new never =
      nested_never levels some text (spelled_never-start (Nested (levels - 1)) (nested_single (levels - 1)) (nested_opening (levels - 1)) text never)
  element_stops-start stops.NoMemory mid new never = tt

  pub element_empty : (name : List ℕ) (attrs : List (List ℕ × List ℕ)) (empty : Bool) (rest : List ℕ) → Start name attrs empty text rest → empty ≡ true →
      Nested levels (Node name attrs End) text rest
  element_empty name attrs empty rest s e =
      let Q : Bool → Type 0 = λ x. Start name attrs x text rest in
      nested_of levels some (Node name attrs End) text rest (Empty (subst Q e s))

  module _ (name : List ℕ) (attrs : List (List ℕ × List ℕ)) (empty : Bool) (at : List ℕ) (s : Start name attrs empty text at) (full : empty ≡ false) where
    full_start : Start name attrs false text at
    full_start = let Q : Bool → Type 0 = λ x. Start name attrs x text at in subst Q full s

    pub element_stops-content : (e : Stop) (mid new : List ℕ) (before now : List Tree) → ContentRead (Nested (levels - 1)) at mid before now (Err e) →
        Read (Nested levels) text new (Err e)
    element_stops-content stops.NotWritten mid new before now read =
        nested_never levels some text
        (spelled_never-content (Nested (levels - 1)) (nested_single (levels - 1)) (nested_opening (levels - 1)) name attrs text at read.1 read.0 full_start read.2
        (no_end name read.1 read.3))
    element_stops-content stops.NoMemory mid new before now read = tt

    pub element_stops-finish : (e : Stop) (bytes : List ℕ) → bytes ≡ name → (m mid new : List ℕ) (pieces : List (Option Tree)) → Longest (Piece (Nested (levels - 1))) pieces at m →
        Read (λ (_ : Unit {0}). Finish bytes) m mid (Err e) → Read (Nested levels) text new (Err e)
    element_stops-finish stops.NotWritten bytes same m mid new pieces l never =
        let Q : List ℕ → Type 0 = λ x. NeverTo (Finish x) m in
        nested_never levels some text
        (spelled_never-content (Nested (levels - 1)) (nested_single (levels - 1)) (nested_opening (levels - 1)) name attrs text at m pieces full_start l
        (subst Q same (λ rest f. never tt rest f)))
    element_stops-finish stops.NoMemory bytes same m mid new pieces l never = tt

    pub element_full : (bytes : List ℕ) → bytes ≡ name → (m rest : List ℕ) (pieces : List (Option Tree)) → Longest (Piece (Nested (levels - 1))) pieces at m → Finish bytes m rest →
        (children : List Tree) → children ≡ children_among pieces → Nested levels (Node name attrs (trees children)) text rest
    element_full bytes same m rest pieces l f children e =
        let Q : List ℕ → Type 0 = λ x. Finish x m rest in
        nested_of levels some (Node name attrs (trees children)) text rest
        (Full at m pieces full_start l.many (subst Q same f) (ap trees e))

-- What was read of a piece.
module _ (levels : ℕ) (text : List ℕ) where
  pub piece_never : NeverTo PassedOver text → Never (Nested levels) text → Never (Piece (Nested levels)) text
  piece_never passed never (Some child) rest p = never child rest p
  piece_never passed never None rest p = passed rest p

  pub piece_stops : (e : Stop) (here mid new : List ℕ) (before now : List Tree) → here ≡ text → NeverTo PassedOver text → NoLiteral (codes "</") here → now ≡ before →
      Read (Nested levels) here mid (Err e) → PieceRead (Nested levels) text new before now (Err e)
  piece_stops stops.NotWritten here mid new before now same passed none kept never =
      let Q : List ℕ → Type 0 = λ x. Never (Nested levels) x in
      let L : List ℕ → Type 0 = λ x. NoLiteral (codes "</") x in
      (piece_never passed (subst Q same never), subst L same none, kept)
  piece_stops stops.NoMemory here mid new before now same passed none kept never = tt

  pub piece_ends : (here rest : List ℕ) → here ≡ text → Literal (codes "</") here rest → Never (Piece (Nested levels)) text
  piece_ends here rest same l = end_no_piece (Nested levels) (nested_single levels) (nested_opening levels) text rest (sym same ∙ l)

  pub piece_child : (child : Tree) (here new : List ℕ) (before now : List Tree) → here ≡ text → Nested levels child here new → now ≡ before ++ child ∷ [] →
      PieceRead (Nested levels) text new before now (Ok true)
  piece_child child here new before now same p e =
      let Q : List ℕ → Type 0 = λ x. Nested levels child x new in (Some child, subst Q same p, e)

pub children_joined : (pieces : List (Option Tree)) (piece : Option Tree) → children_among (pieces ++ piece ∷ []) ≡ children_among pieces ++ children_among (piece ∷ [])
children_joined [] piece = refl
children_joined (Some child ∷ pieces) piece = ap (λ x. child ∷ x) (children_joined pieces piece)
children_joined (None ∷ pieces) piece = children_joined pieces piece

pub passed_never : (text here next : List ℕ) → here ≡ text → next ≡ here → Never (Byte is_text_byte) text → Never Reference here → NeverTo Comment next → NeverTo PassedOver text
passed_never text here next e f none reference comment rest (inl p) = none p.0 rest p.1
passed_never text here next e f none reference comment rest (inr (inl p)) =
    let Q : List ℕ → Type 0 = λ x. Reference p.0 x rest in reference p.0 rest (subst Q (sym e) p.1)
passed_never text here next e f none reference comment rest (inr (inr p)) =
    let Q : List ℕ → Type 0 = λ x. Comment x rest in comment rest (subst Q (sym (f ∙ e)) p)

pub children_behind : (before out now : List Tree) (piece : Option Tree) (pieces : List (Option Tree)) → out ≡ before ++ children_among pieces → now ≡ out ++ children_among (piece ∷ []) →
    now ≡ before ++ children_among (pieces ++ piece ∷ [])
children_behind before out now piece pieces e f =
    f ∙ ap (λ x. x ++ children_among (piece ∷ [])) e ∙ append_assoc before (children_among pieces) (children_among (piece ∷ [])) ∙ ap (λ x. before ++ x) (sym (children_joined pieces piece))
