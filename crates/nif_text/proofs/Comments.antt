-- Comments, the declaration and the document type are read in one way only.
use Rattle.std.proofs.Common.{ℕ, ◌≡◌, true, IsTrue, ◌⊎◌, inl, inr, List, [], ◌∷◌, ◌++◌, refl, sym, ◌∙◌, ap, subst, codes}
use Rattle.std.specs.List.{AllByRecursion}
use Rattle.nif_text.specs.Parts.{Many, Byte, Literal, Lacks}
use Rattle.nif_text.specs.Bytes.{is_allowed}
use Rattle.nif_text.specs.Comments.{Enclosed, Comment, Declaration, DocumentType, is_type_byte}
use Rattle.nif_text.specs.Reading.{Never, NoLiteral, NeverTo, Longest, SameEnclosed}
use Rattle.nif_text.proofs.Runs.{longest_same}
use Rattle.nif_text.proofs.Fronts.{heads_differ, head_same, tail_same}
use Rattle.nif_text.proofs.SingleParts.{byte_single, byte_never, literal_same}

lacks_tail : (first second c : ℕ) (bytes : List ℕ) → Lacks first second (c ∷ bytes) → Lacks first second bytes
lacks_tail first second c bytes l front back e = l (c ∷ front) back (ap (λ x. c ∷ x) e)

lacks_more : (first second c : ℕ) (bytes : List ℕ) → ((back : List ℕ) → c ≡ first → bytes ≡ second ∷ back → ⊥) → Lacks first second bytes → Lacks first second (c ∷ bytes)
lacks_more first second c bytes here l [] back e = here back (head_same c first bytes (second ∷ back) e) (tail_same c first bytes (second ∷ back) e)
lacks_more first second c bytes here l (d ∷ front) back e = l front back (tail_same c d bytes (front ++ (first ∷ second ∷ back)) e)

lacks_nil : (first second : ℕ) → Lacks first second []
lacks_nil first second [] back e = cc e
lacks_nil first second (d ∷ front) back e = cc e

lacks_one : (first second c : ℕ) → Lacks first second (c ∷ [])
lacks_one first second c = lacks_more first second c [] (λ back e f. cc f) (lacks_nil first second)

module _ (first second : ℕ) (tail : List ℕ) (clash : (m n : List ℕ) → first ∷ second ∷ (tail ++ m) ≡ second ∷ (tail ++ n) → ⊥) where
  -- the end right here, and an end later
  at_once : (c : ℕ) (inside m n : List ℕ) → Lacks first second (c ∷ inside) → first ∷ second ∷ (tail ++ m) ≡ c ∷ (inside ++ (first ∷ second ∷ (tail ++ n))) → ⊥
  at_once c [] m n l e = clash n m (sym (tail_same first c (second ∷ (tail ++ m)) (first ∷ second ∷ (tail ++ n)) e))
  at_once c (d ∷ inside) m n l e =
      let f : second ∷ (tail ++ m) ≡ d ∷ (inside ++ (first ∷ second ∷ (tail ++ n))) = tail_same first c (second ∷ (tail ++ m)) (d ∷ (inside ++ (first ∷ second ∷ (tail ++ n)))) e in
      let one : c ≡ first = sym (head_same first c (second ∷ (tail ++ m)) (d ∷ (inside ++ (first ∷ second ∷ (tail ++ n)))) e) in
      let two : d ≡ second = sym (head_same second d (tail ++ m) (inside ++ (first ∷ second ∷ (tail ++ n))) f) in
      l [] inside (λ k. one k ∷ two k ∷ inside)

  insides : (x y m n : List ℕ) → Lacks first second x → Lacks first second y → x ++ (first ∷ second ∷ (tail ++ m)) ≡ y ++ (first ∷ second ∷ (tail ++ n)) → m ≡ n
  insides [] [] m n l k e = literal_same (first ∷ second ∷ tail) (first ∷ second ∷ (tail ++ m)) m n refl e
  insides [] (c ∷ y) m n l k e = absurd (at_once c y m n k e)
  insides (c ∷ x) [] m n l k e = absurd (at_once c x n m l (sym e))
  insides (c ∷ x) (d ∷ y) m n l k e =
      insides x y m n (lacks_tail first second c x l) (lacks_tail first second d y k)
      (tail_same c d (x ++ (first ∷ second ∷ (tail ++ m))) (y ++ (first ∷ second ∷ (tail ++ n))) e)

  pub enclosed_same : (text m n : List ℕ) → Enclosed first second (first ∷ second ∷ tail) text m → Enclosed first second (first ∷ second ∷ tail) text n → m ≡ n
  enclosed_same text m n p q = insides p.inside q.inside m n p.free q.free (sym p.spelled ∙ q.spelled)

module _ (first second : ℕ) (tail : List ℕ) (text : List ℕ) (none : NoLiteral (first ∷ second ∷ []) text) where
  -- a byte further, where the pair doesn't stand
  pub enclosed_on : (c : ℕ) (more rest : List ℕ) → text ≡ c ∷ more → is_allowed c ≡ true → Enclosed first second (first ∷ second ∷ tail) more rest →
      Enclosed first second (first ∷ second ∷ tail) text rest
  enclosed_on c more rest e t p = record {
    inside = c ∷ p.inside;
    spelled = e ∙ ap (λ x. c ∷ x) p.spelled;
    allowed = (t, p.allowed);
    free = lacks_more first second c p.inside
        (λ back one two. none (back ++ (first ∷ second ∷ (tail ++ rest)))
        (e ∙ (λ k. one k ∷ (p.spelled ∙ ap (λ x. x ++ (first ∷ second ∷ (tail ++ rest))) two) k)))
        p.free;
  }

  pub enclosed_back : (c : ℕ) (more rest : List ℕ) → text ≡ c ∷ more → Enclosed first second (first ∷ second ∷ tail) text rest →
      Enclosed first second (first ∷ second ∷ tail) more rest
  enclosed_back c more rest e p = shorter p.inside p.spelled p.allowed p.free
    where
      shorter : (inside : List ℕ) → text ≡ inside ++ (first ∷ second ∷ (tail ++ rest)) → AllByRecursion (λ d. IsTrue (is_allowed d)) inside → Lacks first second inside →
          Enclosed first second (first ∷ second ∷ tail) more rest
      shorter [] s a f = absurd (none (tail ++ rest) s)
      shorter (d ∷ inside) s a f = record {
        inside = inside;
        spelled = tail_same c d more (inside ++ (first ∷ second ∷ (tail ++ rest))) (sym e ∙ s);
        allowed = a.1;
        free = lacks_tail first second d inside f;
      }

  pub enclosed_never : Never (Byte is_allowed) text → (rest : List ℕ) → Enclosed first second (first ∷ second ∷ tail) text rest → ⊥
  enclosed_never never rest p = here p.inside p.spelled p.allowed
    where
      here : (inside : List ℕ) → text ≡ inside ++ (first ∷ second ∷ (tail ++ rest)) → AllByRecursion (λ d. IsTrue (is_allowed d)) inside → ⊥
      here [] s a = none (tail ++ rest) s
      here (d ∷ inside) s a = never d (inside ++ (first ∷ second ∷ (tail ++ rest))) (s, a.0)

comment_clash : (m n : List ℕ) → 0x2D ∷ 0x2D ∷ 0x3E ∷ m ≡ 0x2D ∷ 0x3E ∷ n → ⊥
comment_clash m n e = heads_differ 0x2D 0x3E (0x3E ∷ m) n refl (tail_same 0x2D 0x2D (0x2D ∷ 0x3E ∷ m) (0x3E ∷ n) e)

declaration_clash : (m n : List ℕ) → 0x3F ∷ 0x3E ∷ m ≡ 0x3E ∷ n → ⊥
declaration_clash m n e = heads_differ 0x3F 0x3E (0x3E ∷ m) n refl e

pub comment_same : (text m n : List ℕ) → Comment text m → Comment text n → m ≡ n
comment_same text m n p q =
    let Q : List ℕ → Type 0 = λ x. Enclosed 0x2D 0x2D (codes "-->") x m in
    enclosed_same 0x2D 0x2D (0x3E ∷ []) comment_clash q.0 m n (subst Q (literal_same (codes "<!--") text p.0 q.0 p.1 q.1) p.2) q.2

pub declaration_same : (text m n : List ℕ) → Declaration text m → Declaration text n → m ≡ n
declaration_same text m n p q =
    let Q : List ℕ → Type 0 = λ x. Enclosed 0x3F 0x3E (codes "?>") x m in
    enclosed_same 0x3F 0x3E [] declaration_clash q.0 m n (subst Q (literal_same (codes "<?xml") text p.0 q.0 p.1 q.1) p.2) q.2

pub type_behind : (text at : List ℕ) → Literal (codes "<!DOCTYPE") text at → (bytes m rest : List ℕ) → Longest (Byte is_type_byte) bytes at m → DocumentType text rest → m ≡ 0x3E ∷ rest
type_behind text at l bytes m rest longest p =
    let Q : List ℕ → Type 0 = λ x. Many (Byte is_type_byte) bytes x m in
    (longest_same (Byte is_type_byte) (byte_single is_type_byte) bytes p.2 p.0 m (0x3E ∷ rest) (subst Q (literal_same (codes "<!DOCTYPE") text at p.0 l p.1) longest.many) longest.ends
    p.3 (byte_never is_type_byte 0x3E rest refl)).1

pub type_same : (text m n : List ℕ) → DocumentType text m → DocumentType text n → m ≡ n
type_same text m n p q =
    let l : Longest (Byte is_type_byte) p.2 p.0 (0x3E ∷ m) = record { many = p.3; ends = byte_never is_type_byte 0x3E m refl } in
    tail_same 0x3E 0x3E m n (type_behind text p.0 p.1 p.2 (0x3E ∷ m) n l q)

-- what is enclosed with nothing inside, and with one `-`
pub enclosed_here : (first second : ℕ) (end text rest : List ℕ) → Literal end text rest → Enclosed first second end text rest
enclosed_here first second end text rest l = record { inside = []; spelled = l; allowed = tt; free = lacks_nil first second }

pub enclosed_dash : (text rest : List ℕ) → Literal (codes "--->") text rest → Enclosed 0x2D 0x2D (codes "-->") text rest
enclosed_dash text rest l = record { inside = 0x2D ∷ []; spelled = l; allowed = (refl, tt); free = lacks_one 0x2D 0x2D 0x2D }

-- where two `-` stand and no end of a comment
pub comment_stops : (text : List ℕ) → (back : List ℕ) → Literal (codes "--") text back → NoLiteral (codes "-->") text → NoLiteral (codes "--->") text → (rest : List ℕ) →
    Enclosed 0x2D 0x2D (codes "-->") text rest → ⊥
comment_stops text back l none more rest p = here p.inside p.spelled p.free
  where
    here : (inside : List ℕ) → text ≡ inside ++ (codes "-->" ++ rest) → Lacks 0x2D 0x2D inside → ⊥
    here [] s f = none rest s
    here (a ∷ []) s f =
        let one : a ≡ 0x2D = head_same a 0x2D (codes "-->" ++ rest) (0x2D ∷ back) (sym s ∙ l) in
        more rest (s ∙ ap (λ x. x ∷ (codes "-->" ++ rest)) one)
    here (a ∷ b ∷ inside) s f =
        let e : a ∷ b ∷ (inside ++ (codes "-->" ++ rest)) ≡ 0x2D ∷ 0x2D ∷ back = sym s ∙ l in
        let one : a ≡ 0x2D = head_same a 0x2D (b ∷ (inside ++ (codes "-->" ++ rest))) (0x2D ∷ back) e in
        let two : b ≡ 0x2D = head_same b 0x2D (inside ++ (codes "-->" ++ rest)) back (tail_same a 0x2D (b ∷ (inside ++ (codes "-->" ++ rest))) (0x2D ∷ back) e) in
        f [] inside (λ k. one k ∷ two k ∷ inside)

-- where no byte stands that may, only the end itself encloses
never_allowed : (first second : ℕ) (end text : List ℕ) → NoLiteral end text → Never (Byte is_allowed) text → (rest : List ℕ) → Enclosed first second end text rest → ⊥
never_allowed first second end text none never rest p = here p.inside p.spelled p.allowed
  where
    here : (inside : List ℕ) → text ≡ inside ++ (end ++ rest) → AllByRecursion (λ d. IsTrue (is_allowed d)) inside → ⊥
    here [] s a = none rest s
    here (d ∷ inside) s a = never d (inside ++ (end ++ rest)) (s, a.0)

pub comment_never : (text at m : List ℕ) → Literal (codes "<!--") text at → SameEnclosed 0x2D 0x2D at m → ((rest : List ℕ) × Literal (codes "--") m rest) ⊎ Never (Byte is_allowed) m →
    NoLiteral (codes "-->") m → NoLiteral (codes "--->") m → NeverTo Comment text
comment_never text at m l same stops none more rest p =
    let Q : List ℕ → Type 0 = λ x. Enclosed 0x2D 0x2D (codes "-->") x rest in
    let here : Enclosed 0x2D 0x2D (codes "-->") m rest = (same (0x3E ∷ []) rest).0 (subst Q (literal_same (codes "<!--") text p.0 at p.1 l) p.2) in
    elim stops [ inl pair ↦ comment_stops m pair.0 pair.1 none more rest here | inr never ↦ never_allowed 0x2D 0x2D (codes "-->") m none never rest here ]

pub comment_ends : (text at m new : List ℕ) → Literal (codes "<!--") text at → SameEnclosed 0x2D 0x2D at m → Literal (codes "--->") m new → Comment text new
comment_ends text at m new l same e = (at, l, (same (0x3E ∷ []) new).1 (enclosed_dash m new e))

pub declaration_never : (text at m : List ℕ) → Literal (codes "<?xml") text at → SameEnclosed 0x3F 0x3E at m → ((rest : List ℕ) × Literal (codes "?>") m rest) ⊎ Never (Byte is_allowed) m →
    NoLiteral (codes "?>") m → NeverTo Declaration text
declaration_never text at m l same stops none rest p =
    let Q : List ℕ → Type 0 = λ x. Enclosed 0x3F 0x3E (codes "?>") x rest in
    let here : Enclosed 0x3F 0x3E (codes "?>") m rest = (same [] rest).0 (subst Q (literal_same (codes "<?xml") text p.0 at p.1 l) p.2) in
    elim stops [ inl pair ↦ none pair.0 pair.1 | inr never ↦ never_allowed 0x3F 0x3E (codes "?>") m none never rest here ]
