-- Names that differ, and a set of them.
use Rattle.std.proofs.Common.{ℕ, ◌+◌, ◌<◌, ◌⊎◌, inl, inr, map, take, drop, length, get_or, append_assoc, ◌≡◌, Bool, true, false, cond, not, List, [], ◌∷◌, ◌++◌, refl, sym, ◌∙◌, ap, subst, Bor}
use Rattle.std.specs.List.{AllByRecursion, list_any}
use Rattle.std.specs.Cmp.Lexicographic.{slice_cmp}
use Rattle.std.specs.Cmp.Lexicographic.{same_text, other_text}
use Rattle.std.proofs.lemmas.Map.Text.{is_eq-slice_cmp}
use Rattle.std.proofs.lemmas.List.{take_more, take-append-drop}
use Rattle.std.specs.Ordering.{nat_cmp, is_eq}
use Rattle.nif_text.specs.Elements.{AllDiffer}

-- whether a name is among these
abbrev pub among : List ℕ → List (List ℕ) → Bool
among x [] = false
among x (n ∷ ns) = cond (is_eq (slice_cmp nat_cmp n x)) true (among x ns)

-- the keys of a set are these names
abbrev pub Holds : List (Bor (List ℕ)) → List (List ℕ) → Type 0
Holds keys names = (q : Bor (List ℕ)) → list_any (λ k. is_eq (slice_cmp nat_cmp q.now k.now)) keys ≡ among q.now names

same_name : (n x : List ℕ) → is_eq (slice_cmp nat_cmp n x) ≡ true → n ≡ x
same_name n x e = same_text n x (sym e ∙ is_eq-slice_cmp n x)

other_name : (n x : List ℕ) → is_eq (slice_cmp nat_cmp n x) ≡ false → n ≡ x → ⊥
other_name n x e = other_text n x (sym e ∙ is_eq-slice_cmp n x)

both_false : (a b : Bool) → cond a true b ≡ false → (a ≡ false) × (b ≡ false)
both_false true b e = absurd (cc e)
both_false false b e = (refl, e)

one_true : (a b : Bool) → cond a true b ≡ true → (a ≡ true) ⊎ (b ≡ true)
one_true true b e = inl refl
one_true false b e = inr e

or_last : (a b c : Bool) → cond a true (cond b true c) ≡ cond b true (cond a true c)
or_last true true c = refl
or_last true false c = refl
or_last false true c = refl
or_last false false c = refl

all_more : (P : List ℕ → Type 0) (ns : List (List ℕ)) (x : List ℕ) → AllByRecursion P ns → P x → AllByRecursion P (ns ++ x ∷ [])
all_more P [] x a p = (p, tt)
all_more P (n ∷ ns) x a p = (a.0, all_more P ns x a.1 p)

all_at : (P : List ℕ → Type 0) (ns : List (List ℕ)) (x : List ℕ) (rest : List (List ℕ)) → AllByRecursion P (ns ++ x ∷ rest) → P x
all_at P [] x rest a = a.0
all_at P (n ∷ ns) x rest a = all_at P ns x rest a.1

differ_more : (ns : List (List ℕ)) (x : List ℕ) → AllDiffer ns → among x ns ≡ false → AllDiffer (ns ++ x ∷ [])
differ_more [] x d e = (tt, tt)
differ_more (n ∷ ns) x d e =
    let both : (is_eq (slice_cmp nat_cmp n x) ≡ false) × (among x ns ≡ false) = both_false (is_eq (slice_cmp nat_cmp n x)) (among x ns) e in
    (all_more (λ other. n ≡ other → ⊥) ns x d.0 (other_name n x both.0), differ_more ns x d.1 both.1)

differ_not : (ns : List (List ℕ)) (x : List ℕ) (rest : List (List ℕ)) → among x ns ≡ true → AllDiffer (ns ++ x ∷ rest) → ⊥
differ_not [] x rest e d = cc e
differ_not (n ∷ ns) x rest e d =
    elim (one_true (is_eq (slice_cmp nat_cmp n x)) (among x ns) e) [
      | inl here ↦ all_at (λ other. n ≡ other → ⊥) ns x rest d.0 (same_name n x here)
      | inr later ↦ differ_not ns x rest later d.1
    ]

among_more : (q : List ℕ) (ns : List (List ℕ)) (x : List ℕ) → among q (ns ++ x ∷ []) ≡ cond (is_eq (slice_cmp nat_cmp x q)) true (among q ns)
among_more q [] x = refl
among_more q (n ∷ ns) x =
    ap (λ b. cond (is_eq (slice_cmp nat_cmp n q)) true b) (among_more q ns x) ∙ or_last (is_eq (slice_cmp nat_cmp n q)) (is_eq (slice_cmp nat_cmp x q)) (among q ns)

names_joined : (xs ys : List (List ℕ × List ℕ)) → map (λ p. p.0) (xs ++ ys) ≡ map (λ p. p.0) xs ++ map (λ p. p.0) ys
names_joined [] ys = refl
names_joined (x ∷ xs) ys = ap (λ l. x.0 ∷ l) (names_joined xs ys)

module _ (attrs : List (List ℕ × List ℕ)) (place : ℕ) (within : place < length attrs) (pair : List ℕ × List ℕ) (at : pair ≡ get_or attrs place ([], [])) where
  pub names_more : map (λ p. p.0) (take (place + 1) attrs) ≡ map (λ p. p.0) (take place attrs) ++ pair.0 ∷ []
  names_more =
      ap (map (λ p. p.0)) (take_more attrs place ([], []) within ∙ ap (λ x. take place attrs ++ x ∷ []) (sym at)) ∙ names_joined (take place attrs) (pair ∷ [])

  pub names_whole : map (λ p. p.0) attrs ≡ map (λ p. p.0) (take place attrs) ++ pair.0 ∷ map (λ p. p.0) (drop (place + 1) attrs)
  names_whole =
      ap (map (λ p. p.0)) (sym (take-append-drop (place + 1) attrs)) ∙ names_joined (take (place + 1) attrs) (drop (place + 1) attrs)
      ∙ ap (λ l. l ++ map (λ p. p.0) (drop (place + 1) attrs)) names_more ∙ append_assoc (map (λ p. p.0) (take place attrs)) (pair.0 ∷ []) (map (λ p. p.0) (drop (place + 1) attrs))

  pub differ_next : AllDiffer (map (λ p. p.0) (take place attrs)) → among pair.0 (map (λ p. p.0) (take place attrs)) ≡ false →
      AllDiffer (map (λ p. p.0) (take (place + 1) attrs))
  differ_next d e = let Q : List (List ℕ) → Type 0 = λ l. AllDiffer l in subst Q (sym names_more) (differ_more (map (λ p. p.0) (take place attrs)) pair.0 d e)

  pub differ_never : among pair.0 (map (λ p. p.0) (take place attrs)) ≡ true → AllDiffer (map (λ p. p.0) attrs) → ⊥
  differ_never e d =
      let Q : List (List ℕ) → Type 0 = λ l. AllDiffer l in
      differ_not (map (λ p. p.0) (take place attrs)) pair.0 (map (λ p. p.0) (drop (place + 1) attrs)) e (subst Q names_whole d)

  pub holds_next : (keys more : List (Bor (List ℕ))) (key : Bor (List ℕ)) → key.now ≡ pair.0 → Holds keys (map (λ p. p.0) (take place attrs)) →
      ((q : Bor (List ℕ)) → list_any (λ k. is_eq (slice_cmp nat_cmp q.now k.now)) more
      ≡ cond (is_eq (slice_cmp nat_cmp key.now q.now)) true (list_any (λ k. is_eq (slice_cmp nat_cmp q.now k.now)) keys)) →
      Holds more (map (λ p. p.0) (take (place + 1) attrs))
  holds_next keys more key same h updates q =
      updates q ∙ ap (λ b. cond (is_eq (slice_cmp nat_cmp key.now q.now)) true b) (h q)
      ∙ ap (λ n. cond (is_eq (slice_cmp nat_cmp n q.now)) true (among q.now (map (λ p. p.0) (take place attrs)))) same
      ∙ sym (among_more q.now (map (λ p. p.0) (take place attrs)) pair.0) ∙ ap (λ l. among q.now l) (sym names_more)

not_true : (b : Bool) → true ≡ not b → b ≡ false
not_true true e = cc e
not_true false e = refl

not_false : (b : Bool) → false ≡ not b → b ≡ true
not_false true e = refl
not_false false e = absurd (cc e)

-- what a set told of a new key
pub absent : (keys : List (Bor (List ℕ))) (names : List (List ℕ)) (key : Bor (List ℕ)) (x : List ℕ) (added : Bool) → key.now ≡ x → Holds keys names →
    added ≡ not (list_any (λ k. is_eq (slice_cmp nat_cmp key.now k.now)) keys) → added ≡ true → among x names ≡ false
absent keys names key x added same h told t =
    ap (λ n. among n names) (sym same) ∙ sym (h key) ∙ not_true (list_any (λ k. is_eq (slice_cmp nat_cmp key.now k.now)) keys) (sym t ∙ told)

pub present : (keys : List (Bor (List ℕ))) (names : List (List ℕ)) (key : Bor (List ℕ)) (x : List ℕ) (added : Bool) → key.now ≡ x → Holds keys names →
    added ≡ not (list_any (λ k. is_eq (slice_cmp nat_cmp key.now k.now)) keys) → added ≡ false → among x names ≡ true
present keys names key x added same h told t =
    ap (λ n. among n names) (sym same) ∙ sym (h key) ∙ not_false (list_any (λ k. is_eq (slice_cmp nat_cmp key.now k.now)) keys) (sym t ∙ told)
