-- Spellings one behind another, read in one way only.
use Rattle.std.proofs.Common.{ℕ, ◌≡◌, ◌+◌, ◌≤◌, List, [], ◌∷◌, ◌++◌, length, refl, sym, ◌∙◌, ap, subst, arith}
use Rattle.nif_text.specs.Parts.{Many}
use Rattle.nif_text.specs.Reading.{Never}

-- no text is spelled by P in two ways
abbrev pub Single : {I : Type 0} → (I → List ℕ → List ℕ → Type 0) → Type 0
Single {I} P = (i j : I) (text m n : List ℕ) → P i text m → P j text n → (i ≡ j) × (m ≡ n)

module _ {I : Type 0} (P : I → List ℕ → List ℕ → Type 0) where
  pub many_more : (is : List I) (i : I) (text m n : List ℕ) → Many P is text m → P i m n → Many P (is ++ i ∷ []) text n
  many_more [] i text m n r p = let Q : List ℕ → Type 0 = λ x. P i x n in (n, subst Q (sym r) p, refl)
  many_more (j ∷ is) i text m n r p = (r.0, r.1, many_more is i r.0 m n r.2 p)

  pub many_joined : (is js : List I) (text m n : List ℕ) → Many P is text m → Many P js m n → Many P (is ++ js) text n
  many_joined [] js text m n r s = let Q : List ℕ → Type 0 = λ x. Many P js x n in subst Q (sym r) s
  many_joined (i ∷ is) js text m n r s = (r.0, r.1, many_joined is js r.0 m n r.2 s)

  -- a longest run begins with each other run
  pub longest_begins : Single P → (is js : List I) (text m n : List ℕ) → Many P is text m → Never P m → Many P js text n →
      (more : List I) × (is ≡ js ++ more) × Many P more n m
  longest_begins single is [] text m n r e s = let Q : List ℕ → Type 0 = λ x. Many P is x m in (is, refl, subst Q s r)
  longest_begins single [] (j ∷ js) text m n r e s = let Q : List ℕ → Type 0 = λ x. P j x s.0 in absurd (e j s.0 (subst Q r s.1))
  longest_begins single (i ∷ is) (j ∷ js) text m n r e s =
      let same : (i ≡ j) × (r.0 ≡ s.0) = single i j text r.0 s.0 r.1 s.1 in
      let Q : List ℕ → Type 0 = λ x. Many P is x m in
      let rest : (more : List I) × (is ≡ js ++ more) × Many P more n m = longest_begins single is js s.0 m n (subst Q same.1 r.2) e s.2 in
      (rest.0, (λ k. same.0 k ∷ rest.1 k), rest.2)

  -- and there is one longest run
  pub longest_same : Single P → (is js : List I) (text m n : List ℕ) → Many P is text m → Never P m → Many P js text n → Never P n →
      (is ≡ js) × (m ≡ n)
  longest_same single [] [] text m n r e s f = (refl, sym r ∙ s)
  longest_same single [] (j ∷ js) text m n r e s f = let Q : List ℕ → Type 0 = λ x. P j x s.0 in absurd (e j s.0 (subst Q r s.1))
  longest_same single (i ∷ is) [] text m n r e s f = let Q : List ℕ → Type 0 = λ x. P i x r.0 in absurd (f i r.0 (subst Q s r.1))
  longest_same single (i ∷ is) (j ∷ js) text m n r e s f =
      let same : (i ≡ j) × (r.0 ≡ s.0) = single i j text r.0 s.0 r.1 s.1 in
      let Q : List ℕ → Type 0 = λ x. Many P is x m in
      let rest : (is ≡ js) × (m ≡ n) = longest_same single is js s.0 m n (subst Q same.1 r.2) e s.2 f in
      ((λ k. same.0 k ∷ rest.0 k), rest.1)

  -- each item takes a byte at least
  pub many_length : ((i : I) (text m : List ℕ) → P i text m → length m + 1 ≤ length text) → (is : List I) (text m : List ℕ) → Many P is text m →
      length is + length m ≤ length text
  many_length each [] text m r = omega (arith, ap length r)
  many_length each (i ∷ is) text m r = omega (arith, each i text r.0 r.1, many_length each is r.0 m r.2)
