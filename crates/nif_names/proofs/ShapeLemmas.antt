-- Stacks of shapes.
use Rattle.std.proofs.Common.{◌≡◌, ℕ, ◌+◌, ◌-◌, Bool, true, false, cond, not, List, [], ◌∷◌, ◌++◌, length, flat_map, take, get_or, count_by, Contains, Option, Some, None, is_none, is_some, inl, inr, refl, sym, ap, subst, ◌∙◌, arith}
use Rattle.std.specs.Option.{option_to_list}
use Rattle.std.proofs.lemmas.List.{append-nil, append_assoc, map-append, length-append}
use Rattle.std.proofs.lemmas.Grind.{flat_map-append}
use Rattle.std.proofs.Math.Seq.{take-append_seam}
use Rattle.std.proofs.lemmas.List.Sums.{sum_by-append}
use Rattle.std.proofs.lemmas.List.Elements.{Contains-append_left, Contains-append_right, Contains-append_cases}
use mir.Val.{bool_byte}
use Rattle.nif_names.specs.Shapes.{inners}
use Rattle.nif_names.specs.Kept.{shapes_of, new_inner, IsCovered, IsStack}
use Rattle.nif_names.specs.declared.shapes.Shape.{Shape}
use Rattle.nif_names.specs.declared.shapes.Entry.{Entry}

-- a `bool` as a number
pub as_number : (b : Bool) → bool_byte b ≡ cond b 1 0
as_number true = refl
as_number false = refl

pub none_as_number : (o : Option ℕ) (b : Bool) → is_some o ≡ not b → bool_byte b ≡ cond (is_none o) 1 0
none_as_number None true e = refl
none_as_number None false e = absurd (cc)
none_as_number (Some x) true e = absurd (cc)
none_as_number (Some x) false e = refl

-- one more element
pub count_by-push : {X : Type 0} (p : X → Bool) (xs : List X) (x : X) → count_by p (xs ++ x ∷ []) ≡ count_by p xs + cond (p x) 1 0
count_by-push p xs x = let h = sum_by-append (λ y. cond (p y) 1 0) xs (x ∷ []) in omega (arith, h)

pub only_one : (x k : ℕ) → Contains (x ∷ []) k → x ≡ k
only_one x k h = let z : h.0 ≡ 0 = omega (arith, h.1) in sym (ap (λ i. get_or (x ∷ []) i k) z) ∙ h.2

-- the inner types of new entries are those of all
module _ (k : ℕ) where
  pub inners-new : (before : List ℕ) (entries : List Entry) → IsCovered before entries
      → Contains (inners (shapes_of entries)) k → Contains (before ++ flat_map new_inner entries) k
  inners-new before [] covered is = absurd (omega (arith, is.1))
  inners-new before (e ∷ es) covered is =
      let rest = append_assoc before (new_inner e) (flat_map new_inner es) in
      elim (Contains-append_cases (option_to_list e.shape.inner) (inners (shapes_of es)) k is) [
        | inl here ↦ subst (λ l. Contains l k) rest (Contains-append_left (before ++ new_inner e) (flat_map new_inner es) k (own e.shape.inner refl here))
        | inr later ↦ subst (λ l. Contains l k) rest (inners-new (before ++ new_inner e) es covered.1 later)
      ]
    where
      own : (o : Option ℕ) → e.shape.inner ≡ o → Contains (option_to_list o) k → Contains (before ++ new_inner e) k
      own None is_o h = absurd (omega (arith, h.1))
      own (Some x) is_o h = covered.0 k (is_o ∙ ap Some (only_one x k h))

  pub new-inners : (entries : List Entry) → Contains (flat_map new_inner entries) k → Contains (inners (shapes_of entries)) k
  new-inners [] is = absurd (omega (arith, is.1))
  new-inners (e ∷ es) is =
      elim (Contains-append_cases (new_inner e) (flat_map new_inner es) k is) [
        | inl here ↦ Contains-append_left (option_to_list e.shape.inner) (inners (shapes_of es)) k (own e.is_new here)
        | inr later ↦ Contains-append_right (option_to_list e.shape.inner) (inners (shapes_of es)) k (new-inners es later)
      ]
    where
      own : (b : Bool) → Contains (cond b (option_to_list e.shape.inner) []) k → Contains (option_to_list e.shape.inner) k
      own true h = h
      own false h = absurd (omega (arith, h.1))

pub IsCovered-push : (before : List ℕ) (entries : List Entry) (e : Entry) → IsCovered before entries
    → ((k : ℕ) → e.shape.inner ≡ Some k → Contains (before ++ flat_map new_inner (entries ++ e ∷ [])) k) → IsCovered before (entries ++ e ∷ [])
IsCovered-push before [] e covered own = ((λ k is. subst (λ l. Contains (before ++ l) k) (append-nil (new_inner e)) (own k is)), tt)
IsCovered-push before (x ∷ xs) e covered own =
    (covered.0, IsCovered-push (before ++ new_inner x) xs e covered.1 (λ k is. subst (λ l. Contains l k) (sym (append_assoc before (new_inner x) (flat_map new_inner (xs ++ e ∷ [])))) (own k is)))

pub IsCovered-pop : (before : List ℕ) (entries : List Entry) (e : Entry) → IsCovered before (entries ++ e ∷ []) → IsCovered before entries
IsCovered-pop before [] e covered = tt
IsCovered-pop before (x ∷ xs) e covered = (covered.0, IsCovered-pop (before ++ new_inner x) xs e covered.1)

module _ (entries : List Entry) (e : Entry) where
  grown : (p : Shape → Bool) → count_by p (shapes_of (entries ++ e ∷ [])) ≡ count_by p (shapes_of entries) + cond (p e.shape) 1 0
  grown p = ap (count_by p) (map-append (λ x. x.shape) entries (e ∷ [])) ∙ count_by-push p (shapes_of entries) e.shape

  news : flat_map new_inner (entries ++ e ∷ []) ≡ flat_map new_inner entries ++ new_inner e
  news = flat_map-append new_inner entries (e ∷ []) ∙ ap (λ l. flat_map new_inner entries ++ l) (append-nil (new_inner e))

  -- what a stack keeps with one more entry
  pub IsStack-push : (inners : List ℕ) (a b c a1 b1 c1 : ℕ) → IsStack entries inners a b c
      → ((k : ℕ) → e.shape.inner ≡ Some k → Contains (flat_map new_inner (entries ++ e ∷ [])) k)
      → a1 ≡ a + cond (not e.shape.number) 1 0 → b1 ≡ b + cond (not e.shape.row) 1 0 → c1 ≡ c + cond (is_none e.shape.inner) 1 0
      → IsStack (entries ++ e ∷ []) (inners ++ new_inner e) a1 b1 c1
  IsStack-push inners a b c a1 b1 c1 is own numbers rows inner = record {
    numbers = let h = grown (λ s. not s.number) in let i = is.numbers in omega (arith, h, i);
    rows = let h = grown (λ s. not s.row) in let i = is.rows in omega (arith, h, i);
    inner = let h = grown (λ s. is_none s.inner) in let i = is.inner in omega (arith, h, i);
    new = ap (λ l. l ++ new_inner e) is.new ∙ sym news;
    covered = IsCovered-push [] entries e is.covered own;
  }

  -- and with one less
  pub IsStack-pop : (inners less : List ℕ) (a b c a1 b1 c1 : ℕ) → IsStack (entries ++ e ∷ []) inners a b c
      → less ≡ take (length inners - length (new_inner e)) inners
      → a1 ≡ a - cond (not e.shape.number) 1 0 → b1 ≡ b - cond (not e.shape.row) 1 0 → c1 ≡ c - cond (is_none e.shape.inner) 1 0
      → IsStack entries less a1 b1 c1
  IsStack-pop inners less a b c a1 b1 c1 is cut numbers rows inner =
      let fewer = flat_map new_inner entries in
      let whole : inners ≡ fewer ++ new_inner e = is.new ∙ news in
      let left : length inners - length (new_inner e) ≡ length fewer =
      let h = ap length whole in let g = length-append fewer (new_inner e) in omega (arith, h, g) in
      record {
        numbers = let h = grown (λ s. not s.number) in let i = is.numbers in omega (arith, h, i);
        rows = let h = grown (λ s. not s.row) in let i = is.rows in omega (arith, h, i);
        inner = let h = grown (λ s. is_none s.inner) in let i = is.inner in omega (arith, h, i);
        new = cut ∙ ap (λ n. take n inners) left ∙ ap (take (length fewer)) whole ∙ take-append_seam fewer (new_inner e);
        covered = IsCovered-pop [] entries e is.covered;
      }
