-- The walk of parents.
use Rattle.std.proofs.Common.{◌≡◌, ℕ, zero, suc, ◌+◌, ◌-◌, ◌<◌, ◌≤◌, Bool, true, false, ◌&&◌, if◌then◌else◌, List, [], ◌∷◌, length, Option, Some, None, option_and_then, slice_get, is_some, is_none, refl, sym, ap, ◌∙◌, arith}
use Rattle.std.specs.Option.{option_map_or}
use Rattle.nif_schema.specs.Declaration.{Name, Declaration, inherited, is_block}
use Rattle.nif_schema.specs.Schema.{Schema, parent, ancestor, find, find_block, has_block}
use Rattle.nif_schema.specs.Reasons.{lacks_parent}

module _ (S : Schema) where
  -- steps in two parts
  pub ancestor-add : (a b n : ℕ) → ancestor S (a + b) n ≡ option_and_then (ancestor S b) (ancestor S a n)
  ancestor-add a zero n = let z : a + 0 ≡ a = omega arith in ap (λ m. ancestor S m n) z ∙ sym (same (ancestor S a n))
    where
      same : (o : Option ℕ) → option_and_then (ancestor S zero) o ≡ o
      same None = refl
      same (Some x) = refl
  ancestor-add a (suc b) n =
      let z : a + suc b ≡ suc (a + b) = omega arith in
      ap (λ m. ancestor S m n) z ∙ ap (option_and_then (parent S)) (ancestor-add a b n) ∙ shift (ancestor S a n)
    where
      shift : (o : Option ℕ) → option_and_then (parent S) (option_and_then (ancestor S b) o) ≡ option_and_then (ancestor S (suc b)) o
      shift None = refl
      shift (Some x) = refl

  -- the first step apart
  pub ancestor-up : (a n : ℕ) → ancestor S (suc a) n ≡ option_and_then (ancestor S a) (parent S n)
  ancestor-up a n = let z : suc a ≡ 1 + a = omega arith in ap (λ m. ancestor S m n) z ∙ ancestor-add 1 a n

  -- behind an end there is nothing
  pub ancestor-past : (a b n : ℕ) → a ≤ b → ancestor S a n ≡ None → ancestor S b n ≡ None
  ancestor-past a b n le none =
      let z : b ≡ a + (b - a) = omega (arith, le) in
      ap (λ m. ancestor S m n) z ∙ ancestor-add a (b - a) n ∙ ap (option_and_then (ancestor S (b - a))) none

  -- a parent is a declaration
  parent-found : (n p : ℕ) → parent S n ≡ Some p → has_block S p ≡ true
  unfolding parent
  parent-found n p e = by (option_and_then (λ d. inherited d.what) (slice_get S n)) e
    where
      found : (o : Option ℕ) → option_and_then (λ number. if has_block S number then Some number else None) o ≡ Some p → has_block S p ≡ true
      found None e = absurd (cc)
      found (Some q) e = blocks (has_block S q) refl e
        where
          blocks : (b : Bool) → has_block S q ≡ b → (if b then Some q else None) ≡ Some p → has_block S p ≡ true
          blocks true is e = let same : q ≡ p = cc in ap (has_block S) (sym same) ∙ is
          blocks false is e = absurd (cc)

      by : (o : Option Name) → option_and_then (find_block S) o ≡ Some p → has_block S p ≡ true
      by None e = absurd (cc)
      by (Some name) e = found (find S name) e

  pub parent-within : (n p : ℕ) → parent S n ≡ Some p → p < length S
  parent-within n p e = there S p (parent-found n p e)
    where
      there : (ds : List Declaration) (k : ℕ) → option_map_or (λ d. is_block d.what) (slice_get ds k) false ≡ true → k < length ds
      there [] k e = absurd (cc)
      there (d ∷ ds) zero e = omega arith
      there (d ∷ ds) (suc k) e = let h = there ds k e in omega (arith, h)

  -- what a parent says of the one who inherits
  pub lacks-none : (n : ℕ) (d : Declaration) → slice_get S n ≡ Some d → inherited d.what ≡ None → lacks_parent S n ≡ false
  unfolding lacks_parent
  lacks-none n d e none = ap (λ o. is_some (option_and_then (λ x. inherited x.what) o) && is_none (parent S n)) e ∙ ap (λ o. is_some o && is_none (parent S n)) none

  pub lacks-found : (n p : ℕ) → parent S n ≡ Some p → lacks_parent S n ≡ false
  unfolding lacks_parent
  lacks-found n p e = ap (λ o. is_some (option_and_then (λ x. inherited x.what) (slice_get S n)) && is_none o) e ∙ by (is_some (option_and_then (λ x. inherited x.what) (slice_get S n)))
    where
      by : (b : Bool) → (b && false) ≡ false
      by true = refl
      by false = refl

  pub lacks-lost : (n : ℕ) (d : Declaration) (name : Name) → slice_get S n ≡ Some d → inherited d.what ≡ Some name → parent S n ≡ None → lacks_parent S n ≡ true
  unfolding lacks_parent
  lacks-lost n d name e named none =
      ap (λ o. is_some (option_and_then (λ x. inherited x.what) o) && is_none (parent S n)) e ∙ ap (λ o. is_some o && is_none (parent S n)) named ∙ ap is_none none
