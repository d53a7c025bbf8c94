-- Names that are found among declarations.
use Rattle.std.proofs.Common.{◌≡◌, ℕ, ◌<◌, ◌≤◌, Bool, true, false, cond, ltb, List, [], ◌∷◌, Option, Some, None, refl, sym, ap, ◌∙◌, length, arith}
use Rattle.std.specs.Prelude.{map, ◌||◌, position}
use Rattle.std.specs.Option.{is_some}
use Rattle.std.specs.List.{list_any, position_or_len}
use Rattle.std.specs.Str.{bytes_eq}
use Rattle.std.proofs.lemmas.Bool.Decides.{nat_tests}
use Rattle.std.proofs.lemmas.List.Folds.{list_any_none, list_any_at}
use Rattle.std.proofs.lemmas.List.Sums.{fails_before_first, passes_at_first}
use Rattle.nif_schema.specs.Schema.{Schema, find}
use Rattle.nif_attributes.specs.Attributes.{Text}

list_any-map : {X Y : Type 0} (p : Y → Bool) (f : X → Y) (xs : List X) → list_any p (map f xs) ≡ list_any (λ x. p (f x)) xs
list_any-map p f [] = refl
list_any-map p f (x ∷ xs) = ap (λ b. p (f x) || b) (list_any-map p f xs)

any-none : {X : Type 0} (p : X → Bool) (xs : List X) → position p xs ≡ None → list_any p xs ≡ false
any-none p xs e = by (ltb (position_or_len p xs) (length xs)) refl
  where
    by : (b : Bool) → ltb (position_or_len p xs) (length xs) ≡ b → list_any p xs ≡ false
    by true t = let some : position p xs ≡ Some (position_or_len p xs) = ap (λ b. cond b (Some (position_or_len p xs)) None) t in absurd (cc)
    by false t =
        let all : length xs ≤ position_or_len p xs = grind (arith, nat_tests) in
        list_any_none p xs (λ k d h. fails_before_first p xs k d (omega (arith, h, all)))

any-some : {X : Type 0} (p : X → Bool) (xs : List X) (n : ℕ) → position p xs ≡ Some n → list_any p xs ≡ true
any-some p [] n e = absurd (cc)
any-some p (x ∷ xs) n e = by (ltb (position_or_len p (x ∷ xs)) (length (x ∷ xs))) refl
  where
    by : (b : Bool) → ltb (position_or_len p (x ∷ xs)) (length (x ∷ xs)) ≡ b → list_any p (x ∷ xs) ≡ true
    by true t =
        let less : position_or_len p (x ∷ xs) < length (x ∷ xs) = grind (arith, nat_tests) in
        list_any_at p (x ∷ xs) (position_or_len p (x ∷ xs)) x less (passes_at_first p (x ∷ xs) x less)
    by false t =
        let none : position p (x ∷ xs) ≡ None = ap (λ b. cond b (Some (position_or_len p (x ∷ xs))) None) t in
        absurd (cc)

-- A name is declared exactly where it is found.
pub found-some : (schema : Schema) (name : Text) (n : ℕ) → find schema name ≡ Some n → list_any (bytes_eq name) (map (λ d. d.name) schema) ≡ true
found-some schema name n e = list_any-map (bytes_eq name) (λ d. d.name) schema ∙ any-some (λ d. bytes_eq name d.name) schema n e

pub found-none : (schema : Schema) (name : Text) → find schema name ≡ None → list_any (bytes_eq name) (map (λ d. d.name) schema) ≡ false
found-none schema name e = list_any-map (bytes_eq name) (λ d. d.name) schema ∙ any-none (λ d. bytes_eq name d.name) schema e

found-by : (schema : Schema) (name : Text) (o : Option ℕ) (b : Bool) → find schema name ≡ o → is_some o ≡ b → list_any (bytes_eq name) (map (λ d. d.name) schema) ≡ b
found-by schema name None b e h = found-none schema name e ∙ h
found-by schema name (Some n) b e h = found-some schema name n e ∙ h

-- the same of an answer
pub found : (schema : Schema) (name text : Text) (o : Option ℕ) (b : Bool) → o ≡ find schema text → text ≡ name → is_some o ≡ b
    → list_any (bytes_eq name) (map (λ d. d.name) schema) ≡ b
found schema name text o b e same h = found-by schema name o b (ap (find schema) (sym same) ∙ sym e) h
