-- Fields from a place on.
use Rattle.std.proofs.Common.{◌≡◌, ℕ, zero, suc, ◌+◌, ◌≤◌, ◌&&◌, ◌||◌, not, Bool, true, false, if◌then◌else◌, List, [], ◌∷◌, length, map, drop, Some, slice_get, codes, refl, ap, ◌∙◌, arith}
use Rattle.std.specs.List.{list_any, list_all}
use Rattle.nif_schema.specs.Declaration.{Name, Field, field}
use Rattle.nif_schema.specs.Schema.{Schema}
use Rattle.nif_schema.specs.declared.fields.Field as kept_field
use Rattle.nif_schema.specs.Roles.{is_named, of_name, before_name, is_after_version, is_never, are_sized, is_independent, has_independent_fields}
use Rattle.nif_roles.specs.declared.fields.Named.{Named}
use Rattle.nif_roles.specs.declared.fields.Named.TheVariants as named
use Rattle.nif_roles.specs.Named.{AreNamed}

drop-at : {A : Type 0} (xs : List A) (n : ℕ) (x : A) → slice_get xs n ≡ Some x → drop n xs ≡ x ∷ drop (n + 1) xs
drop-at [] n x e = absurd (cc)
drop-at (y ∷ ys) zero x e = cc
drop-at (y ∷ ys) (suc n) x e = let z : suc n + 1 ≡ suc (n + 1) = omega arith in rw z (drop-at ys n x e)

drop_past : {A : Type 0} (xs : List A) (n : ℕ) → length xs ≤ n → drop n xs ≡ []
drop_past [] zero le = refl
drop_past [] (suc n) le = refl
drop_past (x ∷ xs) zero le = absurd (omega arith)
drop_past (x ∷ xs) (suc n) le = drop_past xs n (omega arith)

pub drop-map : {A B : Type 0} (f : A → B) (n : ℕ) (xs : List A) → drop n (map f xs) ≡ map f (drop n xs)
drop-map f zero xs = refl
drop-map f (suc n) [] = refl
drop-map f (suc n) (x ∷ xs) = drop-map f n xs

abbrev pub left : List kept_field.Field → ℕ → List Field
left fields place = map field (drop place fields)

pub left-at : (fields : List kept_field.Field) (place : ℕ) (f : kept_field.Field) → slice_get fields place ≡ Some f → left fields place ≡ field f ∷ left fields (place + 1)
left-at fields place f e = ap (map field) (drop-at fields place f e)

pub left_past : (fields : List kept_field.Field) (place : ℕ) → length fields ≤ place → left fields place ≡ []
left_past fields place le = ap (map field) (drop_past fields place le)

pub first_of : (fields : List kept_field.Field) (f : kept_field.Field) → slice_get fields 0 ≡ Some f → slice_get (map field fields) 0 ≡ Some (field f)
first_of [] f e = absurd (cc)
first_of (g ∷ fields) f e = cc

-- lists of two fields
pub not_two : (schema : Schema) (fields : List kept_field.Field) → (length fields ≡ 2 → ⊥) → are_sized schema (map field fields) ≡ false
not_two schema [] other = refl
not_two schema (f ∷ []) other = refl
not_two schema (f ∷ g ∷ []) other = absurd (other refl)
not_two schema (f ∷ g ∷ h ∷ fields) other = refl

pub two : (fields : List kept_field.Field) (f g : kept_field.Field) → length fields ≡ 2 → slice_get fields 0 ≡ Some f → slice_get fields 1 ≡ Some g → fields ≡ f ∷ g ∷ []
two [] f g n e e' = absurd (cc)
two (a ∷ []) f g n e e' = absurd (cc)
two (a ∷ b ∷ []) f g n e e' = cc
two (a ∷ b ∷ c ∷ fields) f g n e e' = absurd (omega arith)

-- ---- one field more

pub any-at : (name : Name) (fields : List kept_field.Field) (place : ℕ) (f : kept_field.Field) (b : Bool) → slice_get fields place ≡ Some f → is_named name (field f) ≡ b
    → list_any (is_named name) (left fields place) ≡ b || list_any (is_named name) (left fields (place + 1))
any-at name fields place f b at is = ap (list_any (is_named name)) (left-at fields place f at) ∙ ap (λ c. c || list_any (is_named name) (left fields (place + 1))) is

-- no field before the first of another name
pub after-at : (name : Name) (fields : List kept_field.Field) (place : ℕ) (f : kept_field.Field) (b c : Bool) → slice_get fields place ≡ Some f
    → is_named (codes "Version") (field f) ≡ b → is_named name (field f) ≡ c
    → is_after_version name (left fields place) ≡ (if b then true else not c && is_after_version name (left fields (place + 1)))
unfolding is_after_version
after-at name fields place f b c at version is = ap (λ l. not (list_any (is_named name) (before_name (codes "Version") l))) (left-at fields place f at) ∙ by b c version is
  where
    rest : List Field
    rest = left fields (place + 1)

    by : (b c : Bool) → is_named (codes "Version") (field f) ≡ b → is_named name (field f) ≡ c
        → not (list_any (is_named name) (if is_named (codes "Version") (field f) then [] else field f ∷ before_name (codes "Version") rest))
        ≡ (if b then true else not c && not (list_any (is_named name) (before_name (codes "Version") rest)))
    by true c v n = ap (λ d. not (list_any (is_named name) (if d then [] else field f ∷ before_name (codes "Version") rest))) v
    by false c v n =
        ap (λ d. not (list_any (is_named name) (if d then [] else field f ∷ before_name (codes "Version") rest))) v
        ∙ ap (λ d. not (d || list_any (is_named name) (before_name (codes "Version") rest))) n
        ∙ flip c (list_any (is_named name) (before_name (codes "Version") rest))
      where
        flip : (c d : Bool) → not (c || d) ≡ not c && not d
        flip true d = refl
        flip false d = refl

pub after_past : (name : Name) (fields : List kept_field.Field) (place : ℕ) → length fields ≤ place → is_after_version name (left fields place) ≡ true
unfolding is_after_version
after_past name fields place le = ap (λ l. not (list_any (is_named name) (before_name (codes "Version") l))) (left_past fields place le)

abbrev pub are_never : List Field → Bool
are_never fields = list_all is_never (before_name (codes "Version") fields)

pub never-at : (fields : List kept_field.Field) (place : ℕ) (f : kept_field.Field) (b c : Bool) → slice_get fields place ≡ Some f → is_named (codes "Version") (field f) ≡ b
    → is_never (field f) ≡ c → are_never (left fields place) ≡ (if b then true else c && are_never (left fields (place + 1)))
never-at fields place f b c at version is = ap are_never (left-at fields place f at) ∙ by b version
  where
    rest : List Field
    rest = left fields (place + 1)

    by : (b : Bool) → is_named (codes "Version") (field f) ≡ b
        → list_all is_never (if is_named (codes "Version") (field f) then [] else field f ∷ before_name (codes "Version") rest) ≡ (if b then true else c && are_never rest)
    by true v = ap (λ d. list_all is_never (if d then [] else field f ∷ before_name (codes "Version") rest)) v
    by false v =
        ap (λ d. list_all is_never (if d then [] else field f ∷ before_name (codes "Version") rest)) v
        ∙ ap (λ d. d && are_never rest) is

-- ---- the fields of a name

-- what was found so far, and what is left
abbrev pub IsFound : List Field → Named → List Field → Type 0
IsFound all named.No rest = all ≡ rest
IsFound all (named.One of) rest = all ≡ field of.now ∷ rest
IsFound all named.More rest = ⊥

pub of-at : (name : Name) (fields : List kept_field.Field) (place : ℕ) (f : kept_field.Field) (b : Bool) → slice_get fields place ≡ Some f → is_named name (field f) ≡ b
    → of_name name (left fields place) ≡ (if b then field f ∷ of_name name (left fields (place + 1)) else of_name name (left fields (place + 1)))
unfolding of_name
of-at name fields place f b at is =
    ap (of_name name) (left-at fields place f at)
    ∙ ap (λ c. if c then field f ∷ of_name name (left fields (place + 1)) else of_name name (left fields (place + 1))) is

pub found-other : (all rest more : List Field) (found : Named) → rest ≡ more → IsFound all found rest → IsFound all found more
found-other all rest more named.No e is = is ∙ e
found-other all rest more (named.One of) e is = is ∙ ap (λ l. field of.now ∷ l) e
found-other all rest more named.More e is = is

pub found-end : (all rest : List Field) (found : Named) → rest ≡ [] → IsFound all found rest → AreNamed all found
found-end all rest named.No e is = is ∙ e
found-end all rest (named.One of) e is = is ∙ ap (λ l. field of.now ∷ l) e
found-end all rest named.More e is = absurd is

pub found-more : (all rest more : List Field) (f : Field) (found : Named) → rest ≡ f ∷ more → (found ≡ named.No → ⊥) → IsFound all found rest
    → (f g : Field) × (rest : List Field) × (all ≡ f ∷ g ∷ rest)
found-more all rest more f named.No e other is = absurd (other refl)
found-more all rest more f (named.One of) e other is = (field of.now, f, more, is ∙ ap (λ l. field of.now ∷ l) e)
found-more all rest more f named.More e other is = absurd is

pub of_past : (name : Name) (fields : List kept_field.Field) (place : ℕ) → length fields ≤ place → of_name name (left fields place) ≡ []
unfolding of_name
of_past name fields place le = ap (of_name name) (left_past fields place le)

-- whether the fields from a place on name no count
pub independent-at : (fields : List kept_field.Field) (place : ℕ) (f : kept_field.Field) (b : Bool) → slice_get fields place ≡ Some f → is_never (field f) || is_independent (field f) ≡ b
    → has_independent_fields (left fields place) ≡ b && has_independent_fields (left fields (place + 1))
unfolding has_independent_fields
independent-at fields place f b at is =
    ap has_independent_fields (left-at fields place f at) ∙ ap (λ d. d && has_independent_fields (left fields (place + 1))) is

pub independent_past : (fields : List kept_field.Field) (place : ℕ) → length fields ≤ place → has_independent_fields (left fields place) ≡ true
unfolding has_independent_fields
independent_past fields place le = ap has_independent_fields (left_past fields place le)
