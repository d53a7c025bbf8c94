-- The place of the only field of a name.
use Rattle.std.proofs.Common.{◌≡◌, ◌≢◌, ℕ, zero, suc, ◌+◌, ◌≤◌, Bool, true, false, ◌&&◌, ◌||◌, if◌then◌else◌, Option, Some, None, List, [], ◌∷◌, length, map, drop, filter, refl, sym, ◌∙◌, ap, subst, arith, true≢false}
use Rattle.std.specs.Prelude.{codes, bytes_eq, slice_get}
use Rattle.std.specs.List.{list_any}
use Rattle.std.specs.Option.{option_map, option_map_or}
use Rattle.nif_schema.specs.Declaration.{Name, Field, Declaration, field, declaration}
use Rattle.nif_schema.specs.declared.decls.Decl.{Decl}
use Rattle.nif_schema.specs.declared.fields.Field as kept
use Rattle.nif_schema.specs.Schema.{Schema, find}
use Rattle.nif_schema.specs.Roles.{Roles, header_fields, of_name, is_named, is_one, is_at_most_one, is_always, is_of_basic, has_count, has_lists, has_type_lists, has_block_lists, has_string_lists, is_once, is_type_count, are_strings, are_numbers, is_single}
use Rattle.nif_file.specs.Files.{header_line}
use Rattle.nif_file.specs.HeaderParts.{IsPlaceOf}
use Rattle.nif_file.specs.Heads.{place_in}
use Rattle.nif_file.specs.PartsText.{up_to}
use Rattle.nif_file.specs.RoleLaws.{left, right, header_is, header_line_is}

none_named : (name : Name) (fields : List Field) → filter (is_named name) fields ≡ [] → list_any (λ f. bytes_eq name f.name) fields ≡ false
none_named name [] h = refl
none_named name (f ∷ fields) h = by (bytes_eq name f.name) h (none_named name fields)
  where
    by : (b : Bool) → (if b then f ∷ filter (is_named name) fields else filter (is_named name) fields) ≡ [] → (filter (is_named name) fields ≡ [] → list_any (λ f. bytes_eq name f.name) fields ≡ false)
        → (b || list_any (λ f. bytes_eq name f.name) fields) ≡ false
    by true h k = absurd (cc)
    by false h k = k h

no_more : (p : Field → Bool) (f : Field) (fields : List Field) → is_at_most_one p (f ∷ fields) ≡ true → fields ≡ []
no_more p f [] h = refl
no_more p f (g ∷ fields) h = absurd (true≢false (sym h))

pub only_place : (p : Field → Bool) (name : Name) (fields : List Field) → is_at_most_one p (filter (is_named name) fields) ≡ true → IsPlaceOf name fields (place_in name fields)
only_place p name [] h = refl
only_place p name (f ∷ fields) h = by (bytes_eq name f.name) refl h (only_place p name fields)
  where
    later : (o : Option ℕ) → bytes_eq name f.name ≡ false → IsPlaceOf name fields o → IsPlaceOf name (f ∷ fields) (option_map (λ k. suc k) o)
    later None e h = rw e h
    later (Some k) e h = (e, h)

    by : (b : Bool) → bytes_eq name f.name ≡ b → is_at_most_one p (if b then f ∷ filter (is_named name) fields else filter (is_named name) fields) ≡ true
        → (is_at_most_one p (filter (is_named name) fields) ≡ true → IsPlaceOf name fields (place_in name fields))
        → IsPlaceOf name (f ∷ fields) (if b then Some 0 else option_map (λ k. suc k) (place_in name fields))
    by true e h k = (e, none_named name fields (no_more p f (filter (is_named name) fields) h))
    by false e h k = later (place_in name fields) e (k h)

-- ---- the loop

-- the place among the fields from here on
abbrev pub shifted : ℕ → Option ℕ → Option ℕ
shifted place o = option_map (λ k. place + k) o

pub shifted_none : (o : Option ℕ) → o ≡ shifted 0 o
shifted_none None = refl
shifted_none (Some k) = let z : 0 + k ≡ k = omega arith in ap Some (sym z)

drop_suc : {A : Type 0} (xs : List A) (k : ℕ) (x : A) → slice_get xs k ≡ Some x → drop k xs ≡ x ∷ drop (suc k) xs
drop_suc [] k x h = absurd (cc)
drop_suc (y ∷ xs) zero x h = let e : y ≡ x = cc in ap (λ z. z ∷ xs) e
drop_suc (y ∷ xs) (suc k) x h = drop_suc xs k x h

pub drop_at : {A : Type 0} (xs : List A) (k : ℕ) (x : A) → slice_get xs k ≡ Some x → drop k xs ≡ x ∷ drop (k + 1) xs
drop_at xs k x h = let e : suc k ≡ k + 1 = omega arith in drop_suc xs k x h ∙ ap (λ n. x ∷ drop n xs) e

pub drop_past : {A : Type 0} (xs : List A) (k : ℕ) → length xs ≤ k → drop k xs ≡ []
drop_past [] zero h = refl
drop_past [] (suc k) h = refl
drop_past (x ∷ xs) zero h = absurd (omega arith)
drop_past (x ∷ xs) (suc k) h = drop_past xs k (omega arith)

left_at : (name : Name) (all : List kept.Field) (place : ℕ) (f : kept.Field) → slice_get all place ≡ Some f → place_in name (map field (drop place all)) ≡ (if bytes_eq name f.name then Some 0 else option_map (λ k. suc k) (place_in name (map field (drop (place + 1) all))))
left_at name all place f at = ap (λ xs. place_in name (map field xs)) (drop_at all place f at)

pub place_here : (name : Name) (all : List kept.Field) (place : ℕ) (f : kept.Field) (whole : Option ℕ) → slice_get all place ≡ Some f → bytes_eq name f.name ≡ true
    → whole ≡ shifted place (place_in name (map field (drop place all))) → whole ≡ Some place
place_here name all place f whole at yes_f h =
    let e : place_in name (map field (drop place all)) ≡ Some 0 = left_at name all place f at ∙ ap (λ b. if b then Some 0 else option_map (λ k. suc k) (place_in name (map field (drop (place + 1) all)))) yes_f in
    let z : place + 0 ≡ place = omega arith in
    h ∙ ap (shifted place) e ∙ ap Some z

pub place_later : (name : Name) (all : List kept.Field) (place : ℕ) (f : kept.Field) (whole : Option ℕ) → slice_get all place ≡ Some f → bytes_eq name f.name ≡ false
    → whole ≡ shifted place (place_in name (map field (drop place all))) → whole ≡ shifted (place + 1) (place_in name (map field (drop (place + 1) all)))
place_later name all place f whole at no_f h =
    h ∙ ap (shifted place) (left_at name all place f at ∙ ap (λ b. if b then Some 0 else option_map (λ k. suc k) (place_in name (map field (drop (place + 1) all)))) no_f) ∙ moved (place_in name (map field (drop (place + 1) all)))
  where
    moved : (o : Option ℕ) → shifted place (option_map (λ k. suc k) o) ≡ shifted (place + 1) o
    moved None = refl
    moved (Some k) = let z : place + suc k ≡ place + 1 + k = omega arith in ap Some z

pub place_none : (name : Name) (all : List kept.Field) (place : ℕ) (whole : Option ℕ) → length all ≤ place → whole ≡ shifted place (place_in name (map field (drop place all))) → whole ≡ None
place_none name all place whole past h = h ∙ ap (λ xs. shifted place (place_in name (map field xs))) (drop_past all place past)

-- ---- how many fields stand up to the first of a name

pub up_to_place : (name : Name) (fields : List Field) → up_to name fields ≡ option_map_or (λ k. suc k) (place_in name fields) (length fields)
up_to_place name [] = refl
up_to_place name (f ∷ fields) = by (bytes_eq name f.name) (place_in name fields) (up_to_place name fields)
  where
    by : (b : Bool) (o : Option ℕ) → up_to name fields ≡ option_map_or (λ k. suc k) o (length fields)
        → (if b then 1 else suc (up_to name fields)) ≡ option_map_or (λ k. suc k) (if b then Some 0 else option_map (λ k. suc k) o) (suc (length fields))
    by true o h = refl
    by false None h = ap (λ n. suc n) h
    by false (Some k) h = ap (λ n. suc n) h

-- ---- the rules

-- the rules of the lists, one by one
pub record ListRules (S : Schema) (fields : List Field) : Type 0 where
  pub num_types : is_at_most_one (is_type_count S) (of_name (codes "Num Block Types") fields) ≡ true
  pub types : is_at_most_one (are_strings S (codes "Num Block Types")) (of_name (codes "Block Types") fields) ≡ true
  pub index : is_at_most_one (are_numbers S (codes "BlockTypeIndex")) (of_name (codes "Block Type Index") fields) ≡ true
  pub sizes : is_at_most_one (are_numbers S (codes "uint")) (of_name (codes "Block Size") fields) ≡ true
  pub num_strings : is_at_most_one (λ f. is_of_basic S (codes "uint") f && is_single f) (of_name (codes "Num Strings") fields) ≡ true
  pub strings : is_at_most_one (are_strings S (codes "Num Strings")) (of_name (codes "Strings") fields) ≡ true

pub list_rules : (S : Schema) (fields : List Field) → has_lists S fields ≡ true → ListRules S fields
unfolding has_lists has_type_lists has_block_lists has_string_lists
list_rules S fields h =
    let types = left (has_type_lists S fields) (has_block_lists S fields && has_string_lists S fields) h in
    let rest = right (has_type_lists S fields) (has_block_lists S fields && has_string_lists S fields) h in
    let blocks = left (has_block_lists S fields) (has_string_lists S fields) rest in
    let strings = right (has_block_lists S fields) (has_string_lists S fields) rest in
    record {
      num_types = left (is_once (codes "Num Block Types") (is_type_count S) fields) _ types;
      types = right (is_once (codes "Num Block Types") (is_type_count S) fields) _ types;
      index = left (is_once (codes "Block Type Index") (are_numbers S (codes "BlockTypeIndex")) fields) _ blocks;
      sizes = right (is_once (codes "Block Type Index") (are_numbers S (codes "BlockTypeIndex")) fields) _ blocks;
      num_strings = left (is_once (codes "Num Strings") (λ f. is_of_basic S (codes "uint") f && is_single f) fields) _ strings;
      strings = right (is_once (codes "Num Strings") (λ f. is_of_basic S (codes "uint") f && is_single f) fields) _ strings;
    }

pub blocks_rule : (S : Schema) (fields : List Field) → has_count S fields ≡ true → is_one (λ f. is_of_basic S (codes "ulittle32") f && is_always f) (of_name (codes "Num Blocks") fields) ≡ true
unfolding has_count
blocks_rule S fields h = left (is_one (λ f. is_of_basic S (codes "ulittle32") f && is_always f) (of_name (codes "Num Blocks") fields)) _ h

pub only_of : (p : Field → Bool) (name : Name) (fields : List Field) → is_at_most_one p (of_name name fields) ≡ true → IsPlaceOf name fields (place_in name fields)
unfolding of_name
only_of p name fields h = only_place p name fields h

pub some_of : (p : Field → Bool) (name : Name) (fields : List Field) → is_one p (of_name name fields) ≡ true → place_in name fields ≢ None
unfolding of_name
some_of p name [] h e = absurd (cc)
some_of p name (f ∷ fields) h e = by (bytes_eq name f.name) h e (some_of p name fields)
  where
    none : (o : Option ℕ) → option_map (λ k. suc k) o ≡ None → o ≡ None
    none None e = refl
    none (Some k) e = absurd (cc)

    by : (b : Bool) → is_one p (if b then f ∷ filter (is_named name) fields else filter (is_named name) fields) ≡ true → (if b then Some 0 else option_map (λ k. suc k) (place_in name fields)) ≡ None
        → (is_one p (filter (is_named name) fields) ≡ true → place_in name fields ≢ None) → ⊥
    by true h e k = cc
    by false h e k = k h (none (place_in name fields) e)

-- ---- the fields of the header

pub field_list : (S : Schema) (header : ℕ) → find S (codes "Header") ≡ Some header → (d : Decl) → slice_get S header ≡ Some (declaration d) → header_fields S ≡ map field d.fields
field_list S header found d at = header_is S header found ∙ ap (λ o. option_map_or (λ (x : Declaration). x.fields) o []) at

pub line_place : (S : Schema) → Roles S → (p : Field → Bool) (name : Name) (place : Option ℕ) → is_at_most_one p (of_name name (header_fields S)) ≡ true → place ≡ place_in name (header_fields S) → IsPlaceOf name (header_line S) place
line_place S roles p name place once is =
    let e = header_line_is S roles.roots.header roles.roots.is_header in
    subst (λ (fields : List Field). IsPlaceOf name fields place) (sym e) (subst (λ (o : Option ℕ). IsPlaceOf name (header_fields S) o) (sym is) (only_of p name (header_fields S) once))
