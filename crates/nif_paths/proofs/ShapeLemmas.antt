-- What fields and types may stand for.
use Rattle.std.proofs.Common.{◌≡◌, ℕ, ◌&&◌, Bool, true, false, cond, not, Option, None, Some, option_and_then, option_map, slice_get, is_some, is_none, refl, sym, ap, ◌∙◌}
use Rattle.std.specs.Option.{option_map_or}
use Rattle.nif_names.specs.declared.shapes.Shape.{Shape}
use Rattle.nif_schema.specs.Declaration.{Name, Field, Formula, Declaration}
use Rattle.nif_schema.specs.Schema.{Schema, find}
use Rattle.nif_schema.specs.Uses.{named, what_at}
use Rattle.nif_schema.specs.Paths.{integer_width, storage_width, is_number_type, has_names}
use Rattle.nif_paths.specs.Shaped.{with_names, inner_of, field_shape}

module _ (S : Schema) where
  pub storage-none : (storage : Option Name) → storage ≡ None → None ≡ storage_width S storage
  unfolding storage_width
  storage-none storage e = sym (ap (λ o. option_and_then integer_width (option_and_then (what_at S) (option_and_then (find S) o))) e)

  pub storage-lost : (storage : Option Name) (name : Name) → storage ≡ Some name → find S name ≡ None → None ≡ storage_width S storage
  unfolding storage_width
  storage-lost storage name e none =
      sym (ap (λ o. option_and_then integer_width (option_and_then (what_at S) (option_and_then (find S) o))) e
      ∙ ap (λ o. option_and_then integer_width (option_and_then (what_at S) o)) none)

  pub storage-found : (storage : Option Name) (name : Name) (n : ℕ) (d : Declaration) → storage ≡ Some name → find S name ≡ Some n → slice_get S n ≡ Some d
      → integer_width d.what ≡ storage_width S storage
  unfolding storage_width
  storage-found storage name n d e found at =
      sym (ap (λ o. option_and_then integer_width (option_and_then (what_at S) (option_and_then (find S) o))) e
      ∙ ap (λ o. option_and_then integer_width (option_and_then (what_at S) o)) found
      ∙ ap (λ o. option_and_then integer_width (option_and_then (λ x. Some x.what) o)) at)

  pub names-at : (n : ℕ) (d : Declaration) (b : Bool) → slice_get S n ≡ Some d → b ≡ has_names S n d.what → (cond b (Some n) None) ≡ with_names S n
  unfolding with_names
  names-at n d b at is =
      ap (λ x. cond x (Some n) None) is
      ∙ sym (ap (λ o. cond (option_map_or (has_names S n) (option_and_then (λ x. Some x.what) o) false) (Some n) None) at)

  plain : Shape
  plain = record { number = false; row = false; inner = None }

  made : Bool → Bool → Option ℕ → Shape
  made number row inner = record { number = number; row = row; inner = inner }

  flip : (x y : Bool) → (x && y) ≡ (y && x)
  flip true true = refl
  flip true false = refl
  flip false true = refl
  flip false false = refl

  and-false : (b : Bool) → (b && false) ≡ false
  and-false true = refl
  and-false false = refl

  module _ (f : Field) where
    pub shape-none : named S f.kind ≡ None → record { number = false; row = false; inner = None } ≡ field_shape S f
    unfolding field_shape inner_of made
    shape-none e = sym (ap (λ o. made (is_none f.length && option_map_or (is_number_type S) (option_and_then (what_at S) o) false)
        (is_some f.length && (is_none f.width && option_map_or (is_number_type S) (option_and_then (what_at S) o) false))
        (cond (is_none f.length) (option_and_then (with_names S) o) None)) e
        ∙ nothing f.length)
      where
        nothing : (o : Option Formula) → made (is_none o && false) (is_some o && (is_none f.width && false)) (cond (is_none o) None None) ≡ made false false None
        nothing None = refl
        nothing (Some x) = ap (λ b. made false b None) (and-false (is_none f.width))

    module _ (n : ℕ) (d : Declaration) (kind : named S f.kind ≡ Some n) (at : slice_get S n ≡ Some d) where
      numbers : option_map_or (is_number_type S) (option_and_then (what_at S) (named S f.kind)) false ≡ is_number_type S d.what
      numbers = ap (λ o. option_map_or (is_number_type S) (option_and_then (what_at S) o) false) kind
          ∙ ap (λ o. option_map_or (is_number_type S) (option_and_then (λ x. Some x.what) o) false) at

      pub shape-one : f.length ≡ None → record { number = is_number_type S d.what; row = false; inner = with_names S n } ≡ field_shape S f
      unfolding field_shape inner_of made
      shape-one one = sym (
          ap (λ l. made (is_none l && option_map_or (is_number_type S) (option_and_then (what_at S) (named S f.kind)) false)
          (is_some l && (is_none f.width && option_map_or (is_number_type S) (option_and_then (what_at S) (named S f.kind)) false))
          (cond (is_none l) (option_and_then (with_names S) (named S f.kind)) None)) one
          ∙ ap (λ b. made b false (option_and_then (with_names S) (named S f.kind))) numbers
          ∙ ap (λ o. made (is_number_type S d.what) false (option_and_then (with_names S) o)) kind)

      pub shape-row : is_some f.length ≡ true → (b : Bool) → b ≡ is_number_type S d.what && is_none f.width → record { number = false; row = b; inner = None } ≡ field_shape S f
      unfolding field_shape inner_of made
      shape-row some b is = by f.length refl some
        where
          by : (o : Option Formula) → f.length ≡ o → is_some o ≡ true → made false b None ≡ field_shape S f
          by None e h = absurd (cc)
          by (Some x) e h = ap (λ c. made false c None) (is ∙ flip (is_number_type S d.what) (is_none f.width)) ∙ sym (
              ap (λ l. made (is_none l && option_map_or (is_number_type S) (option_and_then (what_at S) (named S f.kind)) false)
              (is_some l && (is_none f.width && option_map_or (is_number_type S) (option_and_then (what_at S) (named S f.kind)) false))
              (cond (is_none l) (option_and_then (with_names S) (named S f.kind)) None)) e
              ∙ ap (λ c. made false (is_none f.width && c) None) numbers)

pub none_mapped : {X Y : Type 0} (f : X → Y) (o : Option X) → is_some o ≡ false → option_map f o ≡ None
none_mapped f None e = refl
none_mapped f (Some x) e = absurd (cc)

pub some_mapped : {X Y : Type 0} (f : X → Y) (o : Option X) → is_some o ≡ true → is_some (option_map f o) ≡ true
some_mapped f None e = absurd (cc)
some_mapped f (Some x) e = refl

pub row_then : {X Y : Type 0} (f : X → Y) (o : Option X) (n r : Bool) → n ≡ true → is_some o ≡ not r → r ≡ (n && is_none (option_map f o))
row_then f o false r e h = absurd (cc)
row_then f None true true e h = refl
row_then f None true false e h = absurd (cc)
row_then f (Some x) true true e h = absurd (cc)
row_then f (Some x) true false e h = refl

pub row_else : (n b : Bool) → n ≡ false → n ≡ (n && b)
row_else true b e = absurd (cc)
row_else false b e = refl
