-- Tables of the names of fields and of bit members.
use Rattle.std.proofs.Common.{◌≡◌, ℕ, ◌-◌, Bool, true, false, cond, ◌||◌, List, [], ◌∷◌, ◌++◌, length, map, take, filter, bytes_eq, refl, sym, ap, ◌∙◌, arith}
use Rattle.std.specs.List.{list_any}
use Rattle.std.proofs.lemmas.List.{map-append, length-append}
use Rattle.std.proofs.Math.Seq.{take-append_seam}
use Rattle.std.proofs.lemmas.List.Elements.{filter-append}
use Rattle.std.proofs.lemmas.List.Folds.{list_any-append}
use Rattle.std.proofs.lemmas.Grind.{common_steps}
use Rattle.std.proofs.lemmas.Slice.Eq.{bytes_eq-Decides}
use Rattle.nif_names.specs.declared.shapes.Shape.{Shape}
use Rattle.nif_names.specs.Tables.{Table, held}
use Rattle.std.proofs.Common.{Option, Some, slice_get, option_and_then}
use Rattle.std.specs.Option.{option_map_or}
use Rattle.nif_schema.specs.declared.decls.What.{What}
use Rattle.nif_schema.specs.declared.decls.What.TheVariants.{Basic, Stored, Struct, Block}
use Rattle.nif_schema.specs.Declaration.{Name, Field, Declaration}
use Rattle.nif_schema.specs.Schema.{Schema}
use Rattle.nif_schema.specs.Paths.{OfField, OfBits, fields_named, bits_named, inside_type}
use Rattle.nif_schema.specs.declared.members.BitMember.{BitMember}
use Rattle.nif_paths.specs.Shaped.{HasFields, HasBits, HasInside, lead, shape, field_shape, bit_shape}

module _ (S : Schema) (f : Field) where
  named-push : (name : Name) (fields : List Field) → map (shape S) (fields_named name (fields ++ f ∷ []))
      ≡ cond (bytes_eq name f.name) (map (shape S) (fields_named name fields) ++ field_shape S f ∷ []) (map (shape S) (fields_named name fields))
  named-push name fields =
      ap (λ l. map (shape S) (map (λ x. OfField x) l)) (filter-append (λ x. bytes_eq name x.name) fields (f ∷ []))
      ∙ by (bytes_eq name f.name)
    where
      by : (b : Bool) → map (shape S) (map (λ x. OfField x) (filter (λ x. bytes_eq name x.name) fields ++ cond b (f ∷ []) []))
          ≡ cond b (map (shape S) (fields_named name fields) ++ field_shape S f ∷ []) (map (shape S) (fields_named name fields))
      by true =
          ap (map (shape S)) (map-append (λ x. OfField x) (filter (λ x. bytes_eq name x.name) fields) (f ∷ []))
          ∙ map-append (shape S) (fields_named name fields) (OfField f ∷ [])
      by false = ap (λ l. map (shape S) (map (λ x. OfField x) l)) (grind (arith, common_steps))

  pub HasFields-push : (old new : Table) (fields : List Field)
      → ((other : List ℕ) → held new other ≡ cond (bytes_eq other f.name) (held old other ++ field_shape S f ∷ []) (held old other))
      → HasFields S fields old → HasFields S (fields ++ f ∷ []) new
  HasFields-push old new fields is has = λ name. is name ∙ ap (λ l. cond (bytes_eq name f.name) (l ++ field_shape S f ∷ []) l) (has name) ∙ sym (named-push name fields)

  pub HasFields-pop : (old new : Table) (fields : List Field)
      → ((other : List ℕ) → held new other ≡ cond (bytes_eq other f.name) (take (length (held old other) - 1) (held old other)) (held old other))
      → HasFields S (fields ++ f ∷ []) old → HasFields S fields new
  HasFields-pop old new fields is has = λ name.
      is name ∙ ap (λ l. cond (bytes_eq name f.name) (take (length l - 1) l) l) (has name ∙ named-push name fields) ∙ by (bytes_eq name f.name) (map (shape S) (fields_named name fields))
    where
      by : (b : Bool) (l : List Shape) → cond b (take (length (cond b (l ++ field_shape S f ∷ []) l) - 1) (cond b (l ++ field_shape S f ∷ []) l)) (cond b (l ++ field_shape S f ∷ []) l) ≡ l
      by true l = let n : length (l ++ field_shape S f ∷ []) - 1 ≡ length l = let h = length-append l (field_shape S f ∷ []) in omega (arith, h) in ap (λ k. take k (l ++ field_shape S f ∷ [])) n ∙ take-append_seam l (field_shape S f ∷ [])
      by false l = refl

-- one more bit member
module _ (members : List BitMember) (m : BitMember) where
  bits-push : (name : Name) → map (λ x. bit_shape) (bits_named name (members ++ m ∷ []))
      ≡ cond (list_any (λ x. bytes_eq name x.name) members || (bytes_eq name m.name || false)) (bit_shape ∷ []) []
  bits-push name = ap (λ b. map (λ x. bit_shape) (cond b (OfBits ∷ []) [])) (list_any-append (λ x. bytes_eq name x.name) members (m ∷ [])) ∙ by _
    where
      by : (b : Bool) → map (λ x. bit_shape) (cond b (OfBits ∷ []) []) ≡ cond b (bit_shape ∷ []) []
      by true = refl
      by false = refl

  bits-is : (name : Name) → map (λ x. bit_shape) (bits_named name members) ≡ cond (list_any (λ x. bytes_eq name x.name) members) (bit_shape ∷ []) []
  bits-is name = by (list_any (λ x. bytes_eq name x.name) members)
    where
      by : (b : Bool) → map (λ x. bit_shape) (cond b (OfBits ∷ []) []) ≡ cond b (bit_shape ∷ []) []
      by true = refl
      by false = refl

  many : (name : Name) (a b : Bool) → list_any (λ x. bytes_eq name x.name) members ≡ a → bytes_eq name m.name ≡ b
      → cond (a || (b || false)) (bit_shape ∷ []) [] ≡ map (λ x. bit_shape) (bits_named name (members ++ m ∷ []))
  many name a b ea eb = sym (bits-push name
      ∙ ap (λ x. cond (x || (bytes_eq name m.name || false)) (bit_shape ∷ []) []) ea ∙ ap (λ y. cond (a || (y || false)) (bit_shape ∷ []) []) eb)

  few : (name : Name) (a : Bool) → list_any (λ x. bytes_eq name x.name) members ≡ a → map (λ x. bit_shape) (bits_named name members) ≡ cond a (bit_shape ∷ []) []
  few name a ea = bits-is name ∙ ap (λ x. cond x (bit_shape ∷ []) []) ea

  -- a name that is there already
  pub HasBits-again : (table : Table) → (held table m.name ≡ [] → ⊥) → HasBits members table → HasBits (members ++ m ∷ []) table
  HasBits-again table some has = λ name. has name ∙ by name (list_any (λ x. bytes_eq name x.name) members) refl (bytes_eq name m.name) refl
    where
      by : (name : Name) (a : Bool) → list_any (λ x. bytes_eq name x.name) members ≡ a → (b : Bool) → bytes_eq name m.name ≡ b
          → map (λ x. bit_shape) (bits_named name members) ≡ map (λ x. bit_shape) (bits_named name (members ++ m ∷ []))
      by name true ea b eb = few name true ea ∙ many name true b ea eb
      by name false ea false eb = few name false ea ∙ many name false false ea eb
      by name false ea true eb =
          let same : name ≡ m.name = (bytes_eq-Decides name m.name).0 eb in
          absurd (some (has m.name ∙ few m.name false (ap (λ n. list_any (λ x. bytes_eq n x.name) members) (sym same) ∙ ea)))

  -- a name that is put there
  pub HasBits-push : (old new : Table) → held old m.name ≡ [] → ((other : List ℕ) → held new other ≡ cond (bytes_eq other m.name) (held old other ++ bit_shape ∷ []) (held old other))
      → HasBits members old → HasBits (members ++ m ∷ []) new
  HasBits-push old new none is has = λ name.
      is name ∙ by name (list_any (λ x. bytes_eq name x.name) members) refl (bytes_eq name m.name) refl
    where
      by : (name : Name) (a : Bool) → list_any (λ x. bytes_eq name x.name) members ≡ a → (b : Bool) → bytes_eq name m.name ≡ b
          → cond (bytes_eq name m.name) (held old name ++ bit_shape ∷ []) (held old name) ≡ map (λ x. bit_shape) (bits_named name (members ++ m ∷ []))
      by name a ea false eb =
          ap (λ x. cond x (held old name ++ bit_shape ∷ []) (held old name)) eb ∙ has name ∙ few name a ea ∙ none_more a ∙ many name a false ea eb
        where
          none_more : (x : Bool) → cond x (bit_shape ∷ []) [] ≡ cond (x || (false || false)) (bit_shape ∷ []) []
          none_more true = refl
          none_more false = refl
      by name a ea true eb =
          let same : name ≡ m.name = (bytes_eq-Decides name m.name).0 eb in
          ap (λ x. cond x (held old name ++ bit_shape ∷ []) (held old name)) eb ∙ ap (λ n. held old n ++ bit_shape ∷ []) same ∙ ap (λ l. l ++ bit_shape ∷ []) none
          ∙ one_more a ∙ many name a true ea eb
        where
          one_more : (x : Bool) → bit_shape ∷ [] ≡ cond (x || (true || false)) (bit_shape ∷ []) []
          one_more true = refl
          one_more false = refl

-- a table of nothing
pub HasFields-none : (S : Schema) (table : Table) → ((name : List ℕ) → held table name ≡ []) → HasFields S [] table
HasFields-none S table none = none

pub HasBits-none : (table : Table) → ((name : List ℕ) → held table name ≡ []) → HasBits [] table
HasBits-none table none = none

-- what a name means inside a type
module _ (S : Schema) (n : ℕ) (d : Declaration) (at : slice_get S n ≡ Some d) where
  inside-at : (name : Name) → lead S name n ≡ inside_type S name n d.what
  unfolding lead
  inside-at name = ap (λ o. option_map_or (inside_type S name n) (option_and_then (λ x. Some x.what) o) []) at

  pub HasInside-struct : (table : Table) → d.what ≡ Struct → HasFields S d.fields table → HasInside S n table
  HasInside-struct table is has = λ name.
      has name ∙ sym (ap (map (shape S)) (inside-at name ∙ ap (inside_type S name n) is
      ∙ ap (λ o. fields_named name (option_map_or (λ x. x.fields) o [])) at))

  pub HasInside-stored : (table : Table) (storage : Option Name) (members : List BitMember) → d.what ≡ Stored storage members → HasBits members table → HasInside S n table
  HasInside-stored table storage members is has = λ name.
      has name ∙ by (list_any (λ x. bytes_eq name x.name) members) ∙ sym (ap (map (shape S)) (inside-at name ∙ ap (inside_type S name n) is))
    where
      by : (b : Bool) → map (λ x. bit_shape) (cond b (OfBits ∷ []) []) ≡ map (shape S) (cond b (OfBits ∷ []) [])
      by true = refl
      by false = refl

  pub HasInside-other : (table : Table) → (d.what ≡ Struct → ⊥) → ((storage : Option Name) (members : List BitMember) → d.what ≡ Stored storage members → ⊥)
      → ((name : List ℕ) → held table name ≡ []) → HasInside S n table
  HasInside-other table no_struct no_stored none = λ name. none name ∙ sym (ap (map (shape S)) (inside-at name ∙ by name d.what refl))
    where
      by : (name : Name) (w : What) → d.what ≡ w → inside_type S name n d.what ≡ []
      by name (Basic own) e = ap (inside_type S name n) e
      by name (Block up abs) e = ap (inside_type S name n) e
      by name Struct e = absurd (no_struct e)
      by name (Stored storage members) e = absurd (no_stored storage members e)
