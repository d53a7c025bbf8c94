-- The names and entries of types.
use Rattle.std.proofs.Common.{◌≡◌, inl, inr, ℕ, zero, suc, ◌+◌, ◌<◌, ◌≤◌, Bool, true, false, Option, Some, None, option_and_then, List, [], ◌∷◌, ◌++◌, length, get_or, refl, sym, ◌∙◌, ap, subst, if◌then◌else◌, arith}
use Rattle.std.proofs.lemmas.List.Quantifiers.{position-Some}
use Rattle.std.proofs.lemmas.Option.{slice_get-get_or}
use Rattle.std.proofs.lemmas.Slice.Eq.{bytes_eq-Decides}
use Rattle.std.specs.Prelude.{◌&&◌, slice_get}
use Rattle.std.specs.Str.{bytes_eq}
use Rattle.std.specs.List.{list_any}
use Rattle.std.specs.Option.{option_map_or}
use Rattle.nif_schema.specs.Declaration.{Name, Declaration, is_block}
use Rattle.nif_schema.specs.Schema.{Schema, find, find_block, has_block}
use Rattle.nif_schema.specs.Uses.{is_struct, takes_template, is_generic}
use Rattle.nif_schema.specs.declared.decls.What.{What}
use Rattle.nif_schema.specs.declared.decls.What.TheVariants.{Basic, Stored, Struct, Block}
use Rattle.nif_edit.specs.Inserted.{entry_of}
use Rattle.nif_edit.specs.Size.{name_of}
use Rattle.nif_edit.proofs.Finding.{test}

found_by : (b : Bool) (n kind : ℕ) → (if b then Some n else None) ≡ Some kind → (n ≡ kind) × (b ≡ true)
found_by true n kind e = (cc, refl)
found_by false n kind e = absurd cc

found_number : (S : Schema) (o : Option ℕ) (kind : ℕ)
    → option_and_then (λ number. if has_block S number then Some number else None) o ≡ Some kind
    → (o ≡ Some kind) × (has_block S kind ≡ true)
found_number S None kind e = absurd cc
found_number S (Some n) kind e =
    let two = found_by (has_block S n) n kind e in
    (ap (λ m. Some m) two.0, subst (λ m. has_block S m ≡ true) two.0 two.1)

found_name : (S : Schema) (name : Name) (n : ℕ) → find S name ≡ Some n → name_of S n ≡ name
found_name [] name n e = absurd cc
found_name (d ∷ S) name n e =
    let at = position-Some (λ x. bytes_eq name x.name) (d ∷ S) n d e in
    let same : name ≡ (get_or (d ∷ S) n d).name = (bytes_eq-Decides name (get_or (d ∷ S) n d).name).0 at.1 in
    ap (λ o. option_map_or (λ x. x.name) o []) (slice_get-get_or (d ∷ S) n d at.0) ∙ sym same

pub block_found : (S : Schema) (name : Name) (kind : ℕ) → find_block S name ≡ Some kind → find S name ≡ Some kind
block_found S name kind e = (found_number S (find S name) kind e).0

pub block_has : (S : Schema) (name : Name) (kind : ℕ) → find_block S name ≡ Some kind → has_block S kind ≡ true
block_has S name kind e = (found_number S (find S name) kind e).1

-- a block type that is found has the name
pub block_name : (S : Schema) (name : Name) (kind : ℕ) → find_block S name ≡ Some kind → name_of S kind ≡ name
block_name S name kind e = found_name S name kind (block_found S name kind e)

-- no block type is generic
pub not_generic : (S : Schema) (number : ℕ) → has_block S number ≡ true → is_generic S number ≡ true → ⊥
not_generic S number h g = by (slice_get S number) h g
  where
    by : (o : Option Declaration) → option_map_or (λ d. is_block d.what) o false ≡ true
        → option_map_or (λ d. is_struct d.what && list_any takes_template d.fields) o false ≡ true → ⊥
    by None h g = absurd cc
    by (Some d) h g = kinds d.what (list_any takes_template d.fields) h g
      where
        kinds : (w : What) (b : Bool) → is_block w ≡ true → (is_struct w && b) ≡ true → ⊥
        kinds (Basic own) b h g = absurd cc
        kinds (Stored storage members) b h g = absurd cc
        kinds Struct b h g = absurd cc
        kinds (Block above is_abstract) b h g = absurd cc

-- ---- entries

pub entry_within : (kind : Name) (types : List Name) → entry_of kind types ≤ length types
entry_within kind [] = omega arith
entry_within kind (t ∷ types) = elim (test (bytes_eq kind t)) [
  | inl q ↦ rw q (omega arith)
  | inr q ↦ rw q (let l : entry_of kind types ≤ length types = entry_within kind types in omega arith)
]

pub entry_there : (kind : Name) (types : List Name) → entry_of kind types < length types
    → slice_get types (entry_of kind types) ≡ Some kind
entry_there kind [] l = absurd (omega arith)
entry_there kind (t ∷ types) l = elim (test (bytes_eq kind t)) [
  | inl q ↦ rw q (ap (λ x. Some x) (sym ((bytes_eq-Decides kind t).0 q)))
  | inr q ↦ rw q (
      ap (λ n. slice_get (t ∷ types) n) (let e : 1 + entry_of kind types ≡ suc (entry_of kind types) = omega arith in e)
      ∙ entry_there kind types (let l' : 1 + entry_of kind types < suc (length types) = rw q at l in omega arith)
      )
]

pub last_there : (kind : Name) (types : List Name) → slice_get (types ++ kind ∷ []) (length types) ≡ Some kind
last_there kind [] = refl
last_there kind (t ∷ types) = last_there kind types

pub still_there : (kind : Name) (types : List Name) (i : ℕ) (x : Name) → slice_get types i ≡ Some x
    → slice_get (types ++ kind ∷ []) i ≡ Some x
still_there kind [] i x h = absurd cc
still_there kind (t ∷ types) zero x h = h
still_there kind (t ∷ types) (suc i) x h = still_there kind types i x h
