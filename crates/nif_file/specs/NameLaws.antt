-- Laws of the names of declarations that are found.
use Rattle.std.proofs.Common.{◌≡◌, ℕ, Bool, true, false, Option, Some, None, option_and_then, [], ◌∷◌, get_or, sym, ◌∙◌, ap, if◌then◌else◌}
use Rattle.std.proofs.lemmas.List.Quantifiers.{position-Some}
use Rattle.std.proofs.lemmas.Option.{slice_get-get_or}
use Rattle.std.proofs.lemmas.Slice.Eq.{bytes_eq-Decides}
use Rattle.std.specs.Str.{bytes_eq}
use Rattle.std.specs.Option.{option_map_or}
use Rattle.nif_schema.specs.Declaration.{Name}
use Rattle.nif_schema.specs.Schema.{Schema, find, find_block, has_block}
use Rattle.nif_file.specs.Files.{name_of}

pub found_by : (b : Bool) (n kind : ℕ) → (if b then Some n else None) ≡ Some kind → n ≡ kind
found_by true n kind e = cc
found_by false n kind e = absurd (cc)

pub found_number : (S : Schema) (o : Option ℕ) (kind : ℕ)
    → option_and_then (λ number. if has_block S number then Some number else None) o ≡ Some kind → o ≡ Some kind
found_number S None kind e = absurd (cc)
found_number S (Some n) kind e = ap (λ m. Some m) (found_by (has_block S n) n kind e)

-- a declaration that is found has the name
pub found_name : (S : Schema) (name : Name) (n : ℕ) → find S name ≡ Some n → name_of S n ≡ name
found_name [] name n e = absurd (cc)
found_name (d ∷ S) name n e =
    let at = position-Some (λ x. bytes_eq name x.name) (d ∷ S) n d e in
    let same : name ≡ (get_or (d ∷ S) n d).name = (bytes_eq-Decides name (get_or (d ∷ S) n d).name).0 at.1 in
    ap (λ o. option_map_or (λ x. x.name) o []) (slice_get-get_or (d ∷ S) n d at.0) ∙ sym same

pub block_name : (S : Schema) (name : Name) (kind : ℕ) → find_block S name ≡ Some kind → name_of S kind ≡ name
block_name S name kind e = found_name S name kind (found_number S (find S name) kind e)
