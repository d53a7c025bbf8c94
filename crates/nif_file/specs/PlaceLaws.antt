-- Members of the header by their places.
use Rattle.std.proofs.Common.{◌≡◌, ℕ, zero, suc, ◌||◌, Bool, true, false, Option, Some, None, option_and_then, List, [], ◌∷◌, refl, ◌∙◌, ap, true≢false}
use Rattle.std.specs.Prelude.{bytes_eq}
use Rattle.std.specs.List.{list_any}
use Rattle.std.specs.Option.{option_map}
use Rattle.nif_base.specs.Node.{Node, Members, End, Here, Absent}
use Rattle.nif_schema.specs.Declaration.{Name, Field}
use Rattle.nif_schema.specs.Schema.{Schema}
use Rattle.nif_layout.specs.Earlier.{Env, behind, last_present, passed}
use Rattle.nif_file.specs.Head.{member}
use Rattle.nif_file.specs.Files.{header_line, head_of}
use Rattle.nif_file.specs.HeaderParts.{IsPlaceOf}
use Rattle.nif_decode.specs.Scopes.{member_at}

pub neither : (a b : Bool) → (a || b) ≡ false → (a ≡ false) × (b ≡ false)
neither true b h = absurd (true≢false h)
neither false b h = (refl, h)

pub other_name : (name : Name) (f : Field) (got : Option Node) (E : Env) → bytes_eq name f.name ≡ false
    → last_present name (behind f got E) ≡ last_present name E
other_name name f got E other = rw other refl

-- fields of other names say nothing of this one
pub none_named : (name : Name) (fields : List Field) (members : Members) (E : Env)
    → list_any (λ f. bytes_eq name f.name) fields ≡ false
    → last_present name (passed fields members E) ≡ last_present name E
none_named name [] members E h = refl
none_named name (f ∷ fields) End E h = refl
none_named name (f ∷ fields) (Here value rest) E h =
    let n = neither (bytes_eq name f.name) (list_any (λ f. bytes_eq name f.name) fields) h in
    none_named name fields rest (behind f (Some value) E) n.1 ∙ other_name name f (Some value) E n.0
none_named name (f ∷ fields) (Absent rest) E h =
    let n = neither (bytes_eq name f.name) (list_any (λ f. bytes_eq name f.name) fields) h in
    none_named name fields rest (behind f None E) n.1 ∙ other_name name f None E n.0

abbrev pub node_in : Option (Field × Node) → Option Node
node_in o = option_map (λ at. at.1) o

-- the only field of the name
pub one_named : (name : Name) (fields : List Field) (k : ℕ) (members : Members) (E : Env)
    → IsPlaceOf name fields (Some k) → node_in (last_present name E) ≡ None
    → node_in (last_present name (passed fields members E)) ≡ member_at members k
one_named name [] k members E is none = absurd is
one_named name (f ∷ fields) zero End E is none = none
one_named name (f ∷ fields) zero (Here value rest) E is none =
    let here : node_in (last_present name (behind f (Some value) E)) ≡ Some value = rw is.0 refl in
    ap node_in (none_named name fields rest (behind f (Some value) E) is.1) ∙ here
one_named name (f ∷ fields) zero (Absent rest) E is none =
    let here : node_in (last_present name (behind f None E)) ≡ None = rw is.0 none in
    ap node_in (none_named name fields rest (behind f None E) is.1) ∙ here
one_named name (f ∷ fields) (suc k) End E is none = none
one_named name (f ∷ fields) (suc k) (Here value rest) E is none =
    one_named name fields k rest (behind f (Some value) E) is.1
    (ap node_in (other_name name f (Some value) E is.0) ∙ none)
one_named name (f ∷ fields) (suc k) (Absent rest) E is none =
    one_named name fields k rest (behind f None E) is.1 (ap node_in (other_name name f None E is.0) ∙ none)

-- The member of a name is the one at its place; there is none where the header has no such field.
pub place_member : (S : Schema) (members : Members) (name : Name) (place : Option ℕ)
    → IsPlaceOf name (header_line S) place
    → member name (head_of S members) ≡ option_and_then (member_at members) place
place_member S members name None is = ap node_in (none_named name (header_line S) members [] is)
place_member S members name (Some k) is = one_named name (header_line S) k members [] is refl
