-- The fields of the line of an open type.
use Rattle.std.proofs.Common.{◌≡◌, ℕ, zero, suc, ◌+◌, ◌<◌, false, is_some, Option, Some, None, List, [], ◌∷◌, length, drop, slice_get, refl, sym, ◌∙◌, ap, arith, true≢false}
use Rattle.std.specs.Option.{MatchOption}
use Rattle.std.proofs.lemmas.List.{drop-drop}
use Rattle.nif_schema.specs.Schema.{Schema, Ends, ancestor}
use Rattle.nif_schema.specs.Uses.{Here}
use Rattle.nif_schema.specs.Reasons.{has_no_root}
use Rattle.nif_layout.specs.Laws.{IsOpenType}
use Rattle.nif_layout.specs.OpenTypeLaws.{declared, own_facts}

none_of : {A : Type 0} (o : Option A) → is_some o ≡ false → o ≡ None
none_of None e = refl
none_of (Some x) e = absurd (true≢false e)

-- the walk of parents of an open type ends
pub open_ends : (schema : Schema) (kind : ℕ) → IsOpenType schema kind → Ends schema kind
unfolding has_no_root
open_ends schema kind o =
    let x = declared schema kind o.0 in
    (length schema, none_of (ancestor schema (length schema) kind) (own_facts schema kind x.0 x.1 (o.1 kind (Here kind))).rooted)

-- ---- fields one behind another

-- behind one more
pub next_drop : {A B : Type 0} (view : A → B) (fields old new : List B) (k : ℕ) (got : Option A) → MatchOption got ((old ≡ []) × (new ≡ [])) (λ x. old ≡ view x ∷ new)
    → old ≡ drop k fields → new ≡ drop (k + 1) fields
next_drop view fields old new k None s e = s.1 ∙ ap (drop 1) (sym s.0 ∙ e) ∙ drop-drop 1 k fields
next_drop view fields old new k (Some x) s e = ap (drop 1) (sym s ∙ e) ∙ drop-drop 1 k fields

pub first_at : {A : Type 0} (fields rest : List A) (k : ℕ) (f : A) → f ∷ rest ≡ drop k fields → slice_get fields k ≡ Some f
first_at [] rest zero f e = absurd (cc)
first_at [] rest (suc k) f e = absurd (cc)
first_at (g ∷ fields) rest zero f e = let same : g ≡ f = cc in ap Some same
first_at (g ∷ fields) rest (suc k) f e = first_at fields rest k f e

pub some_left : {A : Type 0} (fields : List A) (k : ℕ) → k < length fields → [] ≡ drop k fields → ⊥
some_left [] k l e = omega arith
some_left (g ∷ fields) zero l e = absurd (cc)
some_left (g ∷ fields) (suc k) l e = some_left fields k (omega arith) e
