-- The reasons that aren't of fields.
use Rattle.std.proofs.Common.{◌≡◌, ℕ, zero, suc, Bool, true, false, List, [], ◌∷◌, length, Option, Some, None, is_some, is_none, option_and_then, slice_get, refl, sym, ap, ◌∙◌}
use Rattle.std.specs.List.{list_any}
use Rattle.std.specs.Option.{option_map_or}
use Rattle.nif_schema.specs.Declaration.{Name, Declaration}
use Rattle.nif_schema.specs.Schema.{Schema, parent, ancestor, fields_of}
use Rattle.nif_schema.specs.Uses.{is_struct}
use Rattle.nif_schema.specs.Paths.{storage_width}
use Rattle.nif_schema.specs.Reasons.{first_reason, reason_where, is_bad_member, is_unread, has_bad_member, lacks_parent, has_no_root, ancestor_lacks, own_reason, fields_reason, line_above}
use Rattle.nif_schema.specs.declared.decls.Leaf.{Leaf}
use Rattle.nif_schema.specs.declared.decls.Leaf.TheVariants as leaf
use Rattle.nif_schema.specs.declared.decls.What.{What}
use Rattle.nif_schema.specs.declared.decls.What.TheVariants.{Basic, Stored, Struct, Block}
use Rattle.nif_schema.specs.declared.members.BitMember.{BitMember}
use Rattle.nif_schema.specs.declared.faults.Closed.{Closed}
use Rattle.nif_schema.specs.declared.faults.Closed.TheVariants.{C0, C2, C3, C10, C13}
use Rattle.std.proofs.Common.{◌<◌, arith}
use Rattle.nif_reasons.specs.Visits.{IsRooted}
use Rattle.nif_reasons.specs.Ways.{IsWayFrom, has_struct, last_or}
use Rattle.nif_reasons.proofs.ParentLemmas.{ancestor-up, lacks-found}
use Rattle.nif_reasons.proofs.WayLemmas.{lacks-first, lacks-behind, last-there}
use Rattle.nif_reasons.specs.FieldReasons.{type_reason, early_reason}
use Rattle.nif_reasons.proofs.ReasonLemmas.{first-append, first-only, first-moved, three}

module _ (S : Schema) (what : What) where
  stored : Option ℕ → List BitMember → Option Closed
  stored o ms = first_reason (reason_where C10 (is_none o) ∷ reason_where C13 (option_map_or (λ w. list_any (is_bad_member w) ms) o false) ∷ [])

  stored-is : (storage : Option Name) (members : List BitMember) → what ≡ Stored storage members → type_reason S what ≡ stored (storage_width S storage) members
  unfolding type_reason stored
  stored-is storage members e = ap (type_reason S) e

  pub type-storage : (storage : Option Name) (members : List BitMember) → what ≡ Stored storage members → storage_width S storage ≡ None → Some C10 ≡ type_reason S what
  unfolding stored
  type-storage storage members e none = sym (stored-is storage members e ∙ ap (λ o. stored o members) none)

  pub type-members : (storage : Option Name) (members : List BitMember) (w : ℕ) (b : Bool) → what ≡ Stored storage members → storage_width S storage ≡ Some w
      → list_any (is_bad_member w) members ≡ b → reason_where C13 b ≡ type_reason S what
  unfolding stored
  type-members storage members w b e some is =
      sym (stored-is storage members e ∙ ap (λ o. stored o members) some ∙ ap (λ x. first_reason (None ∷ reason_where C13 x ∷ [])) is ∙ first-only (reason_where C13 b))

  pub type-unread : (own : Leaf) → what ≡ Basic own → own ≡ leaf.Unread → Some C10 ≡ type_reason S what
  unfolding type_reason
  type-unread own e is = sym (ap (type_reason S) (e ∙ ap Basic is))

  pub type-basic : (own : Leaf) → what ≡ Basic own → (own ≡ leaf.Unread → ⊥) → None ≡ type_reason S what
  unfolding type_reason
  type-basic own e not_unread = by own e not_unread
    where
      by : (l : Leaf) → what ≡ Basic l → (l ≡ leaf.Unread → ⊥) → None ≡ type_reason S what
      by leaf.Unread h f = absurd (f refl)
      by (leaf.Num a b c d) h f = sym (ap (type_reason S) h)
      by leaf.Bool h f = sym (ap (type_reason S) h)
      by leaf.Line h f = sym (ap (type_reason S) h)
      by leaf.Ref h f = sym (ap (type_reason S) h)
      by leaf.Ptr h f = sym (ap (type_reason S) h)
      by leaf.Text h f = sym (ap (type_reason S) h)

  pub type-other : ((own : Leaf) → what ≡ Basic own → ⊥) → ((storage : Option Name) (members : List BitMember) → what ≡ Stored storage members → ⊥) → None ≡ type_reason S what
  unfolding type_reason
  type-other no_basic no_stored = by what refl
    where
      by : (w : What) → what ≡ w → None ≡ type_reason S what
      by (Basic own) e = absurd (no_basic own e)
      by (Stored storage members) e = absurd (no_stored storage members e)
      by Struct e = sym (ap (type_reason S) e)
      by (Block up abs) e = sym (ap (type_reason S) e)

-- four reasons, in order
abbrev pub four : Bool → Bool → Bool → Option Closed → Option Closed
four a b c d = first_reason (reason_where C2 a ∷ reason_where C3 b ∷ reason_where C0 c ∷ d ∷ [])

pub four-first : (a b c : Bool) (d : Option Closed) → a ≡ true → Some C2 ≡ four a b c d
four-first true b c d e = refl
four-first false b c d e = absurd (cc)

pub four-second : (a b c : Bool) (d : Option Closed) → a ≡ false → b ≡ true → Some C3 ≡ four a b c d
four-second true b c d e f = absurd (cc)
four-second false true c d e f = refl
four-second false false c d e f = absurd (cc)

pub four-third : (a b c : Bool) (d : Option Closed) → a ≡ false → b ≡ false → c ≡ true → Some C0 ≡ four a b c d
four-third true b c d e f g = absurd (cc)
four-third false true c d e f g = absurd (cc)
four-third false false true d e f g = refl
four-third false false false d e f g = absurd (cc)

pub four-last : (a b c : Bool) (d : Option Closed) → a ≡ false → b ≡ false → c ≡ false → d ≡ four a b c d
four-last true b c d e f g = absurd (cc)
four-last false true c d e f g = absurd (cc)
four-last false false true d e f g = absurd (cc)
four-last false false false d e f g = sym (first-only d)

first-inner : (a b c : Option Closed) → first_reason (a ∷ first_reason (b ∷ c ∷ []) ∷ []) ≡ first_reason (a ∷ b ∷ c ∷ [])
first-inner None b c = first-only (first_reason (b ∷ c ∷ []))
first-inner (Some r) b c = refl

lost : (S : Schema) (n : ℕ) → n < length S → slice_get S n ≡ None → ⊥
lost [] n lt e = omega (arith, lt)
lost (d ∷ ds) zero lt e = cc
lost (d ∷ ds) (suc n) lt e = lost ds n (omega (arith, lt)) e

module _ (S : Schema) (n : ℕ) where
  -- how it is stored
  stores : Option Closed
  stores = option_and_then (λ d. type_reason S d.what) (slice_get S n)

  early-is : early_reason S n ≡ four (lacks_parent S n) (is_some (ancestor S (length S) n)) (ancestor_lacks (length S) S n) stores
  unfolding early_reason has_no_root stores
  early-is = refl

  ended : IsRooted S n → is_some (ancestor S (length S) n) ≡ false
  ended rooted = ap is_some rooted.ends

  -- at the start of a way, and behind one
  pub early-first : (way : List ℕ) → None ≡ slice_get way 0 → parent S n ≡ last_or None way → IsRooted S n
      → early_reason S n ≡ four (lacks_parent S n) false false (option_and_then (λ d. type_reason S d.what) (slice_get S n))
  unfolding stores
  early-first [] e up rooted =
      early-is ∙ ap (λ b. four (lacks_parent S n) b (ancestor_lacks (length S) S n) stores) (ended rooted)
      ∙ ap (λ b. four (lacks_parent S n) false b stores) (lacks-first S n up)
  early-first (m ∷ ms) e up rooted = absurd (cc)

  pub early-behind : (way : List ℕ) (root : ℕ) → Some root ≡ slice_get way 0 → IsWayFrom S None way → parent S n ≡ last_or None way → IsRooted S n
      → early_reason S n ≡ four false false (lacks_parent S root) (option_and_then (λ d. type_reason S d.what) (slice_get S n))
  unfolding stores
  early-behind [] root e w up rooted = absurd (cc)
  early-behind (m ∷ ms) root e w up rooted =
      let same : m ≡ root = cc in
      let last = last-there (m ∷ ms) None (λ p h. absurd (cc)) (last-some (Some m) ms m refl) in
      early-is ∙ ap (λ b. four b (is_some (ancestor S (length S) n)) (ancestor_lacks (length S) S n) stores) (lacks-found S n last.0 (up ∙ last.1))
      ∙ ap (λ b. four false b (ancestor_lacks (length S) S n) stores) (ended rooted)
      ∙ ap (λ b. four false false b stores) (lacks-behind S m ms n w up rooted.ends ∙ ap (lacks_parent S) same)
    where
      last-some : (above : Option ℕ) (ms : List ℕ) (m : ℕ) → above ≡ Some m → None ≡ last_or above ms → ⊥
      last-some above [] m e none = cc
      last-some above (k ∷ ks) m e none = last-some (Some k) ks k refl none

  pub own-parts : (d : Declaration) → slice_get S n ≡ Some d
      → first_reason (early_reason S n ∷ fields_reason S (is_struct d.what) (line_above S n) d.fields ∷ []) ≡ own_reason S n
  unfolding own_reason type_reason early_reason
  own-parts d at =
      let fields = fields_reason S (is_struct d.what) (line_above S n) d.fields in
      let l1 = reason_where C2 (lacks_parent S n) ∷ reason_where C3 (has_no_root S n) ∷ reason_where C0 (ancestor_lacks (length S) S n) ∷ [] in
      let l2 = reason_where C10 (is_unread S d.what) ∷ reason_where C13 (has_bad_member S d.what) ∷ [] in
      ap (λ o. first_reason (first_reason (reason_where C2 (lacks_parent S n) ∷ reason_where C3 (has_no_root S n) ∷ reason_where C0 (ancestor_lacks (length S) S n)
      ∷ option_and_then (λ x. type_reason S x.what) o ∷ []) ∷ fields ∷ [])) at
      ∙ ap (λ a. first_reason (a ∷ fields ∷ [])) (first-append l1 (first_reason l2 ∷ []))
      ∙ sym (first-moved (first_reason l1) (first_reason l2) fields)
      ∙ first-inner (first_reason l1) (first_reason l2) fields
      ∙ ap (λ c. first_reason (first_reason l1 ∷ first_reason l2 ∷ c ∷ [])) (sym (first-only fields))
      ∙ three l1 l2 (fields ∷ [])
      ∙ sym (ap (λ o. option_and_then (λ x. first_reason (
      reason_where C2 (lacks_parent S n)
      ∷ reason_where C3 (has_no_root S n)
      ∷ reason_where C0 (ancestor_lacks (length S) S n)
      ∷ reason_where C10 (is_unread S x.what)
      ∷ reason_where C13 (has_bad_member S x.what)
      ∷ fields_reason S (is_struct x.what) (line_above S n) x.fields
      ∷ [])) o) at)

  -- the own reason, by the reason that isn't of fields
  pub own-whole : n < length S → (early : Option Closed) → early ≡ early_reason S n
      → first_reason (early ∷ fields_reason S (has_struct S n) (line_above S n) (fields_of S n) ∷ []) ≡ own_reason S n
  own-whole lt early is = by (slice_get S n) refl
    where
      by : (o : Option Declaration) → slice_get S n ≡ o → first_reason (early ∷ fields_reason S (has_struct S n) (line_above S n) (fields_of S n) ∷ []) ≡ own_reason S n
      by None e = absurd (lost S n lt e)
      by (Some d) e =
          ap (λ o. first_reason (early ∷ fields_reason S (option_map_or (λ x. is_struct x.what) o false) (line_above S n) (option_map_or (λ x. x.fields) o []) ∷ [])) e
          ∙ ap (λ a. first_reason (a ∷ fields_reason S (is_struct d.what) (line_above S n) d.fields ∷ [])) is ∙ own-parts d e

  -- a walk of parents that doesn't end
  pub own-endless : n < length S → (ancestor S (length S) n ≡ None → ⊥) → own_reason S n ≡ Some C3
  own-endless lt endless = by (slice_get S n) refl
    where
      some : (o : Option ℕ) → (o ≡ None → ⊥) → is_some o ≡ true
      some None f = absurd (f refl)
      some (Some x) f = refl

      by : (o : Option Declaration) → slice_get S n ≡ o → own_reason S n ≡ Some C3
      by None e = absurd (lost S n lt e)
      by (Some d) e =
          let early : Some C3 ≡ early_reason S n =
          four-second (lacks_parent S n) (is_some (ancestor S (length S) n)) (ancestor_lacks (length S) S n) stores (has-parent (parent S n) refl) (some (ancestor S (length S) n) endless) ∙ sym early-is in
          sym (ap (λ a. first_reason (a ∷ fields_reason S (is_struct d.what) (line_above S n) d.fields ∷ [])) early ∙ own-parts d e)
        where
          past : (most : ℕ) → 0 < most → parent S n ≡ None → ancestor S most n ≡ None
          past zero lt e = absurd (omega (arith, lt))
          past (suc most) lt e = ancestor-up S most n ∙ ap (option_and_then (ancestor S most)) e

          has-parent : (o : Option ℕ) → parent S n ≡ o → lacks_parent S n ≡ false
          has-parent None e = absurd (endless (past (length S) (omega (arith, lt)) e))
          has-parent (Some p) e = lacks-found S n p e
