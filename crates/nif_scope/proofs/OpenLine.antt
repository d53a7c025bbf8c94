-- What open types lead to: the walk of parents of an open type ends, and the fields of its line are of open types.
use Rattle.std.proofs.Common.{◌≡◌, ℕ, zero, suc, inl, inr, Bool, true, false, is_some, Option, Some, None, List, [], ◌∷◌, ◌++◌, length, bytes_eq, if◌then◌else◌, ◌&&◌, take, drop, refl, sym, ◌∙◌, ap, subst, true≢false}
use Rattle.std.specs.Prelude.{IfSome}
use Rattle.std.specs.Option.{option_map_or}
use Rattle.nif_schema.specs.Declaration.{Name, Field, Declaration}
use Rattle.nif_schema.specs.Schema.{Schema, Ends, parent, ancestor, fields_of, line, line_within}
use Rattle.nif_schema.specs.Uses.{named, is_struct, Here}
use Rattle.nif_schema.specs.Reasons.{has_no_root}
use Rattle.nif_layout.specs.Laws.{IsOpenType}
use Rattle.nif_layout.specs.PathValue.{fields_in}
use Rattle.nif_layout.specs.DecideLaws.{EachField}
use Rattle.nif_layout.specs.OpenTypeLaws.{each_map, each_append, open_used, declared, own_facts, parent_within, named_found, FieldGood, fields_good}
use Rattle.nif_layout.specs.OpenKindLaws.{uses_parent}
use Rattle.nif_scope.specs.declared.entries.Entry.{Entry}
use Rattle.nif_scope.specs.declared.entries.Entry.TheVariants as entry
use Rattle.nif_scope.specs.Lookup.{Member, Told, Nowhere, At, Bits, inside, is_here, later_told, last_told, told_at, told_bits, bits_inside, member_step, step_told}
use Rattle.nif_scope.specs.Kept.{IsOpenField, IsOpenTold}

none_of : {A : Type 0} (o : Option A) → is_some o ≡ false → o ≡ None
none_of None e = refl
none_of (Some x) e = absurd (true≢false e)

-- the walk of parents of an open type ends
pub open_ends : (S : Schema) (n : ℕ) → IsOpenType S n → Ends S n
unfolding has_no_root
open_ends S n o = let x = declared S n o.0 in (length S, none_of (ancestor S (length S) n) (own_facts S n x.0 x.1 (o.1 n (Here n))).rooted)

-- ---- the fields of its line

good_open : (S : Schema) (in_struct : Bool) (f : Field) → FieldGood S in_struct f → IsOpenField S f
good_open S in_struct f (inl a) = record { kind = λ n e. let r = named_found S f.kind n e in absurd (true≢false (sym a.1 ∙ r.0)) }
good_open S in_struct f (inr a) = record {
  kind = λ n e.
      let r = named_found S f.kind n e in
      let p : Some a.0 ≡ Some n = sym a.2 ∙ r.1 in
      let same : a.0 ≡ n = cc in
      subst (λ (k : ℕ). IsOpenType S k) same a.3;
}

own_open : (S : Schema) (n : ℕ) → IsOpenType S n → EachField (IsOpenField S) (fields_of S n)
own_open S n o =
    let x = declared S n o.0 in
    let at : fields_of S n ≡ x.0.fields = ap (λ (d : Option Declaration). option_map_or (λ d. d.fields) d []) x.1 in
    subst (λ (fields : List Field). EachField (IsOpenField S) fields) (sym at) (each_map (good_open S (is_struct x.0.what)) x.0.fields (fields_good S n x.0 x.1 o.1))

within_open : (S : Schema) (most n : ℕ) → IsOpenType S n → EachField (IsOpenField S) (line_within most S n)
within_open S zero n o = tt
within_open S (suc most) n o = by (parent S n) refl (λ p up. within_open S most p up)
  where
    P : Option ℕ → Type 0
    P x = EachField (IsOpenField S) (option_map_or (line_within most S) x [] ++ fields_of S n)

    by : (x : Option ℕ) → parent S n ≡ x → ((p : ℕ) → IsOpenType S p → EachField (IsOpenField S) (line_within most S p)) → P (parent S n)
    by None e ih = subst P (sym e) (own_open S n o)
    by (Some p) e ih = subst P (sym e) (each_append (IsOpenField S) (line_within most S p) (fields_of S n) (ih p (parent_within S n p e, open_used S n p o.1 (uses_parent S n p e))) (own_open S n o))

pub line_open : (S : Schema) (n : ℕ) → IsOpenType S n → EachField (IsOpenField S) (line S n)
line_open S n o = within_open S (length S) n o

-- ---- what a name leads to

-- what was found is one of the fields
last_has : (P : Field → Type 0) (name : Name) (got : Option Member) (fields : List Field) (entries : List Entry)
    → IfSome got (λ m. P m.field) → EachField P fields → IfSome (last_told name got fields entries) (λ m. P m.field)
last_has P name got [] entries h e = h
last_has P name got (f ∷ fields) [] h e = h
last_has P name got (f ∷ fields) (x ∷ rest) h e = last_has P name (later_told name f x (take (inside x) rest) got) fields (drop (inside x) rest) (by (bytes_eq name f.name && is_here x)) e.1
  where
    by : (b : Bool) → IfSome (if b then Some (record { field = f; entry = x; own = take (inside x) rest }) else got) (λ m. P m.field)
    by true = e.0
    by false = h

told_open : (S : Schema) (found : Option Member) → IfSome found (λ m. IsOpenField S m.field) → IsOpenTold S (told_at found)
told_open S None h = tt
told_open S (Some m) h = h

-- what is found on the line of an open type is a field of an open type
pub last_open : (S : Schema) (n : ℕ) (name : Name) (entries : List Entry) → IsOpenType S n → IsOpenTold S (told_at (last_told name None (line S n) entries))
last_open S n name entries o = told_open S (last_told name None (line S n) entries) (last_has (IsOpenField S) name None (line S n) entries tt (line_open S n o))

bits_open : (S : Schema) (found : Option ℕ) → IsOpenTold S (told_bits found)
bits_open S None = tt
bits_open S (Some value) = tt

inside_open : (S : Schema) (name : Name) (f : Field) (own : List Entry) → IsOpenField S f → IsOpenTold S (told_at (last_told name None (fields_in S f) own))
inside_open S name f own o = by (named S f.kind) refl
  where
    P : Option ℕ → Type 0
    P x = IsOpenTold S (told_at (last_told name None (option_map_or (line S) x []) own))

    by : (x : Option ℕ) → named S f.kind ≡ x → P (named S f.kind)
    by None e = subst P (sym e) tt
    by (Some n) e = subst P (sym e) (last_open S n name own (o.kind n e))

-- so is what a name leads to from there
pub step_open : (S : Schema) (name : Name) (at : Told) → IsOpenTold S at → IsOpenTold S (step_told S name at)
step_open S name Nowhere o = tt
step_open S name (Bits value) o = tt
step_open S name (At m) o = by m.entry
  where
    by : (e : Entry) → IsOpenTold S (member_step S name m.field e m.own)
    by entry.Absent = tt
    by (entry.Number bits signed) = bits_open S (bits_inside S name m.field bits)
    by (entry.Group entries) = inside_open S name m.field m.own o
    by (entry.Items entries) = tt
    by entry.Nothing = tt
