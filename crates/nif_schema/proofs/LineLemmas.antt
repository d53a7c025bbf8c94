-- What an iterator over a line has left.
use Rattle.std.proofs.Common.{◌≡◌, ℕ, zero, suc, ◌+◌, ◌-◌, ◌<◌, ◌≤◌, List, [], ◌∷◌, ◌++◌, length, map, drop, get_or, Option, Some, None, is_some, IsSome, slice_get, refl, sym, ap, ◌∙◌, add-one, arith}
use Rattle.std.specs.Option.{option_map, option_map_or}
use Rattle.std.proofs.lemmas.List.{length-map}
use Rattle.std.proofs.lemmas.Option.{slice_get-map, slice_get_within, get_or_from_slice_get}
use Rattle.std.proofs.Math.Seq.{drop-cons}
use Rattle.nif_schema.specs.Declaration.{Declaration, declaration, field}
use Rattle.nif_schema.specs.Schema.{Schema, parent, ancestor, fields_of, line, Ends}
use Rattle.nif_schema.specs.Kept.{below, left_of}
use Rattle.nif_schema.specs.declared.decls.Decl.{Decl}
use Rattle.nif_schema.specs.declared.fields.Field as kept_field
use Rattle.nif_schema.proofs.WalkLemmas.{some_from_IsSome, ancestor-add, ancestor_before, line-below}

drop_past : {A : Type 0} (xs : List A) (n : ℕ) → length xs ≤ n → drop n xs ≡ []
drop_past [] zero le = refl
drop_past [] (suc n) le = refl
drop_past (x ∷ xs) zero le = absurd (omega arith)
drop_past (x ∷ xs) (suc n) le = drop_past xs n (omega arith)

module _ (S : Schema) where
  -- at the first field of a declaration on the walk
  pub left_of-start : (own k r : ℕ) → ancestor S k own ≡ Some r → left_of S own k r 0 ≡ below S own (suc k)
  left_of-start own k r e = ap (λ (o : Option ℕ). option_map_or (fields_of S) o [] ++ below S own k) (sym e)

  -- at the root the whole line is left
  pub left_of-root : (own k r : ℕ) → own < length S → Ends S own → ancestor S k own ≡ Some r → parent S r ≡ None → left_of S own k r 0 ≡ line S own
  left_of-root own k r within ends e end = left_of-start own k r e ∙ sym (line-below S k own r within ends e end)

  pub fields_of-at : (number : ℕ) (d : Decl) → slice_get S number ≡ Some (declaration d) → fields_of S number ≡ map field d.fields
  fields_of-at number d e = ap (λ (o : Option Declaration). option_map_or (λ x. x.fields) o []) e

  past_fields : (number place : ℕ) (d : Decl) → slice_get S number ≡ Some (declaration d) → length d.fields ≤ place → drop place (fields_of S number) ≡ []
  past_fields number place d e le =
      ap (drop place) (fields_of-at number d e) ∙ drop_past (map field d.fields) place (omega (arith, length-map d.fields field))

  -- behind the last field the next lower declaration begins
  pub left_of-down : (own above r place q : ℕ) (d : Decl) → slice_get S r ≡ Some (declaration d) → length d.fields ≤ place
      → (above ≡ 0 → ⊥) → ancestor S (above - 1) own ≡ Some q → left_of S own (above - 1) q 0 ≡ left_of S own above r place
  left_of-down own above r place q d e le some to =
      let z : suc (above - 1) ≡ above = omega arith in
      left_of-start own (above - 1) q to
      ∙ ap (below S own) z
      ∙ ap (λ l. l ++ below S own above) (sym (past_fields r place d e le))

  -- and behind the own fields nothing
  pub left_of-end : (own above r place : ℕ) (d : Decl) → slice_get S r ≡ Some (declaration d) → length d.fields ≤ place → above ≡ 0 → left_of S own above r place ≡ []
  left_of-end own above r place d e le none =
      ap (λ l. l ++ below S own above) (past_fields r place d e le) ∙ ap (below S own) none

  -- a field, and what is left behind it
  pub left_of-next : (own above r place : ℕ) (d : Decl) (f : kept_field.Field) → slice_get S r ≡ Some (declaration d) → slice_get d.fields place ≡ Some f
      → left_of S own above r place ≡ field f ∷ left_of S own above r (place + 1)
  left_of-next own above r place d f e at =
      let fs = map field d.fields in
      let here : slice_get fs place ≡ Some (field f) = slice_get-map field d.fields place ∙ ap (option_map field) at in
      let cut : drop place fs ≡ get_or fs place (field f) ∷ drop (suc place) fs = drop-cons fs place (field f) (slice_get_within fs place (field f) here) in
      let z : suc place ≡ place + 1 = sym (add-one place) in
      ap (λ l. drop place l ++ below S own above) (fields_of-at r d e)
      ∙ ap (λ l. l ++ below S own above) cut
      ∙ ap (λ x. (x ∷ drop (suc place) fs) ++ below S own above) (get_or_from_slice_get fs place (field f) (field f) here)
      ∙ ap (λ n. field f ∷ (drop n fs ++ below S own above)) z
      ∙ ap (λ l. field f ∷ (drop (place + 1) l ++ below S own above)) (sym (fields_of-at r d e))

  -- ---- steps up

  pub IsSome-from_some : {A : Type 0} (o : Option A) (x : A) → o ≡ Some x → IsSome o
  IsSome-from_some o x e = ap is_some e

  -- a part of the way to an ancestor
  pub reaches : (target above own n steps : ℕ) → steps + above ≤ target → IsSome (ancestor S target own) → ancestor S above own ≡ Some n → IsSome (ancestor S steps n)
  reaches target above own n steps le some e =
      let whole = some_from_IsSome (ancestor S target own) some in
      let part = ancestor_before S target (steps + above) own whole.0 le whole.1 in
      IsSome-from_some (ancestor S steps n) part.0 (sym (ancestor-add S steps above own n e) ∙ part.1)

  -- steps, and then more steps
  pub ancestor_further : (above own n steps u : ℕ) → ancestor S above own ≡ Some n → ancestor S steps n ≡ Some u → ancestor S (above + steps) own ≡ Some u
  ancestor_further above own n steps u e more =
      let z : above + steps ≡ steps + above = omega arith in
      ap (λ k. ancestor S k own) z ∙ ancestor-add S steps above own n e ∙ more
