-- The header and the footer.
use Rattle.std.proofs.Common.{◌≡◌, ◌↔◌, ℕ, zero, suc, ◌<◌, Bool, true, false, not, List, [], ◌∷◌, length, map, Option, Some, None, is_some, IsTrue, codes, slice_get, inl, inr, refl, sym, ap, subst, ◌∙◌, arith}
use Rattle.std.specs.Option.{option_and_then, option_map_or}
use Rattle.std.proofs.lemmas.Bool.{cases_lt}
use Rattle.std.proofs.lemmas.Option.{slice_get_within, slice_get_past}
use Rattle.nif_schema.specs.Declaration.{Name, Declaration, declaration, field}
use Rattle.nif_schema.specs.Schema.{Schema, find, fields_of}
use Rattle.nif_schema.specs.Uses.{Reaches, what_at, is_struct, is_generic}
use Rattle.nif_schema.specs.Reasons.{IsOpen, IsReason}
use Rattle.nif_schema.specs.Roles.{refers, header_fields, IsRoot, RefersNowhere}
use Rattle.nif_schema.specs.declared.decls.Decl.{Decl}
use Rattle.nif_schema.specs.declared.decls.What.{What}
use Rattle.nif_schema.specs.declared.decls.What.TheVariants.{Basic, Stored, Struct, Block}
use Rattle.nif_schema.specs.declared.faults.Closed.{Closed}
use Rattle.nif_uses.specs.Marks.{IsMarked, ReachesMarked}
use Rattle.nif_schema.specs.Reasons.{AreReasons}
use Rattle.nif_check.proofs.ReasonLemmas.{open_by_none, closed_by_some}

-- ---- what is declared

pub declared-at : (schema : Schema) (number : ℕ) (d : Decl) → slice_get schema number ≡ Some (declaration d) → what_at schema number ≡ Some d.what
declared-at schema number d e = ap (λ (o : Option Declaration). option_and_then (λ (x : Declaration). Some x.what) o) e

pub what-at : (schema : Schema) (number : ℕ) (d : Decl) (what : What) → slice_get schema number ≡ Some (declaration d) → what_at schema number ≡ Some what → d.what ≡ what
what-at schema number d what e at = let here = declared-at schema number d e in cc

pub what-within : (schema : Schema) (number : ℕ) (what : What) → what_at schema number ≡ Some what → number < length schema
what-within schema number what e = elim (cases_lt number (length schema)) [
  | inl lt ↦ lt
  | inr past ↦
      let none : what_at schema number ≡ None = ap (λ (o : Option Declaration). option_and_then (λ (x : Declaration). Some x.what) o) (slice_get_past schema number past) in
      absurd (cc)
]

struct_from : (what : What) → is_struct what ≡ true → what ≡ Struct
struct_from Struct e = refl
struct_from (Basic of) e = absurd (cc)
struct_from (Stored storage members) e = absurd (cc)
struct_from (Block parent is_abstract) e = absurd (cc)

struct_is : (what : What) → what ≡ Struct → is_struct what ≡ true
struct_is what e = ap is_struct e

pub header-fields : (schema : Schema) (header : ℕ) (d : Decl) → find schema (codes "Header") ≡ Some header → slice_get schema header ≡ Some (declaration d)
    → map field d.fields ≡ header_fields schema
unfolding header_fields
header-fields schema header d found at =
    sym (ap (λ (o : Option ℕ). option_map_or (fields_of schema) o []) found ∙ ap (λ (o : Option Declaration). option_map_or (λ x. x.fields) o []) at)

-- ---- roots

no-some : (o : Option Closed) → is_some o ≡ false → o ≡ None
no-some None e = refl
no-some (Some r) e = absurd (cc)

pub is-root : (schema : Schema) (reasons : List (Option Closed)) (name : Name) (number : ℕ) (d : Decl) (reason : Option Closed) → AreReasons schema reasons → find schema name ≡ Some number
    → slice_get schema number ≡ Some (declaration d) → is_struct d.what ≡ true → is_generic schema number ≡ false → slice_get reasons number ≡ Some reason → is_some reason ≡ false
    → IsRoot schema name number
is-root schema reasons name number d reason are found at struct single here none = record {
  found = found;
  declared = declared-at schema number d at ∙ ap (λ w. Some w) (struct_from d.what struct);
  single = single;
  opens = open_by_none schema number (subst (λ (o : Option Closed). IsReason schema number o) (no-some reason none) (are.each number reason here));
}

-- no root where one of these fails
pub same-number : (schema : Schema) (name : Name) (a b : ℕ) → find schema name ≡ Some a → find schema name ≡ Some b → a ≡ b
same-number schema name a b e f = cc

pub no-struct : (schema : Schema) (name : Name) (number : ℕ) (d : Decl) → find schema name ≡ Some number → slice_get schema number ≡ Some (declaration d) → is_struct d.what ≡ false
    → (other : ℕ) → IsRoot schema name other → ⊥
no-struct schema name number d found at isnt other root =
    let same = same-number schema name number other found root.found in
    let here : what_at schema number ≡ Some Struct = ap (what_at schema) same ∙ root.declared in
    let is = struct_is d.what (what-at schema number d Struct at here) in absurd (cc)

pub no-single : (schema : Schema) (name : Name) (number : ℕ) → find schema name ≡ Some number → is_generic schema number ≡ true → (other : ℕ) → IsRoot schema name other → ⊥
no-single schema name number found generic other root =
    let same = same-number schema name number other found root.found in
    let here : is_generic schema number ≡ false = ap (is_generic schema) same ∙ root.single in absurd (cc)

some-from : (o : Option Closed) → is_some o ≡ true → (r : Closed) × (o ≡ Some r)
some-from None e = absurd (cc)
some-from (Some r) e = (r, refl)

pub no-open : (schema : Schema) (reasons : List (Option Closed)) (name : Name) (number : ℕ) (reason : Option Closed) → AreReasons schema reasons → find schema name ≡ Some number
    → slice_get reasons number ≡ Some reason → is_some reason ≡ true → (other : ℕ) → IsRoot schema name other → ⊥
no-open schema reasons name number reason are found here some other root =
    let same = same-number schema name number other found root.found in
    let is = some-from reason some in
    closed_by_some schema number is.0 (subst (λ (o : Option Closed). IsReason schema number o) is.1 (are.each number reason here))
    (subst (λ (n : ℕ). IsOpen schema n) (sym same) root.opens)

-- ---- the ninth rule

pub nowhere-by : (schema : Schema) (header : ℕ) (marks reaches : List Bool) (b : Bool) → find schema (codes "Header") ≡ Some header
    → ((n : ℕ) (what : What) → what_at schema n ≡ Some what → slice_get marks n ≡ Some (refers what))
    → length marks ≡ length schema → ((n : ℕ) → IsMarked reaches n ↔ ReachesMarked schema marks n) → slice_get reaches header ≡ Some b → IsTrue (not b) ↔ RefersNowhere schema
nowhere-by schema header marks reaches true found each count reach at = (
  λ wrong. absurd (cc),
  λ nowhere.
      let r = (reach header).0 at in
      let within : r.to < length schema = subst (λ (n : ℕ). r.to < n) count (slice_get_within marks r.to true r.at_end) in
      let d = get-at schema r.to within in
      let here : what_at schema r.to ≡ Some d.0.what = ap (λ (o : Option Declaration). option_and_then (λ (x : Declaration). Some x.what) o) d.1 in
      let refs : refers d.0.what ≡ true = let a = each r.to d.0.what here in let b = r.at_end in cc in
      let none = nowhere header r.to d.0.what found r.walk here in
      absurd (cc),
)
  where
    get-at : (s : Schema) (n : ℕ) → n < length s → (d : Declaration) × (slice_get s n ≡ Some d)
    get-at [] n lt = absurd (omega arith)
    get-at (x ∷ xs) zero lt = (x, refl)
    get-at (x ∷ xs) (suc n) lt = get-at xs n (omega arith)
nowhere-by schema header marks reaches false found each count reach at = (λ yes. nowhere, λ n. refl)
  where
    nowhere : RefersNowhere schema
    nowhere other to what is walk here = by (refers what) refl
      where
        by : (b : Bool) → refers what ≡ b → refers what ≡ false
        by false e = e
        by true e =
            let same : other ≡ header = same-number schema (codes "Header") other header is found in
            let walk' : Reaches schema header to = subst (λ (n : ℕ). Reaches schema n to) same walk in
            let yes = (reach header).1 (record { to = to; walk = walk'; at_end = each to what here ∙ ap (λ b. Some b) e }) in
            absurd (cc)
