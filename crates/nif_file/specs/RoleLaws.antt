-- Laws of the declarations that the nine rules of the header ask for: what their fields are, and that they are always
-- there.
use Rattle.std.proofs.Common.{◌≡◌, ℕ, zero, suc, ◌<◌, ◌⊎◌, inl, inr, Bool, true, false, ◌&&◌, if◌then◌else◌, Option, Some, None, option_and_then, List, [], ◌∷◌, ◌++◌, length, get_or, slice_get, refl, sym, ◌∙◌, ap, subst, arith, true≢false}
use Rattle.std.specs.Prelude.{codes, bytes_eq, filter, MatchOption, is_none}
use Rattle.std.specs.Option.{option_map_or}
use Rattle.std.proofs.lemmas.Option.{slice_get_within, get_or_from_slice_get}
use Rattle.std.proofs.lemmas.Slice.Eq.{bytes_eq-Decides}
use Rattle.nif_base.specs.Node.{Node, Members}
use Rattle.nif_schema.specs.Declaration.{Name, Field, Declaration, inherited}
use Rattle.nif_schema.specs.Schema.{Schema, IsSchema, find, find_block, parent, fields_of, line, line_within}
use Rattle.nif_schema.specs.Basic.{listed_leaf, HasItsLeaf, IsLeafOf, IsOtherLeaf}
use Rattle.nif_schema.specs.Uses.{what_at}
use Rattle.nif_schema.specs.Roles.{IsRoot, header_fields, of_name, is_named, is_at_most_one, is_plain, declares, is_basic, is_of_basic, is_bare, has_no_bounds, has_no_condition}
use Rattle.nif_schema.specs.declared.decls.Leaf.{Leaf}
use Rattle.nif_schema.specs.declared.decls.What.{What}
use Rattle.nif_schema.specs.declared.decls.What.TheVariants.{Basic, Stored, Struct, Block}
use Rattle.nif_layout.specs.Context.{Context}
use Rattle.nif_layout.specs.Earlier.{Env, behind, last_present, passed}
use Rattle.nif_layout.specs.Kind.{kind_of, kind_of_leaf}
use Rattle.nif_layout.specs.Members.{Member, Check, Fields}
use Rattle.nif_file.specs.Files.{header_line}
use Rattle.nif_file.specs.NameLaws.{found_name}
use Rattle.nif_layout.specs.Present.{present}

abbrev pub Among : List Field → Field → Type 0
Among [] f = ⊥
Among (g ∷ fields) f = (g ≡ f) ⊎ Among fields f

pub record Held {Why : Type 0} (Value : Env → Field → Node → Type 0) (check : Check Why) (fields : List Field)
    (name : Name) (f : Field) (value : Node) : Type 0 where
  pub before : Env
  pub among : Among fields f
  pub named : bytes_eq name f.name ≡ true
  pub is : Value before f value
  pub fine : check before f (Some value) ≡ None

pub held_further : {Why : Type 0} (Value : Env → Field → Node → Type 0) (check : Check Why) (g : Field)
    (fields : List Field) (name : Name) (f : Field) (value : Node)
    → Held Value check fields name f value → Held Value check (g ∷ fields) name f value
held_further Value check g fields name f value h = record { before = h.before; among = inr h.among; named = h.named; is = h.is; fine = h.fine }

pub held : {Why : Type 0} (here : Env → Field → Bool) (Value : Env → Field → Node → Type 0) (check : Check Why)
    (name : Name) (fields : List Field) (E : Env) (members : Members)
    → Fields here Value check fields E members → (at : Field × Node)
    → last_present name (passed fields members E) ≡ Some at
    → (last_present name E ≡ Some at) ⊎ Held Value check fields name at.0 at.1
held here Value check name [] E members h at e = inl e
held {Why} here Value check name (f ∷ fields) E members h at e =
    by (here E f) members h e (λ got rest k. held here Value check name fields (behind f got E) rest k at)
  where
    Later : Option Node → Members → Type 0
    Later got rest =
        Fields here Value check fields (behind f got E) rest
        → last_present name (passed fields rest (behind f got E)) ≡ Some at
        → (last_present name (behind f got E) ≡ Some at) ⊎ Held Value check fields name at.0 at.1

    Answer : Type 0
    Answer = (last_present name E ≡ Some at) ⊎ Held Value check (f ∷ fields) name at.0 at.1

    some_pair : (a b : Field × Node) → Some a ≡ Some b → a ≡ b
    some_pair a b e = cc

    is_here : (value : Node) → Value E f value → check E f (Some value) ≡ None → bytes_eq name f.name ≡ true
        → (f, value) ≡ at → Held Value check (f ∷ fields) name at.0 at.1
    is_here value is fine named same =
        let first : Held Value check (f ∷ fields) name f value = record { before = E; among = inl refl; named = named; is = is; fine = fine } in
        subst (λ (z : Field × Node). Held Value check (f ∷ fields) name z.0 z.1) same first

    present : (value : Node) → Value E f value → check E f (Some value) ≡ None → (t : Bool) → bytes_eq name f.name ≡ t
        → last_present name (behind f (Some value) E) ≡ Some at → Answer
    present value is fine true named l = let pair : Some (f, value)
        ≡ Some at = rw named at l in inr (is_here value is fine named (some_pair (f, value) at pair))
    present value is fine false other l = inl (rw other at l)

    absent : (t : Bool) → bytes_eq name f.name ≡ t → last_present name (behind f None E) ≡ Some at
        → last_present name E ≡ Some at
    absent true named l = rw named at l
    absent false other l = rw other at l

    by : (b : Bool) (members : Members)
        → Member b (Value E f)
        (λ got rest. (check E f got ≡ None) × Fields here Value check fields (behind f got E) rest) members
        → last_present name (passed (f ∷ fields) members E) ≡ Some at
        → ((got : Option Node) (rest : Members) → Later got rest) → Answer
    by true members h e ih =
        let e' : last_present name (passed fields h.1 (behind f (Some h.0) E)) ≡ Some at = subst (λ (m : Members). last_present name (passed (f ∷ fields) m E) ≡ Some at) h.2 e in
        elim (ih (Some h.0) h.1 h.4.1 e') [
          | inl l ↦ present h.0 h.3 h.4.0 (bytes_eq name f.name) refl l
          | inr k ↦ inr (held_further Value check f fields name at.0 at.1 k)
        ]
    by false members h e ih =
        let e' : last_present name (passed fields h.0 (behind f None E)) ≡ Some at = subst (λ (m : Members). last_present name (passed (f ∷ fields) m E) ≡ Some at) h.1 e in
        elim (ih None h.0 h.2.1 e') [
          | inl l ↦ inl (absent (bytes_eq name f.name) refl l)
          | inr k ↦ inr (held_further Value check f fields name at.0 at.1 k)
        ]

pub filtered : (q : Field → Bool) (fields : List Field) (f : Field) → Among fields f → q f ≡ true
    → Among (filter q fields) f
filtered q [] f is yes_f = is
filtered q (g ∷ fields) f is yes_f = by (q g) refl is (filtered q fields f)
  where
    by : (b : Bool) → q g ≡ b → Among (g ∷ fields) f → (Among fields f → q f ≡ true → Among (filter q fields) f)
        → Among (if b then g ∷ filter q fields else filter q fields) f
    by true e (inl same) ih = inl same
    by true e (inr later) ih = inr (ih later yes_f)
    by false e (inl same) ih = absurd (true≢false (sym yes_f ∙ ap q (sym same) ∙ e))
    by false e (inr later) ih = ih later yes_f

pub once : (p : Field → Bool) (fields : List Field) (f : Field) → is_at_most_one p fields ≡ true → Among fields f
    → p f ≡ true
once p [] f h is = absurd is
once p (g ∷ []) f h (inl same) = ap p (sym same) ∙ h
once p (g ∷ []) f h (inr later) = absurd later
once p (g ∷ k ∷ fields) f h is = absurd (true≢false (sym h))

pub left : (a b : Bool) → (a && b) ≡ true → a ≡ true
left true b h = refl
left false b h = h

pub right : (a b : Bool) → (a && b) ≡ true → b ≡ true
right true b h = h
right false b h = absurd (true≢false (sym h))

pub passes_once : (p : Field → Bool) (name : Name) (fields : List Field) (f : Field)
    → is_at_most_one p (of_name name fields) ≡ true → Among fields f → is_named name f ≡ true → p f ≡ true
unfolding of_name
passes_once p name fields f h is named =
    once p (filter (is_named name) fields) f h (filtered (is_named name) fields f is named)

pub basic_by : (S : Schema) (o : Option ℕ) → option_map_or is_basic (option_and_then (what_at S) o) false ≡ true
    → (n : ℕ) × (d : Declaration) × (own : Leaf) × (o ≡ Some n) × (slice_get S n ≡ Some d) × (d.what ≡ Basic own)
basic_by S None h = absurd (true≢false (sym h))
basic_by S (Some n) h = declared (slice_get S n) refl h
  where
    own_of : (d : Declaration) (what : What) → d.what ≡ what → is_basic what ≡ true
        → (own : Leaf) × (d.what ≡ Basic own)
    own_of d (Basic own) e h = (own, e)
    own_of d (Stored storage members) e h = absurd (true≢false (sym h))
    own_of d Struct e h = absurd (true≢false (sym h))
    own_of d (Block parent is_abstract) e h = absurd (true≢false (sym h))

    declared : (o : Option Declaration) → slice_get S n ≡ o
        → option_map_or is_basic (option_and_then (λ d. Some d.what) o) false ≡ true
        → (k : ℕ) × (d : Declaration) × (own : Leaf) × (Some n ≡ Some k) × (slice_get S k ≡ Some d)
        × (d.what ≡ Basic own)
    declared None e h = absurd (true≢false (sym h))
    declared (Some d) e h = let own = own_of d d.what refl h in (n, d, own.0, refl, e, own.1)

-- it has its leaf
pub own_leaf : (S : Schema) → IsSchema S → (n : ℕ) (d : Declaration) (own wanted : Leaf) → slice_get S n ≡ Some d
    → d.what ≡ Basic own → listed_leaf d.name ≡ Some wanted → own ≡ wanted
own_leaf S is n d own wanted at what listed =
    let all : HasItsLeaf (get_or S n d) = is.leaves n d (slice_get_within S n d at) in
    let mine : HasItsLeaf d = subst HasItsLeaf (get_or_from_slice_get S n d d at) all in
    let P : What → Type 0 = λ what. HasItsLeaf (record { name = d.name; what = what; fields = d.fields }) in
    let basic : IsLeafOf d.name own = subst P what mine in
    subst (λ (o : Option Leaf). MatchOption o (IsOtherLeaf own) (λ wanted. own ≡ wanted)) listed basic

pub found_declared : (S : Schema) (name : Name) (n : ℕ) (d : Declaration) → find S name ≡ Some n
    → slice_get S n ≡ Some d → d.name ≡ name
found_declared S name n d found at =
    sym (ap (λ o. option_map_or (λ (x : Declaration). x.name) o []) at) ∙ found_name S name n found

pub of_basic : (S : Schema) (name : Name) (f : Field) → is_of_basic S name f ≡ true
    → (f.kind ≡ name) × (option_map_or is_basic (option_and_then (what_at S) (find S name)) false ≡ true)
unfolding is_of_basic
of_basic S name f h =
    let same = left (bytes_eq f.kind name) (declares S is_basic name) h in
    ((bytes_eq-Decides f.kind name).0 same, right (bytes_eq f.kind name) (declares S is_basic name) h)

pub own_kind : (S : Schema) (C : Context) (n : ℕ) (template : Option ℕ) (arg : ℕ) (d : Declaration) (own : Leaf)
    → slice_get S n ≡ Some d → d.what ≡ Basic own
    → kind_of S C n template arg ≡ kind_of_leaf C template own
own_kind S C n template arg d own at what = rw (at, what) refl

pub root_within : (S : Schema) (name : Name) (n : ℕ) → IsRoot S name n → n < length S
root_within S name n root = by (slice_get S n) refl root.declared
  where
    by : (o : Option Declaration) → slice_get S n ≡ o → option_and_then (λ d. Some d.what) o ≡ Some Struct
        → n < length S
    by None e h = absurd (cc)
    by (Some d) e h = slice_get_within S n d e

pub no_parent : (S : Schema) (n : ℕ) → what_at S n ≡ Some Struct → parent S n ≡ None
unfolding parent
no_parent S n struct = by (slice_get S n) struct
  where
    by : (o : Option Declaration) → option_and_then (λ d. Some d.what) o ≡ Some Struct
        → option_and_then (find_block S) (option_and_then (λ (d : Declaration). inherited d.what) o) ≡ None
    by None e = refl
    by (Some d) e = let what : d.what ≡ Struct = cc in rw what refl

pub struct_line : (S : Schema) (n : ℕ) → n < length S → what_at S n ≡ Some Struct → line S n ≡ fields_of S n
struct_line S n below struct = by (length S) below
  where
    by : (most : ℕ) → n < most → line_within most S n ≡ fields_of S n
    by zero lt = absurd (omega arith)
    by (suc most) lt = ap (λ o. option_map_or (line_within most S) o [] ++ fields_of S n) (no_parent S n struct)

pub header_is : (S : Schema) (n : ℕ) → find S (codes "Header") ≡ Some n → header_fields S ≡ fields_of S n
unfolding header_fields
header_is S n found = ap (λ o. option_map_or (fields_of S) o []) found

pub header_line_is : (S : Schema) (n : ℕ) → IsRoot S (codes "Header") n → header_line S ≡ header_fields S
header_line_is S n root =
    ap (λ o. option_map_or (line S) o []) root.found
    ∙ struct_line S n (root_within S (codes "Header") n root) root.declared ∙ sym (header_is S n root.found)

pub no_value : {A : Type 0} (o : Option A) → is_none o ≡ true → o ≡ None
no_value None h = refl
no_value (Some x) h = absurd (true≢false (sym h))

-- a bare field is always present
pub bare_present : (S : Schema) (C : Context) (E : Env) (f : Field) → is_bare f ≡ true → present S C 0 E f ≡ true
bare_present S C E f h =
    let p = left (is_plain f) (is_none f.length && has_no_bounds f) h in
    let bounds = right (is_none f.length) (has_no_bounds f) (right (is_plain f) (is_none f.length && has_no_bounds f) h) in
    let c = right (is_none f.width) (has_no_condition f) (right (is_none f.arg) (is_none f.width && has_no_condition f) (right (is_none f.template) (is_none f.arg && (is_none f.width && has_no_condition f)) p)) in
    let c1 = right (is_none f.cond) _ c in
    let c2 = right (is_none f.vercond) _ c1 in
    let c3 = right (is_none f.user) _ c2 in
    let c4 = right (is_none f.bs) _ c3 in
    let cond = no_value f.cond (left (is_none f.cond) _ c) in
    let vercond = no_value f.vercond (left (is_none f.vercond) _ c1) in
    let user = no_value f.user (left (is_none f.user) _ c2) in
    let bs = no_value f.bs (left (is_none f.bs) _ c3) in
    let only = no_value f.only (left (is_none f.only) (is_none f.exclude) c4) in
    let exclude = no_value f.exclude (right (is_none f.only) (is_none f.exclude) c4) in
    let since = no_value f.since (left (is_none f.since) (is_none f.until) bounds) in
    let until = no_value f.until (right (is_none f.since) (is_none f.until) bounds) in
    rw (cond, vercond, user, bs, only, exclude, since, until) refl
