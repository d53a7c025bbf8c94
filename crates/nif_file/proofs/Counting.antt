-- How many items the lists of a header have: as many as the field says that is their length.
use Rattle.std.proofs.Common.{◌≡◌, ℕ, zero, suc, ◌⊎◌, inl, inr, Bool, true, false, ◌||◌, if◌then◌else◌, Option, Some, None, option_and_then, List, [], ◌∷◌, ◌++◌, slice_get, refl, sym, ◌∙◌, ap, subst, true≢false, append_assoc, append-nil}
use Rattle.std.specs.Prelude.{bytes_eq}
use Rattle.std.specs.List.{list_any}
use Rattle.std.specs.Option.{option_map, option_map_or, unwrap_or}
use Rattle.std.proofs.lemmas.Slice.Eq.{bytes_eq-Decides}
use lib.Pointwise.{pointwise_decides, bytes_decides}
use Rattle.nif_base.specs.Node.{Node, Members}
use Rattle.nif_schema.specs.Declaration.{Name, Field, Formula, Read, Bad, Declaration}
use Rattle.nif_schema.specs.Expression.{Number, Arg, Path, Not, Two}
use Rattle.nif_schema.specs.Schema.{Schema, IsSchema, find, line}
use Rattle.nif_schema.specs.Basic.{listed_leaf}
use Rattle.nif_schema.specs.Uses.{named, what_at, is_own_template, is_struct}
use Rattle.nif_schema.specs.Uses as uses
use Rattle.nif_schema.specs.Paths as paths
use Rattle.nif_schema.specs.Paths.{path_reason, paths_of, fields_named, is_header_path, type_of}
use Rattle.nif_schema.specs.Reasons.{fields_reason, field_reason, formula_reason, width_reason, width_where, reason_where, is_bad_bound, is_no_block, is_bad_exact, kind_reason, template_reason, line_above}
use Rattle.nif_schema.specs.Roles.{Roles, is_bare_name, is_of_basic}
use Rattle.nif_schema.specs.declared.decls.Leaf.TheVariants as leaf
use Rattle.nif_schema.specs.declared.decls.What.TheVariants.{Basic, Struct}
use Rattle.nif_schema.specs.declared.faults.Closed.{Closed}
use Rattle.nif_schema.specs.declared.faults.Closed.TheVariants as closed
use Rattle.nif_layout.specs.Context.{Context}
use Rattle.nif_layout.specs.Earlier.{Env, behind, has_name, last_present, passed}
use Rattle.nif_layout.specs.Members.{Member, Check, Fields}
use Rattle.nif_layout.specs.OpenTypeLaws.{no_first, no_reason_at, own_facts}
use Rattle.nif_layout.specs.PathValue.{is_signed, leaf_of, is_signed_leaf, number_in, found, follow, path_value}
use Rattle.nif_layout.specs.PathValue as path
use Rattle.nif_layout.specs.Present.{formula_value}
use Rattle.nif_layout.specs.Form.{form_of}
use Rattle.nif_layout.specs.Shape.{FormShape}
use Rattle.nif_decode.specs.Scopes.{member_at}
use Rattle.nif_file.specs.Head.{header_context, number_of}
use Rattle.nif_file.specs.Checks.{header_check}
use Rattle.nif_file.specs.Files.{header_line, head_of, IsHeaderLine}
use Rattle.nif_file.specs.HeaderParts.{IsPlaceOf}
use Rattle.nif_file.specs.PlaceLaws.{none_named, other_name, neither}
use Rattle.nif_file.specs.RoleLaws.{Among, held, basic_by, own_leaf, found_declared, of_basic, no_parent, header_is, header_line_is}

-- ---- a field with what stands before and behind it

pub record Stands (V : Env → Field → Node → Type 0) (fields : List Field) (E : Env) (members : Members) (name : Name)
    (value : Node) : Type 0 where
  pub front : List Field
  pub field : Field
  pub back : List Field
  pub before : Env
  pub rest : Members
  pub split : fields ≡ front ++ field ∷ back
  pub named : bytes_eq name field.name ≡ true
  pub is : V before field value
  pub keeps : (n : Name) → has_name n E ≡ true → has_name n before ≡ true
  pub has : (n : Name) → list_any (λ (g : Field). bytes_eq n g.name) front ≡ true → has_name n before ≡ true
  pub later : passed fields members E ≡ passed back rest (behind field (Some value) before)

either : (a b : Bool) → (a || b) ≡ true → (a ≡ true) ⊎ (b ≡ true)
either true b h = inl refl
either false b h = inr h

or_later : (a b : Bool) → b ≡ true → (a || b) ≡ true
or_later true b h = refl
or_later false b h = h

or_first : (a b : Bool) → a ≡ true → (a || b) ≡ true
or_first true b h = refl
or_first false b h = absurd (true≢false (sym h))

some_node : {a b : Node} → Some a ≡ Some b → a ≡ b
some_node {a} {b} e = ap (λ o. unwrap_or o a) e

further : (V : Env → Field → Node → Type 0) (f : Field) (got : Option Node) (fields : List Field) (E : Env)
    (members rest : Members) (name : Name) (value : Node) → passed (f ∷ fields) members E ≡ passed fields rest (behind f got E)
    → Stands V fields (behind f got E) rest name value → Stands V (f ∷ fields) E members name value
further V f got fields E members rest name value same s = record {
  front = f ∷ s.front;
  field = s.field;
  back = s.back;
  before = s.before;
  rest = s.rest;
  split = ap (λ l. f ∷ l) s.split;
  named = s.named;
  is = s.is;
  keeps = λ n h. s.keeps n (or_later (bytes_eq n f.name) (has_name n E) h);
  has = λ n h. elim (either (bytes_eq n f.name) (list_any (λ (g : Field). bytes_eq n g.name) s.front) h) [
    | inl a ↦ s.keeps n (or_first (bytes_eq n f.name) (has_name n E) a)
    | inr b ↦ s.has n b
  ];
  later = same ∙ s.later;
}

pub stands : {Why : Type 0} (here : Env → Field → Bool) (V : Env → Field → Node → Type 0) (check : Check Why)
    (name : Name) (fields : List Field) (k : ℕ) (E : Env) (members : Members) (value : Node)
    → Fields here V check fields E members → IsPlaceOf name fields (Some k) → member_at members k ≡ Some value
    → Stands V fields E members name value
stands here V check name [] k E members value h is at = absurd is
stands {Why} here V check name (f ∷ fields) zero E members value h is at = by (here E f) members h at
  where
    by : (b : Bool) (members : Members)
        → Member b (V E f) (λ got rest. (check E f got ≡ None) × Fields here V check fields (behind f got E) rest) members
        → member_at members zero ≡ Some value → Stands V (f ∷ fields) E members name value
    by true members h at =
        let at' : Some h.0 ≡ Some value = ap (λ m. member_at m zero) (sym h.2) ∙ at in
        let same : h.0 ≡ value = some_node at' in
        record {
          front = [];
          field = f;
          back = fields;
          before = E;
          rest = h.1;
          split = refl;
          named = is.0;
          is = subst (V E f) same h.3;
          keeps = λ n e. e;
          has = λ n e. absurd (true≢false (sym e));
          later = ap (λ m. passed (f ∷ fields) m E) h.2 ∙ ap (λ v. passed fields h.1 (behind f (Some v) E)) same;
        }
    by false members h at =
        let none : None ≡ Some value = ap (λ m. member_at m zero) (sym h.1) ∙ at in absurd cc
stands {Why} here V check name (f ∷ fields) (suc k) E members value h is at =
    by (here E f) members h at (λ got rest more there. stands here V check name fields k (behind f got E) rest value more is.1 there)
  where
    by : (b : Bool) (members : Members)
        → Member b (V E f) (λ got rest. (check E f got ≡ None) × Fields here V check fields (behind f got E) rest) members
        → member_at members (suc k) ≡ Some value
        → ((got : Option Node) (rest : Members) → Fields here V check fields (behind f got E) rest → member_at rest k ≡ Some value
        → Stands V fields (behind f got E) rest name value)
        → Stands V (f ∷ fields) E members name value
    by true members h at ih =
        let at' : member_at h.1 k ≡ Some value = ap (λ m. member_at m (suc k)) (sym h.2) ∙ at in
        further V f (Some h.0) fields E members h.1 name value (ap (λ m. passed (f ∷ fields) m E) h.2) (ih (Some h.0) h.1 h.4.1 at')
    by false members h at ih =
        let at' : member_at h.0 k ≡ Some value = ap (λ m. member_at m (suc k)) (sym h.1) ∙ at in
        further V f None fields E members h.0 name value (ap (λ m. passed (f ∷ fields) m E) h.1) (ih None h.0 h.2.1 at')

-- the only field of a name stands among the first, so not among the others
only_front : (name : Name) (front back : List Field) (k : ℕ) → IsPlaceOf name (front ++ back) (Some k)
    → list_any (λ (g : Field). bytes_eq name g.name) front ≡ true → list_any (λ (g : Field). bytes_eq name g.name) back ≡ false
only_front name [] back k is h = absurd (true≢false (sym h))
only_front name (g ∷ front) back zero is h = none_behind front is.1
  where
    none_behind : (front : List Field) → list_any (λ (g : Field). bytes_eq name g.name) (front ++ back) ≡ false
        → list_any (λ (g : Field). bytes_eq name g.name) back ≡ false
    none_behind [] e = e
    none_behind (g ∷ front) e =
        none_behind front (neither (bytes_eq name g.name) (list_any (λ (g : Field). bytes_eq name g.name) (front ++ back)) e).1
only_front name (g ∷ front) back (suc k) is h = elim (either (bytes_eq name g.name) (list_any (λ (g : Field). bytes_eq name g.name) front) h) [
  | inl a ↦ absurd (true≢false (sym a ∙ is.0))
  | inr b ↦ only_front name front back k is.1 b
]

-- ---- a length that is the bare name of a field

pub bare_is : (name : Name) (l : Formula) → is_bare_name name (Some l) ≡ true → l ≡ Read (Path (name ∷ []))
bare_is name Bad h = absurd (true≢false (sym h))
bare_is name (Read (Number value)) h = absurd (true≢false (sym h))
bare_is name (Read Arg) h = absurd (true≢false (sym h))
bare_is name (Read (Path [])) h = absurd (true≢false (sym h))
bare_is name (Read (Path (first ∷ []))) h = ap (λ n. Read (Path (n ∷ []))) ((bytes_eq-Decides first name).0 h)
bare_is name (Read (Path (first ∷ second ∷ names))) h = absurd (true≢false (sym h))
bare_is name (Read (Not of)) h = absurd (true≢false (sym h))
bare_is name (Read (Two op a b)) h = absurd (true≢false (sym h))

pub bare_value : (S : Schema) (C : Context) (E : Env) (name : Name) → has_name name E ≡ true
    → formula_value S C E 0 (Read (Path (name ∷ []))) ≡ path.number_of S (found (last_present name E))
bare_value S C E name has =
    let names : List Name = name ∷ [] in
    ap (λ b. if b then unwrap_or (path_value S C E names) 0 else 0) ((pointwise_decides bytes_decides names names).1 refl)
    ∙ ap (λ b. unwrap_or (if b then Some (follow S (found (last_present name E)) []) else path.header_value C names) 0) has

-- a field of a listed basic that isn't signed
pub unsigned : (S : Schema) → IsSchema S → (f : Field) (name : Name) (width : ℕ) (little float : Bool) → is_of_basic S name f ≡ true
    → is_own_template name ≡ false → listed_leaf name ≡ Some (leaf.Num width false little float) → is_signed S f ≡ false
unfolding named
unsigned S is f name width little float basic other listed =
    let b = of_basic S name f basic in
    let r = basic_by S (find S name) b.1 in
    let wanted = leaf.Num width false little float in
    let own : r.2 ≡ wanted = own_leaf S is r.0 r.1 r.2 wanted r.4 r.5 (ap listed_leaf (found_declared S name r.0 r.1 r.3 r.4) ∙ listed) in
    let what : what_at S r.0 ≡ Some (Basic wanted) =
    ap (λ o. option_and_then (λ (d : Declaration). Some d.what) o) r.4 ∙ ap (λ w. Some w) (r.5 ∙ ap (λ l. Basic l) own) in
    let kind : type_of S f ≡ Some (Basic wanted) =
    ap (λ n. option_and_then (what_at S) (if is_own_template n then None else find S n)) b.0
    ∙ ap (λ t. option_and_then (what_at S) (if t then None else find S name)) other
    ∙ ap (option_and_then (what_at S)) r.3 ∙ what in
    ap (λ o. option_map_or (λ what. is_signed_leaf (leaf_of S what)) o false) kind

-- ---- an open header: the bare name of a length is that of an earlier field

reason_at : (S : Schema) (b : Bool) (earlier front back : List Field) (f : Field)
    → fields_reason S b earlier (front ++ f ∷ back) ≡ None → field_reason S b (earlier ++ front) f ≡ None
reason_at S b earlier [] back f e =
    let r = no_first (field_reason S b earlier f) _ e in
    subst (λ l. field_reason S b l f ≡ None) (sym (append-nil earlier)) r.0
reason_at S b earlier (g ∷ front) back f e =
    let r = no_first (field_reason S b earlier g) _ e in
    let r2 = no_first (fields_reason S b (earlier ++ g ∷ []) (front ++ f ∷ back)) [] r.1 in
    subst (λ l. field_reason S b l f ≡ None) (append_assoc earlier (g ∷ []) front) (reason_at S b (earlier ++ g ∷ []) front back f r2.0)

length_reason : (S : Schema) (b : Bool) (earlier : List Field) (f : Field) → field_reason S b earlier f ≡ None
    → formula_reason S earlier f.length ≡ None
unfolding field_reason
length_reason S b earlier f e =
    let reasons : List (Option Closed) =
    kind_reason S b f ∷ template_reason S b f ∷ reason_where closed.C11 (is_bad_bound f.since || is_bad_bound f.until)
    ∷ reason_where closed.C12 (is_no_block S f.only || is_no_block S f.exclude)
    ∷ reason_where closed.C4 (is_bad_exact f.user || is_bad_exact f.bs) ∷ formula_reason S earlier f.vercond
    ∷ formula_reason S earlier f.cond ∷ formula_reason S earlier f.arg ∷ formula_reason S earlier f.length
    ∷ width_reason S earlier (width_where f.length f.width) ∷ [] in
    no_reason_at reasons 8 (formula_reason S earlier f.length) e refl

named_some : (name : Name) (fields : List Field) → list_any (λ (g : Field). bytes_eq name g.name) fields ≡ false → fields_named name fields ≡ []
named_some name [] h = refl
named_some name (g ∷ fields) h =
    let n = neither (bytes_eq name g.name) (list_any (λ (g : Field). bytes_eq name g.name) fields) h in
    rw n.0 (named_some name fields n.1)

earlier_named : (S : Schema) (earlier : List Field) (name : Name) → is_header_path (name ∷ []) ≡ false
    → path_reason S earlier (name ∷ []) ≡ None → list_any (λ (g : Field). bytes_eq name g.name) earlier ≡ true
earlier_named S earlier name other e = by (list_any (λ (g : Field). bytes_eq name g.name) earlier) refl
  where
    Reason : List paths.Meaning → Option Closed
    Reason l = elim l [ [] ↦ if is_header_path (name ∷ []) then None else Some closed.C5 | m ∷ ms ↦ paths.rest_reason S (m ∷ ms) [] ]

    by : (t : Bool) → list_any (λ (g : Field). bytes_eq name g.name) earlier ≡ t → t ≡ true
    by true h = refl
    by false h =
        let e' : Reason (fields_named name earlier) ≡ None = e in
        let none : Reason [] ≡ None = subst (λ l. Reason l ≡ None) (named_some name earlier h) e' in
        let no_path : (if is_header_path (name ∷ []) then None else Some closed.C5) ≡ Some closed.C5 =
        ap (λ b. if b then None else Some closed.C5) other in
        let both : Some closed.C5 ≡ None = sym no_path ∙ none in absurd cc

-- ---- the header

held_among : (S : Schema) (members : Members) → IsHeaderLine S members → (name : Name) (at : Field × Node)
    → last_present name (head_of S members) ≡ Some at → Among (header_line S) at.0 × (bytes_eq name at.0.name ≡ true)
held_among S members h name at e =
    elim (held _ (λ E f. FormShape S (header_context S E) 63 (form_of S (header_context S E) None 0 E f)) (header_check S) name
    (header_line S) [] members h at e) [
      | inl none ↦ absurd cc
      | inr k ↦ (k.among, k.named)
    ]

module _ (S : Schema) (roles : Roles S) (members : Members) (h : IsHeaderLine S members) where
  fields_open : (b : Bool) × (fields_reason S b [] (header_line S) ≡ None)
  fields_open = declared (slice_get S number) refl
    where
      number : ℕ
      number = roles.roots.header

      above : line_above S number ≡ []
      above = ap (λ o. option_map_or (line S) o []) (no_parent S number roles.roots.is_header.declared)

      declared : (o : Option Declaration) → slice_get S number ≡ o → (b : Bool) × (fields_reason S b [] (header_line S) ≡ None)
      declared None e =
          let none : what_at S number ≡ None = ap (λ o. option_and_then (λ (d : Declaration). Some d.what) o) e in
          let struct : what_at S number ≡ Some Struct = roles.roots.is_header.declared in
          let both : None ≡ Some Struct = sym none ∙ struct in absurd cc
      declared (Some d) e =
          let facts = own_facts S number d e (roles.roots.is_header.opens number (uses.Here number)) in
          let fields : d.fields ≡ header_line S =
          sym (header_line_is S number roles.roots.is_header ∙ header_is S number roles.roots.is_header.found
          ∙ ap (λ o. option_map_or (λ (d : Declaration). d.fields) o []) e) in (
            is_struct d.what,
            subst (λ l. fields_reason S (is_struct d.what) [] l ≡ None) fields
                (subst (λ l. fields_reason S (is_struct d.what) l d.fields ≡ None) above facts.fields),
          )

  abbrev V : Env → Field → Node → Type 0
  V E f = FormShape S (header_context S E) 63 (form_of S (header_context S E) None 0 E f)

  -- the length of a list, by the name of the field that it is
  pub count_is : (name counter : Name) (place count_place : ℕ) (value : Node) → IsPlaceOf counter (header_line S) (Some count_place)
      → is_header_path (counter ∷ []) ≡ false
      → ((g : Field) → Among (header_line S) g → bytes_eq counter g.name ≡ true → is_signed S g ≡ false)
      → (s : Stands V (header_line S) [] members name value) → (C : Context) (l : Formula) → s.field.length ≡ Some l
      → is_bare_name counter s.field.length ≡ true → formula_value S C s.before 0 l ≡ number_of counter (head_of S members)
  count_is name counter place count_place value counted other plain s C l long bare =
      ap (formula_value S C s.before 0) path_is
      ∙ bare_value S C s.before counter (s.has counter in_front)
      ∙ ap (λ o. path.number_of S (found o)) (sym unchanged)
      ∙ numbered (last_present counter (head_of S members)) refl
    where
      path_is : l ≡ Read (Path (counter ∷ []))
      path_is = bare_is counter l (ap (is_bare_name counter) (sym long) ∙ bare)

      in_front : list_any (λ (g : Field). bytes_eq counter g.name) s.front ≡ true
      in_front =
          let o = fields_open in
          let r = reason_at S o.0 [] s.front s.back s.field (subst (λ fields. fields_reason S o.0 [] fields ≡ None) s.split o.1) in
          let f : formula_reason S s.front (Some (Read (Path (counter ∷ [])))) ≡ None =
          ap (formula_reason S s.front) (sym (long ∙ ap (λ x. Some x) path_is)) ∙ length_reason S o.0 s.front s.field r in
          earlier_named S s.front counter other (no_first (path_reason S s.front (counter ∷ [])) [] f).0

      behind_front : list_any (λ (g : Field). bytes_eq counter g.name) (s.field ∷ s.back) ≡ false
      behind_front =
          only_front counter s.front (s.field ∷ s.back) count_place
          (subst (λ fields. IsPlaceOf counter fields (Some count_place)) s.split counted) in_front

      unchanged : last_present counter (head_of S members) ≡ last_present counter s.before
      unchanged =
          let n = neither (bytes_eq counter s.field.name) (list_any (λ (g : Field). bytes_eq counter g.name) s.back) behind_front in
          ap (last_present counter) s.later ∙ none_named counter s.back s.rest (behind s.field (Some value) s.before) n.1
          ∙ other_name counter s.field (Some value) s.before n.0

      numbered : (o : Option (Field × Node)) → last_present counter (head_of S members) ≡ o
          → path.number_of S (found o) ≡ option_map_or (number_in false) (option_map (λ (at : Field × Node). at.1) o) 0
      numbered None e = refl
      numbered (Some at) e =
          let k = held_among S members h counter at e in
          ap (λ b. number_in b at.1) (plain at.0 k.0 k.1)
