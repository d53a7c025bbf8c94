-- The numbers of blocks and of strings that a header says have 32 bits.
use Rattle.std.proofs.Common.{◌≡◌, ℕ, ◌^◌, ◌<◌, inl, inr, Bool, true, false, ◌&&◌, if◌then◌else◌, Option, Some, None, option_and_then, option_map, List, [], ◌∷◌, refl, sym, ◌∙◌, ap, subst, arith, lit<, true≢false}
use Rattle.std.specs.Prelude.{codes, not, is_some, is_none}
use Rattle.std.specs.Option.{option_map_or}
use Rattle.nif_base.specs.Node.{Node, Members}
use Rattle.nif_schema.specs.Declaration.{Name, Field}
use Rattle.nif_schema.specs.Schema.{Schema, IsSchema, find}
use Rattle.nif_schema.specs.Basic.{listed_leaf}
use Rattle.nif_schema.specs.Uses.{is_own_template}
use Rattle.nif_schema.specs.Roles.{Roles, header_fields, of_name, is_named, is_one, is_at_most_one, is_always, is_plain, is_single, is_array, is_after_version, is_of_basic, has_count, has_lists, has_type_lists, has_block_lists, has_string_lists, is_once, are_strings, begins_by_lowest, lasts_to_highest}
use Rattle.nif_schema.specs.declared.decls.Leaf.{Leaf}
use Rattle.nif_schema.specs.declared.decls.Leaf.TheVariants as leaf
use Rattle.nif_schema.specs.declared.decls.What.TheVariants.{Basic}
use Rattle.nif_layout.specs.Context.{Context}
use Rattle.nif_layout.specs.Earlier.{Env, last_present}
use Rattle.nif_layout.specs.Kind.{Kind, Number, Unknown, kind_of, kind_of_leaf}
use Rattle.nif_layout.specs.Form.{Form, One, form_of, field_kind, replaced}
use Rattle.nif_layout.specs.Leaf.{IsLeaf}
use Rattle.nif_layout.specs.PathValue.{number_in}
use Rattle.nif_layout.specs.Shape.{Shape, FormShape}
use Rattle.nif_layout.specs.Laws.{Fits}
use Rattle.nif_file.specs.Head.{number_of, header_context, file_context}
use Rattle.nif_file.specs.Checks.{header_check}
use Rattle.nif_file.specs.Files.{header_line, head_of, IsHeaderLine}
use Rattle.nif_file.specs.RoleLaws.{Among, Held, basic_by, found_declared, header_line_is, held, left, of_basic, own_kind, own_leaf, passes_once, right}

-- ---- the last present member of a name is a member that was read

-- ---- a field of a name that stands once

pub at_most : (p : Field → Bool) (fields : List Field) → is_one p fields ≡ true → is_at_most_one p fields ≡ true
at_most p [] h = refl
at_most p (g ∷ []) h = h
at_most p (g ∷ k ∷ fields) h = h

pub no_length : (f : Field) → is_none f.length ≡ true → f.length ≡ None
no_length f h = by f.length h
  where
    by : {A : Type 0} (o : Option A) → is_none o ≡ true → o ≡ None
    by None h = refl
    by (Some x) h = absurd (true≢false (sym h))

pub no_array : (f : Field) → not (is_array f) ≡ true → f.length ≡ None
no_array f h = by f.length h
  where
    by : {A : Type 0} (o : Option A) → not (is_some o) ≡ true → o ≡ None
    by None h = refl
    by (Some x) h = absurd (true≢false (sym h))

-- the rules of the number of blocks and of that of strings
pub count_rule : (S : Schema) (fields : List Field) (f : Field) → has_count S fields ≡ true → Among fields f → is_named (codes "Num Blocks") f ≡ true
    → (is_of_basic S (codes "ulittle32") f ≡ true) × (f.length ≡ None)
unfolding has_count
count_rule S fields f h is named =
    let p : Field → Bool = λ f. is_of_basic S (codes "ulittle32") f && is_always f in
    let one = left (is_one p (of_name (codes "Num Blocks") fields)) (is_after_version (codes "Num Blocks") fields) h in
    let passes = passes_once p (codes "Num Blocks") fields f (at_most p (of_name (codes "Num Blocks") fields) one) is named in
    let always = right (is_of_basic S (codes "ulittle32") f) (is_always f) passes in
    let bare = right (is_plain f) (is_none f.length && (begins_by_lowest f.since && lasts_to_highest f.until)) always in
    (left (is_of_basic S (codes "ulittle32") f) (is_always f) passes, no_length f (left (is_none f.length) (begins_by_lowest f.since && lasts_to_highest f.until) bare))

pub strings_of : (S : Schema) (fields : List Field) → has_lists S fields ≡ true → is_once (codes "Num Strings") (λ f. is_of_basic S (codes "uint") f && is_single f) fields ≡ true
unfolding has_lists has_string_lists
strings_of S fields h =
    let all = right (has_type_lists S fields) (has_block_lists S fields && has_string_lists S fields) h in
    let strings = right (has_block_lists S fields) (has_string_lists S fields) all in
    left (is_once (codes "Num Strings") (λ f. is_of_basic S (codes "uint") f && is_single f) fields)
    (is_once (codes "Strings") (are_strings S (codes "Num Strings")) fields) strings

pub strings_rule : (S : Schema) (fields : List Field) (f : Field) → has_lists S fields ≡ true → Among fields f → is_named (codes "Num Strings") f ≡ true
    → (is_of_basic S (codes "uint") f ≡ true) × (f.length ≡ None)
strings_rule S fields f h is named =
    let p : Field → Bool = λ f. is_of_basic S (codes "uint") f && is_single f in
    let passes = passes_once p (codes "Num Strings") fields f (strings_of S fields h) is named in
    let single = right (is_of_basic S (codes "uint") f) (is_single f) passes in
    (left (is_of_basic S (codes "uint") f) (is_single f) passes, no_array f (left (not (is_array f)) (is_none f.width && is_none f.arg) single))

-- ---- a number of a listed basic

-- a declaration that is found has the name

pub single_form : (S : Schema) (C : Context) (E : Env) (f : Field) → f.length ≡ None → form_of S C None 0 E f ≡ One (field_kind S C None 0 E f)
single_form S C E f none = rw none refl

looked_up : (S : Schema) (C : Context) (o : Option ℕ) (b : Bool) (K : ℕ → Kind) (n : ℕ) (kind : Kind) (value : Node) → o ≡ Some n → K n ≡ kind
    → Shape S C 63 (option_map_or K (if b then None else o) Unknown) value → Shape S C 63 kind value
looked_up S C o true K n kind value found is h = absurd h
looked_up S C o false K n kind value found is h =
    let e : option_map_or K o Unknown ≡ kind = ap (λ o. option_map_or K o Unknown) found ∙ is in
    subst (λ (k : Kind). Shape S C 63 k value) e h

-- what the value of a field of a basic is
pub basic_value : (S : Schema) → IsSchema S → (C : Context) (E : Env) (f : Field) (name : Name) (wanted : Leaf) (value : Node)
    → is_of_basic S name f ≡ true → f.length ≡ None → listed_leaf name ≡ Some wanted → FormShape S C 63 (form_of S C None 0 E f) value
    → Shape S C 63 (kind_of_leaf C (option_and_then (replaced S None) f.template) wanted) value
basic_value S is C E f name wanted value basic single listed h =
    let b = of_basic S name f basic in
    let r = basic_by S (find S name) b.1 in
    let n = r.0 in
    let d = r.1 in
    let found : find S f.kind ≡ Some n = ap (find S) b.0 ∙ r.3 in
    let has : listed_leaf d.name ≡ Some wanted = ap listed_leaf (found_declared S name n d r.3 r.4) ∙ listed in
    let own : r.2 ≡ wanted = own_leaf S is n d r.2 wanted r.4 r.5 has in
    let one : Shape S C 63 (field_kind S C None 0 E f) value = subst (λ (form : Form). FormShape S C 63 form value) (single_form S C E f single) h in
    looked_up S C (find S f.kind) (is_own_template f.kind) (λ number. kind_of S C number _ _) n (kind_of_leaf C (option_and_then (replaced S None) f.template) wanted) value found
    (own_kind S C n _ _ d wanted r.4 (r.5 ∙ ap (λ l. Basic l) own)) one

leaf_number : (C : Context) (little : Bool) (value : Node) → IsLeaf C (Number 4 little) value → number_in false value < 2 ^ 32
leaf_number C little value h =
    let low : h.0 < 256 ^ 4 = h.2 in
    let e : number_in false value ≡ h.0 = ap (number_in false) h.1 in
    omega arith

pub basic_number : (S : Schema) → IsSchema S → (C : Context) (E : Env) (f : Field) (name : Name) (signed little float : Bool) (value : Node)
    → is_of_basic S name f ≡ true → f.length ≡ None → listed_leaf name ≡ Some (leaf.Num 4 signed little float) → FormShape S C 63 (form_of S C None 0 E f) value → number_in false value < 2 ^ 32
basic_number S is C E f name signed little float value basic single listed h =
    leaf_number C little value (basic_value S is C E f name (leaf.Num 4 signed little float) value basic single listed h)

-- ---- the header

-- a number of the header has 32 bits, where its name names numbers of a basic of four bytes
named_number : (S : Schema) → IsSchema S → (members : Members) → IsHeaderLine S members → (name basic : Name) (signed little float : Bool) → listed_leaf basic ≡ Some (leaf.Num 4 signed little float)
    → ((f : Field) → Among (header_line S) f → is_named name f ≡ true → (is_of_basic S basic f ≡ true) × (f.length ≡ None)) → number_of name (head_of S members) < 2 ^ 32
named_number S is members h name basic signed little float listed rule = by (last_present name (head_of S members)) refl
  where
    V : Env → Field → Node → Type 0
    V E f = FormShape S (header_context S E) 63 (form_of S (header_context S E) None 0 E f)

    small : (at : Field × Node) → Held V (header_check S) (header_line S) name at.0 at.1 → number_in false at.1 < 2 ^ 32
    small at k =
        let r = rule at.0 k.among k.named in
        basic_number S is (header_context S k.before) k.before at.0 basic signed little float at.1 r.0 r.1 listed k.is

    by : (o : Option (Field × Node)) → last_present name (head_of S members) ≡ o → option_map_or (number_in false) (option_map (λ at. at.1) o) 0 < 2 ^ 32
    by None e = lit< tt
    by (Some at) e = elim (held _ V (header_check S) name (header_line S) [] members h at e) [
      | inl no_one ↦ absurd (cc)
      | inr k ↦ small at k
    ]

uint_leaf : listed_leaf (codes "uint") ≡ Some (leaf.Num 4 false false false)
unfolding listed_leaf
uint_leaf = refl

little_leaf : listed_leaf (codes "ulittle32") ≡ Some (leaf.Num 4 false true false)
unfolding listed_leaf
little_leaf = refl

pub head_fits : (S : Schema) → IsSchema S → Roles S → (members : Members) → IsHeaderLine S members → Fits (file_context S (head_of S members))
head_fits S is roles members h =
    let line_is = header_line_is S roles.roots.header roles.roots.is_header in
    record {
      blocks = named_number S is members h (codes "Num Blocks") (codes "ulittle32") false true false little_leaf
          (λ f among named. count_rule S (header_fields S) f roles.count (subst (λ (fields : List Field). Among fields f) line_is among) named);
      strings = named_number S is members h (codes "Num Strings") (codes "uint") false false false uint_leaf
          (λ f among named. strings_rule S (header_fields S) f roles.lists (subst (λ (fields : List Field). Among fields f) line_is among) named);
    }
