-- How large the numbers of a header may be.
use Rattle.std.proofs.Common.{◌≡◌, ℕ, ◌^◌, ◌<◌, inl, inr, Bool, true, false, ◌&&◌, ◌||◌, Option, Some, None, option_and_then, option_map, List, [], length, slice_get, refl, sym, ◌∙◌, ap, subst, arith, lit<, true≢false}
use Rattle.std.specs.Prelude.{codes, bytes_eq, not, ◌==◌}
use Rattle.std.specs.Option.{option_map_or}
use Rattle.std.proofs.lemmas.Bool.{eqb-true}
use Rattle.std.proofs.lemmas.Option.{slice_get_within}
use Rattle.nif_base.specs.Node as node
use Rattle.nif_base.specs.Node.{Node, Members}
use Rattle.nif_schema.specs.Declaration.{Name, Field, Declaration}
use Rattle.nif_schema.specs.Schema.{Schema, IsSchema, find, fields_of, line}
use Rattle.nif_schema.specs.Basic.{listed_leaf}
use Rattle.nif_schema.specs.Uses.{named, what_at, is_struct, is_generic, is_own_template}
use Rattle.nif_schema.specs.Roles.{Roles, header_fields, of_name, is_named, is_one, is_at_most_one, is_always, is_plain, is_single, is_array, is_after_version, is_of_basic, is_of_byte, is_stored_byte, is_byte, is_bs_header, has_bs_version, has_version, has_user_versions, is_once_behind, has_lists, has_type_lists, has_block_lists, has_string_lists, is_once, is_type_count, begins_by_lowest, lasts_to_highest}
use Rattle.nif_schema.specs.declared.decls.Leaf.{Leaf}
use Rattle.nif_schema.specs.declared.decls.Leaf.TheVariants as leaf
use Rattle.nif_schema.specs.declared.decls.What.{What}
use Rattle.nif_schema.specs.declared.decls.What.TheVariants.{Basic, Stored, Struct, Block}
use Rattle.nif_layout.specs.Context.{Context}
use Rattle.nif_layout.specs.Earlier.{Env, last_present, passed}
use Rattle.nif_layout.specs.Kind.{Kind, Number, Group, Unknown, kind_of, kind_of_leaf, kind_of_what}
use Rattle.nif_layout.specs.Form.{Form, One, form_of, field_kind, replaced}
use Rattle.nif_layout.specs.Present.{formula_value}
use Rattle.nif_layout.specs.Fault.{Fault}
use Rattle.nif_layout.specs.Leaf.{IsLeaf}
use Rattle.nif_layout.specs.Members.{no_check}
use Rattle.nif_layout.specs.PathValue.{number_in, fields_in, basic_leaf, leaf_of}
use Rattle.nif_layout.specs.Shape.{Shape, FormShape, IsForm}
use Rattle.nif_file.specs.Head.{number_of, inner_number, header_context}
use Rattle.nif_file.specs.Files.{header_line}
use Rattle.nif_file.specs.Heads.{IsSmall, IsNext}
use Rattle.nif_file.specs.RoleLaws.{Among, Held, held, passes_once, left, right, basic_by, own_leaf, found_declared, of_basic, own_kind, struct_line, header_line_is}
use Rattle.nif_file.proofs.HeadNumbers.{at_most, no_array, no_length, count_rule, strings_rule, single_form, basic_value, basic_number}

-- ---- the rules of single fields

once_rule : (S : Schema) (name : Name) (passes : Field → Bool) (fields : List Field) (f : Field) → is_once_behind name passes fields ≡ true → Among fields f → is_named name f ≡ true
    → (passes f ≡ true) × (f.length ≡ None)
once_rule S name passes fields f h is named =
    let p : Field → Bool = λ f. not (is_array f) && passes f in
    let one = left (is_at_most_one p (of_name name fields)) (is_after_version name fields) h in
    let both = passes_once p name fields f one is named in
    (right (not (is_array f)) (passes f) both, no_array f (left (not (is_array f)) (passes f) both))

pub version_rule : (S : Schema) (fields : List Field) (f : Field) → has_version S fields ≡ true → Among fields f → is_named (codes "Version") f ≡ true
    → (is_of_basic S (codes "FileVersion") f ≡ true) × (f.length ≡ None)
unfolding has_version
version_rule S fields f h is named =
    let p : Field → Bool = λ f. is_of_basic S (codes "FileVersion") f && is_always f in
    let one = left (is_one p (of_name (codes "Version") fields)) _ h in
    let passes = passes_once p (codes "Version") fields f (at_most p (of_name (codes "Version") fields) one) is named in
    let always = right (is_of_basic S (codes "FileVersion") f) (is_always f) passes in
    let bare = right (is_plain f) _ always in
    (left (is_of_basic S (codes "FileVersion") f) (is_always f) passes, no_length f (left _ (begins_by_lowest f.since && lasts_to_highest f.until) bare))

-- the rules of the versions and of the byte order, one by one
pub record UserRules (S : Schema) (fields : List Field) : Type 0 where
  pub order : is_once_behind (codes "Endian Type") (is_of_byte S) fields ≡ true
  pub user : is_once_behind (codes "User Version") (is_of_basic S (codes "ulittle32")) fields ≡ true
  pub second : is_once_behind (codes "User Version 2") (is_of_basic S (codes "ulittle32")) fields ≡ true
  pub inner : is_once_behind (codes "BS Header") (is_bs_header S) fields ≡ true

pub user_rules : (S : Schema) (fields : List Field) → has_user_versions S fields ≡ true → UserRules S fields
unfolding has_user_versions
user_rules S fields h =
    let a = is_once_behind (codes "Endian Type") (is_of_byte S) fields in
    let b = is_once_behind (codes "User Version") (is_of_basic S (codes "ulittle32")) fields in
    let c = is_once_behind (codes "User Version 2") (is_of_basic S (codes "ulittle32")) fields in
    let d = is_once_behind (codes "BS Header") (is_bs_header S) fields in
    let h1 = right a _ h in
    let h2 = right b _ h1 in
    let h3 = right c _ h2 in
    record { order = left a _ h; user = left b _ h1; second = left c _ h2; inner = left d _ h3 }

pub types_rule : (S : Schema) (fields : List Field) (f : Field) → has_lists S fields ≡ true → Among fields f → is_named (codes "Num Block Types") f ≡ true
    → ((is_of_basic S (codes "ushort") f || is_of_basic S (codes "uint") f) ≡ true) × (f.length ≡ None)
unfolding has_lists has_type_lists is_type_count
types_rule S fields f h is named =
    let lists = left (has_type_lists S fields) (has_block_lists S fields && has_string_lists S fields) h in
    let once = left (is_once (codes "Num Block Types") (is_type_count S) fields) _ lists in
    let passes = passes_once (is_type_count S) (codes "Num Block Types") fields f once is named in
    let single = right (is_of_basic S (codes "ushort") f || is_of_basic S (codes "uint") f) (is_single f) passes in
    (left (is_of_basic S (codes "ushort") f || is_of_basic S (codes "uint") f) (is_single f) passes, no_array f (left (not (is_array f)) _ single))

-- ---- numbers by their widths

leaf_below : (C : Context) (width : ℕ) (little : Bool) (value : Node) → IsLeaf C (Number width little) value → number_in false value < 256 ^ width
leaf_below C width little value h = subst (λ (at : Node). number_in false at < 256 ^ width) (sym h.1) h.2

version_leaf : listed_leaf (codes "FileVersion") ≡ Some (leaf.Num 4 false true false)
unfolding listed_leaf
version_leaf = refl

little_leaf : listed_leaf (codes "ulittle32") ≡ Some (leaf.Num 4 false true false)
unfolding listed_leaf
little_leaf = refl

uint_leaf : listed_leaf (codes "uint") ≡ Some (leaf.Num 4 false false false)
unfolding listed_leaf
uint_leaf = refl

ushort_leaf : listed_leaf (codes "ushort") ≡ Some (leaf.Num 2 false false false)
unfolding listed_leaf
ushort_leaf = refl

module _ (S : Schema) (is : IsSchema S) (C : Context) where
  -- a number of four bytes by its name
  four : (E : Env) (f : Field) (value : Node) (name : Name) (little : Bool) → listed_leaf name ≡ Some (leaf.Num 4 false little false) → is_of_basic S name f ≡ true → f.length ≡ None
      → FormShape S C 63 (form_of S C None 0 E f) value → number_in false value < 2 ^ 32
  four E f value name little listed basic single h = basic_number S is C E f name false little false value basic single listed h

  two : (E : Env) (f : Field) (value : Node) → is_of_basic S (codes "ushort") f ≡ true → f.length ≡ None → FormShape S C 63 (form_of S C None 0 E f) value → number_in false value < 2 ^ 32
  two E f value basic single h =
      let shape : IsLeaf C (Number 2 false) value = basic_value S is C E f (codes "ushort") (leaf.Num 2 false false false) value basic single ushort_leaf h in
      let low : number_in false value < 256 ^ 2 = leaf_below C 2 false value shape in
      omega arith

  count_of_types : (E : Env) (f : Field) (value : Node) → (is_of_basic S (codes "ushort") f || is_of_basic S (codes "uint") f) ≡ true → f.length ≡ None
      → FormShape S C 63 (form_of S C None 0 E f) value → number_in false value < 2 ^ 32
  count_of_types E f value either single h = by (is_of_basic S (codes "ushort") f) refl either
    where
      by : (b : Bool) → is_of_basic S (codes "ushort") f ≡ b → (b || is_of_basic S (codes "uint") f) ≡ true → number_in false value < 2 ^ 32
      by true e o = two E f value e single h
      by false e o = four E f value (codes "uint") false uint_leaf o single h

  -- ---- types by name

  replaced_named : (name : Name) → replaced S None name ≡ named S name
  unfolding named
  replaced_named name = refl

  -- what one value of a type is, where what it declares is known
  kind_by : (d : ℕ) (E : Env) (f : Field) (n : ℕ) (what : What) (value : Node) → f.length ≡ None → named S f.kind ≡ Some n → what_at S n ≡ Some what → FormShape S C d (form_of S C None 0 E f) value
      → (template : Option ℕ) × (arg : ℕ) × Shape S C d (kind_of_what S C n template arg what) value
  kind_by d E f n what value single found is h =
      let template = option_and_then (replaced S None) f.template in
      let arg = option_map_or (formula_value S C E 0) f.arg 0 in
      let one : Shape S C d (field_kind S C None 0 E f) value = subst (λ (form : Form). FormShape S C d form value) (single_form S C E f single) h in
      let k : field_kind S C None 0 E f ≡ kind_of_what S C n template arg what =
      ap (λ o. option_map_or (λ number. kind_of S C number template arg) o Unknown) (replaced_named f.kind ∙ found) ∙ ap (λ o. option_map_or (kind_of_what S C n template arg) o Unknown) is in
      (template, arg, subst (λ (kind : Kind). Shape S C d kind value) k one)

  -- ---- the byte order

  byte_leaf : (what : What) → is_byte what ≡ true → (little : Bool) × (basic_leaf what ≡ leaf.Num 1 false little false) × (what ≡ Basic (basic_leaf what))
  byte_leaf (Basic (leaf.Num width signed little float)) h = by signed float (eqb-true width 1 (left (width == 1) (not (signed || float)) h)) (right (width == 1) (not (signed || float)) h)
    where
      by : (signed float : Bool) → width ≡ 1 → not (signed || float) ≡ true → (l : Bool) × (leaf.Num width signed little float ≡ leaf.Num 1 false l false) × (Basic (leaf.Num width signed little float) ≡ Basic (leaf.Num width signed little float))
      by false false w h = (little, ap (λ n. leaf.Num n false little false) w, refl)
      by false true w h = absurd (true≢false (sym h))
      by true float w h = absurd (true≢false (sym h))
  byte_leaf (Basic leaf.Bool) h = absurd (true≢false (sym h))
  byte_leaf (Basic leaf.Line) h = absurd (true≢false (sym h))
  byte_leaf (Basic leaf.Ref) h = absurd (true≢false (sym h))
  byte_leaf (Basic leaf.Ptr) h = absurd (true≢false (sym h))
  byte_leaf (Basic leaf.Text) h = absurd (true≢false (sym h))
  byte_leaf (Basic leaf.Unread) h = absurd (true≢false (sym h))
  byte_leaf (Stored storage members) h = absurd (true≢false (sym h))
  byte_leaf Struct h = absurd (true≢false (sym h))
  byte_leaf (Block parent is_abstract) h = absurd (true≢false (sym h))

  leaf_small : (value : Node) (own : Leaf) (template : Option ℕ) (little : Bool) → own ≡ leaf.Num 1 false little false → Shape S C 63 (kind_of_leaf C template own) value → number_in false value < 256
  leaf_small value own template little e h =
      let shape : IsLeaf C (Number 1 little) value = subst (λ (l : Leaf). Shape S C 63 (kind_of_leaf C template l) value) e h in
      let low : number_in false value < 256 ^ 1 = leaf_below C 1 little value shape in
      omega arith

  stored_leaf : (storage : Option Name) (members : _) → is_stored_byte S (Stored storage members) ≡ true → (little : Bool) × (leaf_of S (Stored storage members) ≡ leaf.Num 1 false little false)
  stored_leaf None members h = absurd (true≢false (sym h))
  stored_leaf (Some name) members h = by (option_and_then (what_at S) (find S name)) h
    where
      by : (o : Option What) → option_map_or is_byte o false ≡ true → (little : Bool) × (option_map_or basic_leaf o leaf.Unread ≡ leaf.Num 1 false little false)
      by None h = absurd (true≢false (sym h))
      by (Some what) h = let b = byte_leaf what h in (b.0, b.1)

  what_small : (n : ℕ) (what : What) (template : Option ℕ) (arg : ℕ) (value : Node) → is_stored_byte S what ≡ true → Shape S C 63 (kind_of_what S C n template arg what) value → number_in false value < 256
  what_small n (Basic own) template arg value h shape = let b = byte_leaf (Basic own) h in leaf_small value own template b.0 b.1 shape
  what_small n (Stored storage members) template arg value h shape = let b = stored_leaf storage members h in leaf_small value (leaf_of S (Stored storage members)) None b.0 b.1 shape
  what_small n Struct template arg value h shape = absurd (true≢false (sym h))
  what_small n (Block parent is_abstract) template arg value h shape = absurd (true≢false (sym h))

  byte_small : (E : Env) (f : Field) (value : Node) → is_of_byte S f ≡ true → f.length ≡ None → FormShape S C 63 (form_of S C None 0 E f) value → number_in false value < 256
  unfolding is_of_byte
  byte_small E f value h single shape = by (named S f.kind) refl h
    where
      what_by : (n : ℕ) (o : Option What) → named S f.kind ≡ Some n → what_at S n ≡ o → option_map_or (is_stored_byte S) o false ≡ true → number_in false value < 256
      what_by n None found e h = absurd (true≢false (sym h))
      what_by n (Some what) found e h = let k = kind_by 63 E f n what value single found e shape in what_small n what k.0 k.1 value h k.2

      by : (o : Option ℕ) → named S f.kind ≡ o → option_map_or (is_stored_byte S) (option_and_then (what_at S) o) false ≡ true → number_in false value < 256
      by None e h = absurd (true≢false (sym h))
      by (Some n) e h = what_by n (what_at S n) e refl h

  -- ---- the number in `BS Header`

  own_name : (template : Option ℕ) → replaced S template (codes "ulittle32") ≡ find S (codes "ulittle32")
  unfolding is_own_template
  own_name template = refl

  -- a number of a basic that isn't a template's, in any group
  basic_inside : (d : ℕ) (template : Option ℕ) (arg : ℕ) (E : Env) (f : Field) (value : Node) → is_of_basic S (codes "ulittle32") f ≡ true → f.length ≡ None → FormShape S C d (form_of S C template arg E f) value
      → number_in false value < 2 ^ 32
  basic_inside d template arg E f value basic single h =
      let name = codes "ulittle32" in
      let b = of_basic S name f basic in
      let r = basic_by S (find S name) b.1 in
      let n = r.0 in
      let own : r.2 ≡ leaf.Num 4 false true false = own_leaf S is n r.1 r.2 (leaf.Num 4 false true false) r.4 r.5 (ap listed_leaf (found_declared S name n r.1 r.3 r.4) ∙ little_leaf) in
      let inner = option_and_then (replaced S template) f.template in
      let value_of = option_map_or (formula_value S C E arg) f.arg 0 in
      let form : form_of S C template arg E f ≡ One (field_kind S C template arg E f) = rw single refl in
      let one : Shape S C d (field_kind S C template arg E f) value = subst (λ (z : Form). FormShape S C d z value) form h in
      let kind : field_kind S C template arg E f ≡ Number 4 true =
      ap (λ o. option_map_or (λ number. kind_of S C number inner value_of) o Unknown) (ap (replaced S template) b.0 ∙ own_name template ∙ r.3)
      ∙ own_kind S C n inner value_of r.1 (leaf.Num 4 false true false) r.4 (r.5 ∙ ap (λ l. Basic l) own) in
      let shape : IsLeaf C (Number 4 true) value = subst (λ (k : Kind). Shape S C d k value) kind one in
      let low : number_in false value < 256 ^ 4 = leaf_below C 4 true value shape in
      omega arith

  -- the members of the struct
  inside_small : (fields : List Field) (template : Option ℕ) (arg : ℕ) (members : Members) → is_one (λ f. is_of_basic S (codes "ulittle32") f && not (is_array f)) (of_name (codes "BS Version") fields) ≡ true
      → Shape S C 63 (Group fields template arg) (node.Group members) → number_of (codes "BS Version") (passed fields members []) < 2 ^ 32
  inside_small fields template arg members rule shape = by (last_present (codes "BS Version") (passed fields members [])) refl
    where
      p : Field → Bool
      p f = is_of_basic S (codes "ulittle32") f && not (is_array f)

      V : Env → Field → Node → Type 0
      V E f = IsForm (Shape S C 62) (form_of S C template arg E f)

      small : (at : Field × Node) → Held V (no_check {Why = Fault}) fields (codes "BS Version") at.0 at.1 → number_in false at.1 < 2 ^ 32
      small at k =
          let both = passes_once p (codes "BS Version") fields at.0 (at_most p (of_name (codes "BS Version") fields) rule) k.among k.named in
          basic_inside 62 template arg k.before at.0 at.1 (left (is_of_basic S (codes "ulittle32") at.0) (not (is_array at.0)) both) (no_array at.0 (right (is_of_basic S (codes "ulittle32") at.0) (not (is_array at.0)) both)) k.is

      same_members : (m : Members) → node.Group members ≡ node.Group m → members ≡ m
      same_members m e = cc

      by : (o : Option (Field × Node)) → last_present (codes "BS Version") (passed fields members []) ≡ o → option_map_or (number_in false) (option_map (λ at. at.1) o) 0 < 2 ^ 32
      by None e = lit< tt
      by (Some at) e =
          let there : last_present (codes "BS Version") (passed fields shape.0 []) ≡ Some at = subst (λ (m : Members). last_present (codes "BS Version") (passed fields m []) ≡ Some at) (same_members shape.0 shape.1) e in
          elim (held _ V (no_check {Why = Fault}) (codes "BS Version") fields [] shape.0 shape.2 at there) [
            | inl no_one ↦ absurd (cc)
            | inr k ↦ small at k
          ]

  -- the struct of `BS Header`
  pub record IsInner (f : Field) : Type 0 where
    pub number : ℕ
    pub found : named S f.kind ≡ Some number
    pub struct : what_at S number ≡ Some Struct
    pub one : is_one (λ f. is_of_basic S (codes "ulittle32") f && not (is_array f)) (of_name (codes "BS Version") (fields_of S number)) ≡ true
    pub line : fields_in S f ≡ fields_of S number

  pub inner_struct : (f : Field) → is_bs_header S f ≡ true → IsInner f
  unfolding is_bs_header
  inner_struct f h = by (named S f.kind) refl h
    where
      struct_of : (n : ℕ) (o : Option What) → what_at S n ≡ o → option_map_or is_struct o false ≡ true → what_at S n ≡ Some Struct
      struct_of n None e h = absurd (true≢false (sym h))
      struct_of n (Some Struct) e h = e
      struct_of n (Some (Basic own)) e h = absurd (true≢false (sym h))
      struct_of n (Some (Stored storage members)) e h = absurd (true≢false (sym h))
      struct_of n (Some (Block parent is_abstract)) e h = absurd (true≢false (sym h))

      within : (n : ℕ) (o : Option Declaration) → slice_get S n ≡ o → option_and_then (λ d. Some d.what) o ≡ Some Struct → n < length S
      within n None e h = absurd (cc)
      within n (Some d) e h = slice_get_within S n d e

      by : (o : Option ℕ) → named S f.kind ≡ o → option_map_or (has_bs_version S) o false ≡ true → IsInner f
      by None e h = absurd (true≢false (sym h))
      by (Some n) e h =
          let struct = struct_of n (what_at S n) refl (left (option_map_or is_struct (what_at S n) false) _ h) in
          let rest = right (option_map_or is_struct (what_at S n) false) _ h in
          record {
            number = n;
            found = e;
            struct = struct;
            one = right (not (is_generic S n)) _ rest;
            line = ap (λ o. option_map_or (line S) o []) e ∙ struct_line S n (within n (slice_get S n) refl struct) struct;
          }

  inner_small : (E : Env) (f : Field) (value : Node) → is_bs_header S f ≡ true → f.length ≡ None → FormShape S C 63 (form_of S C None 0 E f) value → inner_number S (codes "BS Version") f value < 2 ^ 32
  inner_small E f value h single shape =
      let i = inner_struct f h in
      let k = kind_by 63 E f i.number Struct value single i.found i.struct shape in
      let fields = line S i.number in
      let same : line S i.number ≡ fields_of S i.number = ap (λ o. option_map_or (line S) o []) (sym i.found) ∙ i.line in
      let moved : Shape S C 63 (Group (fields_of S i.number) k.0 k.1) value = subst (λ (fs : List Field). Shape S C 63 (Group fs k.0 k.1) value) same k.2 in
      let group : value ≡ node.Group moved.0 = moved.1 in
      let whole : Shape S C 63 (Group (fields_of S i.number) k.0 k.1) (node.Group moved.0) = subst (λ (at : Node). Shape S C 63 (Group (fields_of S i.number) k.0 k.1) at) group moved in
      let low = inside_small (fields_of S i.number) k.0 k.1 moved.0 i.one whole in
      let there : inner_number S (codes "BS Version") f (node.Group moved.0) < 2 ^ 32 = subst (λ (fs : List Field). number_of (codes "BS Version") (passed fs moved.0 []) < 2 ^ 32) (sym i.line) low in
      subst (λ (at : Node). inner_number S (codes "BS Version") f at < 2 ^ 32) (sym group) there

-- the struct of `BS Header`, whatever the context
pub record InnerOf (S : Schema) (f : Field) : Type 0 where
  pub number : ℕ
  pub found : named S f.kind ≡ Some number
  pub one : is_one (λ f. is_of_basic S (codes "ulittle32") f && not (is_array f)) (of_name (codes "BS Version") (fields_of S number)) ≡ true
  pub line : fields_in S f ≡ fields_of S number

pub bs_struct : (S : Schema) → IsSchema S → Roles S → (f : Field) → Among (header_line S) f → bytes_eq (codes "BS Header") f.name ≡ true → InnerOf S f
bs_struct S is roles f among n =
    let fields = header_fields S in
    let there : Among fields f = subst (λ (fs : List Field). Among fs f) (header_line_is S roles.roots.header roles.roots.is_header) among in
    let r = once_rule S (codes "BS Header") (is_bs_header S) fields f (user_rules S fields roles.user_versions).inner there n in
    let i = inner_struct S is (header_context S []) f r.0 in
    record { number = i.number; found = i.found; one = i.one; line = i.line }

-- The numbers of a member of the header are small.
pub small_member : (S : Schema) → IsSchema S → Roles S → (E : Env) (f : Field) (at : Node) (inner : ℕ) → Among (header_line S) f → IsNext S E f (Some at)
    → (bytes_eq (codes "BS Header") f.name ≡ true → inner ≡ inner_number S (codes "BS Version") f at) → IsSmall f.name (number_in false at) inner
small_member S is roles E f at inner among next inside =
    let fields = header_fields S in
    let C = header_context S E in
    let line_is = header_line_is S roles.roots.header roles.roots.is_header in
    let there : Among fields f = subst (λ (fs : List Field). Among fs f) line_is among in
    let rules = user_rules S fields roles.user_versions in
    let shape = next.1 in
    record {
      version = λ n. let r = version_rule S fields f roles.version there n in four S is C E f at (codes "FileVersion") true version_leaf r.0 r.1 shape;
      user = λ n. let r = once_rule S (codes "User Version") (is_of_basic S (codes "ulittle32")) fields f rules.user there n in four S is C E f at (codes "ulittle32") true little_leaf r.0 r.1 shape;
      second = λ n. let r = once_rule S (codes "User Version 2") (is_of_basic S (codes "ulittle32")) fields f rules.second there n in four S is C E f at (codes "ulittle32") true little_leaf r.0 r.1 shape;
      in_group = λ n. let r = once_rule S (codes "BS Header") (is_bs_header S) fields f rules.inner there n in
          subst (λ (k : ℕ). k < 2 ^ 32) (sym (inside n)) (inner_small S is C E f at r.0 r.1 shape);
      order = λ n. let r = once_rule S (codes "Endian Type") (is_of_byte S) fields f rules.order there n in byte_small S is C E f at r.0 r.1 shape;
      blocks = λ n. let r = count_rule S fields f roles.count there n in four S is C E f at (codes "ulittle32") true little_leaf r.0 r.1 shape;
      types = λ n. let r = types_rule S fields f roles.lists there n in count_of_types S is C E f at r.0 r.1 shape;
      strings = λ n. let r = strings_rule S fields f roles.lists there n in four S is C E f at (codes "uint") false uint_leaf r.0 r.1 shape;
    }
