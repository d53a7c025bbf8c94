-- What the lists of a header are, by the rules of roles: a row of sized strings, and rows of numbers.
use Rattle.std.proofs.Common.{◌≡◌, ℕ, zero, suc, ◌+◌, ◌^◌, ◌<◌, inl, inr, Bool, true, false, ◌&&◌, ◌||◌, if◌then◌else◌, Option, Some, None, option_and_then, option_map, List, [], ◌∷◌, slice_get, refl, sym, ◌∙◌, ap, subst, true≢false}
use Rattle.std.specs.Prelude.{codes, bytes_eq, not, is_none}
use Rattle.std.specs.List.{list_any}
use Rattle.std.specs.Option.{option_map_or}
use Rattle.std.proofs.lemmas.Option.{slice_get_within}
use Rattle.std.proofs.lemmas.Slice.Eq.{bytes_eq-Decides}
use Rattle.nif_base.specs.Node as node
use Rattle.nif_base.specs.Node.{Node, Members, End, Here, Absent}
use Rattle.nif_schema.specs.Declaration.{Name, Field, Formula, Declaration}
use Rattle.nif_schema.specs.Schema.{Schema, IsSchema, find, line, fields_of}
use Rattle.nif_schema.specs.Basic.{listed_leaf}
use Rattle.nif_schema.specs.Uses.{what_at, is_own_template, is_struct}
use Rattle.nif_schema.specs.Roles.{Roles, header_fields, is_named, is_once, is_plain, is_bare, has_no_bounds, has_length, is_bare_name, declares, is_of_basic, is_of_struct, has_lists, has_type_lists, has_block_lists, has_string_lists, are_strings, are_numbers, is_type_count, are_sized, sized_fields, has_sized_strings}
use Rattle.nif_schema.specs.declared.decls.Leaf.{Leaf}
use Rattle.nif_schema.specs.declared.decls.Leaf.TheVariants as leaf
use Rattle.nif_schema.specs.declared.decls.What.{What}
use Rattle.nif_schema.specs.declared.decls.What.TheVariants.{Basic, Stored, Struct, Block}
use Rattle.nif_layout.specs.Context.{Context}
use Rattle.nif_layout.specs.Earlier.{Env, behind, last_present}
use Rattle.nif_layout.specs.Present.{present, formula_value}
use Rattle.nif_layout.specs.Kind.{Number, Group, Unknown, kind_of, kind_of_leaf}
use Rattle.nif_layout.specs.Form.{Form, One, Run, Row, form_of, field_kind, replaced, row_of, is_run, is_basic, run_names}
use Rattle.nif_layout.specs.Members.{Member, Fields, Items, no_check}
use Rattle.nif_layout.specs.Fault.{Fault}
use Rattle.nif_layout.specs.Shape.{Shape, FormShape, IsForm}
use Rattle.nif_file.specs.Head.{header_context, member}
use Rattle.nif_file.specs.Checks.{header_check}
use Rattle.nif_file.specs.Files.{header_line, head_of, IsHeaderLine}
use Rattle.nif_file.specs.RoleLaws.{Among, Held, held, left, right, passes_once, basic_by, own_leaf, found_declared, of_basic, own_kind, struct_line, header_line_is}
use Rattle.nif_file.specs.RoleLaws.{bare_present}

-- ---- the shapes

-- a number below this one
abbrev pub IsNumber : ℕ → Node → Type 0
IsNumber below at = (width : ℕ) × (little : Bool) × (bits : ℕ) × (at ≡ node.Num width little bits) × (bits < below)

abbrev pub AreNumbers : ℕ → Members → Type 0
AreNumbers below End = Unit {0}
AreNumbers below (Here item rest) = IsNumber below item × AreNumbers below rest
AreNumbers below (Absent rest) = ⊥

-- a row of them
abbrev pub IsNumberRow : ℕ → Node → Type 0
IsNumberRow below at = (items : Members) × (at ≡ node.Row items) × AreNumbers below items

-- a sized string
abbrev pub IsString : Node → Type 0
IsString at = (width : ℕ) × (little : Bool) × (bits : ℕ) × (bytes : List ℕ) × (at ≡ node.Group (Here (node.Num width little bits) (Here (node.Bytes bytes) End)))

abbrev pub AreStrings : Members → Type 0
AreStrings End = Unit {0}
AreStrings (Here item rest) = IsString item × AreStrings rest
AreStrings (Absent rest) = ⊥

-- a row of them
abbrev pub IsStringRow : Node → Type 0
IsStringRow at = (items : Members) × (at ≡ node.Row items) × AreStrings items

-- ---- attributes

pub none_is : {A : Type 0} (o : Option A) → is_none o ≡ true → o ≡ None
none_is None h = refl
none_is (Some x) h = absurd (true≢false (sym h))

pub bare_length : (name : Name) (o : Option Formula) → is_bare_name name o ≡ true → (l : Formula) × (o ≡ Some l)
bare_length name None h = absurd (true≢false (sym h))
bare_length name (Some l) h = (l, refl)

-- an array of this length, without `width` and `arg`
pub record IsArray (f : Field) : Type 0 where
  pub size : Formula
  pub long : f.length ≡ Some size
  pub flat : f.width ≡ None
  pub plain : f.arg ≡ None

pub is_array : (name : Name) (f : Field) → has_length name f ≡ true → IsArray f
is_array name f h =
    let bare = left (is_bare_name name f.length) (is_none f.width && is_none f.arg) h in
    let others = right (is_bare_name name f.length) (is_none f.width && is_none f.arg) h in
    let l = bare_length name f.length bare in
    record { size = l.0; long = l.1; flat = none_is f.width (left (is_none f.width) (is_none f.arg) others); plain = none_is f.arg (right (is_none f.width) (is_none f.arg) others) }

abbrev run_of_field : Schema → Option ℕ → Field → Bool
run_of_field S template f = option_map_or (is_run S) (replaced S template f.kind) false

pub array_form : (S : Schema) (C : Context) (template : Option ℕ) (E : Env) (f : Field) (l : Formula) → f.length ≡ Some l → f.width ≡ None
    → form_of S C template 0 E f ≡ row_of (run_of_field S template f) (field_kind S C template 0 E f) (formula_value S C E 0 l)
array_form S C template E f l long flat = rw (long, flat) refl

pub single_form : (S : Schema) (C : Context) (template : Option ℕ) (E : Env) (f : Field) → f.length ≡ None → form_of S C template 0 E f ≡ One (field_kind S C template 0 E f)
single_form S C template E f none = rw none refl

-- ---- fields of basics

pub replaced_is : (S : Schema) (template : Option ℕ) (f : Field) (name : Name) (o : Option ℕ) → f.kind ≡ name → is_own_template name ≡ false → find S name ≡ o → replaced S template f.kind ≡ o
replaced_is S template f name o kind other found = ap (replaced S template) kind ∙ ap (λ b. if b then template else find S name) other ∙ found

pub run_is : (S : Schema) (n : ℕ) (d : Declaration) (own : Leaf) (name : Name) → slice_get S n ≡ Some d → d.what ≡ Basic own → d.name ≡ name → is_run S n ≡ list_any (bytes_eq name) run_names
run_is S n d own name at what named =
    ap (λ o. option_map_or (λ (d : Declaration). is_basic d.what && list_any (bytes_eq d.name) run_names) o false) at
    ∙ ap (λ w. is_basic w && list_any (bytes_eq d.name) run_names) what
    ∙ ap (λ name. list_any (bytes_eq name) run_names) named

-- what the declaration of a field of a basic says
pub record HasBasic (S : Schema) (C : Context) (template : Option ℕ) (E : Env) (f : Field) (name : Name) (wanted : Leaf) : Type 0 where
  pub inner : Option ℕ
  pub kind : field_kind S C template 0 E f ≡ kind_of_leaf C inner wanted
  pub run : run_of_field S template f ≡ list_any (bytes_eq name) run_names

pub has_basic : (S : Schema) → IsSchema S → (C : Context) (template : Option ℕ) (E : Env) (f : Field) (name : Name) (wanted : Leaf)
    → is_of_basic S name f ≡ true → is_own_template name ≡ false → listed_leaf name ≡ Some wanted → HasBasic S C template E f name wanted
has_basic S is C template E f name wanted basic other listed =
    let b = of_basic S name f basic in
    let r = basic_by S (find S name) b.1 in
    let n = r.0 in
    let d = r.1 in
    let found : replaced S template f.kind ≡ Some n = replaced_is S template f name (Some n) b.0 other r.3 in
    let named : d.name ≡ name = found_declared S name n d r.3 r.4 in
    let own : r.2 ≡ wanted = own_leaf S is n d r.2 wanted r.4 r.5 (ap listed_leaf named ∙ listed) in
    record {
      inner = option_and_then (replaced S template) f.template;
      kind = ap (λ o. option_map_or (λ number. kind_of S C number (option_and_then (replaced S template) f.template) (option_map_or (formula_value S C E 0) f.arg 0)) o Unknown) found
          ∙ own_kind S C n _ _ d wanted r.4 (r.5 ∙ ap (λ l. Basic l) own);
      run = ap (λ o. option_map_or (is_run S) o false) found ∙ run_is S n d r.2 name r.4 r.5 named;
    }

-- ---- rows of numbers

items_are_numbers : (S : Schema) (C : Context) (d : ℕ) (width : ℕ) (little : Bool) (n i : ℕ) (items : Members) → Items (λ i. Shape S C d (Number width little)) i n items → AreNumbers (256 ^ width) items
items_are_numbers S C d width little zero i items h = subst (AreNumbers (256 ^ width)) (sym h) tt
items_are_numbers S C d width little (suc n) i items h =
    let value = h.3 in
    subst (AreNumbers (256 ^ width)) (sym h.2) ((width, little, value.0, value.1, value.2), items_are_numbers S C d width little n (i + 1) h.1 h.4)

-- the items, as many as the length says
pub number_items : (S : Schema) → IsSchema S → (C : Context) (E : Env) (f : Field) (name : Name) (width : ℕ) (signed little float : Bool) (value : Node)
    → is_of_basic S name f ≡ true → is_own_template name ≡ false → listed_leaf name ≡ Some (leaf.Num width signed little float) → list_any (bytes_eq name) run_names ≡ false → (array : IsArray f)
    → FormShape S C 63 (form_of S C None 0 E f) value
    → (items : Members) × (value ≡ node.Row items) × Items (λ i. Shape S C 63 (Number width little)) 0 (formula_value S C E 0 array.size) items
number_items S is C E f name width signed little float value basic other listed no_run array h =
    let b = has_basic S is C None E f name (leaf.Num width signed little float) basic other listed in
    let count = formula_value S C E 0 array.size in
    let form : form_of S C None 0 E f ≡ Row count (λ i. One (Number width little)) =
    array_form S C None E f array.size array.long array.flat ∙ ap (λ r. row_of r (field_kind S C None 0 E f) count) (b.run ∙ no_run) ∙ ap (λ k. Row count (λ i. One k)) b.kind in
    let row : FormShape S C 63 (Row count (λ i. One (Number width little))) value = subst (λ (form : Form). FormShape S C 63 form value) form h in
    (row.0, row.1, row.2)

number_row : (S : Schema) → IsSchema S → (C : Context) (E : Env) (f : Field) (name : Name) (width : ℕ) (signed little float : Bool) (value : Node)
    → is_of_basic S name f ≡ true → is_own_template name ≡ false → listed_leaf name ≡ Some (leaf.Num width signed little float) → list_any (bytes_eq name) run_names ≡ false → IsArray f
    → FormShape S C 63 (form_of S C None 0 E f) value → IsNumberRow (256 ^ width) value
number_row S is C E f name width signed little float value basic other listed no_run array h =
    let row = number_items S is C E f name width signed little float value basic other listed no_run array h in
    (row.0, row.1, items_are_numbers S C 63 width little (formula_value S C E 0 array.size) 0 row.0 row.2)

-- ---- sized strings

pub uint_leaf : listed_leaf (codes "uint") ≡ Some (leaf.Num 4 false false false)
unfolding listed_leaf
uint_leaf = refl

pub char_leaf : listed_leaf (codes "char") ≡ Some (leaf.Num 1 false false false)
unfolding listed_leaf
char_leaf = refl

pub index_leaf : listed_leaf (codes "BlockTypeIndex") ≡ Some (leaf.Num 2 false false false)
unfolding listed_leaf
index_leaf = refl

pub uint_other : is_own_template (codes "uint") ≡ false
unfolding is_own_template
uint_other = refl

pub char_other : is_own_template (codes "char") ≡ false
unfolding is_own_template
char_other = refl

pub index_other : is_own_template (codes "BlockTypeIndex") ≡ false
unfolding is_own_template
index_other = refl

string_other : is_own_template (codes "SizedString") ≡ false
unfolding is_own_template
string_other = refl

-- a field that stands with no condition, whatever its length
plain_present : (S : Schema) (C : Context) (E : Env) (f : Field) → is_plain f ≡ true → has_no_bounds f ≡ true → present S C 0 E f ≡ true
plain_present S C E f plain unbound = bare_present S C E (record f { length = None }) (rw (plain, unbound) refl)

-- the two fields of a sized string
pub record AreTwo (S : Schema) (fields : List Field) : Type 0 where
  pub first : Field
  pub second : Field
  pub are : fields ≡ first ∷ second ∷ []
  pub first_named : is_named (codes "Length") first ≡ true
  pub second_counted : is_bare_name (codes "Length") second.length ≡ true
  pub first_basic : is_of_basic S (codes "uint") first ≡ true
  pub first_plain : is_plain first ≡ true
  pub first_single : first.length ≡ None
  pub first_unbound : has_no_bounds first ≡ true
  pub second_basic : is_of_basic S (codes "char") second ≡ true
  pub second_size : Formula
  pub second_long : second.length ≡ Some second_size
  pub second_plain : is_plain second ≡ true
  pub second_unbound : has_no_bounds second ≡ true

pub flat_is : (f : Field) → is_plain f ≡ true → f.width ≡ None
flat_is f h =
    let a = right (is_none f.template) (is_none f.arg && (is_none f.width && _)) h in
    let w = right (is_none f.arg) (is_none f.width && _) a in
    none_is f.width (left (is_none f.width) _ w)

pub two_fields : (S : Schema) (fields : List Field) → are_sized S fields ≡ true → AreTwo S fields
two_fields S [] h = absurd (true≢false (sym h))
two_fields S (f ∷ []) h = absurd (true≢false (sym h))
two_fields S (f ∷ g ∷ k ∷ fields) h = absurd (true≢false (sym h))
two_fields S (f ∷ g ∷ []) h =
    let sf = is_named (codes "Length") f && (is_of_basic S (codes "uint") f && is_bare f) in
    let sg = is_named (codes "Value") g && (is_of_basic S (codes "char") g && (is_bare_name (codes "Length") g.length && (is_plain g && has_no_bounds g))) in
    let hf = right (is_named (codes "Length") f) (is_of_basic S (codes "uint") f && is_bare f) (left sf sg h) in
    let hg = right (is_named (codes "Value") g) (is_of_basic S (codes "char") g && (is_bare_name (codes "Length") g.length && (is_plain g && has_no_bounds g))) (right sf sg h) in
    let bare = right (is_of_basic S (codes "uint") f) (is_bare f) hf in
    let rest = right (is_plain f) (is_none f.length && has_no_bounds f) bare in
    let long = right (is_of_basic S (codes "char") g) (is_bare_name (codes "Length") g.length && (is_plain g && has_no_bounds g)) hg in
    let l = bare_length (codes "Length") g.length (left (is_bare_name (codes "Length") g.length) (is_plain g && has_no_bounds g) long) in
    let both = right (is_bare_name (codes "Length") g.length) (is_plain g && has_no_bounds g) long in
    record {
      first = f;
      second = g;
      are = refl;
      first_named = left (is_named (codes "Length") f) (is_of_basic S (codes "uint") f && is_bare f) (left sf sg h);
      second_counted = left (is_bare_name (codes "Length") g.length) (is_plain g && has_no_bounds g) long;
      first_basic = left (is_of_basic S (codes "uint") f) (is_bare f) hf;
      first_plain = left (is_plain f) (is_none f.length && has_no_bounds f) bare;
      first_single = none_is f.length (left (is_none f.length) (has_no_bounds f) rest);
      first_unbound = right (is_none f.length) (has_no_bounds f) rest;
      second_basic = left (is_of_basic S (codes "char") g) (is_bare_name (codes "Length") g.length && (is_plain g && has_no_bounds g)) hg;
      second_size = l.0;
      second_long = l.1;
      second_plain = left (is_plain g) (has_no_bounds g) both;
      second_unbound = right (is_plain g) (has_no_bounds g) both;
    }

-- the value of each of the two
length_value : (S : Schema) → IsSchema S → (C : Context) (d : ℕ) (template : Option ℕ) (E : Env) (f : Field) (value : Node)
    → is_of_basic S (codes "uint") f ≡ true → f.length ≡ None → FormShape S C d (form_of S C template 0 E f) value → IsNumber (256 ^ 4) value
length_value S is C d template E f value basic single h =
    let b = has_basic S is C template E f (codes "uint") (leaf.Num 4 false false false) basic uint_other uint_leaf in
    let one : Shape S C d (Number 4 false) value = subst (λ (form : Form). FormShape S C d form value) (single_form S C template E f single ∙ ap (λ k. One k) b.kind) h in
    (4, false, one.0, one.1, one.2)

bytes_value : (S : Schema) → IsSchema S → (C : Context) (d : ℕ) (template : Option ℕ) (E : Env) (f : Field) (size : Formula) (value : Node)
    → is_of_basic S (codes "char") f ≡ true → f.length ≡ Some size → f.width ≡ None → FormShape S C d (form_of S C template 0 E f) value → (bytes : List ℕ) × (value ≡ node.Bytes bytes)
bytes_value S is C d template E f size value basic long flat h =
    let b = has_basic S is C template E f (codes "char") (leaf.Num 1 false false false) basic char_other char_leaf in
    let count = formula_value S C E 0 size in
    let form : form_of S C template 0 E f ≡ Run count = array_form S C template E f size long flat ∙ ap (λ r. row_of r (field_kind S C template 0 E f) count) b.run in
    let run : FormShape S C d (Run count) value = subst (λ (form : Form). FormShape S C d form value) form h in
    (run.0, run.1)

two_members : (members rest : Members) (a b : Node) (last : Members) (size bytes : Node) → members ≡ Here a rest → rest ≡ Here b last → last ≡ End → a ≡ size → b ≡ bytes → members ≡ Here size (Here bytes End)
two_members members rest a b last size bytes first second none is_size are_bytes = cc

grouped : (value : Node) (members others : Members) → value ≡ node.Group members → members ≡ others → value ≡ node.Group others
grouped value members others is same = cc

pub string_value : (S : Schema) → IsSchema S → (C : Context) (d : ℕ) (fields : List Field) (template : Option ℕ) (value : Node)
    → AreTwo S fields → Shape S C (suc d) (Group fields template 0) value → IsString value
string_value S is C d fields template value two h =
    let f = two.first in
    let g = two.second in
    let V : Env → Field → Node → Type 0 = λ E f. IsForm (Shape S C d) (form_of S C template 0 E f) in
    let group : Shape S C (suc d) (Group (f ∷ g ∷ []) template 0) value = subst (λ (fields : List Field). Shape S C (suc d) (Group fields template 0) value) two.are h in
    let After : Env → List Field → Option Node → Members → Type 0 = λ E fields got rest. (◌≡◌ {A = Option Fault} None None) × Fields (present S C 0) V (no_check {Why = Fault}) fields E rest in
    let one : Member true (V [] f) (λ got rest. After (behind f got []) (g ∷ []) got rest) group.0 =
    subst (λ b. Member b (V [] f) (λ got rest. After (behind f got []) (g ∷ []) got rest) group.0) (plain_present S C [] f two.first_plain two.first_unbound) group.2 in
    let E1 = behind f (Some one.0) [] in
    let other : Member true (V E1 g) (λ got rest. After (behind g got E1) [] got rest) one.1 =
    subst (λ b. Member b (V E1 g) (λ got rest. After (behind g got E1) [] got rest) one.1) (plain_present S C E1 g two.second_plain two.second_unbound) one.4.1 in
    let size = length_value S is C d template [] f one.0 two.first_basic two.first_single one.3 in
    let bytes = bytes_value S is C d template E1 g two.second_size other.0 two.second_basic two.second_long (flat_is g two.second_plain) other.3 in
    let inner : group.0 ≡ Here (node.Num size.0 size.1 size.2) (Here (node.Bytes bytes.0) End) =
    two_members group.0 one.1 one.0 other.0 other.1 (node.Num size.0 size.1 size.2) (node.Bytes bytes.0) one.2 other.2 other.4.1 size.3 bytes.1 in
    (size.0, size.1, size.2, bytes.0, grouped value group.0 (Here (node.Num size.0 size.1 size.2) (Here (node.Bytes bytes.0) End)) group.1 inner)

-- ---- rows of sized strings

pub struct_by : (S : Schema) (o : Option ℕ) → option_map_or is_struct (option_and_then (what_at S) o) false ≡ true → (n : ℕ) × (o ≡ Some n) × (what_at S n ≡ Some Struct)
struct_by S None h = absurd (true≢false (sym h))
struct_by S (Some n) h = (n, refl, declared (what_at S n) h)
  where
    declared : (o : Option What) → option_map_or is_struct o false ≡ true → o ≡ Some Struct
    declared None h = absurd (true≢false (sym h))
    declared (Some (Basic own)) h = absurd (true≢false (sym h))
    declared (Some (Stored storage members)) h = absurd (true≢false (sym h))
    declared (Some Struct) h = refl
    declared (Some (Block parent is_abstract)) h = absurd (true≢false (sym h))

pub of_struct : (S : Schema) (name : Name) (f : Field) → is_of_struct S name f ≡ true → (bytes_eq f.kind name ≡ true) × (declares S is_struct name ≡ true)
unfolding is_of_struct
of_struct S name f h = (left (bytes_eq f.kind name) (declares S is_struct name) h, right (bytes_eq f.kind name) (declares S is_struct name) h)

pub struct_declared : (S : Schema) (n : ℕ) → what_at S n ≡ Some Struct → (d : Declaration) × (slice_get S n ≡ Some d) × (d.what ≡ Struct)
struct_declared S n h = by (slice_get S n) refl h
  where
    by : (o : Option Declaration) → slice_get S n ≡ o → option_and_then (λ d. Some d.what) o ≡ Some Struct → (d : Declaration) × (slice_get S n ≡ Some d) × (d.what ≡ Struct)
    by None e h = absurd (cc)
    by (Some d) e h = (d, e, cc)

pub struct_run : (S : Schema) (n : ℕ) (d : Declaration) → slice_get S n ≡ Some d → d.what ≡ Struct → is_run S n ≡ false
struct_run S n d at what =
    ap (λ o. option_map_or (λ (d : Declaration). is_basic d.what && list_any (bytes_eq d.name) run_names) o false) at ∙ ap (λ w. is_basic w && list_any (bytes_eq d.name) run_names) what

pub struct_kind : (S : Schema) (C : Context) (n : ℕ) (template : Option ℕ) → what_at S n ≡ Some Struct → kind_of S C n template 0 ≡ Group (line S n) template 0
struct_kind S C n template struct = rw struct refl

items_are_strings : (S : Schema) → IsSchema S → (C : Context) (d : ℕ) (fields : List Field) (template : Option ℕ) → AreTwo S fields → (n i : ℕ) (items : Members)
    → Items (λ i. Shape S C (suc d) (Group fields template 0)) i n items → AreStrings items
items_are_strings S is C d fields template two zero i items h = subst AreStrings (sym h) tt
items_are_strings S is C d fields template two (suc n) i items h =
    subst AreStrings (sym h.2) (string_value S is C d fields template h.0 two h.3, items_are_strings S is C d fields template two n (i + 1) h.1 h.4)

pub sized_are : (S : Schema) (n : ℕ) → find S (codes "SizedString") ≡ Some n → sized_fields S ≡ fields_of S n
unfolding sized_fields
sized_are S n found = ap (λ o. option_map_or (fields_of S) o []) found

-- the items, as many as the length says
pub string_items : (S : Schema) → IsSchema S → (C : Context) (E : Env) (f : Field) (value : Node) → is_of_struct S (codes "SizedString") f ≡ true → (array : IsArray f)
    → FormShape S C 63 (form_of S C None 0 E f) value
    → (template : Option ℕ) × (items : Members) × (value ≡ node.Row items)
    × Items (λ i. Shape S C 63 (Group (sized_fields S) template 0)) 0 (formula_value S C E 0 array.size) items
string_items S is C E f value struct array h =
    let b = of_struct S (codes "SizedString") f struct in
    let r = struct_by S (find S (codes "SizedString")) b.1 in
    let n = r.0 in
    let d = struct_declared S n r.2 in
    let template = option_and_then (replaced S None) f.template in
    let kind_named : f.kind ≡ codes "SizedString" = (bytes_eq-Decides f.kind (codes "SizedString")).0 b.0 in
    let found : replaced S None f.kind ≡ Some n = replaced_is S None f (codes "SizedString") (Some n) kind_named string_other r.1 in
    let fields : line S n ≡ sized_fields S = struct_line S n (slice_get_within S n d.0 d.1) r.2 ∙ sym (sized_are S n r.1) in
    let kind : field_kind S C None 0 E f ≡ Group (sized_fields S) template 0 =
    ap (λ o. option_map_or (λ number. kind_of S C number template (option_map_or (formula_value S C E 0) f.arg 0)) o Unknown) found
    ∙ ap (λ o. kind_of S C n template (option_map_or (formula_value S C E 0) o 0)) array.plain
    ∙ struct_kind S C n template r.2 ∙ ap (λ l. Group l template 0) fields in
    let run : run_of_field S None f ≡ false = ap (λ o. option_map_or (is_run S) o false) found ∙ struct_run S n d.0 d.1 d.2 in
    let count = formula_value S C E 0 array.size in
    let form : form_of S C None 0 E f ≡ Row count (λ i. One (Group (sized_fields S) template 0)) =
    array_form S C None E f array.size array.long array.flat ∙ ap (λ r. row_of r (field_kind S C None 0 E f) count) run ∙ ap (λ k. Row count (λ i. One k)) kind in
    let row : FormShape S C 63 (Row count (λ i. One (Group (sized_fields S) template 0))) value = subst (λ (form : Form). FormShape S C 63 form value) form h in
    (template, row.0, row.1, row.2)

string_row : (S : Schema) → IsSchema S → (C : Context) (E : Env) (f : Field) (value : Node) → is_of_struct S (codes "SizedString") f ≡ true → are_sized S (sized_fields S) ≡ true → IsArray f
    → FormShape S C 63 (form_of S C None 0 E f) value → IsStringRow value
string_row S is C E f value struct sized array h =
    let row = string_items S is C E f value struct array h in
    (row.1, row.2, items_are_strings S is C 62 (sized_fields S) row.0 (two_fields S (sized_fields S) sized) (formula_value S C E 0 array.size) 0 row.1 row.3)

-- ---- the rules of the lists

pub types_rule : (S : Schema) (fields : List Field) (f : Field) → has_lists S fields ≡ true → Among fields f → is_named (codes "Block Types") f ≡ true → are_strings S (codes "Num Block Types") f ≡ true
unfolding has_lists has_type_lists
types_rule S fields f h is named =
    let types = left (has_type_lists S fields) (has_block_lists S fields && has_string_lists S fields) h in
    let one = right (is_once (codes "Num Block Types") (is_type_count S) fields) (is_once (codes "Block Types") (are_strings S (codes "Num Block Types")) fields) types in
    passes_once (are_strings S (codes "Num Block Types")) (codes "Block Types") fields f one is named

pub blocks_rule : (S : Schema) (fields : List Field) → has_lists S fields ≡ true
    → (is_once (codes "Block Type Index") (are_numbers S (codes "BlockTypeIndex")) fields ≡ true) × (is_once (codes "Block Size") (are_numbers S (codes "uint")) fields ≡ true)
unfolding has_lists has_block_lists
blocks_rule S fields h =
    let rest = right (has_type_lists S fields) (has_block_lists S fields && has_string_lists S fields) h in
    let blocks = left (has_block_lists S fields) (has_string_lists S fields) rest in
    let a = is_once (codes "Block Type Index") (are_numbers S (codes "BlockTypeIndex")) fields in
    let b = is_once (codes "Block Size") (are_numbers S (codes "uint")) fields in
    (left a b blocks, right a b blocks)

pub strings_are : (S : Schema) (name : Name) (f : Field) → are_strings S name f ≡ true → (is_of_struct S (codes "SizedString") f ≡ true) × (has_length name f ≡ true)
unfolding are_strings
strings_are S name f h = (left (is_of_struct S (codes "SizedString") f) (has_length name f) h, right (is_of_struct S (codes "SizedString") f) (has_length name f) h)

pub numbers_are : (S : Schema) (basic : Name) (f : Field) → are_numbers S basic f ≡ true → (is_of_basic S basic f ≡ true) × (has_length (codes "Num Blocks") f ≡ true)
unfolding are_numbers
numbers_are S basic f h = (left (is_of_basic S basic f) (has_length (codes "Num Blocks") f) h, right (is_of_basic S basic f) (has_length (codes "Num Blocks") f) h)

any_among : (q : Field → Bool) (fields : List Field) (f : Field) → Among fields f → q f ≡ true → list_any q fields ≡ true
any_among q [] f is said = absurd is
any_among q (g ∷ fields) f (inl same) said = rw (ap q same ∙ said) refl
any_among q (g ∷ fields) f (inr later) said = by (q g) (any_among q fields f later said)
  where
    by : (b : Bool) → list_any q fields ≡ true → (b || list_any q fields) ≡ true
    by true h = refl
    by false h = h

pub sized_rule : (S : Schema) (fields : List Field) (f : Field) → has_sized_strings S fields ≡ true → Among fields f → is_named (codes "Block Types") f ≡ true → are_sized S (sized_fields S) ≡ true
unfolding has_sized_strings
sized_rule S fields f h is named = by (list_any (is_named (codes "Block Types")) fields) (list_any (is_named (codes "Strings")) fields) (any_among (is_named (codes "Block Types")) fields f is named) h
  where
    by : (a b : Bool) → a ≡ true → (not (a || b) || are_sized S (sized_fields S)) ≡ true → are_sized S (sized_fields S) ≡ true
    by true b said h = h
    by false b said h = absurd (true≢false (sym said))

-- ---- the members of the header

-- a present member is the value of a field of its name
pub record IsFrom (S : Schema) (name : Name) (value : Node) : Type 0 where
  pub before : Env
  pub field : Field
  pub among : Among (header_fields S) field
  pub named : is_named name field ≡ true
  pub is : FormShape S (header_context S before) 63 (form_of S (header_context S before) None 0 before field) value

pub is_from : (S : Schema) → Roles S → (members : Members) → IsHeaderLine S members → (name : Name) (value : Node) → member name (head_of S members) ≡ Some value → IsFrom S name value
is_from S roles members h name value e = by (last_present name (head_of S members)) refl e
  where
    V : Env → Field → Node → Type 0
    V E f = FormShape S (header_context S E) 63 (form_of S (header_context S E) None 0 E f)

    line_is : header_line S ≡ header_fields S
    line_is = header_line_is S roles.roots.header roles.roots.is_header

    of_held : (at : Field × Node) → at.1 ≡ value → Held V (header_check S) (header_line S) name at.0 at.1 → IsFrom S name value
    of_held at same k = record {
      before = k.before;
      field = at.0;
      among = subst (λ (fields : List Field). Among fields at.0) line_is k.among;
      named = k.named;
      is = subst (λ n. FormShape S (header_context S k.before) 63 (form_of S (header_context S k.before) None 0 k.before at.0) n) same k.is;
    }

    by : (o : Option (Field × Node)) → last_present name (head_of S members) ≡ o → option_map (λ at. at.1) o ≡ Some value → IsFrom S name value
    by None e found = absurd (cc)
    by (Some at) e found = elim (held _ V (header_check S) name (header_line S) [] members h at e) [
      | inl no_one ↦ absurd (cc)
      | inr k ↦ of_held at (cc) k
    ]

pub types_shape : (S : Schema) → IsSchema S → Roles S → (members : Members) → IsHeaderLine S members → (value : Node) → member (codes "Block Types") (head_of S members) ≡ Some value → IsStringRow value
types_shape S is roles members h value e =
    let k = is_from S roles members h (codes "Block Types") value e in
    let r = strings_are S (codes "Num Block Types") k.field (types_rule S (header_fields S) k.field roles.lists k.among k.named) in
    string_row S is (header_context S k.before) k.before k.field value r.0 (sized_rule S (header_fields S) k.field roles.sized_strings k.among k.named) (is_array (codes "Num Block Types") k.field r.1) k.is

pub index_shape : (S : Schema) → IsSchema S → Roles S → (members : Members) → IsHeaderLine S members → (value : Node) → member (codes "Block Type Index") (head_of S members) ≡ Some value
    → IsNumberRow (256 ^ 2) value
index_shape S is roles members h value e =
    let k = is_from S roles members h (codes "Block Type Index") value e in
    let rule = passes_once (are_numbers S (codes "BlockTypeIndex")) (codes "Block Type Index") (header_fields S) k.field (blocks_rule S (header_fields S) roles.lists).0 k.among k.named in
    let r = numbers_are S (codes "BlockTypeIndex") k.field rule in
    number_row S is (header_context S k.before) k.before k.field (codes "BlockTypeIndex") 2 false false false value r.0 index_other index_leaf refl (is_array (codes "Num Blocks") k.field r.1) k.is

pub sizes_shape : (S : Schema) → IsSchema S → Roles S → (members : Members) → IsHeaderLine S members → (value : Node) → member (codes "Block Size") (head_of S members) ≡ Some value
    → IsNumberRow (256 ^ 4) value
sizes_shape S is roles members h value e =
    let k = is_from S roles members h (codes "Block Size") value e in
    let rule = passes_once (are_numbers S (codes "uint")) (codes "Block Size") (header_fields S) k.field (blocks_rule S (header_fields S) roles.lists).1 k.among k.named in
    let r = numbers_are S (codes "uint") k.field rule in
    number_row S is (header_context S k.before) k.before k.field (codes "uint") 4 false false false value r.0 uint_other uint_leaf refl (is_array (codes "Num Blocks") k.field r.1) k.is
