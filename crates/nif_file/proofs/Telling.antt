-- The header of a file says of its blocks what the graph of the file tells.
use Rattle.std.proofs.Common.{◌≡◌, ℕ, zero, suc, ◌+◌, inl, inr, Bool, true, false, ◌&&◌, ◌||◌, if◌then◌else◌, Option, Some, None, List, [], ◌∷◌, ◌++◌, map, length, slice_get, refl, sym, ◌∙◌, ap, ap₂, subst, arith, true≢false}
use Rattle.std.specs.Prelude.{codes, bytes_eq, is_none, is_some, ◌==◌}
use Rattle.std.specs.List.{list_any}
use Rattle.std.specs.Option.{option_map, option_map_or, unwrap_or}
use Rattle.std.proofs.lemmas.Bool.{eqb-true}
use Rattle.nif_base.specs.Node as node
use Rattle.nif_base.specs.Node.{Node, Members, End, Here, Absent, text, size}
use Rattle.nif_base.specs.File.{Block}
use Rattle.nif_schema.specs.Declaration.{Name, Field, Formula}
use Rattle.nif_schema.specs.Schema.{Schema, IsSchema}
use Rattle.nif_schema.specs.Basic.{listed_leaf}
use Rattle.nif_schema.specs.Paths.{is_header_path}
use Rattle.nif_schema.specs.Uses.{is_own_template}
use Rattle.nif_schema.specs.Roles.{Roles, header_fields, is_plain, has_no_bounds, is_named, is_bare_name, is_of_basic, sized_fields, are_numbers}
use Rattle.nif_schema.specs.declared.decls.Leaf.TheVariants as leaf
use Rattle.nif_layout.specs.Context.{Context}
use Rattle.nif_layout.specs.Earlier.{Env, behind, last_present, has_name}
use Rattle.nif_layout.specs.PathValue.{is_signed, number_in, found}
use Rattle.nif_layout.specs.PathValue as path
use Rattle.nif_layout.specs.Present.{present, formula_value}
use Rattle.nif_layout.specs.Kind.{Number, Group}
use Rattle.nif_layout.specs.Form.{Form, One, Run, form_of, field_kind, row_of, item_at, number_at_item, run_names}
use Rattle.nif_layout.specs.Fault.{Fault}
use Rattle.nif_layout.specs.Members.{Member, no_check, Fields, Items}
use Rattle.nif_layout.specs.Shape.{Shape, FormShape, IsForm}
use Rattle.nif_decode.specs.Scopes.{member_at}
use Rattle.nif_graph.specs.declared.places.RolePlaces.{RolePlaces}
use Rattle.nif_graph.specs.Written.{with_bits, with_items, numbers, strings, has_member}
use Rattle.nif_graph.specs.WrittenLaws.{EachMember}
use Rattle.nif_file.specs.Head.{header_context, member, number_of, string_in, strings_in, row_in, type_names}
use Rattle.nif_file.specs.Files.{IsBlock, AreBlocks, header_line, head_of, IsHeaderLine}
use Rattle.nif_file.specs.HeaderParts.{IsPlaceOf}
use Rattle.nif_file.specs.Heads.{ArePlaces}
use Rattle.nif_file.specs.HeaderShapes.{AreTwo, is_array, array_form, has_basic, string_items, number_items, two_fields, single_form, uint_leaf, char_leaf, index_leaf, uint_other, char_other, index_other, flat_is, strings_are, numbers_are, types_rule, blocks_rule, sized_rule, types_shape, index_shape, sizes_shape}
use Rattle.nif_file.specs.PartsText.{Suits, SuitsAt, telling_at}
use Rattle.nif_file.specs.PlaceLaws.{place_member}
use Rattle.nif_file.specs.declared.encode_header.Telling.TheVariants as telling
use Rattle.nif_file.specs.RoleLaws.{Among, passes_once, header_line_is, bare_present}
use Rattle.nif_file.proofs.Counting.{Stands, stands, bare_is, bare_value, unsigned, count_is}
use Rattle.nif_file.proofs.HeadNumbers as head
use Rattle.nif_file.proofs.HeadSmall as small

-- ---- rows of numbers

row_numbers : (S : Schema) (C : Context) (d width n i : ℕ) (items : Members)
    → Items (λ i. Shape S C d (Number width false)) i n items → (values : List ℕ) → length values ≡ n
    → ((j v : ℕ) → slice_get values j ≡ Some v → option_map_or (number_in false) (item_at items j) 0 ≡ v)
    → items ≡ numbers width values
row_numbers S C d width zero i items h [] long each = h
row_numbers S C d width zero i items h (v ∷ values) long each = absurd (omega arith)
row_numbers S C d width (suc n) i items h [] long each = absurd (omega arith)
row_numbers S C d width (suc n) i items h (v ∷ values) long each =
    let bits : ℕ = h.3.0 in
    let is : h.0 ≡ node.Num width false bits = h.3.1 in
    let first : option_map_or (number_in false) (item_at items 0) 0 ≡ v = each 0 v refl in
    let here : number_in false h.0 ≡ v = ap (λ m. option_map_or (number_in false) (item_at m 0) 0) (sym h.2) ∙ first in
    let same : bits ≡ v = ap (number_in false) (sym is) ∙ here in
    let rest : h.1 ≡ numbers width values =
    row_numbers S C d width n (i + 1) h.1 h.4 values (omega arith)
    (λ j w at. ap (λ m. option_map_or (number_in false) (item_at m (suc j)) 0) (sym h.2) ∙ each (suc j) w at) in
    h.2 ∙ ap₂ (λ a r. Here a r) (is ∙ ap (λ b. node.Num width false b) same) rest

-- a block of a list of them
pub blocks_at : (S : Schema) (E : Env) (k j : ℕ) (blocks : List Block) (b : Block) → AreBlocks S E k blocks
    → slice_get blocks j ≡ Some b → IsBlock S E (k + j) b
blocks_at S E k j [] b are at = absurd cc
blocks_at S E k zero (x ∷ blocks) b are at =
    let same : x ≡ b = cc in
    subst (IsBlock S E (k + 0)) same (subst (λ m. IsBlock S E m x) (omega arith) are.0)
blocks_at S E k (suc j) (x ∷ blocks) b are at =
    subst (λ m. IsBlock S E m b) (let e : k + 1 + j ≡ k + suc j = omega arith in e) (blocks_at S E (k + 1) j blocks b are.1 at)

pub mapped_at : (f : Block → ℕ) (blocks : List Block) (j v : ℕ) → slice_get (map f blocks) j ≡ Some v
    → (b : Block) × (slice_get blocks j ≡ Some b) × (f b ≡ v)
mapped_at f [] j v at = absurd cc
mapped_at f (x ∷ blocks) zero v at = (x, refl, cc)
mapped_at f (x ∷ blocks) (suc j) v at = mapped_at f blocks j v at

pub length_map : (f : Block → ℕ) (blocks : List Block) → length (map f blocks) ≡ length blocks
length_map f [] = refl
length_map f (x ∷ blocks) = ap suc (length_map f blocks)

-- ---- sized strings

bytes_long : (S : Schema) → IsSchema S → (C : Context) (d : ℕ) (template : Option ℕ) (E : Env) (f : Field) (size : Formula) (value : Node)
    → is_of_basic S (codes "char") f ≡ true → f.length ≡ Some size → f.width ≡ None
    → FormShape S C d (form_of S C template 0 E f) value
    → (bytes : List ℕ) × (value ≡ node.Bytes bytes) × (length bytes ≡ formula_value S C E 0 size)
bytes_long S is C d template E f size value basic long flat h =
    let b = has_basic S is C template E f (codes "char") (leaf.Num 1 false false false) basic char_other char_leaf in
    let count = formula_value S C E 0 size in
    let form : form_of S C template 0 E f ≡ Run count = array_form S C template E f size long flat ∙ ap (λ r. row_of r (field_kind S C template 0 E f) count) b.run in
    let run : FormShape S C d (Run count) value = subst (λ (form : Form). FormShape S C d form value) form h in
    (run.0, run.1, run.2)

length_exact : (S : Schema) → IsSchema S → (C : Context) (d : ℕ) (template : Option ℕ) (E : Env) (f : Field) (value : Node)
    → is_of_basic S (codes "uint") f ≡ true → f.length ≡ None → FormShape S C d (form_of S C template 0 E f) value
    → (bits : ℕ) × (value ≡ node.Num 4 false bits)
length_exact S is C d template E f value basic single h =
    let b = has_basic S is C template E f (codes "uint") (leaf.Num 4 false false false) basic uint_other uint_leaf in
    let one : Shape S C d (Number 4 false) value = subst (λ (form : Form). FormShape S C d form value) (single_form S C template E f single ∙ ap (λ k. One k) b.kind) h in
    (one.0, one.1)

plain_present : (S : Schema) (C : Context) (E : Env) (f : Field) → is_plain f ≡ true
    → has_no_bounds f ≡ true → present S C 0 E f ≡ true
plain_present S C E f plain unbound = bare_present S C E (record f { length = None }) (rw (plain, unbound) refl)

exact : (members rest : Members) (a b : Node) (last : Members) (bits : ℕ) (bytes : List ℕ) → members ≡ Here a rest → rest ≡ Here b last → last ≡ End
    → a ≡ node.Num 4 false bits → b ≡ node.Bytes bytes → bits ≡ length bytes
    → members ≡ Here (node.Num 4 false (length bytes)) (Here (node.Bytes bytes) End)
exact members rest a b last bits bytes first second none is_size are_bytes same =
    first ∙ ap₂ (λ x r. Here x r) (is_size ∙ ap (λ n. node.Num 4 false n) same) (second ∙ ap₂ (λ x r. Here x r) are_bytes none)

string_exact : (S : Schema) → IsSchema S → (C : Context) (d : ℕ) (fields : List Field) (template : Option ℕ) (value : Node)
    → AreTwo S fields → Shape S C (suc d) (Group fields template 0) value
    → value ≡ node.Group (Here (node.Num 4 false (length (string_in value))) (Here (node.Bytes (string_in value)) End))
string_exact S is C d fields template value two h =
    let f = two.first in
    let g = two.second in
    let V : Env → Field → Node → Type 0 = λ E f. IsForm (Shape S C d) (form_of S C template 0 E f) in
    let group : Shape S C (suc d) (Group (f ∷ g ∷ []) template 0) value = subst (λ (fields : List Field). Shape S C (suc d) (Group fields template 0) value) two.are h in
    let After : Env → List Field → Option Node → Members → Type 0 = λ E fields got rest. (◌≡◌ {A = Option Fault} None None) × Fields (present S C 0) V (no_check {Why = Fault}) fields E rest in
    let one : Member true (V [] f) (λ got rest. After (behind f got []) (g ∷ []) got rest) group.0 =
    subst (λ b. Member b (V [] f) (λ got rest. After (behind f got []) (g ∷ []) got rest) group.0) (plain_present S C [] f two.first_plain two.first_unbound) group.2 in
    let E1 = behind f (Some one.0) [] in
    let other : Member true (V E1 g) (λ got rest. After (behind g got E1) [] got rest) one.1 =
    subst (λ b. Member b (V E1 g) (λ got rest. After (behind g got E1) [] got rest) one.1) (plain_present S C E1 g two.second_plain two.second_unbound) one.4.1 in
    let length_is = length_exact S is C d template [] f one.0 two.first_basic two.first_single one.3 in
    let bytes = bytes_long S is C d template E1 g two.second_size other.0 two.second_basic two.second_long (flat_is g two.second_plain) other.3 in
    let path_is = bare_is (codes "Length") two.second_size (ap (is_bare_name (codes "Length")) (sym two.second_long) ∙ two.second_counted) in
    let has : has_name (codes "Length") E1 ≡ true = rw two.first_named refl in
    let last : last_present (codes "Length") E1 ≡ Some (f, one.0) = rw two.first_named refl in
    let plain : is_signed S f ≡ false = unsigned S is f (codes "uint") 4 false false two.first_basic uint_other uint_leaf in
    let counted : formula_value S C E1 0 two.second_size ≡ length_is.0 =
    ap (formula_value S C E1 0) path_is ∙ bare_value S C E1 (codes "Length") has ∙ ap (λ o. path.number_of S (found o)) last
    ∙ ap (λ b. number_in b one.0) plain ∙ ap (number_in false) length_is.1 in
    let inner : group.0 ≡ Here (node.Num 4 false (length bytes.0)) (Here (node.Bytes bytes.0) End) =
    exact group.0 one.1 one.0 other.0 other.1 length_is.0 bytes.0 one.2 other.2 other.4.1 length_is.1 bytes.1 (sym (bytes.2 ∙ counted)) in
    let whole : value ≡ node.Group (Here (node.Num 4 false (length bytes.0)) (Here (node.Bytes bytes.0) End)) = group.1 ∙ ap (λ m. node.Group m) inner in
    let said : string_in value ≡ bytes.0 = ap string_in whole in
    whole ∙ ap (λ b. node.Group (Here (node.Num 4 false (length b)) (Here (node.Bytes b) End))) (sym said)

strings_exact : (S : Schema) → IsSchema S → (C : Context) (d : ℕ) (fields : List Field) (template : Option ℕ) → AreTwo S fields
    → (n i : ℕ) (items : Members) → Items (λ i. Shape S C (suc d) (Group fields template 0)) i n items
    → (items ≡ strings (strings_in items)) × (length (strings_in items) ≡ n)
strings_exact S is C d fields template two zero i items h =
    (h ∙ sym (ap (λ m. strings (strings_in m)) h), ap (λ m. length (strings_in m)) h)
strings_exact S is C d fields template two (suc n) i items h =
    let more = strings_exact S is C d fields template two n (i + 1) h.1 h.4 in
    let one = string_exact S is C d fields template h.0 two h.3 in
    let whole : Here h.0 h.1 ≡ strings (strings_in (Here h.0 h.1)) = ap₂ (λ a r. Here a r) one more.0 in
    (h.2 ∙ whole ∙ sym (ap (λ m. strings (strings_in m)) h.2), ap (λ m. length (strings_in m)) h.2 ∙ ap suc more.1)

-- ---- the members of a header by their places

pub each_member : (P : ℕ → Node → Type 0) (n : ℕ) (members : Members)
    → ((k : ℕ) (at : Node) → member_at members k ≡ Some at → P (n + k) at) → EachMember P n members
each_member P n End each = tt
each_member P n (Here at rest) each = (
  subst (λ m. P m at) (omega arith) (each 0 at refl),
  each_member P (suc n) rest (λ k x e. subst (λ m. P m x) (let e : n + suc k ≡ suc n + k = omega arith in e) (each (suc k) x e)),
)
each_member P n (Absent rest) each =
    each_member P (suc n) rest (λ k x e. subst (λ m. P m x) (let e : n + suc k ≡ suc n + k = omega arith in e) (each (suc k) x e))

pub has_is : (k : ℕ) (members : Members) → has_member k members ≡ is_some (member_at members k)
has_is k End = refl
has_is zero (Here at rest) = refl
has_is zero (Absent rest) = refl
has_is (suc k) (Here at rest) = has_is k rest
has_is (suc k) (Absent rest) = has_is k rest

pub at_place : (k : ℕ) (place : Option ℕ) → option_map_or (λ p. k == p) place false ≡ true → place ≡ Some k
at_place k None h = absurd (true≢false (sym h))
at_place k (Some p) h = ap (λ n. Some n) (sym (eqb-true k p h))

pub both_true : (a b : Bool) → (a && b) ≡ true → (a ≡ true) × (b ≡ true)
both_true true b h = (refl, h)
both_true false b h = absurd (true≢false (sym h))

little_leaf : listed_leaf (codes "ulittle32") ≡ Some (leaf.Num 4 false true false)
unfolding listed_leaf
little_leaf = refl

ushort_leaf : listed_leaf (codes "ushort") ≡ Some (leaf.Num 2 false false false)
unfolding listed_leaf
ushort_leaf = refl

little_other : is_own_template (codes "ulittle32") ≡ false
unfolding is_own_template
little_other = refl

ushort_other : is_own_template (codes "ushort") ≡ false
unfolding is_own_template
ushort_other = refl

blocks_path : is_header_path (codes "Num Blocks" ∷ []) ≡ false
unfolding is_header_path
blocks_path = refl

types_path : is_header_path (codes "Num Block Types" ∷ []) ≡ false
unfolding is_header_path
types_path = refl

-- a number with the bits that it has
same_bits : (C : Context) (width : ℕ) (little : Bool) (at : Node) (d n : ℕ) (S : Schema) → Shape S C d (Number width little) at
    → number_in false at ≡ n → with_bits n at ≡ at
same_bits C width little at d n S h is =
    let bits : h.0 ≡ n = ap (number_in false) (sym h.1) ∙ is in
    ap (with_bits n) h.1 ∙ ap (λ b. node.Num width little b) (sym bits) ∙ sym h.1

module _ (S : Schema) (is : IsSchema S) (roles : Roles S) (places : RolePlaces) (at : ArePlaces S places) (members : Members)
    (h : IsHeaderLine S members) where
  abbrev pub E : Env
  E = head_of S members

  abbrev V : Env → Field → Node → Type 0
  V E f = FormShape S (header_context S E) 63 (form_of S (header_context S E) None 0 E f)

  line_is : header_line S ≡ header_fields S
  line_is = header_line_is S roles.roots.header roles.roots.is_header

  standing : (name : Name) (k : ℕ) (value : Node) → IsPlaceOf name (header_line S) (Some k) → member_at members k ≡ Some value
      → Stands V (header_line S) [] members name value
  standing name k value place there = stands _ V _ name (header_line S) k [] members value h place there

  among : (front back : List Field) (f : Field) → Among (front ++ f ∷ back) f
  among [] back f = inl refl
  among (g ∷ front) back f = inr (among front back f)

  field_among : (name : Name) (value : Node) (s : Stands V (header_line S) [] members name value) → Among (header_fields S) s.field
  field_among name value s = subst (λ fields. Among fields s.field) (sym s.split ∙ line_is) (among s.front s.back s.field)

  there_member : (name : Name) (k : ℕ) (value : Node) → IsPlaceOf name (header_line S) (Some k) → member_at members k ≡ Some value
      → member name E ≡ Some value
  there_member name k value place there = place_member S members name (Some k) place ∙ there

  numbered : (name : Name) (k : ℕ) (value : Node) → IsPlaceOf name (header_line S) (Some k) → member_at members k ≡ Some value
      → number_in false value ≡ number_of name E
  numbered name k value place there = sym (ap (λ o. option_map_or (number_in false) o 0) (there_member name k value place there))

  blocks_plain : (g : Field) → Among (header_line S) g → bytes_eq (codes "Num Blocks") g.name ≡ true → is_signed S g ≡ false
  blocks_plain g a named =
      let rule = head.count_rule S (header_fields S) g roles.count (subst (λ fields. Among fields g) line_is a) named in
      unsigned S is g (codes "ulittle32") 4 true false rule.0 little_other little_leaf

  types_plain : (g : Field) → Among (header_line S) g → bytes_eq (codes "Num Block Types") g.name ≡ true → is_signed S g ≡ false
  types_plain g a named =
      let rule = small.types_rule S (header_fields S) g roles.lists (subst (λ fields. Among fields g) line_is a) named in
      by (is_of_basic S (codes "ushort") g) refl rule.0
    where
      by : (b : Bool) → is_of_basic S (codes "ushort") g ≡ b → (b || is_of_basic S (codes "uint") g) ≡ true → is_signed S g ≡ false
      by true e r = unsigned S is g (codes "ushort") 2 false false e ushort_other ushort_leaf
      by false e r = unsigned S is g (codes "uint") 4 false false r uint_other uint_leaf

  -- the number of blocks
  pub blocks_told : (value : Node) → member_at members places.num_blocks ≡ Some value → with_bits (number_of (codes "Num Blocks") E) value ≡ value
  blocks_told value there =
      let s = standing (codes "Num Blocks") places.num_blocks value at.num_blocks there in
      let rule = head.count_rule S (header_fields S) s.field roles.count (field_among (codes "Num Blocks") value s) s.named in
      let shape = head.basic_value S is (header_context S s.before) s.before s.field (codes "ulittle32") (leaf.Num 4 false true false) value rule.0 rule.1 little_leaf s.is in
      same_bits (header_context S s.before) 4 true value 63 (number_of (codes "Num Blocks") E) S shape
      (numbered (codes "Num Blocks") places.num_blocks value at.num_blocks there)

  -- the number of the types
  pub types_counted : (k : ℕ) (value : Node) → places.num_types ≡ Some k → member_at members k ≡ Some value
      → with_bits (number_of (codes "Num Block Types") E) value ≡ value
  types_counted k value place there =
      let place' = subst (IsPlaceOf (codes "Num Block Types") (header_line S)) place at.num_types in
      let s = standing (codes "Num Block Types") k value place' there in
      let rule = small.types_rule S (header_fields S) s.field roles.lists (field_among (codes "Num Block Types") value s) s.named in
      by s place' (is_of_basic S (codes "ushort") s.field) refl rule.0 rule.1
    where
      by : (s : Stands V (header_line S) [] members (codes "Num Block Types") value)
          → IsPlaceOf (codes "Num Block Types") (header_line S) (Some k) → (b : Bool)
          → is_of_basic S (codes "ushort") s.field ≡ b → (b || is_of_basic S (codes "uint") s.field) ≡ true → s.field.length ≡ None
          → with_bits (number_of (codes "Num Block Types") E) value ≡ value
      by s place' true e r single =
          let shape = head.basic_value S is (header_context S s.before) s.before s.field (codes "ushort") (leaf.Num 2 false false false) value e single ushort_leaf s.is in
          same_bits (header_context S s.before) 2 false value 63 (number_of (codes "Num Block Types") E) S shape
          (numbered (codes "Num Block Types") k value place' there)
      by s place' false e r single =
          let shape = head.basic_value S is (header_context S s.before) s.before s.field (codes "uint") (leaf.Num 4 false false false) value r single uint_leaf s.is in
          same_bits (header_context S s.before) 4 false value 63 (number_of (codes "Num Block Types") E) S shape
          (numbered (codes "Num Block Types") k value place' there)

  -- the names of the types
  pub types_told : (k n : ℕ) (value : Node) → places.types ≡ Some k → places.num_types ≡ Some n → member_at members k ≡ Some value
      → (with_items (strings (type_names E)) value ≡ value) × (length (type_names E) ≡ number_of (codes "Num Block Types") E)
  types_told k n value place count_place there =
      let place' = subst (IsPlaceOf (codes "Block Types") (header_line S)) place at.types in
      let s = standing (codes "Block Types") k value place' there in
      let among_is = field_among (codes "Block Types") value s in
      let r = strings_are S (codes "Num Block Types") s.field (types_rule S (header_fields S) s.field roles.lists among_is s.named) in
      let array = is_array (codes "Num Block Types") s.field r.1 in
      let row = string_items S is (header_context S s.before) s.before s.field value r.0 array s.is in
      let two = two_fields S (sized_fields S) (sized_rule S (header_fields S) s.field roles.sized_strings among_is s.named) in
      let exactly = strings_exact S is (header_context S s.before) 62 (sized_fields S) row.0 two (formula_value S (header_context S s.before) s.before 0 array.size) 0 row.1 row.3 in
      let counted = count_is S roles members h (codes "Block Types") (codes "Num Block Types") k n value
      (subst (IsPlaceOf (codes "Num Block Types") (header_line S)) count_place at.num_types) types_path types_plain s
      (header_context S s.before) array.size array.long (both_true (is_bare_name (codes "Num Block Types") s.field.length) (is_none s.field.width && is_none s.field.arg) r.1).0 in
      let names : type_names E ≡ strings_in row.1 =
      ap row_in (there_member (codes "Block Types") k value place' there) ∙ ap (λ v. row_in (Some v)) row.2 in (
        ap (λ l. with_items (strings l) value) names ∙ ap (with_items (strings (strings_in row.1))) row.2
            ∙ ap (λ m. node.Row m) (sym exactly.0) ∙ sym row.2,
        ap length names ∙ exactly.1 ∙ counted,
      )

  -- a row of numbers, one for each block
  numbers_told : (name basic : Name) (width k : ℕ) (value : Node) → IsPlaceOf name (header_line S) (Some k) → member_at members k ≡ Some value
      → listed_leaf basic ≡ Some (leaf.Num width false false false) → is_own_template basic ≡ false → list_any (bytes_eq basic) run_names ≡ false
      → ((f : Field) → Among (header_fields S) f → is_named name f ≡ true → are_numbers S basic f ≡ true)
      → (values : List ℕ) → length values ≡ number_of (codes "Num Blocks") E
      → ((j v : ℕ) → slice_get values j ≡ Some v → option_map (number_at_item false j) (member name E) ≡ Some v)
      → with_items (numbers width values) value ≡ value
  numbers_told name basic width k value place there listed other no_run rule values long each =
      let s = standing name k value place there in
      let r = numbers_are S basic s.field (rule s.field (field_among name value s) s.named) in
      let array = is_array (codes "Num Blocks") s.field r.1 in
      let row = number_items S is (header_context S s.before) s.before s.field basic width false false false value r.0 other listed no_run array s.is in
      let counted = count_is S roles members h name (codes "Num Blocks") k places.num_blocks value at.num_blocks blocks_path blocks_plain s
      (header_context S s.before) array.size array.long (both_true (is_bare_name (codes "Num Blocks") s.field.length) (is_none s.field.width && is_none s.field.arg) r.1).0 in
      let is_row : member name E ≡ Some (node.Row row.0) = there_member name k value place there ∙ ap (λ v. Some v) row.1 in
      let items : row.0 ≡ numbers width values =
      row_numbers S (header_context S s.before) 63 width (formula_value S (header_context S s.before) s.before 0 array.size) 0 row.0 row.2 values
      (long ∙ sym counted)
      (λ j v e. some_number (sym (ap (λ o. option_map (number_at_item false j) o) is_row) ∙ each j v e)) in
      ap (with_items (numbers width values)) row.1 ∙ ap (λ m. node.Row m) (sym items) ∙ sym row.1
    where
      some_number : {a b : ℕ} → Some a ≡ Some b → a ≡ b
      some_number {a} {b} e = ap (λ o. unwrap_or o a) e

  -- the index of types
  pub index_told : (k : ℕ) (value : Node) → places.index ≡ Some k → member_at members k ≡ Some value
      → (values : List ℕ) → length values ≡ number_of (codes "Num Blocks") E
      → ((j v : ℕ) → slice_get values j ≡ Some v → option_map (number_at_item false j) (member (codes "Block Type Index") E) ≡ Some v)
      → with_items (numbers 2 values) value ≡ value
  index_told k value place there values long each =
      numbers_told (codes "Block Type Index") (codes "BlockTypeIndex") 2 k value
      (subst (IsPlaceOf (codes "Block Type Index") (header_line S)) place at.index) there index_leaf index_other refl
      (λ f a named. passes_once (are_numbers S (codes "BlockTypeIndex")) (codes "Block Type Index") (header_fields S) f
      (blocks_rule S (header_fields S) roles.lists).0 a named) values long each

  -- the sizes
  pub sizes_told : (k : ℕ) (value : Node) → places.sizes ≡ Some k → member_at members k ≡ Some value
      → (values : List ℕ) → length values ≡ number_of (codes "Num Blocks") E
      → ((j v : ℕ) → slice_get values j ≡ Some v → option_map (number_at_item false j) (member (codes "Block Size") E) ≡ Some v)
      → with_items (numbers 4 values) value ≡ value
  sizes_told k value place there values long each =
      numbers_told (codes "Block Size") (codes "uint") 4 k value
      (subst (IsPlaceOf (codes "Block Size") (header_line S)) place at.sizes) there uint_leaf uint_other refl
      (λ f a named. passes_once (are_numbers S (codes "uint")) (codes "Block Size") (header_fields S) f
      (blocks_rule S (header_fields S) roles.lists).1 a named) values long each

  -- ---- what is told can stand there

  pub blocks_suit : (value : Node) → member_at members places.num_blocks ≡ Some value → Suits telling.Blocks value
  blocks_suit value there =
      let s = standing (codes "Num Blocks") places.num_blocks value at.num_blocks there in
      let rule = head.count_rule S (header_fields S) s.field roles.count (field_among (codes "Num Blocks") value s) s.named in
      let shape = head.basic_value S is (header_context S s.before) s.before s.field (codes "ulittle32") (leaf.Num 4 false true false) value rule.0 rule.1 little_leaf s.is in
      subst (Suits telling.Blocks) (sym shape.1) refl

  pub count_suits : (k : ℕ) (value : Node) → places.num_types ≡ Some k → member_at members k ≡ Some value → Suits telling.TypeCount value
  count_suits k value place there =
      let place' = subst (IsPlaceOf (codes "Num Block Types") (header_line S)) place at.num_types in
      let s = standing (codes "Num Block Types") k value place' there in
      let rule = small.types_rule S (header_fields S) s.field roles.lists (field_among (codes "Num Block Types") value s) s.named in
      by s (is_of_basic S (codes "ushort") s.field) refl rule.0 rule.1
    where
      by : (s : Stands V (header_line S) [] members (codes "Num Block Types") value) → (b : Bool)
          → is_of_basic S (codes "ushort") s.field ≡ b → (b || is_of_basic S (codes "uint") s.field) ≡ true → s.field.length ≡ None
          → Suits telling.TypeCount value
      by s true e r single =
          let shape = head.basic_value S is (header_context S s.before) s.before s.field (codes "ushort") (leaf.Num 2 false false false) value e single ushort_leaf s.is in
          subst (Suits telling.TypeCount) (sym shape.1) refl
      by s false e r single =
          let shape = head.basic_value S is (header_context S s.before) s.before s.field (codes "uint") (leaf.Num 4 false false false) value r single uint_leaf s.is in
          subst (Suits telling.TypeCount) (sym shape.1) refl

  pub types_suit : (k : ℕ) (value : Node) → places.types ≡ Some k → member_at members k ≡ Some value → Suits telling.Types value
  types_suit k value place there =
      let place' = subst (IsPlaceOf (codes "Block Types") (header_line S)) place at.types in
      let row = types_shape S is roles members h value (there_member (codes "Block Types") k value place' there) in
      subst (Suits telling.Types) (sym row.1) refl

  pub index_suits : (k : ℕ) (value : Node) → places.index ≡ Some k → member_at members k ≡ Some value → Suits telling.Index value
  index_suits k value place there =
      let place' = subst (IsPlaceOf (codes "Block Type Index") (header_line S)) place at.index in
      let row = index_shape S is roles members h value (there_member (codes "Block Type Index") k value place' there) in
      subst (Suits telling.Index) (sym row.1) refl

  pub sizes_suit : (k : ℕ) (value : Node) → places.sizes ≡ Some k → member_at members k ≡ Some value → Suits telling.Sizes value
  sizes_suit k value place there =
      let place' = subst (IsPlaceOf (codes "Block Size") (header_line S)) place at.sizes in
      let row = sizes_shape S is roles members h value (there_member (codes "Block Size") k value place' there) in
      subst (Suits telling.Sizes) (sym row.1) refl

  -- by what is told at a place
  pub told_suits : (indexed : Bool) (k : ℕ) (value : Node) → member_at members k ≡ Some value → SuitsAt (telling_at places indexed k) value
  told_suits indexed k value there =
      by (k == places.num_blocks) refl (option_map_or (λ p. k == p) places.sizes false) refl
      (indexed && option_map_or (λ p. k == p) places.num_types false) refl
      (indexed && option_map_or (λ p. k == p) places.types false) refl
      (indexed && option_map_or (λ p. k == p) places.index false) refl
    where
      by : (a : Bool) → (k == places.num_blocks) ≡ a → (b : Bool) → option_map_or (λ p. k == p) places.sizes false ≡ b
          → (c : Bool) → (indexed && option_map_or (λ p. k == p) places.num_types false) ≡ c
          → (d : Bool) → (indexed && option_map_or (λ p. k == p) places.types false) ≡ d
          → (e : Bool) → (indexed && option_map_or (λ p. k == p) places.index false) ≡ e
          → SuitsAt (if a then Some telling.Blocks else if b then Some telling.Sizes else if c then Some telling.TypeCount
          else if d then Some telling.Types else if e then Some telling.Index else None) value
      by true ea b eb c ec d ed e ee =
          blocks_suit value (ap (member_at members) (sym (eqb-true k places.num_blocks ea)) ∙ there)
      by false ea true eb c ec d ed e ee = sizes_suit k value (at_place k places.sizes eb) there
      by false ea false eb true ec d ed e ee = count_suits k value (at_place k places.num_types (both_true indexed _ ec).1) there
      by false ea false eb false ec true ed e ee = types_suit k value (at_place k places.types (both_true indexed _ ed).1) there
      by false ea false eb false ec false ed true ee = index_suits k value (at_place k places.index (both_true indexed _ ee).1) there
      by false ea false eb false ec false ed false ee = tt
