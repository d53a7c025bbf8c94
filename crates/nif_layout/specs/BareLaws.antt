-- What of a value decides which fields are present and what they are: not the targets of its references, nor the number
-- of blocks.
use Rattle.std.proofs.Common.{◌≡◌, ℕ, zero, suc, Bool, true, false, Option, Some, None, List, [], ◌∷◌, map, refl, ◌∙◌, ap, ap₂}
use Rattle.std.specs.Prelude.{◌&&◌, ◌||◌, not, bytes_eq, if◌then◌else◌, is_some, option_and_then, unwrap_or}
use Rattle.std.specs.Option.{option_map, option_map_or}
use Rattle.std.specs.List as list
use Rattle.nif_base.specs.Node as node
use Rattle.nif_base.specs.Node.{Node, Members, End, Here, Absent, retargeted, retargeted_in}
use Rattle.nif_schema.specs.Declaration.{Name, Formula, Read, Bad, Field}
use Rattle.nif_schema.specs.Expression.{Number, Arg, Path, Not, Two}
use Rattle.nif_schema.specs.Schema.{Schema}
use Rattle.nif_schema.specs.Uses.{what_at}
use Rattle.nif_schema.specs.Paths.{paths_of}
use Rattle.nif_schema.specs.declared.decls.Leaf.{Leaf}
use Rattle.nif_schema.specs.declared.decls.Leaf.TheVariants as leaf
use Rattle.nif_schema.specs.declared.decls.What.{What}
use Rattle.nif_schema.specs.declared.decls.What.TheVariants.{Basic, Stored, Struct, Block}
use Rattle.nif_schema.specs.declared.members.BitMember.{BitMember}
use Rattle.nif_expr.specs.Value.{value, is_true}
use Rattle.nif_layout.specs.Context.{Context}
use Rattle.nif_layout.specs.Earlier.{Earlier, Env, behind, is_named, has_name, last_present, passed}
use Rattle.nif_layout.specs.PathValue.{Found, Nothing, Value, Bits, found, fields_in, bits_in, member_bits, step, number_in, number_of, follow, header_value, path_value, is_signed, leaf_of}
use Rattle.nif_layout.specs.Present.{formula_value, holds, is_owned_by, is_from, is_up_to, is_exactly, present}
use Rattle.nif_layout.specs.Kind.{Unknown, kind_of_leaf, kind_of_what, kind_of}
use Rattle.nif_layout.specs.Form.{item_at, number_at_item, is_array, array_name, width_at, sized, replaced, is_run, field_kind, form_of}

-- a node without its targets
abbrev pub bare : Node → Node
bare = retargeted (λ target. None)

abbrev pub bare_in : Members → Members
bare_in = retargeted_in (λ target. None)

abbrev pub bare_earlier : Earlier → Earlier
bare_earlier e = record e { node = option_map bare e.node }

abbrev pub bare_env : Env → Env
bare_env = map bare_earlier

-- the same context with another number of blocks
abbrev pub with_blocks : ℕ → Context → Context
with_blocks n C = record C { blocks = n }

-- ---- paths

any_name : (name : Name) (E : Env) → has_name name (bare_env E) ≡ has_name name E
any_name name [] = refl
any_name name (e ∷ E) = ap (λ b. is_named name e || b) (any_name name E)

abbrev bare_at : Field × Node → Field × Node
bare_at at = (at.0, bare at.1)

last_bare : (name : Name) (E : Env) → last_present name (bare_env E) ≡ option_map bare_at (last_present name E)
last_bare name [] = refl
last_bare name (e ∷ E) = by (is_named name e) e.node (last_bare name E)
  where
    by : (b : Bool) (o : Option Node) → last_present name (bare_env E) ≡ option_map bare_at (last_present name E)
        → (if b then option_map_or (λ node. Some (e.field, node)) (option_map bare o) (last_present name (bare_env E))
        else last_present name (bare_env E))
        ≡ option_map bare_at (if b then option_map_or (λ node. Some (e.field, node)) o (last_present name E)
        else last_present name E)
    by true None h = h
    by true (Some node) h = refl
    by false o h = h

passed_bare : (fields : List Field) (members : Members) (E : Env)
    → passed fields (bare_in members) (bare_env E) ≡ bare_env (passed fields members E)
passed_bare [] members E = refl
passed_bare (f ∷ fields) End E = refl
passed_bare (f ∷ fields) (Here node rest) E = passed_bare fields rest (behind f (Some node) E)
passed_bare (f ∷ fields) (Absent rest) E = passed_bare fields rest (behind f None E)

number_bare : (signed : Bool) (at : Node) → number_in signed (bare at) ≡ number_in signed at
number_bare signed (node.Num width little bits) = refl
number_bare signed (node.Line bytes) = refl
number_bare signed (node.Ref strong wanted target) = refl
number_bare signed (node.Text index) = refl
number_bare signed (node.Bytes bytes) = refl
number_bare signed (node.Group members) = refl
number_bare signed (node.Row items) = refl

abbrev bare_found : Found → Found
bare_found Nothing = Nothing
bare_found (Value f at) = Value f (bare at)
bare_found (Bits value) = Bits value

found_bare : (o : Option (Field × Node)) → found (option_map bare_at o) ≡ bare_found (found o)
found_bare None = refl
found_bare (Some at) = refl

member_bare : (bits : ℕ) (o : Option BitMember)
    → option_map_or (λ member. Bits (member_bits bits member)) o Nothing
    ≡ bare_found (option_map_or (λ member. Bits (member_bits bits member)) o Nothing)
member_bare bits None = refl
member_bare bits (Some member) = refl

step_bare : (S : Schema) (name : Name) (at : Found) → step S name (bare_found at) ≡ bare_found (step S name at)
step_bare S name Nothing = refl
step_bare S name (Bits value) = refl
step_bare S name (Value f (node.Group members)) =
    ap (λ E. found (last_present name E)) (passed_bare (fields_in S f) members [])
    ∙ ap found (last_bare name (passed (fields_in S f) members []))
    ∙ found_bare (last_present name (passed (fields_in S f) members []))
step_bare S name (Value f (node.Num width little bits)) =
    member_bare bits (list.find (λ (member : BitMember). bytes_eq name member.name) (bits_in S f))
step_bare S name (Value f (node.Line bytes)) = refl
step_bare S name (Value f (node.Ref strong wanted target)) = refl
step_bare S name (Value f (node.Text index)) = refl
step_bare S name (Value f (node.Bytes bytes)) = refl
step_bare S name (Value f (node.Row items)) = refl

number_of_bare : (S : Schema) (at : Found) → number_of S (bare_found at) ≡ number_of S at
number_of_bare S Nothing = refl
number_of_bare S (Value f at) = number_bare (is_signed S f) at
number_of_bare S (Bits value) = refl

follow_bare : (S : Schema) (at : Found) (names : List Name) → follow S (bare_found at) names ≡ follow S at names
follow_bare S at [] = number_of_bare S at
follow_bare S at (name ∷ names) =
    ap (λ x. follow S x names) (step_bare S name at) ∙ follow_bare S (step S name at) names

header_same : (n : ℕ) (C : Context) (names : List Name) → header_value (with_blocks n C) names ≡ header_value C names
header_same n C [] = refl
header_same n C (name ∷ []) = refl
header_same n C (name ∷ next ∷ []) = refl
header_same n C (name ∷ next ∷ more ∷ names) = refl

path_bare : (S : Schema) (n : ℕ) (C : Context) (E : Env) (names : List Name)
    → path_value S (with_blocks n C) (bare_env E) names ≡ path_value S C E names
path_bare S n C E [] = refl
path_bare S n C E (name ∷ names) =
    ap (λ b. if b then Some (follow S (found (last_present name (bare_env E))) names)
    else header_value (with_blocks n C) (name ∷ names)) (any_name name E)
    ∙ ap₂ (λ x y. if has_name name E then Some x else y)
    (ap (λ o. follow S (found o) names) (last_bare name E)
    ∙ ap (λ x. follow S x names) (found_bare (last_present name E)) ∙ follow_bare S (found (last_present name E)) names)
    (header_same n C (name ∷ names))

-- ---- attributes

pairs_bare : (S : Schema) (n : ℕ) (C : Context) (E : Env) (paths : List (List Name))
    → map {B = List Name × ℕ} (λ path. (path, unwrap_or (path_value S (with_blocks n C) (bare_env E) path) 0)) paths
    ≡ map {B = List Name × ℕ} (λ path. (path, unwrap_or (path_value S C E path) 0)) paths
pairs_bare S n C E [] = refl
pairs_bare S n C E (path ∷ paths) =
    let rest = pairs_bare S n C E paths in
    λ i. (path, unwrap_or (path_bare S n C E path i) 0) ∷ rest i

formula_bare : (S : Schema) (n : ℕ) (C : Context) (E : Env) (arg : ℕ) (formula : Formula)
    → formula_value S (with_blocks n C) (bare_env E) arg formula ≡ formula_value S C E arg formula
formula_bare S n C E arg (Read of) = ap (λ pairs. value of pairs arg) (pairs_bare S n C E (paths_of of))
formula_bare S n C E arg Bad = refl

holds_bare : (S : Schema) (n : ℕ) (C : Context) (E : Env) (arg : ℕ) (condition : Option Formula)
    → holds S (with_blocks n C) (bare_env E) arg condition ≡ holds S C E arg condition
holds_bare S n C E arg None = refl
holds_bare S n C E arg (Some formula) = ap is_true (formula_bare S n C E arg formula)

-- Which fields are present doesn't depend on the targets before them, nor on the number of blocks.
pub present_bare : (S : Schema) (n : ℕ) (C : Context) (arg : ℕ) (E : Env) (f : Field)
    → present S (with_blocks n C) arg (bare_env E) f ≡ present S C arg E f
present_bare S n C arg E f =
    ap₂ (λ a b. is_from C.version f.since && is_up_to C.version f.until
    && is_exactly C.user f.user && is_exactly C.bs f.bs
    && a && b
    && option_map_or (is_owned_by S C.owner) f.only true
    && option_map_or (λ name. not (is_owned_by S C.owner name)) f.exclude true)
    (holds_bare S n C E arg f.vercond) (holds_bare S n C E arg f.cond)

-- ---- lengths and kinds

item_bare : (items : Members) (i : ℕ) → item_at (bare_in items) i ≡ option_map bare (item_at items i)
item_bare End i = refl
item_bare (Here item rest) zero = refl
item_bare (Here item rest) (suc i) = item_bare rest i
item_bare (Absent rest) i = refl

number_of_item : (signed : Bool) (o : Option Node)
    → option_map_or (number_in signed) (option_map bare o) 0 ≡ option_map_or (number_in signed) o 0
number_of_item signed None = refl
number_of_item signed (Some at) = number_bare signed at

item_number_bare : (signed : Bool) (i : ℕ) (at : Node) → number_at_item signed i (bare at) ≡ number_at_item signed i at
item_number_bare signed i (node.Num width little bits) = refl
item_number_bare signed i (node.Line bytes) = refl
item_number_bare signed i (node.Ref strong wanted target) = refl
item_number_bare signed i (node.Text index) = refl
item_number_bare signed i (node.Bytes bytes) = refl
item_number_bare signed i (node.Group members) = refl
item_number_bare signed i (node.Row items) =
    ap (λ o. option_map_or (number_in signed) o 0) (item_bare items i) ∙ number_of_item signed (item_at items i)

array_bare : (name : Name) (E : Env) → is_array name (bare_env E) ≡ is_array name E
array_bare name [] = refl
array_bare name (e ∷ E) = ap (λ b. if is_named name e then is_some e.field.length else b) (array_bare name E)

array_name_bare : (E : Env) (formula : Formula) → array_name (bare_env E) formula ≡ array_name E formula
array_name_bare E (Read (Path (name ∷ []))) = ap (λ b. if b then Some name else None) (array_bare name E)
array_name_bare E (Read (Path [])) = refl
array_name_bare E (Read (Path (name ∷ next ∷ names))) = refl
array_name_bare E (Read (Number value)) = refl
array_name_bare E (Read Arg) = refl
array_name_bare E (Read (Not of)) = refl
array_name_bare E (Read (Two op left right)) = refl
array_name_bare E Bad = refl

row_bare : (S : Schema) (i : ℕ) (o : Option (Field × Node))
    → option_map_or (λ at. number_at_item (is_signed S at.0) i at.1) (option_map bare_at o) 0
    ≡ option_map_or (λ at. number_at_item (is_signed S at.0) i at.1) o 0
row_bare S i None = refl
row_bare S i (Some at) = item_number_bare (is_signed S at.0) i at.1

width_bare : (S : Schema) (n : ℕ) (C : Context) (E : Env) (arg : ℕ) (width : Formula) (i : ℕ)
    → width_at S (with_blocks n C) (bare_env E) arg width i ≡ width_at S C E arg width i
width_bare S n C E arg width i =
    ap₂ (λ o v. option_map_or (λ name. option_map_or (λ at. number_at_item (is_signed S at.0) i at.1)
    (last_present name (bare_env E)) 0) o v) (array_name_bare E width) (formula_bare S n C E arg width)
    ∙ by (array_name E width)
  where
    by : (o : Option Name)
        → option_map_or (λ name. option_map_or (λ at. number_at_item (is_signed S at.0) i at.1)
        (last_present name (bare_env E)) 0) o (formula_value S C E arg width)
        ≡ option_map_or (λ name. option_map_or (λ at. number_at_item (is_signed S at.0) i at.1)
        (last_present name E) 0) o (formula_value S C E arg width)
    by None = refl
    by (Some name) =
        ap (λ o. option_map_or (λ at. number_at_item (is_signed S at.0) i at.1) o 0) (last_bare name E)
        ∙ row_bare S i (last_present name E)

leaf_same : (n : ℕ) (C : Context) (template : Option ℕ) (own : Leaf)
    → kind_of_leaf (with_blocks n C) template own ≡ kind_of_leaf C template own
leaf_same n C template (leaf.Num width signed little float) = refl
leaf_same n C template leaf.Bool = refl
leaf_same n C template leaf.Line = refl
leaf_same n C template leaf.Ref = refl
leaf_same n C template leaf.Ptr = refl
leaf_same n C template leaf.Text = refl
leaf_same n C template leaf.Unread = refl

-- What a value of a type is doesn't depend on the number of blocks.
pub kind_same : (S : Schema) (n : ℕ) (C : Context) (number : ℕ) (template : Option ℕ) (arg : ℕ)
    → kind_of S (with_blocks n C) number template arg ≡ kind_of S C number template arg
kind_same S n C number template arg = by (what_at S number)
  where
    by : (o : Option What) → option_map_or (kind_of_what S (with_blocks n C) number template arg) o Unknown
        ≡ option_map_or (kind_of_what S C number template arg) o Unknown
    by None = refl
    by (Some (Basic own)) = leaf_same n C template own
    by (Some (Stored storage members)) = leaf_same n C None (leaf_of S (Stored storage members))
    by (Some Struct) = refl
    by (Some (Block above is_abstract)) = refl

formula_map : (S : Schema) (n : ℕ) (C : Context) (E : Env) (arg : ℕ) (o : Option Formula)
    → option_map (formula_value S (with_blocks n C) (bare_env E) arg) o ≡ option_map (formula_value S C E arg) o
formula_map S n C E arg None = refl
formula_map S n C E arg (Some formula) = ap (λ v. Some v) (formula_bare S n C E arg formula)

formula_or : (S : Schema) (n : ℕ) (C : Context) (E : Env) (arg : ℕ) (o : Option Formula)
    → option_map_or (formula_value S (with_blocks n C) (bare_env E) arg) o 0 ≡ option_map_or (formula_value S C E arg) o 0
formula_or S n C E arg None = refl
formula_or S n C E arg (Some formula) = formula_bare S n C E arg formula

width_map : (S : Schema) (n : ℕ) (C : Context) (E : Env) (arg : ℕ) (o : Option Formula)
    → option_map (width_at S (with_blocks n C) (bare_env E) arg) o ≡ option_map (width_at S C E arg) o
width_map S n C E arg None = refl
width_map S n C E arg (Some width) = λ j. Some (λ i. width_bare S n C E arg width i j)

kind_bare : (S : Schema) (n : ℕ) (C : Context) (template : Option ℕ) (arg : ℕ) (E : Env) (f : Field)
    → field_kind S (with_blocks n C) template arg (bare_env E) f ≡ field_kind S C template arg E f
kind_bare S n C template arg E f = by (replaced S template f.kind)
  where
    by : (o : Option ℕ)
        → option_map_or (λ number. kind_of S (with_blocks n C) number (option_and_then (replaced S template) f.template)
        (option_map_or (formula_value S (with_blocks n C) (bare_env E) arg) f.arg 0)) o Unknown
        ≡ option_map_or (λ number. kind_of S C number (option_and_then (replaced S template) f.template)
        (option_map_or (formula_value S C E arg) f.arg 0)) o Unknown
    by None = refl
    by (Some number) =
        kind_same S n C number (option_and_then (replaced S template) f.template)
        (option_map_or (formula_value S (with_blocks n C) (bare_env E) arg) f.arg 0)
        ∙ ap (λ a. kind_of S C number (option_and_then (replaced S template) f.template) a) (formula_or S n C E arg f.arg)

-- What the value of a field is doesn't depend on the targets before it, nor on the number of blocks.
pub form_bare : (S : Schema) (n : ℕ) (C : Context) (template : Option ℕ) (arg : ℕ) (E : Env) (f : Field)
    → form_of S (with_blocks n C) template arg (bare_env E) f ≡ form_of S C template arg E f
form_bare S n C template arg E f = λ i.
    sized (formula_map S n C E arg f.length i) (width_map S n C E arg f.width i)
    (option_map_or (is_run S) (replaced S template f.kind) false) (kind_bare S n C template arg E f i)
