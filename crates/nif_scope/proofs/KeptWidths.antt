-- What is kept of the items of an array gives a ragged row the length that it has by their nodes.
use Rattle.std.proofs.Common.{◌≡◌, ℕ, zero, suc, Bool, true, false, List, [], ◌∷◌, ◌++◌, map, Option, Some, None, refl, sym, ap, subst, bytes_eq, if◌then◌else◌, ◌∙◌, slice_get, is_some, drop, length}
use Rattle.std.proofs.Math.Seq.{drop-append_seam}
use Rattle.std.specs.Prelude.{Contains, IfSome}
use Rattle.std.specs.Option.{option_map_or}
use Rattle.std.specs.List.{list_any}
use Rattle.nif_base.specs.Node.{Node, Members, Num, Line, Ref, Text, Bytes, Group, Row, End, Here, Absent}
use Rattle.nif_schema.specs.Declaration.{Name, Formula, Read, Bad, Field}
use Rattle.nif_schema.specs.Expression.{Number, Arg, Path, Not, Two}
use Rattle.nif_schema.specs.Schema.{Schema, line}
use Rattle.nif_layout.specs.PathValue.{extended, number_in, is_signed}
use Rattle.nif_layout.specs.Earlier.{Env, behind, last_present, passed}
use Rattle.nif_layout.specs.Form as form
use Rattle.nif_layout.specs.Present.{formula_value}
use Rattle.nif_layout.specs.Form.{number_at_item, is_array, array_name, width_at}
use Rattle.nif_layout.specs.OpenTypeLaws.{each_any}
use Rattle.nif_layout.specs.OpenKindLaws.{each_contained}
use Rattle.nif_scope.specs.declared.settings.Setting.{Setting}
use Rattle.nif_scope.specs.declared.entries.Entry.{Entry}
use Rattle.nif_scope.specs.declared.entries.Entry.TheVariants as entry
use Rattle.nif_scope.specs.Told.{line_told, items_told}
use Rattle.nif_scope.specs.Lookup.{inside, array_told, item_value, number_told}
use Rattle.nif_scope.specs.Scope.{Tells, asks, is_bare, context_in, earlier, width_of}
use Rattle.nif_scope.specs.Values.{bare_name, array_at, item_at, row_width, formula_at}
use Rattle.nif_scope.proofs.KeptMembers.{entry_of, own_of, kept_member, kept_is, inside_is, last_is}
use Rattle.nif_scope.proofs.KeptValues.{formula_same}

-- ---- the last member of a name as an array

array_next : (name : Name) (got : Bool) (f : Field) (fields : List Field) (e : Entry) (own more : List Entry) → inside e ≡ length own
    → array_told name got (f ∷ fields) (e ∷ own ++ more) ≡ array_told name (if bytes_eq name f.name then is_some f.length else got) fields more
array_next name got f fields e own more size =
    subst (λ n. array_told name (if bytes_eq name f.name then is_some f.length else got) fields (drop n (own ++ more)) ≡ array_told name (if bytes_eq name f.name then is_some f.length else got) fields more) (sym size)
    (ap (λ d. array_told name (if bytes_eq name f.name then is_some f.length else got) fields d) (drop-append_seam own more))

array_is : (asks : Field → Bool) (name : Name) (fields : List Field) (members : Members) (E : Env)
    → array_told name (is_array name E) fields (line_told asks fields members) ≡ is_array name (passed fields members E)
array_is asks name [] members E = refl
array_is asks name (f ∷ fields) End E = refl
array_is asks name (f ∷ fields) (Here node rest) E =
    subst (λ t. array_told name (is_array name E) (f ∷ fields) (t ++ line_told asks fields rest) ≡ is_array name (passed fields rest (behind f (Some node) E))) (sym (kept_is (asks f) node))
    (array_next name (is_array name E) f fields (entry_of (asks f) node) (own_of (asks f) node) (line_told asks fields rest) (inside_is (asks f) node)
    ∙ array_is asks name fields rest (behind f (Some node) E))
array_is asks name (f ∷ fields) (Absent rest) E = array_is asks name fields rest (behind f None E)

-- ---- items

item_of_bytes : (signed : Bool) (i : ℕ) (bytes : List ℕ)
    → option_map_or (number_told signed) (slice_get (map (λ b. entry.Number b (extended true 1 b)) bytes) i) 0 ≡ option_map_or (extended signed 1) (slice_get bytes i) 0
item_of_bytes signed i [] = refl
item_of_bytes true zero (b ∷ bytes) = refl
item_of_bytes false zero (b ∷ bytes) = refl
item_of_bytes signed (suc i) (b ∷ bytes) = item_of_bytes signed i bytes

item_of_row : (signed : Bool) (i : ℕ) (items : Members)
    → option_map_or (number_told signed) (slice_get (items_told items) i) 0 ≡ option_map_or (number_in signed) (form.item_at items i) 0
item_of_row signed i End = refl
item_of_row signed i (Absent rest) = refl
item_of_row true zero (Here (Num width little bits) rest) = refl
item_of_row false zero (Here (Num width little bits) rest) = refl
item_of_row signed zero (Here (Line bytes) rest) = refl
item_of_row signed zero (Here (Ref strong wanted target) rest) = refl
item_of_row signed zero (Here (Text index) rest) = refl
item_of_row signed zero (Here (Bytes bytes) rest) = refl
item_of_row signed zero (Here (Group members) rest) = refl
item_of_row signed zero (Here (Row items) rest) = refl
item_of_row signed (suc i) (Here node rest) = item_of_row signed i rest

item_kept : (signed : Bool) (i : ℕ) (node : Node) → item_value signed i (entry_of true node) (own_of true node) ≡ number_at_item signed i node
item_kept signed i (Num width little bits) = refl
item_kept signed i (Line bytes) = refl
item_kept signed i (Ref strong wanted target) = refl
item_kept signed i (Text index) = refl
item_kept signed i (Bytes bytes) = item_of_bytes signed i bytes
item_kept signed i (Group members) = refl
item_kept signed i (Row items) = item_of_row signed i items

-- the last present field of a name has it
named_last : (name : Name) (E : Env) → IfSome (last_present name E) (λ at. bytes_eq name at.0.name ≡ true)
named_last name [] = tt
named_last name (earlier ∷ before) = by (bytes_eq name earlier.field.name) refl earlier.node (named_last name before)
  where
    by : (b : Bool) → bytes_eq name earlier.field.name ≡ b → (node : Option Node) → IfSome (last_present name before) (λ at. bytes_eq name at.0.name ≡ true)
        → IfSome (if b then option_map_or (λ node. Some (earlier.field, node)) node (last_present name before) else last_present name before) (λ at. bytes_eq name at.0.name ≡ true)
    by true e None ih = ih
    by true e (Some node) ih = e
    by false e node ih = ih

-- ---- the length of a row

-- the items of each array of the name are asked for
abbrev AreAsked : (Field → Bool) → Name → Type 0
AreAsked asks name = (g : Field) → bytes_eq name g.name ≡ true → asks g ≡ true

item_found : (asks : Field → Bool) (schema : Schema) (name : Name) (i : ℕ) (got : Option (Field × Node)) → AreAsked asks name → IfSome got (λ at. bytes_eq name at.0.name ≡ true)
    → option_map_or (λ m. item_value (is_signed schema m.field) i m.entry m.own) (kept_member asks got) 0 ≡ option_map_or (λ at. number_at_item (is_signed schema at.0) i at.1) got 0
item_found asks schema name i None asked h = refl
item_found asks schema name i (Some at) asked h =
    subst (λ (b : Bool). item_value (is_signed schema at.0) i (entry_of b at.1) (own_of b at.1) ≡ number_at_item (is_signed schema at.0) i at.1) (sym (asked at.0 h))
    (item_kept (is_signed schema at.0) i at.1)

item_same : (at : Setting) (entries : List Entry) (members : Members) → Tells at entries members → (i : ℕ) (name : Name) → AreAsked (asks at.schema.now at.number) name
    → item_at at entries i name ≡ option_map_or (λ x. number_at_item (is_signed at.schema.now x.0) i x.1) (last_present name (earlier at members)) 0
item_same at entries members tells i name asked =
    ap (λ es. item_at at es i name) tells
    ∙ ap (λ found. option_map_or (λ m. item_value (is_signed at.schema.now m.field) i m.entry m.own) found 0) (last_is (asks at.schema.now at.number) name (line at.schema.now at.number) members [])
    ∙ item_found (asks at.schema.now at.number) at.schema.now name i (last_present name (earlier at members)) asked (named_last name (earlier at members))

array_same : (at : Setting) (entries : List Entry) (members : Members) → Tells at entries members → (width : Formula) → array_at at entries width ≡ array_name (earlier at members) width
array_same at entries members tells (Read (Path (name ∷ []))) =
    ap (λ (b : Bool). if b then Some name else None)
    (ap (λ es. array_told name false (line at.schema.now at.number) es) tells ∙ array_is (asks at.schema.now at.number) name (line at.schema.now at.number) members [])
array_same at entries members tells (Read (Path [])) = refl
array_same at entries members tells (Read (Path (name ∷ next ∷ names))) = refl
array_same at entries members tells (Read (Number n)) = refl
array_same at entries members tells (Read Arg) = refl
array_same at entries members tells (Read (Not of)) = refl
array_same at entries members tells (Read (Two op left right)) = refl
array_same at entries members tells Bad = refl

-- a `width` of the line asks for the arrays that it is the bare name of
bare_is : (width : Formula) (name other : Name) → bare_name width ≡ Some name → bytes_eq name other ≡ true → is_bare other width ≡ true
bare_is (Read (Path (first ∷ []))) name other e h = let same : first ≡ name = cc in subst (λ n. bytes_eq n other ≡ true) (sym same) h
bare_is (Read (Path [])) name other e h = absurd (cc)
bare_is (Read (Path (first ∷ next ∷ names))) name other e h = absurd (cc)
bare_is (Read (Number n)) name other e h = absurd (cc)
bare_is (Read Arg) name other e h = absurd (cc)
bare_is (Read (Not of)) name other e h = absurd (cc)
bare_is (Read (Two op left right)) name other e h = absurd (cc)
bare_is Bad name other e h = absurd (cc)

asked_for : (at : Setting) (f : Field) (width : Formula) (name : Name) → Contains (line at.schema.now at.number) f → f.width ≡ Some width → bare_name width ≡ Some name
    → AreAsked (asks at.schema.now at.number) name
asked_for at f width name c w e g h =
    let test : Field → Bool = λ other. option_map_or (is_bare g.name) other.width false in
    let bare : test f ≡ true = subst (λ (o : Option Formula). option_map_or (is_bare g.name) o false ≡ true) (sym w) (bare_is width name g.name e h) in
    each_contained (λ x. test x ≡ true → list_any test (line at.schema.now at.number) ≡ true) (line at.schema.now at.number) f c (each_any test (line at.schema.now at.number)) bare

bare_array : (E : Env) (width : Formula) (name : Name) → array_name E width ≡ Some name → bare_name width ≡ Some name
bare_array E (Read (Path (first ∷ []))) name e = by (is_array first E) e
  where
    by : (b : Bool) → (if b then Some first else None) ≡ Some name → bare_name (Read (Path (first ∷ []))) ≡ Some name
    by true h = h
    by false h = absurd (cc)
bare_array E (Read (Path [])) name e = absurd (cc)
bare_array E (Read (Path (first ∷ next ∷ names))) name e = absurd (cc)
bare_array E (Read (Number n)) name e = absurd (cc)
bare_array E (Read Arg) name e = absurd (cc)
bare_array E (Read (Not of)) name e = absurd (cc)
bare_array E (Read (Two op left right)) name e = absurd (cc)
bare_array E Bad name e = absurd (cc)

row_same : (at : Setting) (entries : List Entry) (members : Members) → Tells at entries members → (width : Formula) (i : ℕ)
    → ((name : Name) → bare_name width ≡ Some name → AreAsked (asks at.schema.now at.number) name)
    → row_width at entries width i ≡ width_at at.schema.now (context_in at) (earlier at members) at.arg width i
row_same at entries members tells width i asked =
    ap (λ o. option_map_or (item_at at entries i) o (formula_at at entries width)) (array_same at entries members tells width)
    ∙ by (array_name (earlier at members) width) (λ name e. asked name (bare_array (earlier at members) width name e))
  where
    by : (o : Option Name) → ((name : Name) → o ≡ Some name → AreAsked (asks at.schema.now at.number) name)
        → option_map_or (item_at at entries i) o (formula_at at entries width)
        ≡ option_map_or (λ name. option_map_or (λ x. number_at_item (is_signed at.schema.now x.0) i x.1) (last_present name (earlier at members)) 0) o (formula_value at.schema.now (context_in at) (earlier at members) at.arg width)
    by None h = formula_same at entries members tells width
    by (Some name) h = item_same at entries members tells i name (h name refl)

-- The length of a row of a field of the line is the one by the nodes.
pub width_same : (at : Setting) (entries : List Entry) (members : Members) → Tells at entries members → (f : Field) → Contains (line at.schema.now at.number) f → (i : ℕ)
    → width_of (row_width at entries) f.width i ≡ width_of (width_at at.schema.now (context_in at) (earlier at members) at.arg) f.width i
width_same at entries members tells f c i = by f.width refl
  where
    P : Option Formula → Type 0
    P o = width_of (row_width at entries) o i ≡ width_of (width_at at.schema.now (context_in at) (earlier at members) at.arg) o i

    by : (o : Option Formula) → f.width ≡ o → P f.width
    by None e = subst P (sym e) refl
    by (Some width) e = subst P (sym e) (row_same at entries members tells width i (λ name b. asked_for at f width name c e b))
