-- The bytes of the header: the members up to and with `Endian Type` are little, the others are in the order of the
-- file.
use Rattle.std.proofs.Common.{◌≡◌, ◌≤◌, ℕ, zero, suc, ◌+◌, ◌-◌, ◌==◌, ◌||◌, ◌&&◌, Bool, true, false, if◌then◌else◌, not, Option, Some, None, List, [], ◌∷◌, ◌++◌, length, slice_get, refl, sym, ◌∙◌, ap, subst, arith, append_assoc, true≢false}
use Rattle.std.specs.Prelude.{codes, bytes_eq, filter}
use Rattle.std.specs.List.{list_any}
use Rattle.std.specs.Option.{option_map, option_map_or}
use Rattle.nif_base.specs.declared.orders.Order.{Order}
use Rattle.nif_base.specs.declared.orders.Order.TheVariants.{Little, Big}
use Rattle.nif_base.specs.Node.{Node, Members, Group, End, Here, Absent, text, texts}
use Rattle.nif_cells.specs.Walks.{count}
use Rattle.nif_schema.specs.Declaration.{Name, Field, Declaration}
use Rattle.nif_schema.specs.Schema.{Schema, find}
use Rattle.nif_schema.specs.Roles.{Roles, header_fields, of_name, is_named, is_array, is_at_most_one, is_after_version, is_once_behind, is_of_byte, has_user_versions}
use Rattle.nif_layout.specs.Earlier.{Env, behind, last_present, passed}
use Rattle.nif_layout.specs.PathValue.{number_in}
use Rattle.nif_layout.specs.Members.{Member, Check, Fields, fields_text}
use Rattle.nif_layout.specs.Shape.{FormShape}
use Rattle.nif_layout.specs.Present.{present}
use Rattle.nif_layout.specs.Form.{form_of}
use Rattle.nif_file.specs.Head.{order_in, header_context}
use Rattle.nif_file.specs.Checks.{header_check}
use Rattle.nif_file.specs.Files.{header_line, head_of, header_text, IsHeaderLine}
use Rattle.nif_file.specs.PartsText.{up_to, text_at, texts_from, header_part}
use Rattle.nif_file.specs.PlaceLaws.{neither, other_name, none_named}
use Rattle.nif_file.specs.RoleLaws.{left, header_is, header_line_is}

-- ---- one member for each field

abbrev pub Matches : List Field → Members → Type 0
Matches [] End = Unit {0}
Matches [] (Here value rest) = ⊥
Matches [] (Absent rest) = ⊥
Matches (f ∷ fields) End = ⊥
Matches (f ∷ fields) (Here value rest) = Matches fields rest
Matches (f ∷ fields) (Absent rest) = Matches fields rest

matched : {Why : Type 0} (here : Env → Field → Bool) (Value : Env → Field → Node → Type 0) (check : Check Why) (fields : List Field) (E : Env) (members : Members)
    → Fields here Value check fields E members → Matches fields members
matched here Value check [] E members h = subst (λ (m : Members). Matches [] m) (sym h) tt
matched {Why} here Value check (f ∷ fields) E members h = by (here E f) members h (λ got rest k. matched here Value check fields (behind f got E) rest k)
  where
    by : (b : Bool) (members : Members) → Member b (Value E f) (λ got rest. (check E f got ≡ None) × Fields here Value check fields (behind f got E) rest) members
        → ((got : Option Node) (rest : Members) → Fields here Value check fields (behind f got E) rest → Matches fields rest) → Matches (f ∷ fields) members
    by true members h ih = subst (λ (m : Members). Matches (f ∷ fields) m) (sym h.2) (ih (Some h.0) h.1 h.4.1)
    by false members h ih = subst (λ (m : Members). Matches (f ∷ fields) m) (sym h.1) (ih None h.0 h.2.1)

pub header_matched : (S : Schema) (members : Members) → IsHeaderLine S members → Matches (header_line S) members
header_matched S members h =
    matched (λ E f. present S (header_context S E) 0 E f) (λ E f. FormShape S (header_context S E) 63 (form_of S (header_context S E) None 0 E f)) (header_check S) (header_line S) [] members h

pub matched_count : (fields : List Field) (members : Members) → Matches fields members → count members ≡ length fields
matched_count [] End m = refl
matched_count [] (Here value rest) m = absurd m
matched_count [] (Absent rest) m = absurd m
matched_count (f ∷ fields) End m = absurd m
matched_count (f ∷ fields) (Here value rest) m = let ih = matched_count fields rest m in omega (arith, ih)
matched_count (f ∷ fields) (Absent rest) m = let ih = matched_count fields rest m in omega (arith, ih)

-- ---- members one behind another

texts_here : (order : Order) (k n : ℕ) (value : Node) (rest : Members) → texts_from order (suc k) n (Here value rest) ≡ texts_from order k n rest
texts_here order k zero value rest = refl
texts_here order k (suc n) value rest = ap (λ l. text_at order k rest ++ l) (texts_here order (suc k) n value rest)

texts_absent : (order : Order) (k n : ℕ) (rest : Members) → texts_from order (suc k) n (Absent rest) ≡ texts_from order k n rest
texts_absent order k zero rest = refl
texts_absent order k (suc n) rest = ap (λ l. text_at order k rest ++ l) (texts_absent order (suc k) n rest)

one_more : (n : ℕ) → 1 + n ≡ suc n
one_more n = omega arith

one_less : (c n : ℕ) → 1 + c - suc n ≡ c - n
one_less c n = omega arith

all_texts : (order : Order) (members : Members) → texts_from order 0 (count members) members ≡ texts order members
all_texts order End = refl
all_texts order (Here value rest) =
    ap (λ n. texts_from order 0 n (Here value rest)) (one_more (count rest)) ∙ ap (λ l. text order value ++ l) (texts_here order 0 (count rest) value rest ∙ all_texts order rest)
all_texts order (Absent rest) = ap (λ n. texts_from order 0 n (Absent rest)) (one_more (count rest)) ∙ texts_absent order 0 (count rest) rest ∙ all_texts order rest

-- the first members little, the others in an order
abbrev in_two : Order → ℕ → Members → List ℕ
in_two order n members = texts_from Little 0 n members ++ texts_from order n (count members - n) members

two_here : (order : Order) (n : ℕ) (value : Node) (rest : Members) → in_two order (suc n) (Here value rest) ≡ text Little value ++ in_two order n rest
two_here order n value rest =
    ap (λ l. (text Little value ++ l) ++ texts_from order (suc n) (1 + count rest - suc n) (Here value rest)) (texts_here Little 0 n value rest)
    ∙ ap (λ m. (text Little value ++ texts_from Little 0 n rest) ++ texts_from order (suc n) m (Here value rest)) (one_less (count rest) n)
    ∙ ap (λ l. (text Little value ++ texts_from Little 0 n rest) ++ l) (texts_here order n (count rest - n) value rest)
    ∙ append_assoc (text Little value) (texts_from Little 0 n rest) (texts_from order n (count rest - n) rest)

two_absent : (order : Order) (n : ℕ) (rest : Members) → in_two order (suc n) (Absent rest) ≡ in_two order n rest
two_absent order n rest =
    ap (λ l. l ++ texts_from order (suc n) (1 + count rest - suc n) (Absent rest)) (texts_absent Little 0 n rest)
    ∙ ap (λ m. texts_from Little 0 n rest ++ texts_from order (suc n) m (Absent rest)) (one_less (count rest) n)
    ∙ ap (λ l. texts_from Little 0 n rest ++ l) (texts_absent order n (count rest - n) rest)

two_none : (order : Order) (members : Members) → in_two order 0 members ≡ texts order members
two_none order members = let e : count members - 0 ≡ count members = omega arith in ap (λ n. texts_from order 0 n members) e ∙ all_texts order members

-- ---- the order of the file

abbrev endian : Name
endian = codes "Endian Type"

abbrev order_by : Option (Field × Node) → Order
order_by o = option_map_or (λ at. if number_in false at == 0 then Big else Little) (option_map (λ at. at.1) o) Little

order_other : (f : Field) (got : Option Node) (E : Env) → bytes_eq endian f.name ≡ false → order_in (behind f got E) ≡ order_in E
order_other f got E other = ap order_by (other_name endian f got E other)

order_behind : (fields : List Field) (members : Members) (E : Env) → list_any (is_named endian) fields ≡ false → order_in (passed fields members E) ≡ order_in E
order_behind fields members E none = ap order_by (none_named endian fields members E none)

order_first : (E : Env) → last_present endian E ≡ None → order_in E ≡ Little
order_first E none = ap order_by none

-- behind the field that says it, and where there is none, all members are in one order
unnamed_text : (fields : List Field) (E : Env) (members : Members) (order : Order) → list_any (is_named endian) fields ≡ false → order_in E ≡ order → Matches fields members
    → fields_text order_in fields E members ≡ texts order members
unnamed_text [] E End order none is m = refl
unnamed_text [] E (Here value rest) order none is m = absurd m
unnamed_text [] E (Absent rest) order none is m = absurd m
unnamed_text (f ∷ fields) E End order none is m = absurd m
unnamed_text (f ∷ fields) E (Here value rest) order none is m =
    let n = neither (is_named endian f) (list_any (is_named endian) fields) none in
    ap (λ o. text o value ++ fields_text order_in fields (behind f (Some value) E) rest) is
    ∙ ap (λ l. text order value ++ l) (unnamed_text fields (behind f (Some value) E) rest order n.1 (order_other f (Some value) E n.0 ∙ is) m)
unnamed_text (f ∷ fields) E (Absent rest) order none is m =
    let n = neither (is_named endian f) (list_any (is_named endian) fields) none in
    unnamed_text fields (behind f None E) rest order n.1 (order_other f None E n.0 ∙ is) m

-- the first n members are little, the others in the order of the file
abbrev InTwo : List Field → Env → Members → ℕ → Type 0
InTwo fields E members n = fields_text order_in fields E members ≡ in_two (order_in (passed fields members E)) n members

unnamed_two : (fields : List Field) (E : Env) (members : Members) → list_any (is_named endian) fields ≡ false → Matches fields members → InTwo fields E members 0
unnamed_two fields E members none m =
    unnamed_text fields E members (order_in (passed fields members E)) none (sym (order_behind fields members E none)) m ∙ sym (two_none (order_in (passed fields members E)) members)

with_here : (f : Field) (fields : List Field) (E : Env) (value : Node) (rest : Members) (n up : ℕ) → last_present endian E ≡ None → up ≡ suc n
    → InTwo fields (behind f (Some value) E) rest n → InTwo (f ∷ fields) E (Here value rest) up
with_here f fields E value rest n up none is two =
    let order = order_in (passed fields rest (behind f (Some value) E)) in
    ap (λ o. text o value ++ fields_text order_in fields (behind f (Some value) E) rest) (order_first E none)
    ∙ ap (λ l. text Little value ++ l) two ∙ sym (two_here order n value rest) ∙ ap (λ k. in_two order k (Here value rest)) (sym is)

with_absent : (f : Field) (fields : List Field) (E : Env) (rest : Members) (n up : ℕ) → up ≡ suc n → InTwo fields (behind f None E) rest n → InTwo (f ∷ fields) E (Absent rest) up
with_absent f fields E rest n up is two =
    let order = order_in (passed fields rest (behind f None E)) in
    two ∙ sym (two_absent order n rest) ∙ ap (λ k. in_two order k (Absent rest)) (sym is)

-- ---- a name that stands at most once

no_more : (p : Field → Bool) (f : Field) (fields : List Field) → is_at_most_one p (f ∷ fields) ≡ true → fields ≡ []
no_more p f [] h = refl
no_more p f (g ∷ fields) h = absurd (true≢false (sym h))

none_filtered : (q : Field → Bool) (fields : List Field) → filter q fields ≡ [] → list_any q fields ≡ false
none_filtered q [] e = refl
none_filtered q (f ∷ fields) e = by (q f) refl e (none_filtered q fields)
  where
    by : (b : Bool) → q f ≡ b → (if b then f ∷ filter q fields else filter q fields) ≡ [] → (filter q fields ≡ [] → list_any q fields ≡ false) → (q f || list_any q fields) ≡ false
    by true is e ih = absurd (cc)
    by false is e ih = ap (λ b. b || list_any q fields) is ∙ ih e

-- what is known of the rest of a line, behind its first field
next_two : (p : Field → Bool) (f : Field) (fields : List Field) (got : Option Node) (E : Env) (rest : Members) → is_at_most_one p (filter (is_named endian) (f ∷ fields)) ≡ true → last_present endian E ≡ None
    → Matches fields rest → (is_at_most_one p (filter (is_named endian) fields) ≡ true → last_present endian (behind f got E) ≡ None → Matches fields rest → InTwo fields (behind f got E) rest (up_to endian fields))
    → (n : ℕ) × (up_to endian (f ∷ fields) ≡ suc n) × InTwo fields (behind f got E) rest n
next_two p f fields got E rest once none m ih = by (is_named endian f) refl once
  where
    by : (b : Bool) → is_named endian f ≡ b → is_at_most_one p (if b then f ∷ filter (is_named endian) fields else filter (is_named endian) fields) ≡ true
        → (n : ℕ) × ((if is_named endian f then 1 else suc (up_to endian fields)) ≡ suc n) × InTwo fields (behind f got E) rest n
    by true is once = (
      0,
      ap (λ b. if b then 1 else suc (up_to endian fields)) is,
      unnamed_two fields (behind f got E) rest (none_filtered (is_named endian) fields (no_more p f (filter (is_named endian) fields) once)) m,
    )
    by false is once = (up_to endian fields, ap (λ b. if b then 1 else suc (up_to endian fields)) is, ih once (other_name endian f got E is ∙ none) m)

two_texts : (p : Field → Bool) (fields : List Field) (E : Env) (members : Members) → is_at_most_one p (filter (is_named endian) fields) ≡ true → last_present endian E ≡ None → Matches fields members
    → InTwo fields E members (up_to endian fields)
two_texts p [] E End once none m = refl
two_texts p [] E (Here value rest) once none m = absurd m
two_texts p [] E (Absent rest) once none m = absurd m
two_texts p (f ∷ fields) E End once none m = absurd m
two_texts p (f ∷ fields) E (Here value rest) once none m =
    let next = next_two p f fields (Some value) E rest once none m (two_texts p fields (behind f (Some value) E) rest) in
    with_here f fields E value rest next.0 (up_to endian (f ∷ fields)) none next.1 next.2
two_texts p (f ∷ fields) E (Absent rest) once none m =
    let next = next_two p f fields None E rest once none m (two_texts p fields (behind f None E) rest) in
    with_absent f fields E rest next.0 (up_to endian (f ∷ fields)) next.1 next.2

pub up_to_within : (name : Name) (fields : List Field) → up_to name fields ≤ length fields
up_to_within name [] = omega arith
up_to_within name (f ∷ fields) = by (is_named name f) (up_to_within name fields)
  where
    by : (b : Bool) → up_to name fields ≤ length fields → (if b then 1 else suc (up_to name fields)) ≤ suc (length fields)
    by true ih = omega arith
    by false ih = omega (arith, ih)

-- ---- the header

whole_text : (p : Field → Bool) (fields : List Field) (members : Members) → is_at_most_one p (filter (is_named endian) fields) ≡ true → Matches fields members
    → fields_text order_in fields [] members ≡ header_part fields (order_in (passed fields members [])) (Group members)
whole_text p fields members once m =
    let order = order_in (passed fields members []) in
    let n = up_to endian fields in
    let none : n - 0 ≡ n = omega arith in
    two_texts p fields [] members once refl m
    ∙ ap (λ k. texts_from Little 0 k members ++ texts_from order n (count members - n) members) (sym none)
    ∙ ap (λ k. texts_from Little 0 (n - 0) members ++ texts_from order n (k - n) members) (matched_count fields members m)

endian_once : (S : Schema) (fields : List Field) → has_user_versions S fields ≡ true → is_at_most_one (λ f. not (is_array f) && is_of_byte S f) (filter (is_named endian) fields) ≡ true
unfolding has_user_versions of_name
endian_once S fields h =
    left (is_at_most_one (λ f. not (is_array f) && is_of_byte S f) (of_name endian fields)) (is_after_version endian fields) (left (is_once_behind endian (is_of_byte S) fields) _ h)

pub header_parts : (S : Schema) → Roles S → (members : Members) → IsHeaderLine S members → header_text S members ≡ header_part (header_fields S) (order_in (head_of S members)) (Group members)
header_parts S roles members h =
    let line_is = header_line_is S roles.roots.header roles.roots.is_header in
    let once = endian_once S (header_line S) (subst (λ (fields : List Field). has_user_versions S fields ≡ true) (sym line_is) roles.user_versions) in
    whole_text (λ f. not (is_array f) && is_of_byte S f) (header_line S) members once (header_matched S members h)
    ∙ ap (λ fields. header_part fields (order_in (head_of S members)) (Group members)) line_is

-- the fields of the header are those of its declaration
pub fields_are : (S : Schema) (n : ℕ) (d : Declaration) → find S (codes "Header") ≡ Some n → slice_get S n ≡ Some d → header_fields S ≡ d.fields
fields_are S n d found at = header_is S n found ∙ ap (λ (o : Option Declaration). option_map_or (λ d. d.fields) o []) at
