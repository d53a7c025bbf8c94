-- An open type has values all the way down.
use Rattle.std.proofs.Common.{◌≡◌, ℕ, zero, suc, ◌<◌, inl, inr, Bool, true, false, ◌&&◌, if◌then◌else◌, is_none, Option, Some, None, List, [], ◌∷◌, ◌++◌, length, slice_get, slice_index_or, option_and_then, refl, sym, ◌∙◌, ap, subst, true≢false, arith}
use Rattle.std.specs.Option.{option_map, option_map_or}
use Rattle.std.specs.Prelude.{Contains, option_to_list, flat_map}
use Rattle.std.specs.List.{list_any}
use Rattle.nif_schema.specs.Declaration.{Name, Field, Declaration, inherited, is_block}
use Rattle.nif_schema.specs.Schema.{Schema, find, find_block, has_block, parent, fields_of, line, line_within}
use Rattle.nif_schema.specs.Uses.{is_own_template, what_at, is_struct, takes_template, is_generic, uses_of_field, uses, Here}
use Rattle.nif_schema.specs.Paths.{storage_width, integer_width}
use Rattle.nif_schema.specs.Reasons.{is_unread, IsOpen}
use Rattle.nif_schema.specs.declared.decls.Leaf.{Leaf}
use Rattle.nif_schema.specs.declared.decls.Leaf.TheVariants as leaf
use Rattle.nif_schema.specs.declared.decls.What.{What}
use Rattle.nif_schema.specs.declared.decls.What.TheVariants.{Basic, Stored, Struct, Block}
use Rattle.nif_layout.specs.Context.{Context}
use Rattle.nif_layout.specs.Earlier.{Env}
use Rattle.nif_layout.specs.PathValue.{basic_leaf}
use Rattle.nif_layout.specs.Kind.{Kind, Unknown, Group, kind_of_leaf, kind_of_what, kind_of}
use Rattle.nif_layout.specs.Present.{formula_value}
use Rattle.nif_layout.specs.Form.{width_at, is_run, replaced, row_of, sized, field_kind, form_of}
use Rattle.nif_layout.specs.Laws.{IsOpenType, HasTemplate}
use Rattle.nif_layout.specs.DecideLaws.{EachField}
use Rattle.nif_layout.specs.DecideShapeLaws.{KnownForm, Known}
use Rattle.nif_layout.specs.OpenTypeLaws.{each_map, each_both, each_append, each_any, or_left, or_right, open_used, declared, own_facts, FieldGood, TemplateGood, fields_good}

-- ---- the line of an open type

-- a declaration that has a parent is a block type, and so is its parent
parent_is_block : (S : Schema) (n p : ℕ) (d : Declaration) → slice_get S n ≡ Some d → parent S n ≡ Some p
    → (is_struct d.what ≡ false) × ((up : Declaration) × (slice_get S p ≡ Some up) × (is_struct up.what ≡ false))
unfolding parent
parent_is_block S n p d e h = by d.what refl
  where
    at : option_and_then (find_block S) (inherited d.what) ≡ Some p
    at = let P : Option Declaration → Type 0 = λ x. option_and_then (find_block S)
        (option_and_then (λ (d : Declaration). inherited d.what) x) ≡ Some p in subst P e h

    block : (w : What) → is_block w ≡ true → is_struct w ≡ false
    block (Basic own) b = refl
    block (Stored storage members) b = refl
    block Struct b = absurd (true≢false (sym b))
    block (Block above abstract) b = refl

    there : (x : Option Declaration) → slice_get S p ≡ x
        → option_map_or (λ (d : Declaration). is_block d.what) x false ≡ true
        → (up : Declaration) × (slice_get S p ≡ Some up) × (is_struct up.what ≡ false)
    there None ex b = absurd (true≢false (sym b))
    there (Some up) ex b = (up, ex, block up.what b)

    found : (b : Bool) (m : ℕ) → has_block S m ≡ b → (if b then Some m else None) ≡ Some p → has_block S p ≡ true
    found true m eb q = let same : m ≡ p = cc in subst (λ (k : ℕ). has_block S k ≡ true) same eb
    found false m eb q = absurd (cc)

    named : (o : Option ℕ) → option_and_then (λ number. if has_block S number then Some number else None) o ≡ Some p
        → has_block S p ≡ true
    named None q = absurd (cc)
    named (Some m) q = found (has_block S m) m refl q

    by : (w : What) → d.what ≡ w
        → (is_struct d.what ≡ false) × ((up : Declaration) × (slice_get S p ≡ Some up) × (is_struct up.what ≡ false))
    by (Basic own) ew = let q : option_and_then (find_block S) (inherited (Basic own))
        ≡ Some p = subst (λ (w : What). option_and_then (find_block S) (inherited w) ≡ Some p) ew at in absurd (cc)
    by (Stored storage members) ew = let q : option_and_then (find_block S) (inherited (Stored storage members))
        ≡ Some p = subst (λ (w : What). option_and_then (find_block S) (inherited w) ≡ Some p) ew at in absurd (cc)
    by Struct ew = let q : option_and_then (find_block S) (inherited Struct)
        ≡ Some p = subst (λ (w : What). option_and_then (find_block S) (inherited w) ≡ Some p) ew at in absurd (cc)
    by (Block None abstract) ew = let q : option_and_then (find_block S) (inherited (Block None abstract))
        ≡ Some p = subst (λ (w : What). option_and_then (find_block S) (inherited w) ≡ Some p) ew at in absurd (cc)
    by (Block (Some name) abstract) ew =
        let q : option_and_then (find_block S) (inherited (Block (Some name) abstract)) ≡ Some p = subst (λ (w : What). option_and_then (find_block S) (inherited w) ≡ Some p) ew at in
        (subst (λ (w : What). is_struct w ≡ false) (sym ew) refl, there (slice_get S p) refl (named (find S name) q))

pub uses_parent : (S : Schema) (n p : ℕ) → parent S n ≡ Some p → Contains (uses S n) p
unfolding uses
uses_parent S n p e =
    let P : Option ℕ → Type 0 = λ x. Contains (option_to_list x ++ flat_map (uses_of_field S) (fields_of S n)) p in
    subst P (sym e) (0, omega arith, refl)

-- a field of the line of an open type, which needs a template only where the type is generic
abbrev LineGood : Schema → ℕ → Bool → Field → Type 0
LineGood S n in_struct f =
    FieldGood S in_struct f × (in_struct ≡ true → takes_template f ≡ true → is_generic S n ≡ true)

generic_by_field : (S : Schema) (n : ℕ) (d : Declaration) → slice_get S n ≡ Some d
    → EachField (λ f. is_struct d.what ≡ true → takes_template f ≡ true → is_generic S n ≡ true) d.fields
generic_by_field S n d e =
    each_map (λ f h s t.
    let P : Option Declaration → Type 0 = λ x. option_map_or (λ (d : Declaration). is_struct d.what && list_any takes_template d.fields) x false ≡ true in
    let Q : Bool → Type 0 = λ b. (b && list_any takes_template d.fields) ≡ true in
    subst P (sym e) (subst Q (sym s) (h t))) d.fields (each_any takes_template d.fields)

line_good : (S : Schema) (most n : ℕ) (d : Declaration) → slice_get S n ≡ Some d → IsOpen S n
    → EachField (LineGood S n (is_struct d.what)) (line_within most S n)
line_good S zero n d e o = tt
line_good S (suc most) n d e o = by (parent S n) refl (λ p up ep op. line_good S most p up ep op)
  where
    L : Bool → Field → Type 0
    L b = LineGood S n b

    own : EachField (L (is_struct d.what)) (fields_of S n)
    own =
        let at : fields_of S n ≡ d.fields = ap (λ (x : Option Declaration). option_map_or (λ d. d.fields) x []) e in
        let P : List Field → Type 0 = λ fs. EachField (L (is_struct d.what)) fs in
        subst P (sym at) (each_both (FieldGood S (is_struct d.what))
        (λ f. is_struct d.what ≡ true → takes_template f ≡ true → is_generic S n ≡ true) d.fields
        (fields_good S n d e o) (generic_by_field S n d e))

    by : (x : Option ℕ) → parent S n ≡ x
        → ((p : ℕ) (up : Declaration) → slice_get S p ≡ Some up → IsOpen S p
        → EachField (LineGood S p (is_struct up.what)) (line_within most S p))
        → EachField (L (is_struct d.what)) (option_map_or (line_within most S) (parent S n) [] ++ fields_of S n)
    by None ex ih =
        let P : Option ℕ → Type 0 = λ x. EachField (L (is_struct d.what)) (option_map_or (line_within most S) x [] ++ fields_of S n) in
        subst P (sym ex) own
    by (Some p) ex ih =
        let P : Option ℕ → Type 0 = λ x. EachField (L (is_struct d.what)) (option_map_or (line_within most S) x [] ++ fields_of S n) in
        let blocks = parent_is_block S n p d e ex in
        let up = blocks.1.0 in
        let above = ih p up blocks.1.1 (open_used S n p o (uses_parent S n p ex)) in
        let of_block : EachField (LineGood S p false) (line_within most S p) = subst (λ (b : Bool). EachField (LineGood S p b) (line_within most S p)) blocks.1.2 above in
        let here : EachField (L false) (line_within most S p) =
        each_map (λ f h. (h.0, λ s t. absurd (true≢false (sym s)))) (line_within most S p) of_block in
        let here' : EachField (L (is_struct d.what)) (line_within most S p) = subst (λ (b : Bool). EachField (L b) (line_within most S p)) (sym blocks.0) here in
        subst P (sym ex) (each_append (L (is_struct d.what)) (line_within most S p) (fields_of S n) here' own)

-- ---- what a field of it is

-- the template that stands for `#T#`
abbrev Hole : Schema → Option ℕ → Type 0
Hole S template = (inner : ℕ) × (template ≡ Some inner) × IsOpenType S inner × (is_generic S inner ≡ false)

abbrev Knowns : Schema → Context → ℕ → Type 0
Knowns S C d =
    (n : ℕ) (template : Option ℕ) (arg : ℕ) → IsOpenType S n → HasTemplate S n template
    → Known S C d (kind_of S C n template arg)

replaced_own : (S : Schema) (template : Option ℕ) (name : Name) (b : Bool) → is_own_template name ≡ b
    → replaced S template name ≡ (if b then template else find S name)
replaced_own S template name b e = ap (λ (b : Bool). if b then template else find S name) e

template_known : (S : Schema) (in_struct : Bool) (template : Option ℕ) (t : Option Name) → TemplateGood S in_struct t
    → (in_struct ≡ true → option_map_or is_own_template t false ≡ true → Hole S template)
    → Hole S (option_and_then (replaced S template) t)
template_known S in_struct template None h hole = absurd h
template_known S in_struct template (Some name) (inl a) hole =
    let x = hole a.0 a.1 in
    (x.0, replaced_own S template name true a.1 ∙ x.1, x.2, x.3)
template_known S in_struct template (Some name) (inr a) hole =
    (a.0, replaced_own S template name false a.1 ∙ a.2, a.3, a.4)

field_known : (S : Schema) (C : Context) (d : ℕ) (in_struct : Bool) (template : Option ℕ) (arg : ℕ) (E : Env)
    (f : Field)
    → Knowns S C d → FieldGood S in_struct f
    → (in_struct ≡ true → takes_template f ≡ true → Hole S template) → Known S C d (field_kind S C template arg E f)
unfolding takes_template
field_known S C d in_struct template arg E f ih good hole = by good
  where
    inner : Option ℕ
    inner = option_and_then (replaced S template) f.template

    P : Option ℕ → Type 0
    P x = Known S C d (option_map_or (λ number. kind_of S C number inner
        (option_map_or (formula_value S C E arg) f.arg 0)) x Unknown)

    by : FieldGood S in_struct f → Known S C d (field_kind S C template arg E f)
    by (inl a) =
        let x = hole a.0 (or_left (is_own_template f.kind) (option_map_or is_own_template f.template false) a.1) in
        let e : replaced S template f.kind ≡ Some x.0 = replaced_own S template f.kind true a.1 ∙ x.1 in
        subst P (sym e) (ih x.0 inner (option_map_or (formula_value S C E arg) f.arg 0) x.2
        (λ g. absurd (true≢false (sym g ∙ x.3))))
    by (inr a) =
        let e : replaced S template f.kind ≡ Some a.0 = replaced_own S template f.kind false a.1 ∙ a.2 in
        subst P (sym e) (ih a.0 inner (option_map_or (formula_value S C E arg) f.arg 0) a.3
        (λ g. template_known S in_struct template f.template (a.4 g)
        (λ s t. hole s (or_right (is_own_template f.kind) (option_map_or is_own_template f.template false) t))))

form_known : (S : Schema) (C : Context) (d : ℕ) (count : Option ℕ) (width : Option (ℕ → ℕ)) (run : Bool) (kind : Kind)
    → Known S C d kind → KnownForm (Known S C d) (sized count width run kind)
form_known S C d None width run kind u = u
form_known S C d (Some n) None run kind u = row run n
  where
    row : (run : Bool) (n : ℕ) → KnownForm (Known S C d) (row_of run kind n)
    row true n = tt
    row false n = λ i. u
form_known S C d (Some n) (Some width) run kind u = λ i. row run (width i)
  where
    row : (run : Bool) (n : ℕ) → KnownForm (Known S C d) (row_of run kind n)
    row true n = tt
    row false n = λ i. u

-- the fields of the line of an open type, each in a context of its own
pub line_known : (S : Schema) (at : Env → Context) (d n : ℕ) (template : Option ℕ) (arg : ℕ)
    → ((E : Env) → Knowns S (at E) d) → IsOpenType S n → HasTemplate S n template
    → EachField (λ f. (E : Env) → KnownForm (Known S (at E) d) (form_of S (at E) template arg E f)) (line S n)
line_known S at d n template arg ih o t =
    let x = declared S n o.0 in
    each_map (λ f h E. form_known S (at E) d (option_map (formula_value S (at E) E arg) f.length)
    (option_map (width_at S (at E) E arg) f.width)
    (option_map_or (is_run S) (replaced S template f.kind) false) (field_kind S (at E) template arg E f)
    (field_known S (at E) d (is_struct x.0.what) template arg E f (ih E) h.0 (λ s g. t (h.1 s g))))
    (line S n) (line_good S (length S) n x.0 x.1 o.1)

-- A block type has no template and asks for none.
block_known : (S : Schema) (at : Env → Context) (d n : ℕ) (x : Declaration) → slice_get S n ≡ Some x
    → is_struct x.what ≡ false → ((E : Env) → Knowns S (at E) d) → IsOpen S n
    → EachField (λ f. (E : Env) → KnownForm (Known S (at E) d) (form_of S (at E) None 0 E f)) (line S n)
block_known S at d n x e s ih o =
    each_map (λ f h E. form_known S (at E) d (option_map (formula_value S (at E) E 0) f.length)
    (option_map (width_at S (at E) E 0) f.width)
    (option_map_or (is_run S) (replaced S None f.kind) false) (field_kind S (at E) None 0 E f)
    (field_known S (at E) d (is_struct x.what) None 0 E f (ih E) h.0 (λ b g. absurd (true≢false (sym b ∙ s)))))
    (line S n) (line_good S (length S) n x e o)

-- ---- types

leaf_known : (S : Schema) (C : Context) (d : ℕ) (template : Option ℕ) (own : Leaf) → is_unread S (Basic own) ≡ false
    → Known S C d (kind_of_leaf C template own)
leaf_known S C d template (leaf.Num width signed little float) h = tt
leaf_known S C d template leaf.Bool h = tt
leaf_known S C d template leaf.Line h = tt
leaf_known S C d template leaf.Ref h = tt
leaf_known S C d template leaf.Ptr h = tt
leaf_known S C d template leaf.Text h = tt
leaf_known S C d template leaf.Unread h = absurd (true≢false h)

integer_known : (S : Schema) (C : Context) (d : ℕ) (what : Option What)
    → is_none (option_and_then integer_width what) ≡ false
    → Known S C d (kind_of_leaf C None (option_map_or basic_leaf what leaf.Unread))
integer_known S C d None h = absurd (true≢false h)
integer_known S C d (Some (Basic (leaf.Num width signed little float))) h = tt
integer_known S C d (Some (Basic leaf.Bool)) h = tt
integer_known S C d (Some (Basic leaf.Line)) h = tt
integer_known S C d (Some (Basic leaf.Ref)) h = tt
integer_known S C d (Some (Basic leaf.Ptr)) h = tt
integer_known S C d (Some (Basic leaf.Text)) h = tt
integer_known S C d (Some (Basic leaf.Unread)) h = absurd (true≢false h)
integer_known S C d (Some (Stored storage members)) h = absurd (true≢false h)
integer_known S C d (Some Struct) h = absurd (true≢false h)
integer_known S C d (Some (Block above abstract)) h = absurd (true≢false h)

stored_known : (S : Schema) (C : Context) (d : ℕ) (storage : Option Name) → is_none (storage_width S storage) ≡ false
    → Known S C d (kind_of_leaf C None (option_map_or basic_leaf
    (option_and_then (what_at S) (option_and_then (find S) storage)) leaf.Unread))
unfolding storage_width
stored_known S C d storage h = integer_known S C d (option_and_then (what_at S) (option_and_then (find S) storage)) h

what_known : (S : Schema) (C : Context) (d n : ℕ) (template : Option ℕ) (arg : ℕ) (w : What) → is_unread S w ≡ false
    → (is_struct w ≡ true → Known S C d (Group (line S n) template arg))
    → (is_struct w ≡ false → Known S C d (Group (line S n) None 0))
    → Known S C d (kind_of_what S C n template arg w)
what_known S C d n template arg (Basic own) h a b = leaf_known S C d template own h
what_known S C d n template arg (Stored storage members) h a b = stored_known S C d storage h
what_known S C d n template arg Struct h a b = a refl
what_known S C d n template arg (Block above abstract) h a b = b refl

type_known : (S : Schema) (C : Context) (d n : ℕ) (template : Option ℕ) (arg : ℕ) (x : Declaration)
    → slice_get S n ≡ Some x → IsOpen S n
    → (is_struct x.what ≡ true → Known S C d (Group (line S n) template arg))
    → (is_struct x.what ≡ false → Known S C d (Group (line S n) None 0))
    → Known S C d (kind_of S C n template arg)
type_known S C d n template arg x e o a b =
    let facts = own_facts S n x e (o n (Here n)) in
    let P : Option Declaration → Type 0 = λ y. Known S C d (option_map_or (kind_of_what S C n template arg) (option_and_then (λ (x : Declaration). Some x.what) y) Unknown) in
    subst P (sym e) (what_known S C d n template arg x.what facts.readable a b)

-- An open type has values, however deep its groups may lie.
pub open_known : (S : Schema) (C : Context) (d : ℕ) → Knowns S C d
open_known S C zero n template arg o t =
    let x = declared S n o.0 in
    type_known S C zero n template arg x.0 x.1 o.1 (λ s. tt) (λ s. tt)
open_known S C (suc d) n template arg o t =
    let x = declared S n o.0 in
    let ih : (E : Env) → Knowns S C d = λ E. open_known S C d in
    type_known S C (suc d) n template arg x.0 x.1 o.1 (λ s. line_known S (λ E. C) d n template arg ih o t)
    (λ s. block_known S (λ E. C) d n x.0 x.1 s ih o.1)

-- the members of the line of an open type
pub open_line_known : (S : Schema) (at : Env → Context) (d n : ℕ) (template : Option ℕ) (arg : ℕ) → IsOpenType S n
    → HasTemplate S n template
    → EachField (λ f. (E : Env) → KnownForm (Known S (at E) d) (form_of S (at E) template arg E f)) (line S n)
open_line_known S at d n template arg o t = line_known S at d n template arg (λ E. open_known S (at E) d) o t

-- one field of a list
pub each_contained : (P : Field → Type 0) (fields : List Field) (f : Field) → Contains fields f → EachField P fields
    → P f
each_contained P [] f c e = let l : c.0 < 0 = c.1 in absurd (omega arith)
each_contained P (g ∷ fields) f c e = by c.0 c.1 c.2 (λ c. each_contained P fields f c e.1)
  where
    by : (k : ℕ) → k < length (g ∷ fields) → slice_index_or (g ∷ fields) k f ≡ f → (Contains fields f → P f) → P f
    by zero l q ih = subst P q e.0
    by (suc k) l q ih = ih (k, omega arith, q)
