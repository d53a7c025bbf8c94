-- What a field of the line of an open type is of, under the template of its struct.
use Rattle.std.proofs.Common.{◌≡◌, ℕ, zero, suc, inl, inr, Bool, true, false, ◌&&◌, if◌then◌else◌, Option, Some, None, List, [], ◌++◌, length, slice_get, option_and_then, refl, sym, ◌∙◌, ap, subst, true≢false}
use Rattle.std.specs.Option.{option_map_or}
use Rattle.std.specs.Prelude.{Contains}
use Rattle.std.specs.List.{list_any}
use Rattle.nif_schema.specs.Declaration.{Name, Field, Declaration, inherited, is_block}
use Rattle.nif_schema.specs.Schema.{Schema, find, find_block, has_block, parent, fields_of, line, line_within}
use Rattle.nif_schema.specs.Uses.{is_own_template, is_struct, takes_template, is_generic}
use Rattle.nif_schema.specs.Reasons.{IsOpen}
use Rattle.nif_schema.specs.declared.decls.What.{What}
use Rattle.nif_schema.specs.declared.decls.What.TheVariants.{Basic, Stored, Struct, Block}
use Rattle.nif_layout.specs.Form.{replaced}
use Rattle.nif_layout.specs.Laws.{IsOpenType, HasTemplate}
use Rattle.nif_layout.specs.DecideLaws.{EachField}
use Rattle.nif_layout.specs.OpenTypeLaws.{each_map, each_both, each_append, each_any, or_left, or_right, open_used, declared, FieldGood, TemplateGood, fields_good}
use Rattle.nif_layout.specs.OpenKindLaws.{uses_parent, each_contained}

-- a declaration that has a parent is a block type, and so is its parent
parent_is_block : (S : Schema) (n p : ℕ) (d : Declaration) → slice_get S n ≡ Some d → parent S n ≡ Some p
    → (is_struct d.what ≡ false) × ((up : Declaration) × (slice_get S p ≡ Some up) × (is_struct up.what ≡ false))
unfolding parent
parent_is_block S n p d e h = by d.what refl
  where
    at : option_and_then (find_block S) (inherited d.what) ≡ Some p
    at = let P : Option Declaration → Type 0 = λ x. option_and_then (find_block S) (option_and_then (λ (d : Declaration). inherited d.what) x) ≡ Some p in subst P e h

    block : (w : What) → is_block w ≡ true → is_struct w ≡ false
    block (Basic own) b = refl
    block (Stored storage members) b = refl
    block Struct b = absurd (true≢false (sym b))
    block (Block above abstract) b = refl

    there : (x : Option Declaration) → slice_get S p ≡ x → option_map_or (λ (d : Declaration). is_block d.what) x false ≡ true → (up : Declaration) × (slice_get S p ≡ Some up) × (is_struct up.what ≡ false)
    there None ex b = absurd (true≢false (sym b))
    there (Some up) ex b = (up, ex, block up.what b)

    found : (b : Bool) (m : ℕ) → has_block S m ≡ b → (if b then Some m else None) ≡ Some p → has_block S p ≡ true
    found true m eb q = let same : m ≡ p = cc in subst (λ (k : ℕ). has_block S k ≡ true) same eb
    found false m eb q = absurd (cc)

    named : (o : Option ℕ) → option_and_then (λ number. if has_block S number then Some number else None) o ≡ Some p → has_block S p ≡ true
    named None q = absurd (cc)
    named (Some m) q = found (has_block S m) m refl q

    by : (w : What) → d.what ≡ w → (is_struct d.what ≡ false) × ((up : Declaration) × (slice_get S p ≡ Some up) × (is_struct up.what ≡ false))
    by (Basic own) ew = let q : option_and_then (find_block S) (inherited (Basic own)) ≡ Some p = subst (λ (w : What). option_and_then (find_block S) (inherited w) ≡ Some p) ew at in absurd (cc)
    by (Stored storage members) ew = let q : option_and_then (find_block S) (inherited (Stored storage members)) ≡ Some p = subst (λ (w : What). option_and_then (find_block S) (inherited w) ≡ Some p) ew at in absurd (cc)
    by Struct ew = let q : option_and_then (find_block S) (inherited Struct) ≡ Some p = subst (λ (w : What). option_and_then (find_block S) (inherited w) ≡ Some p) ew at in absurd (cc)
    by (Block None abstract) ew = let q : option_and_then (find_block S) (inherited (Block None abstract)) ≡ Some p = subst (λ (w : What). option_and_then (find_block S) (inherited w) ≡ Some p) ew at in absurd (cc)
    by (Block (Some name) abstract) ew =
        let q : option_and_then (find_block S) (inherited (Block (Some name) abstract)) ≡ Some p = subst (λ (w : What). option_and_then (find_block S) (inherited w) ≡ Some p) ew at in
        (subst (λ (w : What). is_struct w ≡ false) (sym ew) refl, there (slice_get S p) refl (named (find S name) q))

-- a field of the line of an open type, which needs a template only where the type is generic
abbrev LineGood : Schema → ℕ → Bool → Field → Type 0
LineGood S n in_struct f = FieldGood S in_struct f × (in_struct ≡ true → takes_template f ≡ true → is_generic S n ≡ true)

generic_by_field : (S : Schema) (n : ℕ) (d : Declaration) → slice_get S n ≡ Some d
    → EachField (λ f. is_struct d.what ≡ true → takes_template f ≡ true → is_generic S n ≡ true) d.fields
generic_by_field S n d e =
    each_map (λ f h s t.
    let P : Option Declaration → Type 0 = λ x. option_map_or (λ (d : Declaration). is_struct d.what && list_any takes_template d.fields) x false ≡ true in
    let Q : Bool → Type 0 = λ b. (b && list_any takes_template d.fields) ≡ true in
    subst P (sym e) (subst Q (sym s) (h t))) d.fields (each_any takes_template d.fields)

line_good : (S : Schema) (most n : ℕ) (d : Declaration) → slice_get S n ≡ Some d → IsOpen S n → EachField (LineGood S n (is_struct d.what)) (line_within most S n)
line_good S zero n d e o = tt
line_good S (suc most) n d e o = by (parent S n) refl (λ p up ep op. line_good S most p up ep op)
  where
    L : Bool → Field → Type 0
    L b = LineGood S n b

    own : EachField (L (is_struct d.what)) (fields_of S n)
    own =
        let at : fields_of S n ≡ d.fields = ap (λ (x : Option Declaration). option_map_or (λ d. d.fields) x []) e in
        let P : List Field → Type 0 = λ fs. EachField (L (is_struct d.what)) fs in
        subst P (sym at) (each_both (FieldGood S (is_struct d.what)) (λ f. is_struct d.what ≡ true → takes_template f ≡ true → is_generic S n ≡ true) d.fields
        (fields_good S n d e o) (generic_by_field S n d e))

    by : (x : Option ℕ) → parent S n ≡ x
        → ((p : ℕ) (up : Declaration) → slice_get S p ≡ Some up → IsOpen S p → EachField (LineGood S p (is_struct up.what)) (line_within most S p))
        → EachField (L (is_struct d.what)) (option_map_or (line_within most S) (parent S n) [] ++ fields_of S n)
    by None ex ih =
        let P : Option ℕ → Type 0 = λ x. EachField (L (is_struct d.what)) (option_map_or (line_within most S) x [] ++ fields_of S n) in
        subst P (sym ex) own
    by (Some p) ex ih =
        let P : Option ℕ → Type 0 = λ x. EachField (L (is_struct d.what)) (option_map_or (line_within most S) x [] ++ fields_of S n) in
        let blocks = parent_is_block S n p d e ex in
        let up = blocks.1.0 in
        let above = ih p up blocks.1.1 (open_used S n p o (uses_parent S n p ex)) in
        let of_block : EachField (LineGood S p false) (line_within most S p) = subst (λ (b : Bool). EachField (LineGood S p b) (line_within most S p)) blocks.1.2 above in
        let here : EachField (L false) (line_within most S p) =
        each_map (λ f h. (h.0, λ s t. absurd (true≢false (sym s)))) (line_within most S p) of_block in
        let here' : EachField (L (is_struct d.what)) (line_within most S p) = subst (λ (b : Bool). EachField (L b) (line_within most S p)) (sym blocks.0) here in
        subst P (sym ex) (each_append (L (is_struct d.what)) (line_within most S p) (fields_of S n) here' own)

-- the template that stands for `#T#`
abbrev Hole : Schema → Option ℕ → Type 0
Hole S template = (inner : ℕ) × (template ≡ Some inner) × IsOpenType S inner × (is_generic S inner ≡ false)

replaced_own : (S : Schema) (template : Option ℕ) (name : Name) (b : Bool) → is_own_template name ≡ b → replaced S template name ≡ (if b then template else find S name)
replaced_own S template name b e = ap (λ (b : Bool). if b then template else find S name) e

template_known : (S : Schema) (in_struct : Bool) (template : Option ℕ) (t : Option Name) → TemplateGood S in_struct t
    → (in_struct ≡ true → option_map_or is_own_template t false ≡ true → Hole S template) → Hole S (option_and_then (replaced S template) t)
template_known S in_struct template None h hole = absurd h
template_known S in_struct template (Some name) (inl a) hole =
    let x = hole a.0 a.1 in
    (x.0, replaced_own S template name true a.1 ∙ x.1, x.2, x.3)
template_known S in_struct template (Some name) (inr a) hole = (a.0, replaced_own S template name false a.1 ∙ a.2, a.3, a.4)

-- The type of a field of the line of an open type is open, with a template where it is generic.
record TypeOf (S : Schema) (template : Option ℕ) (f : Field) : Type 0 where
  number : ℕ
  named : replaced S template f.kind ≡ Some number
  is_open : IsOpenType S number
  inner : HasTemplate S number (option_and_then (replaced S template) f.template)

field_type : (S : Schema) (in_struct : Bool) (template : Option ℕ) (f : Field) → FieldGood S in_struct f → (in_struct ≡ true → takes_template f ≡ true → Hole S template) → TypeOf S template f
unfolding takes_template
field_type S in_struct template f (inl a) hole =
    let x = hole a.0 (or_left (is_own_template f.kind) (option_map_or is_own_template f.template false) a.1) in
    record {
      number = x.0;
      named = replaced_own S template f.kind true a.1 ∙ x.1;
      is_open = x.2;
      inner = λ g. absurd (true≢false (sym g ∙ x.3));
    }
field_type S in_struct template f (inr a) hole = record {
  number = a.0;
  named = replaced_own S template f.kind false a.1 ∙ a.2;
  is_open = a.3;
  inner = λ g. template_known S in_struct template f.template (a.4 g) (λ s t. hole s (or_right (is_own_template f.kind) (option_map_or is_own_template f.template false) t));
}

type_of : (S : Schema) (n : ℕ) (template : Option ℕ) (f : Field) → IsOpenType S n → HasTemplate S n template → Contains (line S n) f → TypeOf S template f
type_of S n template f o t c =
    let x = declared S n o.0 in
    let good : LineGood S n (is_struct x.0.what) f = each_contained (LineGood S n (is_struct x.0.what)) (line S n) f c (line_good S (length S) n x.0 x.1 o.1) in
    field_type S (is_struct x.0.what) template f good.0 (λ s g. t (good.1 s g))

pub type_at : (S : Schema) (n : ℕ) (template : Option ℕ) (f : Field) → IsOpenType S n → HasTemplate S n template → Contains (line S n) f → (number : ℕ) → replaced S template f.kind ≡ Some number
    → IsOpenType S number × HasTemplate S number (option_and_then (replaced S template) f.template)
type_at S n template f o t c number e =
    let x = type_of S n template f o t c in
    let p : Some x.number ≡ Some number = sym x.named ∙ e in
    let same : x.number ≡ number = cc in
    subst (λ (k : ℕ). IsOpenType S k × HasTemplate S k (option_and_then (replaced S template) f.template)) same (x.is_open, x.inner)

pub type_some : (S : Schema) (n : ℕ) (template : Option ℕ) (f : Field) → IsOpenType S n → HasTemplate S n template → Contains (line S n) f → replaced S template f.kind ≡ None → ⊥
type_some S n template f o t c e =
    let x = type_of S n template f o t c in
    let p : Some x.number ≡ None = sym x.named ∙ e in
    cc
