-- The first reason of a list.
use Rattle.std.proofs.Common.{◌≡◌, Bool, true, false, cond, List, [], ◌∷◌, ◌++◌, map, Option, Some, None, is_some, IfOk, OnOk, Ok, Err, Result, refl, sym, ap, ◌∙◌}
use Rattle.std.specs.Option.{option_map}
use Rattle.std.proofs.lemmas.List.{map-append}
use Rattle.std.proofs.Common.{◌≢◌, not, ◌&&◌, ◌||◌, filter, bytes_eq}
use Rattle.std.specs.List.{list_any, list_all}
use Rattle.nif_names.specs.declared.shapes.Shape.{Shape}
use Rattle.nif_schema.specs.Declaration.{Name, Field, Formula, Read, Bad}
use Rattle.nif_schema.specs.Expression.{Number, Arg, Path, Not, Two}
use Rattle.nif_schema.specs.Schema.{Schema}
use Rattle.nif_schema.specs.Paths.{OfField, fields_named, is_empty, is_number, is_number_array}
use Rattle.nif_reasons.specs.FieldReasons.{bare_name}
use Rattle.nif_paths.specs.Shaped.{shape, field_shape}
use Rattle.nif_schema.specs.Reasons.{first_reason, reason_where, formula_reason, width_reason, bare_width_reason, width_where}
use Rattle.nif_schema.specs.declared.faults.Closed.{Closed}
use Rattle.nif_schema.specs.declared.faults.Closed.TheVariants.{C4, C9, C11, C12}

pub on : {X E : Type 0} {P Q : X → Type 0} (r : Result X E) → IfOk r P → ((x : X) → P x → Q x) → IfOk r Q
on (Ok x) p f = f x p
on (Err e) p f = tt

pub on-ok : {E : Type 0} {P Q : Type 0} (r : Result (Unit {0}) E) → OnOk r P → (P → Q) → OnOk r Q
on-ok (Ok x) p f = f p
on-ok (Err e) p f = tt

-- an option with its value changed
pub none_mapped : {X Y : Type 0} (f : X → Y) (o : Option X) → is_some o ≡ false → option_map f o ≡ None
none_mapped f None e = refl
none_mapped f (Some x) e = absurd (cc)

pub some_mapped : {X Y : Type 0} (f : X → Y) (o : Option X) → is_some o ≡ true → is_some (option_map f o) ≡ true
some_mapped f None e = absurd (cc)
some_mapped f (Some x) e = refl

pub first-here : (a : Option Closed) (rest : List (Option Closed)) → is_some a ≡ true → a ≡ first_reason (a ∷ rest)
first-here None rest e = absurd (cc)
first-here (Some r) rest e = refl

pub first-later : (a : Option Closed) (rest : List (Option Closed)) → is_some a ≡ false → first_reason rest ≡ first_reason (a ∷ rest)
first-later None rest e = refl
first-later (Some r) rest e = absurd (cc)

pub where-here : (r : Closed) (b : Bool) (rest : List (Option Closed)) → b ≡ true → Some r ≡ first_reason (reason_where r b ∷ rest)
where-here r true rest e = refl
where-here r false rest e = absurd (cc)

pub where-later : (r : Closed) (b : Bool) (rest : List (Option Closed)) → b ≡ false → first_reason rest ≡ first_reason (reason_where r b ∷ rest)
where-later r true rest e = absurd (cc)
where-later r false rest e = refl

-- the first of two lists
pub first-append : (xs ys : List (Option Closed)) → first_reason (xs ++ ys) ≡ first_reason (first_reason xs ∷ ys)
first-append [] ys = refl
first-append (None ∷ xs) ys = first-append xs ys
first-append (Some r ∷ xs) ys = refl

pub first-only : (a : Option Closed) → first_reason (a ∷ []) ≡ a
first-only None = refl
first-only (Some r) = refl

pub first-twice : (xs ys : List (Option Closed)) → first_reason (xs ++ ys) ≡ first_reason (first_reason xs ∷ first_reason ys ∷ [])
first-twice xs ys = first-append xs ys ∙ by (first_reason xs)
  where
    by : (o : Option Closed) → first_reason (o ∷ ys) ≡ first_reason (o ∷ first_reason ys ∷ [])
    by None = sym (first-only (first_reason ys))
    by (Some r) = refl

-- the parts of a field's reason that aren't expressions
abbrev pub whole : Option Closed → Option Closed → Bool → Bool → Bool → Option Closed
whole a b x y z = first_reason (a ∷ b ∷ reason_where C11 x ∷ reason_where C12 y ∷ reason_where C4 z ∷ [])

pub whole-kind : (a b : Option Closed) (x y z : Bool) → is_some a ≡ true → a ≡ whole a b x y z
whole-kind None b x y z e = absurd (cc)
whole-kind (Some r) b x y z e = refl

pub whole-template : (a b : Option Closed) (x y z : Bool) → is_some a ≡ false → is_some b ≡ true → b ≡ whole a b x y z
whole-template (Some r) b x y z e f = absurd (cc)
whole-template None None x y z e f = absurd (cc)
whole-template None (Some r) x y z e f = refl

pub whole-bound : (a b : Option Closed) (x y z : Bool) → is_some a ≡ false → is_some b ≡ false → x ≡ true → Some C11 ≡ whole a b x y z
whole-bound (Some r) b x y z e f g = absurd (cc)
whole-bound None (Some r) x y z e f g = absurd (cc)
whole-bound None None false y z e f g = absurd (cc)
whole-bound None None true y z e f g = refl

pub whole-block : (a b : Option Closed) (x y z : Bool) → is_some a ≡ false → is_some b ≡ false → x ≡ false → y ≡ true → Some C12 ≡ whole a b x y z
whole-block (Some r) b x y z e f g h = absurd (cc)
whole-block None (Some r) x y z e f g h = absurd (cc)
whole-block None None true y z e f g h = absurd (cc)
whole-block None None false false z e f g h = absurd (cc)
whole-block None None false true z e f g h = refl

pub whole-exact : (a b : Option Closed) (x y z w : Bool) → is_some a ≡ false → is_some b ≡ false → x ≡ false → y ≡ false → z ≡ w → reason_where C4 w ≡ whole a b x y z
whole-exact (Some r) b x y z w e f g h i = absurd (cc)
whole-exact None (Some r) x y z w e f g h i = absurd (cc)
whole-exact None None true y z w e f g h i = absurd (cc)
whole-exact None None false true z w e f g h i = absurd (cc)
whole-exact None None false false z w e f g h i = ap (reason_where C4) (sym i) ∙ sym (first-only (reason_where C4 z))

-- two reasons, the first of which is none, or some
pub pair-none : (a b : Option Closed) → None ≡ a → b ≡ first_reason (a ∷ b ∷ [])
pair-none None b e = sym (first-only b)
pair-none (Some r) b e = absurd (cc)

pub pair-some : (r : Closed) (a : Option Closed) (rest : List (Option Closed)) → Some r ≡ a → Some r ≡ first_reason (a ∷ rest)
pair-some r None rest e = absurd (cc)
pair-some r (Some q) rest e = e

pub first-none : (a : Option Closed) (rest : List (Option Closed)) → None ≡ a → first_reason rest ≡ first_reason (a ∷ rest)
first-none None rest e = refl
first-none (Some r) rest e = absurd (cc)

pub three : (l1 l2 l3 : List (Option Closed)) → first_reason (first_reason l1 ∷ first_reason l2 ∷ first_reason l3 ∷ []) ≡ first_reason (l1 ++ (l2 ++ l3))
three l1 l2 l3 = sym (first-append l1 (l2 ++ l3) ∙ by (first_reason l1))
  where
    by : (o : Option Closed) → first_reason (o ∷ (l2 ++ l3)) ≡ first_reason (o ∷ first_reason l2 ∷ first_reason l3 ∷ [])
    by None = first-twice l2 l3
    by (Some r) = refl

-- paths on both sides of an operator
module _ {X : Type 0} (f : X → Option Closed) (l r : List X) where
  pub two-none : None ≡ first_reason (map f l) → first_reason (map f r) ≡ first_reason (map f (l ++ r))
  two-none e = first-none (first_reason (map f l)) (map f r) e ∙ sym (ap first_reason (map-append f l r) ∙ first-append (map f l) (map f r))

  pub two-some : (q : Closed) → Some q ≡ first_reason (map f l) → Some q ≡ first_reason (map f (l ++ r))
  two-some q e = pair-some q (first_reason (map f l)) (map f r) e ∙ sym (ap first_reason (map-append f l r) ∙ first-append (map f l) (map f r))

-- a width
pub width-of : (l w : Option Formula) → is_some l ≡ true → width_where l w ≡ w
width-of None w e = absurd (cc)
width-of (Some x) w e = refl

module _ (S : Schema) (earlier : List Field) where
  pub width-plain : (w : Option Formula) → bare_name w ≡ None → width_reason S earlier w ≡ formula_reason S earlier w
  width-plain None e = refl
  width-plain (Some Bad) e = refl
  width-plain (Some (Read (Number value))) e = refl
  width-plain (Some (Read Arg)) e = refl
  width-plain (Some (Read (Not of))) e = refl
  width-plain (Some (Read (Two op left right))) e = refl
  width-plain (Some (Read (Path []))) e = refl
  width-plain (Some (Read (Path (name ∷ [])))) e = absurd (cc)
  width-plain (Some (Read (Path (name ∷ other ∷ names)))) e = refl

  pub width-bare : (w : Option Formula) (n : Name) → bare_name w ≡ Some n
      → width_reason S earlier w ≡ cond (list_any (λ f. bytes_eq n f.name) earlier) (bare_width_reason S (filter (λ f. bytes_eq n f.name) earlier)) (formula_reason S earlier w)
  width-bare None n e = absurd (cc)
  width-bare (Some Bad) n e = absurd (cc)
  width-bare (Some (Read (Number value))) n e = absurd (cc)
  width-bare (Some (Read Arg)) n e = absurd (cc)
  width-bare (Some (Read (Not of))) n e = absurd (cc)
  width-bare (Some (Read (Two op left right))) n e = absurd (cc)
  width-bare (Some (Read (Path []))) n e = absurd (cc)
  width-bare (Some (Read (Path (name ∷ [])))) n e =
      let same : name ≡ n = cc in
      ap (λ m. cond (list_any (λ f. bytes_eq m f.name) earlier) (bare_width_reason S (filter (λ f. bytes_eq m f.name) earlier)) (formula_reason S earlier (Some (Read (Path (name ∷ [])))))) same
  width-bare (Some (Read (Path (name ∷ other ∷ names)))) n e = absurd (cc)

  any-named : (n : Name) (fields : List Field) → list_any (λ f. bytes_eq n f.name) fields ≡ not (is_empty (map (shape S) (fields_named n fields)))
  any-named n [] = refl
  any-named n (f ∷ fields) = by (bytes_eq n f.name) (any-named n fields)
    where
      by : (b : Bool) → list_any (λ x. bytes_eq n x.name) fields ≡ not (is_empty (map (shape S) (fields_named n fields)))
          → (b || list_any (λ x. bytes_eq n x.name) fields)
          ≡ not (is_empty (map (shape S) (map (λ x. OfField x) (cond b (f ∷ filter (λ x. bytes_eq n x.name) fields) (filter (λ x. bytes_eq n x.name) fields)))))
      by true e = refl
      by false e = e

  all-named : (p : Shape → Bool) (q : Field → Bool) → ((f : Field) → p (shape S (OfField f)) ≡ q f) → (fields : List Field)
      → list_all p (map (shape S) (map (λ x. OfField x) fields)) ≡ list_all q fields
  all-named p q each [] = refl
  all-named p q each (f ∷ fields) = ap (λ b. b && list_all p (map (shape S) (map (λ x. OfField x) fields))) (each f) ∙ ap (λ b. q f && b) (all-named p q each fields)

  -- a name that no field has
  pub width-absent : (w : Option Formula) (n : Name) → bare_name w ≡ Some n → map (shape S) (fields_named n earlier) ≡ [] → formula_reason S earlier w ≡ width_reason S earlier w
  width-absent w n e none =
      sym (width-bare w n e ∙ ap (λ b. cond b (bare_width_reason S (filter (λ f. bytes_eq n f.name) earlier)) (formula_reason S earlier w))
      (any-named n earlier ∙ ap (λ l. not (is_empty l)) none))

  -- a name that some fields have
  pub width-there : (w : Option Formula) (n : Name) (shapes : List Shape) → bare_name w ≡ Some n → shapes ≡ map (shape S) (fields_named n earlier) → shapes ≢ []
      → reason_where C9 (not (list_all (λ s. s.number) shapes || list_all (λ s. s.row) shapes)) ≡ width_reason S earlier w
  unfolding field_shape
  width-there w n shapes e is some =
      ap (λ l. reason_where C9 (not (list_all (λ s. s.number) l || list_all (λ s. s.row) l))) is
      ∙ ap (λ b. reason_where C9 (not (b || list_all (λ s. s.row) (map (shape S) (fields_named n earlier))))) (all-named (λ s. s.number) (is_number S) (λ f. refl) (filter (λ f. bytes_eq n f.name) earlier))
      ∙ ap (λ b. reason_where C9 (not (list_all (is_number S) (filter (λ f. bytes_eq n f.name) earlier) || b))) (all-named (λ s. s.row) (is_number_array S) (λ f. refl) (filter (λ f. bytes_eq n f.name) earlier))
      ∙ sym (width-bare w n e ∙ ap (λ b. cond b (bare_width_reason S (filter (λ f. bytes_eq n f.name) earlier)) (formula_reason S earlier w))
      (any-named n earlier ∙ ap (λ l. not (is_empty l)) (sym is) ∙ there shapes some))
    where
      there : (l : List Shape) → l ≢ [] → not (is_empty l) ≡ true
      there [] f = absurd (f refl)
      there (x ∷ xs) f = refl

-- the first of three, taken two at a time
pub first-moved : (a b c : Option Closed) → first_reason (a ∷ first_reason (b ∷ c ∷ []) ∷ []) ≡ first_reason (first_reason (a ∷ b ∷ []) ∷ c ∷ [])
first-moved (Some r) b c = refl
first-moved None b c = first-only (first_reason (b ∷ c ∷ [])) ∙ by b
  where
    by : (o : Option Closed) → first_reason (o ∷ c ∷ []) ≡ first_reason (first_reason (None ∷ o ∷ []) ∷ c ∷ [])
    by None = refl
    by (Some q) = refl

pub first-last : (a : Option Closed) → first_reason (a ∷ None ∷ []) ≡ a
first-last None = refl
first-last (Some r) = refl
