-- The types that the references of a value want are declared.
use Rattle.std.proofs.Common.{◌≡◌, ℕ, zero, suc, ◌+◌, ◌<◌, Bool, true, false, cond, ltb, if◌then◌else◌, Option, Some, None, IfSome, option_and_then, List, [], ◌∷◌, ◌++◌, length, slice_get, position, bytes_eq, refl, sym, subst}
use Rattle.std.specs.Option.{option_map, option_map_or}
use Rattle.std.specs.List.{position_or_len}
use Rattle.std.proofs.Common.{ltb-true}
use Rattle.nif_base.specs.Node as node
use Rattle.nif_base.specs.Node.{Node, Members, End, Here, Absent, Reference, refs}
use Rattle.nif_schema.specs.Declaration.{Name, Field}
use Rattle.nif_schema.specs.Schema.{Schema}
use Rattle.nif_schema.specs.Schema as schema
use Rattle.nif_schema.specs.Uses.{is_own_template, what_at}
use Rattle.nif_schema.specs.declared.decls.Leaf.{Leaf}
use Rattle.nif_schema.specs.declared.decls.Leaf.TheVariants as leaf
use Rattle.nif_schema.specs.declared.decls.What.{What}
use Rattle.nif_schema.specs.declared.decls.What.TheVariants as what
use Rattle.nif_layout.specs.Context.{Context}
use Rattle.nif_layout.specs.Earlier.{Env, behind}
use Rattle.nif_layout.specs.Present.{present, formula_value}
use Rattle.nif_layout.specs.PathValue.{leaf_of}
use Rattle.nif_layout.specs.Kind.{Kind, Number, Line, Ref, Text, Group, Unknown, kind_of, kind_of_leaf, kind_of_what}
use Rattle.nif_layout.specs.Form.{One, form_of, field_kind, is_run, replaced, row_of, sized, width_at}
use Rattle.nif_layout.specs.Fault.{Fault}
use Rattle.nif_layout.specs.Members.{Member, Check, no_check, Fields, Items}
use Rattle.nif_layout.specs.Shape.{Shape, IsForm}

abbrev mutual
  -- the type that each reference in a node wants is below a number
  pub Wants : ℕ → Node → Type 0
  Wants n (node.Ref strong wanted target) = IfSome wanted (λ w. w < n)
  Wants n (node.Group members) = WantsIn n members
  Wants n (node.Row items) = WantsIn n items
  Wants n _ = Unit {0}

  pub WantsIn : ℕ → Members → Type 0
  WantsIn n End = Unit {0}
  WantsIn n (Here at rest) = Wants n at × WantsIn n rest
  WantsIn n (Absent rest) = WantsIn n rest

-- a reference of one list or the other
split_at : {A : Type 0} (xs ys : List A) (k : ℕ) (P : A → Type 0)
    → ((j : ℕ) → IfSome (slice_get xs j) P) → ((j : ℕ) → IfSome (slice_get ys j) P) → IfSome (slice_get (xs ++ ys) k) P
split_at [] ys k P a b = b k
split_at (x ∷ xs) ys zero P a b = a 0
split_at (x ∷ xs) ys (suc k) P a b = split_at xs ys k P (λ j. a (suc j)) b

mutual
  -- and so is that of each reference of its list
  pub wants_refs : (n : ℕ) (at : Node) → Wants n at → (k : ℕ) → IfSome (slice_get (refs at) k) (λ r. IfSome r.wanted (λ w. w < n))
  wants_refs n (node.Num width little bits) w k = tt
  wants_refs n (node.Line bytes) w k = tt
  wants_refs n (node.Ref strong wanted target) w zero = w
  wants_refs n (node.Ref strong wanted target) w (suc k) = tt
  wants_refs n (node.Text index) w k = tt
  wants_refs n (node.Bytes bytes) w k = tt
  wants_refs n (node.Group members) w k = wants_refs_in n members w k
  wants_refs n (node.Row items) w k = wants_refs_in n items w k

  pub wants_refs_in : (n : ℕ) (members : Members) → WantsIn n members → (k : ℕ)
      → IfSome (slice_get (node.refs_in members) k) (λ r. IfSome r.wanted (λ w. w < n))
  wants_refs_in n End w k = tt
  wants_refs_in n (Here at rest) w k =
      split_at (refs at) (node.refs_in rest) k (λ r. IfSome r.wanted (λ w. w < n)) (λ j. wants_refs n at w.0 j) (λ j. wants_refs_in n rest w.1 j)
  wants_refs_in n (Absent rest) w k = wants_refs_in n rest w k

-- ---- what is found is declared

pub found_at : {X : Type 0} (p : X → Bool) (xs : List X) → IfSome (position p xs) (λ n. n < length xs)
found_at p xs = by (ltb (position_or_len p xs) (length xs)) refl
  where
    by : (b : Bool) → ltb (position_or_len p xs) (length xs) ≡ b → IfSome (cond b (Some (position_or_len p xs)) None) (λ n. n < length xs)
    by true e = ltb-true (position_or_len p xs) (length xs) e
    by false e = tt

replaced_declared : (S : Schema) (template : Option ℕ) (name : Name) → IfSome template (λ t. t < length S)
    → IfSome (replaced S template name) (λ t. t < length S)
replaced_declared S template name t = by (is_own_template name)
  where
    by : (own : Bool) → IfSome (if own then template else schema.find S name) (λ t. t < length S)
    by true = t
    by false = found_at (λ d. bytes_eq name d.name) S

-- the declaration that a reference of a kind wants, or that a group has as its template, is declared
abbrev pub IsDeclared : ℕ → Kind → Type 0
IsDeclared n (Ref strong wanted) = IfSome wanted (λ w. w < n)
IsDeclared n (Group fields template arg) = IfSome template (λ t. t < n)
IsDeclared n _ = Unit {0}

leaf_declared : (n : ℕ) (C : Context) (template : Option ℕ) (own : Leaf) → IfSome template (λ t. t < n)
    → IsDeclared n (kind_of_leaf C template own)
leaf_declared n C template (leaf.Num width signed little float) t = tt
leaf_declared n C template leaf.Bool t = tt
leaf_declared n C template leaf.Line t = tt
leaf_declared n C template leaf.Ref t = t
leaf_declared n C template leaf.Ptr t = t
leaf_declared n C template leaf.Text t = tt
leaf_declared n C template leaf.Unread t = tt

pub kind_declared : (S : Schema) (C : Context) (number : ℕ) (template : Option ℕ) (arg : ℕ) → IfSome template (λ t. t < length S)
    → IsDeclared (length S) (kind_of S C number template arg)
kind_declared S C number template arg t = by (what_at S number)
  where
    by : (o : Option What) → IsDeclared (length S) (option_map_or (kind_of_what S C number template arg) o Unknown)
    by None = tt
    by (Some (what.Basic own)) = leaf_declared (length S) C template own t
    by (Some (what.Stored storage members)) = leaf_declared (length S) C None (leaf_of S (what.Stored storage members)) tt
    by (Some what.Struct) = t
    by (Some (what.Block parent is_abstract)) = tt

field_declared : (S : Schema) (C : Context) (template : Option ℕ) (arg : ℕ) (E : Env) (f : Field) → IfSome template (λ t. t < length S)
    → IsDeclared (length S) (field_kind S C template arg E f)
field_declared S C template arg E f t = by (replaced S template f.kind)
  where
    inner : (o : Option Name) → IfSome (option_and_then (replaced S template) o) (λ t. t < length S)
    inner None = tt
    inner (Some name) = replaced_declared S template name t

    by : (o : Option ℕ) → IsDeclared (length S) (option_map_or (λ number. kind_of S C number (option_and_then (replaced S template) f.template)
        (option_map_or (formula_value S C E arg) f.arg 0)) o Unknown)
    by None = tt
    by (Some number) = kind_declared S C number (option_and_then (replaced S template) f.template) (option_map_or (formula_value S C E arg) f.arg 0) (inner f.template)

-- ---- values

wants_fields : {Why : Type 0} (n : ℕ) (here : Env → Field → Bool) (V : Env → Field → Node → Type 0) (check : Check Why)
    → ((E : Env) (f : Field) (at : Node) → V E f at → Wants n at) → (fields : List Field) (E : Env) (members : Members)
    → Fields here V check fields E members → WantsIn n members
wants_fields n here V check wants [] E members h = subst (WantsIn n) (sym h) tt
wants_fields {Why} n here V check wants (f ∷ fields) E members h =
    by (here E f) members h (λ got rest more. wants_fields n here V check wants fields (behind f got E) rest more)
  where
    by : (b : Bool) (members : Members)
        → Member b (V E f) (λ got rest. (check E f got ≡ None) × Fields here V check fields (behind f got E) rest) members
        → ((got : Option Node) (rest : Members) → Fields here V check fields (behind f got E) rest → WantsIn n rest)
        → WantsIn n members
    by true members h ih = subst (WantsIn n) (sym h.2) (wants E f h.0 h.3, ih (Some h.0) h.1 h.4.1)
    by false members h ih = subst (WantsIn n) (sym h.1) (ih None h.0 h.2.1)

wants_items : (n : ℕ) (V : ℕ → Node → Type 0) → ((i : ℕ) (at : Node) → V i at → Wants n at) → (count i : ℕ)
    (items : Members) → Items V i count items → WantsIn n items
wants_items n V wants zero i items h = subst (WantsIn n) (sym h) tt
wants_items n V wants (suc count) i items h =
    subst (WantsIn n) (sym h.2) (wants i h.0 h.3, wants_items n V wants count (i + 1) h.1 h.4)

-- a row of values of one kind, or a run of bytes
wants_row : (n : ℕ) (Single : Kind → Node → Type 0) (kind : Kind) → ((at : Node) → Single kind at → Wants n at)
    → (run : Bool) (count : ℕ) (at : Node) → IsForm Single (row_of run kind count) at → Wants n at
wants_row n Single kind wants true count at h = subst (Wants n) (sym h.1) tt
wants_row n Single kind wants false count at h =
    subst (Wants n) (sym h.1) (wants_items n (λ i. IsForm Single (One kind)) (λ i at h. wants at h) count 0 h.0 h.2)

wants_sized : (n : ℕ) (Single : Kind → Node → Type 0) (kind : Kind) → ((at : Node) → Single kind at → Wants n at)
    → (count : Option ℕ) (width : Option (ℕ → ℕ)) (run : Bool) (at : Node) → IsForm Single (sized count width run kind) at → Wants n at
wants_sized n Single kind wants None width run at h = wants at h
wants_sized n Single kind wants (Some count) None run at h = wants_row n Single kind wants run count at h
wants_sized n Single kind wants (Some count) (Some width) run at h =
    subst (Wants n) (sym h.1)
    (wants_items n (λ i. IsForm Single (row_of run kind (width i))) (λ i at h. wants_row n Single kind wants run (width i) at h) count 0 h.0 h.2)

pub wants_shape : (S : Schema) (C : Context) (d : ℕ) (kind : Kind) (at : Node) → IsDeclared (length S) kind → Shape S C d kind at → Wants (length S) at
wants_shape S C d (Number width little) at t h = subst (Wants (length S)) (sym h.1) tt
wants_shape S C d Line at t h = subst (Wants (length S)) (sym h.1) tt
wants_shape S C d (Ref strong wanted) at t h = subst (Wants (length S)) (sym h.1) t
wants_shape S C d Text at t h = subst (Wants (length S)) (sym h.1) tt
wants_shape S C d Unknown at t h = absurd h
wants_shape S C zero (Group fields template arg) at t h = absurd h
wants_shape S C (suc d) (Group fields template arg) at t h =
    subst (Wants (length S)) (sym h.1)
    (wants_fields (length S) (present S C arg) (λ E f. IsForm (Shape S C d) (form_of S C template arg E f)) (no_check {Why = Fault})
    (λ E f at h. wants_sized (length S) (Shape S C d) (field_kind S C template arg E f)
    (λ at h. wants_shape S C d (field_kind S C template arg E f) at (field_declared S C template arg E f t) h)
    (option_map (formula_value S C E arg) f.length) (option_map (width_at S C E arg) f.width)
    (option_map_or (is_run S) (replaced S template f.kind) false) at h) fields [] h.0 h.2)
