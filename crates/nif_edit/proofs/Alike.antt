-- A value with other targets, and beside another number of blocks, is a value of the same type.
use Rattle.std.proofs.Common.{◌≡◌, ℕ, zero, suc, ◌+◌, ◌<◌, Bool, true, false, Option, Some, None, IfSome, List, [], ◌∷◌, length, refl, sym, ◌∙◌, ap, ap₂, subst, arith, inl, inr}
use Rattle.std.specs.Prelude.{◌==◌, ◌-◌, if◌then◌else◌, nat_lt, option_and_then}
use Rattle.std.specs.Option.{option_map}
use Rattle.nif_base.specs.Node as node
use Rattle.nif_base.specs.Node.{Node, Members, End, Here, Absent, refs, refs_in, retargeted, retargeted_in}
use Rattle.nif_base.specs.Graph.{Named}
use Rattle.nif_cells.specs.Building.{with_target, with_target_in}
use Rattle.nif_schema.specs.Declaration.{Field}
use Rattle.nif_schema.specs.Schema.{Schema}
use Rattle.nif_layout.specs.Context.{Context}
use Rattle.nif_layout.specs.Earlier.{Env, behind}
use Rattle.nif_layout.specs.Present.{present}
use Rattle.nif_layout.specs.Kind.{Kind, Number, Line, Ref, Text, Group, Unknown}
use Rattle.nif_layout.specs.Form.{Form, One, Run, Row, form_of}
use Rattle.nif_layout.specs.Fault.{Fault}
use Rattle.nif_layout.specs.Members.{Member, no_check, Fields, Items}
use Rattle.nif_layout.specs.Shape.{IsForm, Shape}
use Rattle.nif_layout.specs.BareLaws.{bare, bare_in, bare_env, with_blocks, present_bare, form_bare}
use Rattle.nif_graph.specs.Graph.{place}
use Rattle.nif_graph.specs.WrittenLaws.{Below, BelowIn}
use Rattle.nif_edit.proofs.Finding.{test}

-- ---- nodes without their targets

nothing : (o : Option ℕ) → option_and_then {U = ℕ} (λ target. None) o ≡ None
nothing None = refl
nothing (Some n) = refl

mutual
  pub bare_retargeted : (f : ℕ → Option ℕ) (at : Node) → bare (retargeted f at) ≡ bare at
  bare_retargeted f (node.Num width little bits) = refl
  bare_retargeted f (node.Line bytes) = refl
  bare_retargeted f (node.Ref strong wanted None) = refl
  bare_retargeted f (node.Ref strong wanted (Some target)) = ap (λ t. node.Ref strong wanted t) (nothing (f target))
  bare_retargeted f (node.Text index) = refl
  bare_retargeted f (node.Bytes bytes) = refl
  bare_retargeted f (node.Group members) = ap (λ m. node.Group m) (bare_retargeted_in f members)
  bare_retargeted f (node.Row items) = ap (λ m. node.Row m) (bare_retargeted_in f items)

  bare_retargeted_in : (f : ℕ → Option ℕ) (members : Members) → bare_in (retargeted_in f members) ≡ bare_in members
  bare_retargeted_in f End = refl
  bare_retargeted_in f (Here at rest) = ap₂ (λ n m. Here n m) (bare_retargeted f at) (bare_retargeted_in f rest)
  bare_retargeted_in f (Absent rest) = ap (λ m. Absent m) (bare_retargeted_in f rest)

mutual
  pub bare_with_target : (k : ℕ) (to : Option ℕ) (at : Node) → bare (with_target k to at) ≡ bare at
  bare_with_target k to (node.Num width little bits) = refl
  bare_with_target k to (node.Line bytes) = refl
  bare_with_target k to (node.Ref strong wanted target) =
      ap (λ t. node.Ref strong wanted t) (nothing to ∙ sym (nothing target))
  bare_with_target k to (node.Text index) = refl
  bare_with_target k to (node.Bytes bytes) = refl
  bare_with_target k to (node.Group members) = ap (λ m. node.Group m) (bare_with_target_in k to members)
  bare_with_target k to (node.Row items) = ap (λ m. node.Row m) (bare_with_target_in k to items)

  bare_with_target_in : (k : ℕ) (to : Option ℕ) (members : Members) → bare_in (with_target_in k to members) ≡ bare_in members
  bare_with_target_in k to End = refl
  bare_with_target_in k to (Here at rest) = elim (test (nat_lt k (length (refs at)))) [
    | inl q ↦ rw q (ap (λ n. Here n (bare_in rest)) (bare_with_target k to at))
    | inr q ↦ rw q (ap (λ m. Here (bare at) m) (bare_with_target_in (k - length (refs at)) to rest))
  ]
  bare_with_target_in k to (Absent rest) = ap (λ m. Absent m) (bare_with_target_in k to rest)

-- targets that are put through a function are below what that gives
abbrev pub Gives : ℕ → (ℕ → Option ℕ) → Type 0
Gives n f = (t : ℕ) → IfSome (f t) (λ p. p < n)

mutual
  pub below_retargeted : (n : ℕ) (f : ℕ → Option ℕ) → Gives n f → (at : Node) → Below n (retargeted f at)
  below_retargeted n f g (node.Num width little bits) = tt
  below_retargeted n f g (node.Line bytes) = tt
  below_retargeted n f g (node.Ref strong wanted None) = tt
  below_retargeted n f g (node.Ref strong wanted (Some target)) = g target
  below_retargeted n f g (node.Text index) = tt
  below_retargeted n f g (node.Bytes bytes) = tt
  below_retargeted n f g (node.Group members) = below_retargeted_in n f g members
  below_retargeted n f g (node.Row items) = below_retargeted_in n f g items

  below_retargeted_in : (n : ℕ) (f : ℕ → Option ℕ) → Gives n f → (members : Members) → BelowIn n (retargeted_in f members)
  below_retargeted_in n f g End = tt
  below_retargeted_in n f g (Here at rest) = (below_retargeted n f g at, below_retargeted_in n f g rest)
  below_retargeted_in n f g (Absent rest) = below_retargeted_in n f g rest

pub places_give : (blocks : List Named) → Gives (length blocks) (λ name. place name blocks)
places_give [] t = tt
places_give (b ∷ blocks) t = by (t == b.name) (place t blocks) (places_give blocks t)
  where
    by : (c : Bool) (o : Option ℕ) → IfSome o (λ p. p < length blocks)
        → IfSome (if c then Some 0 else option_map suc o) (λ p. p < suc (length blocks))
    by true o h = omega arith
    by false None h = tt
    by false (Some p) h = omega (arith, h)

-- ---- nodes that are alike

num_is : (width : ℕ) (little : Bool) (bits : ℕ) (b : Node) → node.Num width little bits ≡ bare b → b ≡ node.Num width little bits
num_is w l x (node.Num width little bits) e = sym e
num_is w l x (node.Line bytes) e = absurd cc
num_is w l x (node.Ref strong wanted target) e = absurd cc
num_is w l x (node.Text index) e = absurd cc
num_is w l x (node.Bytes bytes) e = absurd cc
num_is w l x (node.Group members) e = absurd cc
num_is w l x (node.Row items) e = absurd cc

line_is : (s : List ℕ) (b : Node) → node.Line s ≡ bare b → b ≡ node.Line s
line_is s (node.Num width little bits) e = absurd cc
line_is s (node.Line bytes) e = sym e
line_is s (node.Ref strong wanted target) e = absurd cc
line_is s (node.Text index) e = absurd cc
line_is s (node.Bytes bytes) e = absurd cc
line_is s (node.Group members) e = absurd cc
line_is s (node.Row items) e = absurd cc

text_is : (i : Option ℕ) (b : Node) → node.Text i ≡ bare b → b ≡ node.Text i
text_is i (node.Num width little bits) e = absurd cc
text_is i (node.Line bytes) e = absurd cc
text_is i (node.Ref strong wanted target) e = absurd cc
text_is i (node.Text index) e = sym e
text_is i (node.Bytes bytes) e = absurd cc
text_is i (node.Group members) e = absurd cc
text_is i (node.Row items) e = absurd cc

bytes_is : (s : List ℕ) (b : Node) → node.Bytes s ≡ bare b → b ≡ node.Bytes s
bytes_is s (node.Num width little bits) e = absurd cc
bytes_is s (node.Line bytes) e = absurd cc
bytes_is s (node.Ref strong wanted target) e = absurd cc
bytes_is s (node.Text index) e = absurd cc
bytes_is s (node.Bytes bytes) e = sym e
bytes_is s (node.Group members) e = absurd cc
bytes_is s (node.Row items) e = absurd cc

ref_is : (s : Bool) (w t : Option ℕ) (b : Node) → node.Ref s w t ≡ bare b → (u : Option ℕ) × (b ≡ node.Ref s w u)
ref_is s w t (node.Num width little bits) e = absurd cc
ref_is s w t (node.Line bytes) e = absurd cc
ref_is s w t (node.Ref strong wanted target) e =
    let same : s ≡ strong = cc in
    let same' : w ≡ wanted = cc in
    (target, ap₂ (λ x y. node.Ref x y target) (sym same) (sym same'))
ref_is s w t (node.Text index) e = absurd cc
ref_is s w t (node.Bytes bytes) e = absurd cc
ref_is s w t (node.Group members) e = absurd cc
ref_is s w t (node.Row items) e = absurd cc

group_is : (m : Members) (b : Node) → node.Group m ≡ bare b → (ms : Members) × (b ≡ node.Group ms) × (m ≡ bare_in ms)
group_is m (node.Num width little bits) e = absurd cc
group_is m (node.Line bytes) e = absurd cc
group_is m (node.Ref strong wanted target) e = absurd cc
group_is m (node.Text index) e = absurd cc
group_is m (node.Bytes bytes) e = absurd cc
group_is m (node.Group members) e = (members, refl, cc)
group_is m (node.Row items) e = absurd cc

row_is : (m : Members) (b : Node) → node.Row m ≡ bare b → (ms : Members) × (b ≡ node.Row ms) × (m ≡ bare_in ms)
row_is m (node.Num width little bits) e = absurd cc
row_is m (node.Line bytes) e = absurd cc
row_is m (node.Ref strong wanted target) e = absurd cc
row_is m (node.Text index) e = absurd cc
row_is m (node.Bytes bytes) e = absurd cc
row_is m (node.Group members) e = absurd cc
row_is m (node.Row items) e = (items, refl, cc)

end_is : (ms : Members) → End ≡ bare_in ms → ms ≡ End
end_is End e = refl
end_is (Here at rest) e = absurd cc
end_is (Absent rest) e = absurd cc

here_is : (a : Node) (m : Members) (ms : Members) → Here a m ≡ bare_in ms
    → (at : Node) × (rest : Members) × (ms ≡ Here at rest) × (a ≡ bare at) × (m ≡ bare_in rest)
here_is a m End e = absurd cc
here_is a m (Here at rest) e = (at, rest, refl, cc, cc)
here_is a m (Absent rest) e = absurd cc

absent_is : (m : Members) (ms : Members) → Absent m ≡ bare_in ms → (rest : Members) × (ms ≡ Absent rest) × (m ≡ bare_in rest)
absent_is m End e = absurd cc
absent_is m (Here at rest) e = absurd cc
absent_is m (Absent rest) e = (rest, refl, cc)

-- ---- values that are alike

-- what is a value stays one with other targets below n
abbrev Stays : ℕ → (Node → Type 0) → (Node → Type 0) → Type 0
Stays n V V' = (a b : Node) → V a → bare a ≡ bare b → Below n b → V' b

items_alike : (n : ℕ) (V V' : ℕ → Node → Type 0) → ((i : ℕ) → Stays n (V i) (V' i)) → (i count : ℕ) (a b : Members)
    → Items V i count a → bare_in a ≡ bare_in b → BelowIn n b → Items V' i count b
items_alike n V V' each i zero a b h e l = end_is b (sym (ap bare_in h) ∙ e)
items_alike n V V' each i (suc count) a b h e l =
    let x = here_is (bare h.0) (bare_in h.1) b (sym (ap bare_in h.2) ∙ e) in
    let l' : BelowIn n (Here x.0 x.1) = subst (BelowIn n) x.2 l in
    (x.0, x.1, x.2, each i h.0 x.0 h.3 x.3 l'.0, items_alike n V V' each (i + 1) count h.1 x.1 h.4 x.4 l'.1)

form_alike : (n : ℕ) (V V' : Kind → Node → Type 0) → ((kind : Kind) → Stays n (V kind) (V' kind)) → (form : Form)
    → Stays n (IsForm V form) (IsForm V' form)
form_alike n V V' each (One kind) a b h e l = each kind a b h e l
form_alike n V V' each (Run count) a b h e l = (h.0, bytes_is h.0 b (sym (ap bare h.1) ∙ e), h.2, h.3)
form_alike n V V' each (Row count item) a b h e l =
    let x = row_is (bare_in h.0) b (sym (ap bare h.1) ∙ e) in (
      x.0,
      x.1,
      items_alike n (λ i. IsForm V (item i)) (λ i. IsForm V' (item i))
          (λ i. form_alike n V V' each (item i)) 0 count h.0 x.0 h.2 x.2 (subst (Below n) x.1 l),
    )

fields_alike : (n : ℕ) (here here' : Env → Field → Bool) (V V' : Env → Field → Node → Type 0)
    → ((E E' : Env) (f : Field) → bare_env E ≡ bare_env E' → here E f ≡ here' E' f)
    → ((E E' : Env) (f : Field) → bare_env E ≡ bare_env E' → Stays n (V E f) (V' E' f))
    → (fields : List Field) (E E' : Env) → bare_env E ≡ bare_env E' → (a b : Members)
    → Fields here V (no_check {Why = Fault}) fields E a → bare_in a ≡ bare_in b → BelowIn n b
    → Fields here' V' (no_check {Why = Fault}) fields E' b
fields_alike n here here' V V' same each [] E E' same_env a b h e l = end_is b (sym (ap bare_in h) ∙ e)
fields_alike n here here' V V' same each (f ∷ fields) E E' same_env a b h e l =
    by (here E f) (here' E' f) (same E E' f same_env)
    (λ got got' p x y k q m. fields_alike n here here' V V' same each fields (behind f got E) (behind f got' E') p x y k q m) h
  where
    More : Type 0
    More = (got got' : Option Node) → bare_env (behind f got E) ≡ bare_env (behind f got' E') → (x y : Members)
        → Fields here V (no_check {Why = Fault}) fields (behind f got E) x → bare_in x ≡ bare_in y → BelowIn n y
        → Fields here' V' (no_check {Why = Fault}) fields (behind f got' E') y

    Rest : Option Node → Members → Type 0
    Rest got rest = (no_check {Why = Fault} E f got ≡ None)
        × Fields here V (no_check {Why = Fault}) fields (behind f got E) rest

    Rest' : Option Node → Members → Type 0
    Rest' got rest = (no_check {Why = Fault} E' f got ≡ None)
        × Fields here' V' (no_check {Why = Fault}) fields (behind f got E') rest

    by : (c c' : Bool) → c ≡ c' → More → Member c (V E f) Rest a → Member c' (V' E' f) Rest' b
    by true true p more h =
        let x = here_is (bare h.0) (bare_in h.1) b (sym (ap bare_in h.2) ∙ e) in
        let l' : BelowIn n (Here x.0 x.1) = subst (BelowIn n) x.2 l in
        let env : bare_env (behind f (Some h.0) E) ≡ bare_env (behind f (Some x.0) E') =
        λ i. behind f (Some (x.3 i)) (same_env i) in
        (x.0, x.1, x.2, each E E' f same_env h.0 x.0 h.3 x.3 l'.0, (refl, more (Some h.0) (Some x.0) env h.1 x.1 h.4.1 x.4 l'.1))
    by false false p more h =
        let x = absent_is (bare_in h.0) b (sym (ap bare_in h.1) ∙ e) in
        let l' : BelowIn n (Absent x.0) = subst (BelowIn n) x.1 l in
        let env : bare_env (behind f None E) ≡ bare_env (behind f None E') = λ i. behind f None (same_env i) in
        (x.0, x.1, (refl, more None None env h.0 x.0 h.2.1 x.2 l'))
    by true false p more h = absurd cc
    by false true p more h = absurd cc

pub shape_alike : (S : Schema) (C : Context) (n d : ℕ) (kind : Kind) → Stays n (Shape S C d kind) (Shape S (with_blocks n C) d kind)
shape_alike S C n d (Number width little) a b h e l = (h.0, num_is width little h.0 b (sym (ap bare h.1) ∙ e), h.2)
shape_alike S C n d Line a b h e l = (h.0, line_is h.0 b (sym (ap bare h.1) ∙ e), h.2, h.3)
shape_alike S C n d (Ref strong wanted) a b h e l =
    let x = ref_is strong wanted _ b (sym (ap bare h.1) ∙ e) in (x.0, x.1, subst (Below n) x.1 l)
shape_alike S C n d Text a b h e l = (h.0, text_is h.0 b (sym (ap bare h.1) ∙ e), h.2)
shape_alike S C n zero (Group fields template arg) a b h e l = absurd h
shape_alike S C n (suc d) (Group fields template arg) a b h e l =
    let x = group_is (bare_in h.0) b (sym (ap bare h.1) ∙ e) in (
      x.0,
      x.1,
      fields_alike n (present S C arg) (present S (with_blocks n C) arg)
          (λ E f. IsForm (Shape S C d) (form_of S C template arg E f))
          (λ E f. IsForm (Shape S (with_blocks n C) d) (form_of S (with_blocks n C) template arg E f))
          (λ E E' f p. sym (present_bare S n C arg E f) ∙ ap (λ X. present S (with_blocks n C) arg X f) p
          ∙ present_bare S n (with_blocks n C) arg E' f)
          (λ E E' f p y z k q m.
          let form : form_of S C template arg E f ≡ form_of S (with_blocks n C) template arg E' f =
          sym (form_bare S n C template arg E f) ∙ ap (λ X. form_of S (with_blocks n C) template arg X f) p
          ∙ form_bare S n (with_blocks n C) template arg E' f in
          subst (λ form. IsForm (Shape S (with_blocks n C) d) form z) form
          (form_alike n (Shape S C d) (Shape S (with_blocks n C) d) (λ kind. shape_alike S C n d kind)
          (form_of S C template arg E f) y z k q m))
          fields [] [] refl h.0 x.0 h.2 x.2 (subst (Below n) x.1 l),
    )
shape_alike S C n d Unknown a b h e l = absurd h
