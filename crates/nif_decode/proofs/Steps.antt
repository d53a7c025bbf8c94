-- One more member of a group or a row.
use Rattle.std.proofs.Common.{◌≡◌, ℕ, zero, suc, ◌+◌, inl, inr, Bool, true, false, List, [], ◌∷◌, ◌++◌, Option, Some, None, refl, sym, ◌∙◌, ap, subst, subst₂, arith, append_assoc, append-nil, add-zero}
use Rattle.nif_base.specs.declared.orders.Order.{Order}
use Rattle.nif_base.specs.Node.{Node, Members, End, Here, Absent, text, texts, nodes, nodes_in}
use Rattle.nif_schema.specs.Declaration.{Field}
use Rattle.nif_layout.specs.Earlier as env
use Rattle.nif_layout.specs.Earlier.{Env, passed}
use Rattle.nif_layout.specs.Fault.{Fault, Point, Passes, one_more}
use Rattle.nif_layout.specs.Members.{Member, Fields, Items, no_check}
use Rattle.nif_layout.specs.Fails.{MemberFails, FieldsFail, ItemsFail}
use Rattle.nif_layout.specs.PassLaws.{split, count_in}
use Rattle.nif_cells.specs.Building.{behind, absent_behind}
use Rattle.nif_decode.specs.Groups.{member_bytes, member_nodes}

-- members with one behind them, or an absent one
abbrev pub more : Option Node → Members → Members
more None a = absent_behind a
more (Some node) a = behind a node

pub more_here : (got : Option Node) (node : Node) (rest : Members) → more got (Here node rest) ≡ Here node (more got rest)
more_here None node rest = refl
more_here (Some last) node rest = refl

pub more_absent : (got : Option Node) (rest : Members) → more got (Absent rest) ≡ Absent (more got rest)
more_absent None rest = refl
more_absent (Some last) rest = refl

pub texts-more : (order : Order) (a : Members) (got : Option Node) → texts order (more got a) ≡ texts order a ++ member_bytes order got
texts-more order End None = refl
texts-more order End (Some node) = append-nil (text order node)
texts-more order (Here node rest) got =
    ap (texts order) (more_here got node rest) ∙ ap (λ s. text order node ++ s) (texts-more order rest got) ∙ sym (append_assoc (text order node) (texts order rest) (member_bytes order got))
texts-more order (Absent rest) got = ap (texts order) (more_absent got rest) ∙ texts-more order rest got

pub nodes-more : (a : Members) (got : Option Node) → nodes_in (more got a) ≡ nodes_in a + member_nodes got
nodes-more End None = refl
nodes-more End (Some node) = omega arith
nodes-more (Here node rest) got = ap nodes_in (more_here got node rest) ∙ omega (arith, nodes-more rest got)
nodes-more (Absent rest) got = ap nodes_in (more_absent got rest) ∙ omega (arith, nodes-more rest got)

-- no bytes and no nodes lead nowhere
pub start : (at mid : Point) → Passes [] 0 at mid → mid ≡ at
start at mid p =
    let l : mid.left ≡ at.left = sym p.here in
    let pl : mid.place ≡ at.place = p.place ∙ add-zero at.place in
    let n : mid.nodes ≡ at.nodes = p.nodes ∙ add-zero at.nodes in
    λ i. record { nodes = n i; place = pl i; left = l i }

pub items_push : (P : ℕ → Node → Type 0) (k i : ℕ) (a : Members) (node : Node) → Items P k i a → P (k + i) node → Items P k (suc i) (behind a node)
items_push P k zero a node h p =
    let e : k + zero ≡ k = add-zero k in
    (node, End, ap (λ x. behind x node) h, subst (λ j. P j node) e p, refl)
items_push P k (suc i) a node h p =
    let e : k + suc i ≡ k + 1 + i = omega arith in
    (h.0, behind h.1 node, ap (λ x. behind x node) h.2, h.3, items_push P (k + 1) i h.1 node h.4 (subst (λ j. P j node) e p))

pub items_fail : (order : Order) (P : ℕ → Node → Type 0) (F : ℕ → Point → Fault → Type 0) (k i left : ℕ) (a : Members) (at mid : Point) (f : Fault)
    → Items P k i a → Passes (texts order a) (nodes_in a) at mid → F (k + i) mid f → ItemsFail order P F k (i + suc left) at f
items_fail order P F k zero left a at mid f h p bad =
    let e : zero + suc left ≡ suc left = omega arith in
    let q : Passes [] 0 at mid = subst (λ (m : Members). Passes (texts order m) (nodes_in m) at mid) h p in
    let e' : k + zero ≡ k = add-zero k in
    let bad' : F k at f = subst₂ (λ j x. F j x f) e' (start at mid q) bad in
    subst (λ n. ItemsFail order P F k n at f) (sym e) (inl (f, refl, bad'))
items_fail order P F k (suc i) left a at mid f h p bad =
    let e : suc i + suc left ≡ suc (i + suc left) = omega arith in
    let e' : k + suc i ≡ k + 1 + i = omega arith in
    let q : Passes (text order h.0 ++ texts order h.1) (nodes h.0 + nodes_in h.1) at mid = subst (λ (m : Members). Passes (texts order m) (nodes_in m) at mid) h.2 p in
    let s = split (text order h.0) (texts order h.1) (nodes h.0) (nodes_in h.1) at mid q in
    subst (λ n. ItemsFail order P F k n at f) (sym e)
    (inr (h.0, s.0, h.3, s.1, items_fail order P F (k + 1) i left h.1 s.0 mid f h.4 s.2 (subst (λ j. F j mid f) e' bad)))

-- a member in front of others
abbrev pub put : Option Node → Members → Members
put None rest = Absent rest
put (Some node) rest = Here node rest

more_put : (got first : Option Node) (rest : Members) → more got (put first rest) ≡ put first (more got rest)
more_put got None rest = more_absent got rest
more_put got (Some node) rest = more_here got node rest

passed_put : (g : Field) (front : List Field) (got : Option Node) (rest : Members) (E : Env)
    → passed (g ∷ front) (put got rest) E ≡ passed front rest (env.behind g got E)
passed_put g front None rest E = refl
passed_put g front (Some node) rest E = refl

push_at : (t : Bool) (V : Node → Type 0) (R Q : Option Node → Members → Type 0) (a : Members) (got : Option Node) → Member t V R a
    → ((first : Option Node) (rest : Members) → a ≡ put first rest → R first rest → Q first (more got rest)) → Member t V Q (more got a)
push_at true V R Q a got h k = (h.0, more got h.1, ap (more got) h.2 ∙ more_here got h.0 h.1, h.3, k (Some h.0) h.1 h.2 h.4)
push_at false V R Q a got h k = (more got h.0, ap (more got) h.1 ∙ more_absent got h.0, k None h.0 h.1 h.2)

fail_at : (order : Order) (t : Bool) (V : Node → Type 0) (F : Point → Fault → Type 0) (R : Option Node → Members → Type 0) (Q : Option Node → Point → Fault → Type 0)
    (a : Members) (at mid : Point) (f : Fault) → Member t V R a → Passes (texts order a) (nodes_in a) at mid
    → ((got : Option Node) (rest : Members) (next : Point) → a ≡ put got rest → R got rest → Passes (texts order rest) (nodes_in rest) next mid → Q got next f)
    → MemberFails (λ w. w) order t V F Q at f
fail_at order true V F R Q a at mid f h p k =
    let q : Passes (text order h.0 ++ texts order h.1) (nodes h.0 + nodes_in h.1) at mid = subst (λ (m : Members). Passes (texts order m) (nodes_in m) at mid) h.2 p in
    let s = split (text order h.0) (texts order h.1) (nodes h.0) (nodes_in h.1) at mid q in
    inr (h.0, s.0, h.3, s.1, k (Some h.0) h.1 s.0 h.2 h.4 s.2)
fail_at order false V F R Q a at mid f h p k =
    let q : Passes (texts order h.0) (1 + nodes_in h.0) at mid = subst (λ (m : Members). Passes (texts order m) (nodes_in m) at mid) h.1 p in
    let s = count_in (texts order h.0) (nodes_in h.0) at mid q in
    inr (s.0, k None h.0 (one_more at) h.1 h.2 s.1)

-- A member that fails by itself fails, whatever follows.
fails_alone : (order : Order) (t : Bool) (V : Node → Type 0) (F : Point → Fault → Type 0) (Q : Option Node → Point → Fault → Type 0) (at : Point) (f : Fault)
    → MemberFails (λ w. w) order t V F (λ got next w. ⊥) at f → MemberFails (λ w. w) order t V F Q at f
fails_alone order true V F Q at f (inl h) = inl h
fails_alone order true V F Q at f (inr h) = absurd h.4
fails_alone order false V F Q at f (inl h) = inl h
fails_alone order false V F Q at f (inr h) = absurd h.1

abbrev pub no_fault : Option Fault
no_fault = None

-- the fields of a line, none refused
abbrev pub Line : (Env → Field → Bool) → (Env → Field → Node → Type 0) → List Field → Env → Members → Type 0
Line here V fields E members = Fields here V (no_check {Why = Fault}) fields E members

abbrev pub LineStops : Order → (Env → Field → Bool) → (Env → Field → Node → Type 0) → (Env → Field → Point → Fault → Type 0) → List Field → Env → Point → Fault → Type 0
LineStops order here V F fields E at f = FieldsFail (λ w. w) (λ E. order) here V F no_check fields E at f

-- the next member of a group is there, or it is left out
abbrev pub IsNext : (Env → Field → Bool) → (Env → Field → Node → Type 0) → Env → Field → Option Node → Type 0
IsNext here V E f None = here E f ≡ false
IsNext here V E f (Some node) = (here E f ≡ true) × V E f node

next_member : (here : Env → Field → Bool) (V : Env → Field → Node → Type 0) (E : Env) (f : Field) (got : Option Node) → IsNext here V E f got → Line here V (f ∷ []) E (more got End)
next_member here V E f None h =
    subst (λ t. Member t (V E f) (λ got rest. (no_fault ≡ no_fault) × (rest ≡ End)) (Absent End)) (sym h) (End, refl, (refl, refl))
next_member here V E f (Some node) h =
    subst (λ t. Member t (V E f) (λ got rest. (no_fault ≡ no_fault) × (rest ≡ End)) (Here node End)) (sym h.0) (node, End, refl, h.1, (refl, refl))

-- the members of the first fields, and the one of the next
pub fields_push : (here : Env → Field → Bool) (V : Env → Field → Node → Type 0) (front : List Field) (f : Field) (E : Env) (a : Members) (got : Option Node)
    → Line here V front E a → IsNext here V (passed front a E) f got → Line here V (front ++ f ∷ []) E (more got a)
fields_push here V [] f E a got h last = subst (λ (m : Members). Line here V (f ∷ []) E (more got m)) (sym h) (next_member here V E f got last)
fields_push here V (g ∷ front) f E a got h last =
    push_at (here E g) (V E g) _ _ a got h
    (λ first rest e r. (
      refl,
      fields_push here V front f (env.behind g first E) rest got r.1
          (subst (λ x. IsNext here V x f got) (ap (λ m. passed (g ∷ front) m E) e ∙ passed_put g front first rest E) last),
    ))

-- the first fields are read, and the next one fails
pub fields_fail : (order : Order) (here : Env → Field → Bool) (V : Env → Field → Node → Type 0) (F : Env → Field → Point → Fault → Type 0) (front back : List Field) (f : Field) (E : Env) (a : Members) (at mid : Point) (w : Fault)
    → Line here V front E a → Passes (texts order a) (nodes_in a) at mid
    → MemberFails (λ w. w) order (here (passed front a E) f) (V (passed front a E) f) (F (passed front a E) f) (λ got next u. ⊥) mid w
    → LineStops order here V F (front ++ f ∷ back) E at w
fields_fail order here V F [] back f E a at mid w h p bad =
    let q : Passes [] 0 at mid = subst (λ (m : Members). Passes (texts order m) (nodes_in m) at mid) h p in
    fails_alone order (here E f) (V E f) (F E f) _ at w
    (subst (λ x. MemberFails (λ w. w) order (here E f) (V E f) (F E f) (λ got next u. ⊥) x w) (start at mid q) bad)
fields_fail order here V F (g ∷ front) back f E a at mid w h p bad =
    fail_at order (here E g) (V E g) (F E g) _ _ a at mid w h p
    (λ got rest next e r q. inr (
      refl,
      fields_fail order here V F front back f (env.behind g got E) rest next mid w r.1 q
          (subst (λ x. MemberFails (λ w. w) order (here x f) (V x f) (F x f) (λ got next u. ⊥) mid w) (ap (λ m. passed (g ∷ front) m E) e ∙ passed_put g front got rest E) bad),
    ))

-- The fields behind those that have members add nothing.
pub passed_front : (here : Env → Field → Bool) (V : Env → Field → Node → Type 0) (front back : List Field) (E : Env) (a : Members) → Line here V front E a → passed (front ++ back) a E ≡ passed front a E
passed_front here V [] [] E a h = refl
passed_front here V [] (g ∷ back) E a h = subst (λ (m : Members). passed (g ∷ back) m E ≡ E) (sym h) refl
passed_front here V (g ∷ front) back E a h = by (here E g) h (λ got rest r. passed_front here V front back (env.behind g got E) rest r)
  where
    by : (t : Bool) → Member t (V E g) (λ got rest. (no_fault ≡ no_fault) × Line here V front (env.behind g got E) rest) a
        → ((got : Option Node) (rest : Members) → Line here V front (env.behind g got E) rest → passed (front ++ back) rest (env.behind g got E) ≡ passed front rest (env.behind g got E))
        → passed (g ∷ front ++ back) a E ≡ passed (g ∷ front) a E
    by true m k = subst (λ (x : Members). passed (g ∷ front ++ back) x E ≡ passed (g ∷ front) x E) (sym m.2) (k (Some m.0) m.1 m.4.1)
    by false m k = subst (λ (x : Members). passed (g ∷ front ++ back) x E ≡ passed (g ∷ front) x E) (sym m.1) (k None m.0 m.2.1)
