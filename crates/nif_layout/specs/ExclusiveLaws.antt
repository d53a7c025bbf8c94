-- What is read doesn't fail, and what fails does so in one way.
use Rattle.std.proofs.Common.{◌≡◌, ℕ, zero, suc, ◌+◌, ◌<◌, ◌≤◌, ◌⊎◌, inl, inr, Bool, true, false, Option, Some, None, List, [], ◌∷◌, ◌++◌, sym, ◌∙◌, subst, subst₂, arith}
use Rattle.nif_base.specs.declared.orders.Order.{Order}
use Rattle.nif_base.specs.Node.{Node, Members, text, texts, nodes, nodes_in}
use Rattle.nif_schema.specs.Declaration.{Field}
use Rattle.nif_layout.specs.Earlier.{Env, behind}
use Rattle.nif_base.specs.Limits.{most_nodes}
use Rattle.nif_layout.specs.Fault.{Fault, Point, Passes, Reads, one_more}
use Rattle.nif_layout.specs.Members.{Member, Check, Fields, Items, member_text, fields_text}
use Rattle.nif_layout.specs.Fails.{Counted, MemberFails, FieldsFail, ItemsFail}
use Rattle.nif_layout.specs.CancelLaws.{in_one_order, Cancels}
use Rattle.nif_layout.specs.PassLaws.{split, count_in, one_point}

-- What is read doesn't fail.
abbrev pub Excludes : Order → (Node → Type 0) → (Point → Fault → Type 0) → Type 0
Excludes order V F = (node : Node) (at next : Point) (f : Fault) → V node → Reads order node at next → F at f → ⊥

abbrev pub AllExclude : {Why : Type 0} → (Members → List ℕ) → (Members → Type 0) → (Point → Why → Type 0) → Type 0
AllExclude {Why} T V F =
    (a : Members) (at next : Point) (w : Why) → V a → Passes (T a) (nodes_in a) at next → F at w → ⊥

pub one_order_excludes : (order : Order) (V : Members → Type 0) (F : Point → Fault → Type 0)
    → AllExclude (member_text order (λ got. texts order)) V F → AllExclude (texts order) V F
one_order_excludes order V F h a at next f ha p bad =
    let P : List ℕ → Type 0 = λ s. Passes s (nodes_in a) at next in h a at next f ha (subst P (sym (in_one_order order a)) p) bad

-- It fails in one way.
abbrev pub OneFault : {Why : Type 0} → (Point → Why → Type 0) → Type 0
OneFault {Why} F = (at : Point) (v w : Why) → F at v → F at w → v ≡ w

pub counted_one : {Why : Type 0} (by_fault : Fault → Why) (F : Point → Why → Type 0) → OneFault F
    → OneFault (Counted by_fault F)
counted_one by_fault F one at v w (inl a) (inl b) = a.1 ∙ sym b.1
counted_one by_fault F one at v w (inl a) (inr b) = let x : most_nodes ≤ at.nodes = a.0 in let y : at.nodes
    < most_nodes = b.0 in absurd (omega arith)
counted_one by_fault F one at v w (inr a) (inl b) = let x : at.nodes < most_nodes = a.0 in let y : most_nodes
    ≤ at.nodes = b.0 in absurd (omega arith)
counted_one by_fault F one at v w (inr a) (inr b) = one (one_more at) v w a.1 b.1

-- A node is counted, and what is read behind it doesn't fail.
pub counted_excludes : {Why : Type 0} (by_fault : Fault → Why) (F : Point → Why → Type 0) (s : List ℕ) (n : ℕ)
    (at next : Point) (w : Why)
    → (Passes s n (one_more at) next → F (one_more at) w → ⊥) → Passes s (1 + n) at next → Counted by_fault F at w → ⊥
counted_excludes by_fault F s n at next w inner p (inl a) =
    let x : most_nodes ≤ at.nodes = a.0 in let y : at.nodes < most_nodes = (count_in s n at next p).0 in omega arith
counted_excludes by_fault F s n at next w inner p (inr a) = inner (count_in s n at next p).1 a.1

-- Two nodes that are read at one point are one, and end at one point.
pub same_end : (order : Order) (V : Node → Type 0) → Cancels order V V → (a b : Node) (at p q : Point)
    → V a → V b → Reads order a at p → Reads order b at q → (a ≡ b) × (p ≡ q)
same_end order V cancels a b at p q ha hb hp hq =
    let r = cancels a b p.left q.left ha hb (sym hp.here ∙ hq.here) in
    let same : b ≡ a = sym r.0 in
    let P : Node → Type 0 = λ m. Reads order m at q in
    let hq' : Reads order a at q = subst P same hq in
    (r.0, one_point (text order a) (nodes a) at p q hp hq')

pub member_excludes : {Why : Type 0} (by_fault : Fault → Why) (order : Order) (T : Option Node → Members → List ℕ)
    (here : Bool) (V : Node → Type 0) (F : Point → Fault → Type 0)
    (R : Option Node → Members → Type 0) (Q : Option Node → Point → Why → Type 0)
    → Cancels order V V → Excludes order V F → ((got : Option Node) → AllExclude (T got) (R got) (Q got))
    → AllExclude (member_text order T) (Member here V R) (MemberFails by_fault order here V F Q)
member_excludes by_fault order T true V F R Q cancels first rest a at next w ha p (inl bad) =
    let p' : Passes (text order ha.0 ++ T (Some ha.0) ha.1) (nodes ha.0 + nodes_in ha.1) at next = rw ha.2 at p in
    let s = split (text order ha.0) (T (Some ha.0) ha.1) (nodes ha.0) (nodes_in ha.1) at next p' in
    first ha.0 at s.0 bad.0 ha.3 s.1 bad.2
member_excludes by_fault order T true V F R Q cancels first rest a at next w ha p (inr bad) =
    let p' : Passes (text order ha.0 ++ T (Some ha.0) ha.1) (nodes ha.0 + nodes_in ha.1) at next = rw ha.2 at p in
    let s = split (text order ha.0) (T (Some ha.0) ha.1) (nodes ha.0) (nodes_in ha.1) at next p' in
    let same = same_end order V cancels bad.0 ha.0 at bad.1 s.0 bad.2 ha.3 bad.3 s.1 in
    let P : Node → Point → Type 0 = λ m q. Q (Some m) q w in
    let bad' : Q (Some ha.0) s.0 w = subst₂ P same.0 same.1 bad.4 in
    rest (Some ha.0) ha.1 s.0 next w ha.4 s.2 bad'
member_excludes by_fault order T false V F R Q cancels first rest a at next w ha p bad =
    let p' : Passes (T None ha.0) (1 + nodes_in ha.0) at next = rw ha.1 at p in
    counted_excludes by_fault (Q None) (T None ha.0) (nodes_in ha.0) at next w
    (λ q x. rest None ha.0 (one_more at) next w ha.2 q x) p' bad

pub member_one : {Why : Type 0} (by_fault : Fault → Why) (order : Order) (here : Bool) (V : Node → Type 0)
    (F : Point → Fault → Type 0) (Q : Option Node → Point → Why → Type 0)
    → Cancels order V V → Excludes order V F → OneFault F → ((got : Option Node) → OneFault (Q got))
    → OneFault (MemberFails by_fault order here V F Q)
member_one {Why} by_fault order true V F Q cancels excludes one rest at v w (inl a) (inl b) =
    let same : a.0 ≡ b.0 = one at a.0 b.0 a.2 b.2 in
    let P : Fault → Type 0 = λ f. v ≡ by_fault f in
    let moved : v ≡ by_fault b.0 = subst P same a.1 in
    moved ∙ sym b.1
member_one by_fault order true V F Q cancels excludes one rest at v w (inl a) (inr b) =
    absurd (excludes b.0 at b.1 a.0 b.2 b.3 a.2)
member_one by_fault order true V F Q cancels excludes one rest at v w (inr a) (inl b) =
    absurd (excludes a.0 at a.1 b.0 a.2 a.3 b.2)
member_one by_fault order true V F Q cancels excludes one rest at v w (inr a) (inr b) =
    let same = same_end order V cancels a.0 b.0 at a.1 b.1 a.2 b.2 a.3 b.3 in
    let P : Node → Point → Type 0 = λ m q. Q (Some m) q v in
    rest (Some b.0) b.1 v w (subst₂ P same.0 same.1 a.4) b.4
member_one by_fault order false V F Q cancels excludes one rest at v w a b =
    counted_one by_fault (Q None) (rest None) at v w a b

-- What follows a member of a line: it is refused, or the rest fails.
abbrev pub RefusedOr : {Why : Type 0} → Option Why → (Point → Why → Type 0) → Point → Why → Type 0
RefusedOr refused F at w = (refused ≡ Some w) ⊎ ((refused ≡ None) × F at w)

none_some : {A : Type 0} (o : Option A) (a : A) → o ≡ None → o ≡ Some a → ⊥
none_some o a n s = cc

some_same : {A : Type 0} (o : Option A) (a b : A) → o ≡ Some a → o ≡ Some b → a ≡ b
some_same o a b p q = let e : Some a ≡ Some b = sym p ∙ q in cc

pub refused_excludes : {Why : Type 0} (refused : Option Why) (T : Members → List ℕ) (V : Members → Type 0)
    (F : Point → Why → Type 0)
    → AllExclude T V F → AllExclude T (λ a. (refused ≡ None) × V a) (RefusedOr refused F)
refused_excludes refused T V F h a at next w ha p (inl bad) = none_some refused w ha.0 bad
refused_excludes refused T V F h a at next w ha p (inr bad) = h a at next w ha.1 p bad.1

pub refused_one : {Why : Type 0} (refused : Option Why) (F : Point → Why → Type 0) → OneFault F
    → OneFault (RefusedOr refused F)
refused_one refused F one at v w (inl a) (inl b) = some_same refused v w a b
refused_one refused F one at v w (inl a) (inr b) = absurd (none_some refused v b.0 a)
refused_one refused F one at v w (inr a) (inl b) = absurd (none_some refused w a.0 b)
refused_one refused F one at v w (inr a) (inr b) = one at v w a.1 b.1

pub fields_exclude : {Why : Type 0} (by_fault : Fault → Why) (order : Env → Order) (here : Env → Field → Bool)
    (V : Env → Field → Node → Type 0) (F : Env → Field → Point → Fault → Type 0) (check : Check Why)
    → ((E : Env) (f : Field) → Cancels (order E) (V E f) (V E f))
    → ((E : Env) (f : Field) → Excludes (order E) (V E f) (F E f))
    → (fields : List Field) (E : Env) → AllExclude (fields_text order fields E) (Fields here V check fields E)
    (FieldsFail by_fault order here V F check fields E)
fields_exclude by_fault order here V F check cancels each [] E a at next w ha p bad = bad
fields_exclude by_fault order here V F check cancels each (f ∷ fields) E a at next w ha p bad =
    member_excludes by_fault (order E) (λ got. fields_text order fields (behind f got E)) (here E f) (V E f) (F E f) _ _
    (cancels E f) (each E f)
    (λ got. refused_excludes (check E f got) (fields_text order fields (behind f got E))
    (Fields here V check fields (behind f got E)) (FieldsFail by_fault order here V F check fields (behind f got E))
    (fields_exclude by_fault order here V F check cancels each fields (behind f got E))) a at next w ha p bad

pub fields_one : {Why : Type 0} (by_fault : Fault → Why) (order : Env → Order) (here : Env → Field → Bool)
    (V : Env → Field → Node → Type 0) (F : Env → Field → Point → Fault → Type 0) (check : Check Why)
    → ((E : Env) (f : Field) → Cancels (order E) (V E f) (V E f))
    → ((E : Env) (f : Field) → Excludes (order E) (V E f) (F E f))
    → ((E : Env) (f : Field) → OneFault (F E f))
    → (fields : List Field) (E : Env) → OneFault (FieldsFail by_fault order here V F check fields E)
fields_one by_fault order here V F check cancels each one [] E at v w a b = absurd a
fields_one by_fault order here V F check cancels each one (f ∷ fields) E at v w a b =
    member_one by_fault (order E) (here E f) (V E f) (F E f) _ (cancels E f) (each E f) (one E f)
    (λ got. refused_one (check E f got) (FieldsFail by_fault order here V F check fields (behind f got E))
    (fields_one by_fault order here V F check cancels each one fields (behind f got E))) at v w a b

pub items_exclude : (order : Order) (V : ℕ → Node → Type 0) (F : ℕ → Point → Fault → Type 0)
    → ((i : ℕ) → Cancels order (V i) (V i)) → ((i : ℕ) → Excludes order (V i) (F i))
    → (i n : ℕ) → AllExclude (texts order) (Items V i n) (ItemsFail order V F i n)
items_exclude order V F cancels each i zero a at next f ha p bad = bad
items_exclude order V F cancels each i (suc n) a at next f ha p bad =
    one_order_excludes order (Items V i (suc n)) (ItemsFail order V F i (suc n))
    (member_excludes (λ f. f) order (λ got. texts order) true (V i) (F i) (λ got. Items V (i + 1) n)
    (λ got. ItemsFail order V F (i + 1) n) (cancels i) (each i)
    (λ got. items_exclude order V F cancels each (i + 1) n)) a at next f ha p bad

pub items_one : (order : Order) (V : ℕ → Node → Type 0) (F : ℕ → Point → Fault → Type 0)
    → ((i : ℕ) → Cancels order (V i) (V i)) → ((i : ℕ) → Excludes order (V i) (F i)) → ((i : ℕ) → OneFault (F i))
    → (i n : ℕ) → OneFault (ItemsFail order V F i n)
items_one order V F cancels each one i zero at f g a b = absurd a
items_one order V F cancels each one i (suc n) at f g a b =
    member_one (λ f. f) order true (V i) (F i) (λ got. ItemsFail order V F (i + 1) n) (cancels i) (each i) (one i)
    (λ got. items_one order V F cancels each one (i + 1) n) at f g a b
