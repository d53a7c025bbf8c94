-- A value is read or fails: one member behind another.
use Rattle.std.proofs.Common.{◌≡◌, ℕ, zero, suc, ◌+◌, ◌<◌, ◌≤◌, ◌⊎◌, inl, inr, Bool, true, false, Option, Some, None, List, [], ◌∷◌, ◌++◌, refl, subst, arith}
use Rattle.nif_base.specs.declared.orders.Order.{Order}
use Rattle.nif_base.specs.Node.{Node, Members, End, Here, Absent, text, texts, nodes, nodes_in}
use Rattle.nif_schema.specs.Declaration.{Field}
use Rattle.nif_layout.specs.Earlier.{Env, behind}
use Rattle.nif_layout.specs.Leaf.{AreBytes}
use Rattle.nif_base.specs.Limits.{most_file_bytes, most_nodes}
use Rattle.nif_layout.specs.Fault.{Fault, TooManyNodes, Point, Passes, Reads, one_more}
use Rattle.nif_layout.specs.Members.{Member, Check, Fields, Items, member_text, fields_text}
use Rattle.nif_layout.specs.Fails.{MemberFails, FieldsFail, ItemsFail}
use Rattle.nif_layout.specs.CancelLaws.{in_one_order}
use Rattle.nif_layout.specs.PassLaws.{join, count_out}
use Rattle.nif_layout.specs.ExclusiveLaws.{RefusedOr}
use Rattle.nif_layout.specs.ByteLaws.{bytes_behind}

-- A point within a file, whose nodes may be too many.
pub record Within (at : Point) : Type 0 where
  pub place : at.place ≤ most_file_bytes
  pub bytes : AreBytes at.left

pub behind_bytes : (s : List ℕ) (n : ℕ) (at next : Point) → Within at → Passes s n at next → Within next
behind_bytes s n at next w p =
    let b : AreBytes (s ++ next.left) = subst AreBytes p.here w.bytes in
    record { place = p.within; bytes = bytes_behind s next.left b }

pub counting : (at : Point) → Within at → Within (one_more at)
counting at w = record { place = w.place; bytes = w.bytes }

-- Either a node is read at the point, or something fails there.
abbrev pub Decided : Order → (Node → Type 0) → (Point → Fault → Type 0) → Point → Type 0
Decided order V F at = ((node : Node) × (next : Point) × V node × Reads order node at next) ⊎ ((f : Fault) × F at f)

abbrev pub AllDecided : {Why : Type 0} → (Members → List ℕ) → (Members → Type 0) → (Point → Why → Type 0) → Point
    → Type 0
AllDecided {Why} T V F at =
    ((a : Members) × (next : Point) × V a × Passes (T a) (nodes_in a) at next) ⊎ ((w : Why) × F at w)

abbrev pub Decides : Order → (Node → Type 0) → (Point → Fault → Type 0) → Type 0
Decides order V F = (at : Point) → Within at → Decided order V F at

-- the same of members, where the nodes so far are not too many
abbrev pub AllDecide : {Why : Type 0} → (Members → List ℕ) → (Members → Type 0) → (Point → Why → Type 0) → Type 0
AllDecide T V F = (at : Point) → Within at → at.nodes ≤ most_nodes → AllDecided T V F at

one_order_decided : (order : Order) (V : Members → Type 0) (F : Point → Fault → Type 0) (at : Point)
    → AllDecided (member_text order (λ got. texts order)) V F at → AllDecided (texts order) V F at
one_order_decided order V F at (inl r) = let P : List ℕ
    → Type 0 = λ s. Passes s (nodes_in r.0) at r.1 in inl (r.0, r.1, r.2, subst P (in_one_order order r.0) r.3)
one_order_decided order V F at (inr r) = inr r

pub room : (at : Point) → ((at.nodes < most_nodes) ⊎ (most_nodes ≤ at.nodes))
room at = grind arith

pub nothing : (at : Point) → Within at → at.nodes ≤ most_nodes → Passes [] 0 at at
nothing at w n = record { here = refl; place = omega arith; nodes = omega arith; within = w.place; counted = n }

then_rest : {Why : Type 0} (by_fault : Fault → Why) (order : Order) (T : Option Node → Members → List ℕ)
    (V : Node → Type 0) (F : Point → Fault → Type 0) (R : Option Node → Members → Type 0)
    (Q : Option Node → Point → Why → Type 0)
    → (at : Point) (node : Node) (next : Point) → V node → Reads order node at next
    → AllDecided (T (Some node)) (R (Some node)) (Q (Some node)) next
    → AllDecided (member_text order T) (Member true V R) (MemberFails by_fault order true V F Q) at
then_rest by_fault order T V F R Q at node next v p (inl r) =
    inl (
      Here node r.0,
      r.1,
      (node, r.0, refl, v, r.2),
      join (text order node) (T (Some node) r.0) (nodes node)
          (nodes_in r.0) at next r.1 p r.3,
    )
then_rest by_fault order T V F R Q at node next v p (inr r) = inr (r.0, inr (node, next, v, p, r.1))

then_member : {Why : Type 0} (by_fault : Fault → Why) (order : Order) (T : Option Node → Members → List ℕ)
    (V : Node → Type 0) (F : Point → Fault → Type 0) (R : Option Node → Members → Type 0)
    (Q : Option Node → Point → Why → Type 0)
    → (at : Point) → Within at → ((got : Option Node) → AllDecide (T got) (R got) (Q got)) → Decided order V F at
    → AllDecided (member_text order T) (Member true V R) (MemberFails by_fault order true V F Q) at
then_member by_fault order T V F R Q at w rest (inl r) =
    then_rest by_fault order T V F R Q at r.0 r.1 r.2 r.3
    (rest (Some r.0) r.1 (behind_bytes (text order r.0) (nodes r.0) at r.1 w r.3) r.3.counted)
then_member by_fault order T V F R Q at w rest (inr r) = inr (by_fault r.0, inl (r.0, refl, r.1))

then_absent : {Why : Type 0} (by_fault : Fault → Why) (order : Order) (T : Option Node → Members → List ℕ)
    (V : Node → Type 0) (F : Point → Fault → Type 0) (R : Option Node → Members → Type 0)
    (Q : Option Node → Point → Why → Type 0)
    → (at : Point) → (at.nodes < most_nodes) → AllDecided (T None) (R None) (Q None) (one_more at)
    → AllDecided (member_text order T) (Member false V R) (MemberFails by_fault order false V F Q) at
then_absent by_fault order T V F R Q at n (inl r) =
    inl (Absent r.0, r.1, (r.0, refl, r.2), count_out (T None r.0) (nodes_in r.0) at r.1 r.3)
then_absent by_fault order T V F R Q at n (inr r) = inr (r.0, inr (n, r.1))

absent_or : {Why : Type 0} (by_fault : Fault → Why) (order : Order) (T : Option Node → Members → List ℕ)
    (V : Node → Type 0) (F : Point → Fault → Type 0) (R : Option Node → Members → Type 0)
    (Q : Option Node → Point → Why → Type 0)
    → (at : Point) → Within at → ((got : Option Node) → AllDecide (T got) (R got) (Q got))
    → ((at.nodes < most_nodes) ⊎ (most_nodes ≤ at.nodes))
    → AllDecided (member_text order T) (Member false V R) (MemberFails by_fault order false V F Q) at
absent_or by_fault order T V F R Q at w rest (inl n) =
    then_absent by_fault order T V F R Q at n (rest None (one_more at) (counting at w) (omega (arith, n)))
absent_or by_fault order T V F R Q at w rest (inr n) = inr (by_fault (TooManyNodes at.place), inl (n, refl))

pub member_decides : {Why : Type 0} (by_fault : Fault → Why) (order : Order) (T : Option Node → Members → List ℕ)
    (here : Bool) (V : Node → Type 0) (F : Point → Fault → Type 0) (R : Option Node → Members → Type 0)
    (Q : Option Node → Point → Why → Type 0)
    → Decides order V F → ((got : Option Node) → AllDecide (T got) (R got) (Q got))
    → AllDecide (member_text order T) (Member here V R) (MemberFails by_fault order here V F Q)
member_decides by_fault order T true V F R Q first rest at w n =
    then_member by_fault order T V F R Q at w rest (first at w)
member_decides by_fault order T false V F R Q first rest at w n = absent_or by_fault order T V F R Q at w rest (room at)

-- A member that was read is refused, or not, and then the rest is read or fails.
refused_decided : {Why : Type 0} (refused : Option Why) (T : Members → List ℕ) (V : Members → Type 0)
    (F : Point → Why → Type 0) (at : Point)
    → (o : Option Why) → refused ≡ o → AllDecided T V F at
    → AllDecided T (λ a. (refused ≡ None) × V a) (RefusedOr refused F) at
refused_decided refused T V F at None e (inl r) = inl (r.0, r.1, (e, r.2), r.3)
refused_decided refused T V F at None e (inr r) = inr (r.0, inr (e, r.1))
refused_decided refused T V F at (Some w) e r = inr (w, inl e)

-- each field of a list
abbrev pub EachField : (Field → Type 0) → List Field → Type 0
EachField P [] = Unit {0}
EachField P (f ∷ fields) = P f × EachField P fields

pub fields_decide : {Why : Type 0} (by_fault : Fault → Why) (order : Env → Order) (here : Env → Field → Bool)
    (V : Env → Field → Node → Type 0) (F : Env → Field → Point → Fault → Type 0) (check : Check Why)
    → (fields : List Field) → EachField (λ f. (E : Env) → Decides (order E) (V E f) (F E f)) fields
    → (E : Env) → AllDecide (fields_text order fields E) (Fields here V check fields E)
    (FieldsFail by_fault order here V F check fields E)
fields_decide by_fault order here V F check [] each E at w n = inl (End, at, refl, nothing at w n)
fields_decide by_fault order here V F check (f ∷ fields) each E at w n =
    member_decides by_fault (order E) (λ got. fields_text order fields (behind f got E)) (here E f) (V E f) (F E f) _ _
    (each.0 E)
    (λ got at w n. refused_decided (check E f got) (fields_text order fields (behind f got E))
    (Fields here V check fields (behind f got E))
    (FieldsFail by_fault order here V F check fields (behind f got E)) at (check E f got) refl
    (fields_decide by_fault order here V F check fields each.1 (behind f got E) at w n)) at w n

pub items_decide : (order : Order) (V : ℕ → Node → Type 0) (F : ℕ → Point → Fault → Type 0)
    → ((i : ℕ) → Decides order (V i) (F i))
    → (i n : ℕ) → AllDecide (texts order) (Items V i n) (ItemsFail order V F i n)
items_decide order V F each i zero at w n = inl (End, at, refl, nothing at w n)
items_decide order V F each i (suc k) at w n =
    one_order_decided order (Items V i (suc k)) (ItemsFail order V F i (suc k)) at
    (member_decides (λ f. f) order (λ got. texts order) true (V i) (F i) (λ got. Items V (i + 1) k)
    (λ got. ItemsFail order V F (i + 1) k) (each i)
    (λ got. items_decide order V F each (i + 1) k) at w n)
