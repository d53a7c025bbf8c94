-- A leaf is read or fails.
use Rattle.std.proofs.Common.{◌≡◌, ℕ, zero, suc, ◌+◌, ◌^◌, ◌<◌, ◌≤◌, ◌⊎◌, inl, inr, Bool, true, false, ◌||◌, if◌then◌else◌, Option, Some, None, List, [], ◌∷◌, ◌++◌, length, take, refl, sym, ◌∙◌, ap, subst, arith, ltb-true, ltb, eqb, eqb-true}
use Rattle.std.specs.Option.{option_map}
use Rattle.std.proofs.lemmas.Bool.{eqb-false}
use Rattle.nif_base.specs.declared.orders.Order.{Order}
use Rattle.nif_base.specs.Node as node
use Rattle.nif_base.specs.Node.{Node, Members, text, texts, nodes, nodes_in, is_little, number, low_first, place_or_none}
use Rattle.nif_layout.specs.Context.{Context}
use Rattle.nif_layout.specs.Kind.{Number, Line, Ref, Text}
use Rattle.nif_layout.specs.Leaf.{IsLeaf, AreBytes, AreInLine, IsBelow}
use Rattle.nif_base.specs.Limits.{most_nodes}
use Rattle.nif_layout.specs.Fault.{Fault, LineTooLong, RefRange, StringRange, TooManyNodes, Point, Passes, one_more}
use Rattle.nif_layout.specs.LeafFault.{shortage, leaf_fault, newline, line_needs, line_fault, number_at, range_fault, or_else}
use Rattle.nif_layout.specs.Fails.{Counted, LeafFails}
use Rattle.nif_layout.specs.PassLaws.{count_out}
use Rattle.nif_layout.specs.DecideLaws.{Within, Decides, Decided, counting, room}
use Rattle.nif_layout.specs.ByteLaws.{number_taken}
use Rattle.nif_layout.specs.RoomLaws.{Enough, enough, passes_skip, skip}

-- What is read behind the count of a node, or fails there.
abbrev pub Inside : Order → (Node → Type 0) → (Point → Fault → Type 0) → Point → Type 0
Inside order V F at =
    ((node : Node) × (next : Point) × (n : ℕ) × V node × (nodes node ≡ 1 + n) × Passes (text order node) n at next)
    ⊎ ((f : Fault) × F at f)

inside_out : (order : Order) (V : Node → Type 0) (F : Point → Fault → Type 0) (at : Point) → at.nodes < most_nodes
    → Inside order V F (one_more at) → Decided order V (Counted (λ f. f) F) at
inside_out order V F at n (inl r) =
    let p : Passes (text order r.0) (1 + r.2) at r.1 = count_out (text order r.0) r.2 at r.1 r.5 in
    let P : ℕ → Type 0 = λ k. Passes (text order r.0) k at r.1 in
    inl (r.0, r.1, r.3, subst P (sym r.4) p)
inside_out order V F at n (inr r) = inr (r.0, inr (n, r.1))

counted_from : (order : Order) (V : Node → Type 0) (F : Point → Fault → Type 0)
    → ((at : Point) → Within at → at.nodes ≤ most_nodes → Inside order V F at)
    → (at : Point) → Within at → ((at.nodes < most_nodes) ⊎ (most_nodes ≤ at.nodes))
    → Decided order V (Counted (λ f. f) F) at
counted_from order V F inner at w (inl n) =
    inside_out order V F at n (inner (one_more at) (counting at w) (omega (arith, n)))
counted_from order V F inner at w (inr n) = inr (TooManyNodes at.place, inl (n, refl))

pub counted_decides : (order : Order) (V : Node → Type 0) (F : Point → Fault → Type 0)
    → ((at : Point) → Within at → at.nodes ≤ most_nodes → Inside order V F at) → Decides order V (Counted (λ f. f) F)
counted_decides order V F inner at w = counted_from order V F inner at w (room at)

-- the place or none that a number in range stands for
pub place_of : (most v : ℕ) (fault : Fault) → v < 2 ^ 32
    → ((place : Option ℕ) × IsBelow most place × (place_or_none place ≡ v)) ⊎ (range_fault most v fault ≡ Some fault)
place_of most v fault h = by (eqb v 0xFFFFFFFF) (ltb v most) refl refl
  where
    by : (a b : Bool) → eqb v 0xFFFFFFFF ≡ a → ltb v most ≡ b
        → ((place : Option ℕ) × IsBelow most place × (place_or_none place ≡ v)) ⊎
        (range_fault most v fault ≡ Some fault)
    by true b ea eb = inl (None, tt, sym (eqb-true v 0xFFFFFFFF ea))
    by false true ea eb = inl (Some v, ltb-true v most eb, refl)
    by false false ea eb = inr (rw (ea, eb) refl)

-- the first 0x0A is behind a line
pub newline_found : (most : ℕ) (s : List ℕ) (k : ℕ) → AreBytes s → newline most s ≡ Some k
    → (line : List ℕ) × (rest : List ℕ) × (s ≡ line ++ 0x0A ∷ rest) × AreInLine line × (length line ≡ k) × (k < most)
unfolding newline
newline_found zero s k h e = absurd (cc)
newline_found (suc most) [] k h e = absurd (cc)
newline_found (suc most) (b ∷ s) k h e = by (eqb b 0x0A) (newline most s) refl refl e (newline_found most s)
  where
    by : (t : Bool) (o : Option ℕ) → eqb b 0x0A ≡ t → newline most s ≡ o
        → (if t then Some 0 else option_map (λ k. suc k) o) ≡ Some k
        → ((j : ℕ) → AreBytes s → newline most s ≡ Some j
        → (line : List ℕ) × (rest : List ℕ) × (s ≡ line ++ 0x0A ∷ rest) × AreInLine line × (length line ≡ j)
        × (j < most))
        → (line : List ℕ) × (rest : List ℕ) × (b ∷ s ≡ line ++ 0x0A ∷ rest) × AreInLine line × (length line ≡ k)
        × (k < suc most)
    by true o et eo q ih =
        let same : b ≡ 0x0A = eqb-true b 0x0A et in
        let zero_is : 0 ≡ k = cc in
        ([], s, ap (λ x. x ∷ s) same, tt, zero_is, omega arith)
    by false None et eo q ih = absurd (cc)
    by false (Some j) et eo q ih =
        let r = ih j h.1 eo in
        let suc_is : suc j ≡ k = cc in
        let len : length r.0 ≡ j = r.4 in
        let low : j < most = r.5 in
        (b ∷ r.0, r.1, ap (λ x. b ∷ x) r.2, (h.0, eqb-false b 0x0A et, r.3), ap suc len ∙ suc_is, omega arith)

pub take_line : (line rest : List ℕ) → take (suc (length line)) (line ++ 0x0A ∷ rest) ≡ line ++ 0x0A ∷ []
take_line [] rest = refl
take_line (b ∷ line) rest = ap (λ x. b ∷ x) (take_line line rest)

number_inside : (C : Context) (width : ℕ) (little : Bool) (at : Point) → Within at → at.nodes ≤ most_nodes
    → Enough width at
    → Inside C.order (IsLeaf C (Number width little)) (λ q w. leaf_fault C (Number width little) q ≡ Some w) at
number_inside C width little at w n (inl r) = inr (r.0, r.1)
number_inside C width little at w n (inr r) =
    let order = little || is_little C.order in
    let v = number_at order width at.left in
    let t = number_taken order width at.left w.bytes r.1 in
    inl (
      node.Num width little v,
      skip width at,
      0,
      (v, refl, t.1),
      refl,
      passes_skip width at
          (number order width v) t.0 r.1 r.2 n,
    )

line_inside : (C : Context) (at : Point) → Within at → at.nodes ≤ most_nodes → (o : Option ℕ)
    → newline 256 at.left ≡ o → Enough (line_needs o) at
    → Inside C.order (IsLeaf C Line) (λ q w. leaf_fault C Line q ≡ Some w) at
line_inside C at w n None e (inl r) =
    let P : Option ℕ → Type 0 = λ o. or_else (shortage (line_needs o) at) (line_fault o at.place) ≡ Some r.0 in
    inr (r.0, subst P (sym e) (ap (λ x. or_else x (line_fault None at.place)) r.1))
line_inside C at w n None e (inr r) =
    let P : Option ℕ → Type 0 = λ o. or_else (shortage (line_needs o) at) (line_fault o at.place) ≡ Some (LineTooLong at.place) in
    inr (LineTooLong at.place, subst P (sym e) (ap (λ x. or_else x (line_fault None at.place)) r.0))
line_inside C at w n (Some k) e (inl r) =
    let P : Option ℕ → Type 0 = λ o. or_else (shortage (line_needs o) at) (line_fault o at.place) ≡ Some r.0 in
    inr (r.0, subst P (sym e) (ap (λ x. or_else x (line_fault (Some k) at.place)) r.1))
line_inside C at w n (Some k) e (inr r) =
    let f = newline_found 256 at.left k w.bytes e in
    let len : length f.0 ≡ k = f.4 in
    let low : k < 256 = f.5 in
    let P : ℕ → Type 0 = λ j. f.0 ++ 0x0A ∷ [] ≡ take (suc j) at.left in
    let t : f.0 ++ 0x0A ∷ [] ≡ take (suc k) at.left =
    subst P len (sym (take_line f.0 f.1) ∙ ap (λ s. take (suc (length f.0)) s) (sym f.2)) in
    inl (
      node.Line f.0,
      skip (suc k) at,
      0,
      (f.0, refl, f.3, omega arith),
      refl,
      passes_skip (suc k) at
          (f.0 ++ 0x0A ∷ []) t r.1 r.2 n,
    )

place_inside : (order : Order) (V : Node → Type 0) (make : Option ℕ → Node) (most : ℕ) (fault : Fault) (at : Point)
    → ((p : Option ℕ) → IsBelow most p → V (make p)) → ((p : Option ℕ) → nodes (make p) ≡ 1)
    → ((p : Option ℕ) → text order (make p) ≡ number (is_little order) 4 (place_or_none p))
    → Within at → at.nodes ≤ most_nodes → Enough 4 at
    → Inside order V (λ q w. or_else (shortage 4 q) (range_fault most (number_at (is_little order) 4 q.left) fault)
    ≡ Some w) at
place_inside order V make most fault at holds one spelled w n (inl r) =
    inr (r.0, ap (λ x. or_else x (range_fault most (number_at (is_little order) 4 at.left) fault)) r.1)
place_inside order V make most fault at holds one spelled w n (inr r) = by (place_of most v fault t.1)
  where
    v : ℕ
    v = number_at (is_little order) 4 at.left

    t : (number (is_little order) 4 v ≡ take 4 at.left) × (v < 256 ^ 4)
    t = number_taken (is_little order) 4 at.left w.bytes r.1

    by : (((place : Option ℕ) × IsBelow most place × (place_or_none place ≡ v))
        ⊎ (range_fault most v fault ≡ Some fault))
        → Inside order V (λ q w. or_else (shortage 4 q) (range_fault most (number_at (is_little order) 4 q.left) fault)
        ≡ Some w) at
    by (inl p) =
        let e : text order (make p.0) ≡ take 4 at.left = spelled p.0 ∙ ap (λ x. number (is_little order) 4 x) p.2 ∙ t.0 in
        inl (make p.0, skip 4 at, 0, holds p.0 p.1, one p.0, passes_skip 4 at (text order (make p.0)) e r.1 r.2 n)
    by (inr p) = inr (fault, ap (λ x. or_else x (range_fault most v fault)) r.0 ∙ p)

pub leaf_decides_number : (C : Context) (width : ℕ) (little : Bool)
    → Decides C.order (IsLeaf C (Number width little)) (LeafFails C (Number width little))
leaf_decides_number C width little at w =
    counted_decides C.order (IsLeaf C (Number width little)) (λ q x. leaf_fault C (Number width little) q ≡ Some x)
    (λ q hw hn. number_inside C width little q hw hn (enough width q)) at w

pub leaf_decides_line : (C : Context) → Decides C.order (IsLeaf C Line) (LeafFails C Line)
leaf_decides_line C at w =
    counted_decides C.order (IsLeaf C Line) (λ q x. leaf_fault C Line q ≡ Some x)
    (λ q hw hn. line_inside C q hw hn (newline 256 q.left) refl (enough (line_needs (newline 256 q.left)) q)) at w

pub leaf_decides_ref : (C : Context) (strong : Bool) (wanted : Option ℕ)
    → Decides C.order (IsLeaf C (Ref strong wanted)) (LeafFails C (Ref strong wanted))
leaf_decides_ref C strong wanted at w =
    counted_decides C.order (IsLeaf C (Ref strong wanted)) (λ q x. leaf_fault C (Ref strong wanted) q ≡ Some x)
    (λ q hw hn. place_inside C.order (IsLeaf C (Ref strong wanted)) (λ p. node.Ref strong wanted p) C.blocks
    (RefRange q.place (number_at (is_little C.order) 4 q.left)) q (λ p h. (p, refl, h)) (λ p. refl) (λ p. refl) hw hn
    (enough 4 q)) at w

pub leaf_decides_text : (C : Context) → Decides C.order (IsLeaf C Text) (LeafFails C Text)
leaf_decides_text C at w =
    counted_decides C.order (IsLeaf C Text) (λ q x. leaf_fault C Text q ≡ Some x)
    (λ q hw hn. place_inside C.order (IsLeaf C Text) (λ p. node.Text p) C.strings
    (StringRange q.place (number_at (is_little C.order) 4 q.left)) q (λ p h. (p, refl, h)) (λ p. refl) (λ p. refl) hw hn
    (enough 4 q)) at w
