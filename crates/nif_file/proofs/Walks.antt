-- Parts of a file, one behind another: each is read from one point to the next, or it fails.
use Rattle.std.proofs.Common.{◌≡◌, ℕ, ◌≤◌, ◌⊎◌, inl, inr, Option, Some, None, List, ◌++◌, refl, sym, ◌∙◌, ap, subst, subst₂}
use Rattle.nif_layout.specs.Leaf.{AreBytes}
use Rattle.nif_base.specs.Limits.{most_file_bytes, most_nodes}
use Rattle.nif_layout.specs.Fault.{Point, Passes}
use Rattle.nif_layout.specs.ByteLaws.{bytes_behind}
use Rattle.nif_file.specs.Stops.{Stop}

-- A point within the limits, with bytes behind it.
pub record Within (at : Point) : Type 0 where
  pub place : at.place ≤ most_file_bytes
  pub nodes : at.nodes ≤ most_nodes
  pub bytes : AreBytes at.left

-- How a part is read: from one point to the next.
abbrev pub Reading : Type 0 → Type 1
Reading X = X → Point → Point → Type 0

abbrev pub Failing : Type 1
Failing = Point → Stop → Type 0

-- At each point within the limits the part is read in one way, or it fails in one way, and not both.
pub record Sound {X : Type 0} (R : X → Point → Point → Type 0) (F : Point → Stop → Type 0) : Type 0 where
  pub stays : (x : X) (at next : Point) → Within at → R x at next → Within next
  pub excludes : (x : X) (at next : Point) (s : Stop) → Within at → R x at next → F at s → ⊥
  pub same : (x y : X) (at p q : Point) → Within at → R x at p → R y at q → (x ≡ y) × (p ≡ q)
  pub one : (at : Point) (s t : Stop) → Within at → F at s → F at t → s ≡ t
  pub decides : (at : Point) → Within at → ((x : X) × (next : Point) × R x at next) ⊎ ((s : Stop) × F at s)

pub within_behind : (s : List ℕ) (n : ℕ) (at next : Point) → Within at → Passes s n at next → Within next
within_behind s n at next w p =
    let b : AreBytes (s ++ next.left) = subst AreBytes p.here w.bytes in
    record { place = p.within; nodes = p.counted; bytes = bytes_behind s next.left b }

-- ---- one part behind another

abbrev pub Then : {X Y : Type 0} → (X → Point → Point → Type 0) → (X → Y → Point → Point → Type 0) → X × Y → Point → Point → Type 0
Then A B z at next = (mid : Point) × A z.0 at mid × B z.0 z.1 mid next

abbrev pub ThenFails : {X : Type 0} → (Point → Stop → Type 0) → (X → Point → Point → Type 0) → (X → Point → Stop → Type 0) → Point → Stop → Type 0
ThenFails {X} F A G at s = F at s ⊎ ((x : X) × (mid : Point) × A x at mid × G x mid s)

pub chain : {X Y : Type 0} (A : X → Point → Point → Type 0) (F : Point → Stop → Type 0) (B : X → Y → Point → Point → Type 0) (G : X → Point → Stop → Type 0)
    → Sound A F → ((x : X) (at mid : Point) → A x at mid → Sound (B x) (G x)) → Sound (Then A B) (ThenFails F A G)
chain {X} {Y} A F B G first rest = record { stays = stays; excludes = excludes; same = same; one = one; decides = decides }
  where
    stays : (z : X × Y) (at next : Point) → Within at → Then A B z at next → Within next
    stays z at next w r = (rest z.0 at r.0 r.1).stays z.1 r.0 next (first.stays z.0 at r.0 w r.1) r.2

    excludes : (z : X × Y) (at next : Point) (s : Stop) → Within at → Then A B z at next → ThenFails F A G at s → ⊥
    excludes z at next s w r (inl bad) = first.excludes z.0 at r.0 s w r.1 bad
    excludes z at next s w r (inr bad) =
        let e = first.same bad.0 z.0 at bad.1 r.0 w bad.2 r.1 in
        let P : X → Point → Type 0 = λ x p. G x p s in
        let moved : G z.0 r.0 s = subst₂ P e.0 e.1 bad.3 in
        (rest z.0 at r.0 r.1).excludes z.1 r.0 next s (first.stays z.0 at r.0 w r.1) r.2 moved

    same : (z y : X × Y) (at p q : Point) → Within at → Then A B z at p → Then A B y at q → (z ≡ y) × (p ≡ q)
    same z y at p q w r t =
        let e = first.same z.0 y.0 at r.0 t.0 w r.1 t.1 in
        let P : X → Point → Type 0 = λ x m. B x z.1 m p in
        let moved : B y.0 z.1 t.0 p = subst₂ P e.0 e.1 r.2 in
        let f = (rest y.0 at t.0 t.1).same z.1 y.1 t.0 p q (first.stays y.0 at t.0 w t.1) moved t.2 in
        (λ i. (e.0 i, f.0 i), f.1)

    one : (at : Point) (s t : Stop) → Within at → ThenFails F A G at s → ThenFails F A G at t → s ≡ t
    one at s t w (inl a) (inl b) = first.one at s t w a b
    one at s t w (inl a) (inr b) = absurd (first.excludes b.0 at b.1 s w b.2 a)
    one at s t w (inr a) (inl b) = absurd (first.excludes a.0 at a.1 t w a.2 b)
    one at s t w (inr a) (inr b) =
        let e = first.same a.0 b.0 at a.1 b.1 w a.2 b.2 in
        let P : X → Point → Type 0 = λ x p. G x p s in
        (rest b.0 at b.1 b.2).one b.1 s t (first.stays b.0 at b.1 w b.2) (subst₂ P e.0 e.1 a.3) b.3

    decides : (at : Point) → Within at → ((z : X × Y) × (next : Point) × Then A B z at next) ⊎ ((s : Stop) × ThenFails F A G at s)
    decides at w = by (first.decides at w)
      where
        behind : (x : X) (mid : Point) → A x at mid → (((y : Y) × (next : Point) × B x y mid next) ⊎ ((s : Stop) × G x mid s))
            → ((z : X × Y) × (next : Point) × Then A B z at next) ⊎ ((s : Stop) × ThenFails F A G at s)
        behind x mid a (inl r) = inl ((x, r.0), r.1, (mid, a, r.2))
        behind x mid a (inr r) = inr (r.0, inr (x, mid, a, r.1))

        by : (((x : X) × (mid : Point) × A x at mid) ⊎ ((s : Stop) × F at s))
            → ((z : X × Y) × (next : Point) × Then A B z at next) ⊎ ((s : Stop) × ThenFails F A G at s)
        by (inr r) = inr (r.0, inl r.1)
        by (inl r) = behind r.0 r.1 r.2 ((rest r.0 at r.1 r.2).decides r.1 (first.stays r.0 at r.1 w r.2))

-- ---- a part that may be refused before it

pub none_some : {A : Type 0} (o : Option A) (a : A) → o ≡ None → o ≡ Some a → ⊥
none_some o a n s = cc

pub some_same : {A : Type 0} (o : Option A) (a b : A) → o ≡ Some a → o ≡ Some b → a ≡ b
some_same o a b p q = let e : Some a ≡ Some b = sym p ∙ q in cc

abbrev pub Unless : {X : Type 0} → Option Stop → (X → Point → Point → Type 0) → X → Point → Point → Type 0
Unless refused R x at next = (refused ≡ None) × R x at next

abbrev pub UnlessFails : Option Stop → (Point → Stop → Type 0) → Point → Stop → Type 0
UnlessFails refused F at s = (refused ≡ Some s) ⊎ ((refused ≡ None) × F at s)

pub unless : {X : Type 0} (refused : Option Stop) (R : X → Point → Point → Type 0) (F : Point → Stop → Type 0)
    → (refused ≡ None → Sound R F) → Sound (Unless refused R) (UnlessFails refused F)
unless {X} refused R F part = record {
  stays = λ x at next w r. (part r.0).stays x at next w r.1;
  excludes = excludes;
  same = λ x y at p q w r t. (part r.0).same x y at p q w r.1 t.1;
  one = one;
  decides = λ at w. by refused refl at w;
}
  where
    excludes : (x : X) (at next : Point) (s : Stop) → Within at → Unless refused R x at next → UnlessFails refused F at s → ⊥
    excludes x at next s w r (inl bad) = none_some refused s r.0 bad
    excludes x at next s w r (inr bad) = (part r.0).excludes x at next s w r.1 bad.1

    one : (at : Point) (s t : Stop) → Within at → UnlessFails refused F at s → UnlessFails refused F at t → s ≡ t
    one at s t w (inl a) (inl b) = some_same refused s t a b
    one at s t w (inl a) (inr b) = absurd (none_some refused s b.0 a)
    one at s t w (inr a) (inl b) = absurd (none_some refused t a.0 b)
    one at s t w (inr a) (inr b) = (part a.0).one at s t w a.1 b.1

    either : (at : Point) → refused ≡ None → (((x : X) × (next : Point) × R x at next) ⊎ ((s : Stop) × F at s))
        → ((x : X) × (next : Point) × Unless refused R x at next) ⊎ ((s : Stop) × UnlessFails refused F at s)
    either at e (inl r) = inl (r.0, r.1, (e, r.2))
    either at e (inr r) = inr (r.0, inr (e, r.1))

    by : (o : Option Stop) → refused ≡ o → (at : Point) → Within at
        → ((x : X) × (next : Point) × Unless refused R x at next) ⊎ ((s : Stop) × UnlessFails refused F at s)
    by (Some s) e at w = inr (s, inl e)
    by None e at w = either at e ((part e).decides at w)

-- ---- the same part, seen in another way

pub viewed : {X Y : Type 0} (R : X → Point → Point → Type 0) (Q : Y → Point → Point → Type 0) (F : Point → Stop → Type 0) (f : X → Y)
    → ((x : X) (at next : Point) → R x at next → Q (f x) at next)
    → ((y : Y) (at next : Point) → Q y at next → (x : X) × (y ≡ f x) × R x at next)
    → Sound R F → Sound Q F
viewed {X} {Y} R Q F f there back part = record { stays = stays; excludes = excludes; same = same; one = part.one; decides = λ at w. by at (part.decides at w) }
  where
    stays : (y : Y) (at next : Point) → Within at → Q y at next → Within next
    stays y at next w q = let b = back y at next q in part.stays b.0 at next w b.2

    excludes : (y : Y) (at next : Point) (s : Stop) → Within at → Q y at next → F at s → ⊥
    excludes y at next s w q bad = let b = back y at next q in part.excludes b.0 at next s w b.2 bad

    same : (y z : Y) (at p q : Point) → Within at → Q y at p → Q z at q → (y ≡ z) × (p ≡ q)
    same y z at p q w r t =
        let a = back y at p r in
        let b = back z at q t in
        let e = part.same a.0 b.0 at p q w a.2 b.2 in
        (a.1 ∙ ap f e.0 ∙ sym b.1, e.1)

    by : (at : Point) → (((x : X) × (next : Point) × R x at next) ⊎ ((s : Stop) × F at s)) → ((y : Y) × (next : Point) × Q y at next) ⊎ ((s : Stop) × F at s)
    by at (inl r) = inl (f r.0, r.1, there r.0 at r.1 r.2)
    by at (inr r) = inr r

pub refailed : {X : Type 0} (R : X → Point → Point → Type 0) (F G : Point → Stop → Type 0) → ((at : Point) (s : Stop) → F at s → G at s) → ((at : Point) (s : Stop) → G at s → F at s)
    → Sound R F → Sound R G
refailed {X} R F G there back part = record {
  stays = part.stays;
  excludes = λ x at next s w r bad. part.excludes x at next s w r (back at s bad);
  same = part.same;
  one = λ at s t w a b. part.one at s t w (back at s a) (back at t b);
  decides = λ at w. by at (part.decides at w);
}
  where
    by : (at : Point) → (((x : X) × (next : Point) × R x at next) ⊎ ((s : Stop) × F at s)) → ((x : X) × (next : Point) × R x at next) ⊎ ((s : Stop) × G at s)
    by at (inl r) = inl r
    by at (inr r) = inr (r.0, there at r.0 r.1)
