-- Another target of a reference.
use Rattle.std.proofs.Common.{ℕ, zero, suc, ◌<◌, ◌≤◌, ◌+◌, ◌-◌, ◌≡◌, List, [], ◌∷◌, ◌++◌, length, map, slice_get, slice_set, Bool, true, false, if◌then◌else◌, nat_lt, Option, Some, refl, sym, ◌∙◌, ap, ap₂, arith, inl, inr, length-append}
use Rattle.std.proofs.lemmas.Bool.Decides.{leb_tells}
use Rattle.std.proofs.lemmas.List.{map-append, length-map, set-append_left, set-append_right}
use Rattle.nif_base.specs.Node.{Node, Members, End, Here, Absent, Num, Line, Ref, Text, Bytes, Group, Row, Reference, refs, refs_in, nodes, nodes_in, text, texts}
use Rattle.nif_base.specs.declared.orders.Order.TheVariants.{Little}
use Rattle.nif_cells.specs.Building.{with_target, with_target_in, bytes_of}
use Rattle.nif_cells.specs.Walks.{count}
use Rattle.nif_cells.specs.Small.{HasBytes, HasBytesIn}
use Rattle.nif_cells.specs.Encoding.{contents, contents_in, tree_contents, index_from, places_from, view_of, aimed}
use Rattle.nif_cells.specs.Laws.{TakesTarget}
use Rattle.nif_cells.specs.declared.contents.Content.{Content}
use Rattle.nif_cells.specs.declared.contents.Content.TheVariants.{Place}
use Rattle.nif_cells.specs.declared.contents.Content.TheVariants as content
use Rattle.nif_cells.specs.declared.steps.RefView.{RefView}
use Rattle.nif_cells.specs.PlaceLaws.{views, views-node, views-members, places-more, places-count, there, place-is, get-before, get-behind}

-- cells, the k-th reference of which has another target
abbrev aimed_at : Option ℕ → List Content → ℕ → List Content
aimed_at target [] k = []
aimed_at target (content.Reference view ∷ rest) zero = content.Reference (aimed target view) ∷ rest
aimed_at target (content.Reference view ∷ rest) (suc k) = content.Reference view ∷ aimed_at target rest k
aimed_at target (c ∷ rest) k = c ∷ aimed_at target rest k

aimed-front : (target : Option ℕ) (a b : List Content) (k : ℕ) → k < length (views a)
    → aimed_at target (a ++ b) k ≡ aimed_at target a k ++ b
aimed-front target [] b k l = absurd (omega arith)
aimed-front target (content.Reference view ∷ rest) b zero l = refl
aimed-front target (content.Reference view ∷ rest) b (suc k) l =
    ap (λ r. content.Reference view ∷ r) (aimed-front target rest b k (omega arith))
aimed-front target (c ∷ rest) b k l = ap (λ r. c ∷ r) (aimed-front target rest b k l)

aimed-behind : (target : Option ℕ) (a b : List Content) (k j : ℕ) → k ≡ length (views a) + j
    → aimed_at target (a ++ b) k ≡ a ++ aimed_at target b j
aimed-behind target [] b k j e = ap (λ n. aimed_at target b n) (omega arith)
aimed-behind target (content.Reference view ∷ rest) b zero j e = absurd (omega arith)
aimed-behind target (content.Reference view ∷ rest) b (suc k) j e =
    ap (λ r. content.Reference view ∷ r) (aimed-behind target rest b k j (omega arith))
aimed-behind target (c ∷ rest) b k j e = ap (λ r. c ∷ r) (aimed-behind target rest b k j e)

-- setting the cell at its place is that
aimed-set : (target : Option ℕ) (at : ℕ) (cs : List Content) (k j : ℕ) (view : RefView)
    → slice_get (places_from at cs) k ≡ Some (at + j) → slice_get cs j ≡ Some (content.Reference view)
    → slice_set cs j (content.Reference (aimed target view)) ≡ aimed_at target cs k
aimed-set target at [] k j view place is = absurd (cc)
aimed-set target at (content.Reference v ∷ rest) zero zero view place is =
    let same : v ≡ view = cc in
    ap (λ w. content.Reference (aimed target w) ∷ rest) (sym same)
aimed-set target at (content.Reference v ∷ rest) zero (suc j) view place is =
    absurd (let same : at ≡ at + suc j = cc in omega arith)
aimed-set target at (content.Reference v ∷ rest) (suc k) zero view place is =
    absurd (let t = there (suc at) rest k (at + 0) place in let e = t.place in omega arith)
aimed-set target at (content.Reference v ∷ rest) (suc k) (suc j) view place is =
    let next : slice_get (places_from (suc at) rest) k ≡ Some (suc at + j) = place ∙ ap (λ n. Some n) (omega arith) in
    ap (λ r. content.Reference v ∷ r) (aimed-set target (suc at) rest k j view next is)
aimed-set target at (c ∷ rest) k zero view place is = absurd (cc)
aimed-set target at (c ∷ rest) k (suc j) view place is =
    let next : slice_get (places_from (suc at) rest) k ≡ Some (suc at + j) = place ∙ ap (λ n. Some n) (omega arith) in
    ap (λ r. c ∷ r) (aimed-set target (suc at) rest k j view next is)

-- as many members as before
target-count : (members : Members) (k : ℕ) (target : Option ℕ) → count (with_target_in k target members) ≡ count members
target-count End k target = refl
target-count (Here n rest) k target =
    elim (nat_lt k (length (refs n))) as (λ t. count
    (if t then Here (with_target k target n) rest else Here n (with_target_in (k - length (refs n)) target rest))
    ≡ 1 + count rest) [
      | true ↦ refl
      | false ↦ ap (λ c. 1 + c) (target-count rest (k - length (refs n)) target)
    ]
target-count (Absent rest) k target = ap (λ c. 1 + c) (target-count rest k target)

views-length : (n : Node) → length (views (contents n)) ≡ length (refs n)
views-length n = ap length (views-node n) ∙ length-map (refs n) _

views_in-length : (members : Members) → length (views (contents_in members)) ≡ length (refs_in members)
views_in-length members = ap length (views-members members) ∙ length-map (refs_in members) _

mutual
  aimed-node : (n : Node) (k : ℕ) (target : Option ℕ) → k < length (refs n)
      → aimed_at target (contents n) k ≡ contents (with_target k target n)
  aimed-node (Num width little bits) k target l = absurd (omega arith)
  aimed-node (Line bytes) k target l = absurd (omega arith)
  aimed-node (Ref strong wanted old) zero target l = refl
  aimed-node (Ref strong wanted old) (suc k) target l = absurd (omega arith)
  aimed-node (Text index) k target l = absurd (omega arith)
  aimed-node (Bytes bytes) k target l = absurd (omega arith)
  aimed-node (Group members) k target l =
      ap (λ r. content.Group (count members) ∷ r) (aimed-front target (contents_in members) (content.End ∷ []) k
      (let e = views_in-length members in omega arith))
      ∙ ap₂ (λ c r. content.Group c ∷ r ++ content.End ∷ []) (sym (target-count members k target))
      (aimed-members members k target l)
  aimed-node (Row items) k target l =
      ap (λ r. content.Row (count items) ∷ r) (aimed-front target (contents_in items) (content.End ∷ []) k
      (let e = views_in-length items in omega arith))
      ∙ ap₂ (λ c r. content.Row c ∷ r ++ content.End ∷ []) (sym (target-count items k target))
      (aimed-members items k target l)

  aimed-members : (members : Members) (k : ℕ) (target : Option ℕ) → k < length (refs_in members)
      → aimed_at target (contents_in members) k ≡ contents_in (with_target_in k target members)
  aimed-members End k target l = absurd (omega arith)
  aimed-members (Here n rest) k target l = elim (leb_tells (suc k) (length (refs n))) [
    | inl e ↦ rw e.0 (
        aimed-front target (contents n) (contents_in rest) k
        (let same = views-length n in let below = e.1 in omega arith)
        ∙ ap (λ c. c ++ contents_in rest) (aimed-node n k target (let below = e.1 in omega arith))
        )
    | inr e ↦ rw e.0 (
        aimed-behind target (contents n) (contents_in rest) k (k - length (refs n))
        (let same = views-length n in let above = e.1 in omega arith)
        ∙ ap (λ c. contents n ++ c) (aimed-members rest (k - length (refs n)) target
        (let above = e.1 in omega (arith, length-append (refs n) (refs_in rest))))
        )
  ]
  aimed-members (Absent rest) k target l = ap (λ r. content.Absent ∷ r) (aimed-members rest k target l)

below : {A : Type 0} → (xs : List A) (k : ℕ) (x : A) → slice_get xs k ≡ Some x → k < length xs
below [] k x e = absurd (cc)
below (y ∷ xs) zero x e = omega arith
below (y ∷ xs) (suc k) x e = let more = below xs k x e in omega arith

pub target-contents : (n : Node) (k p : ℕ) (target : Option ℕ) (view : RefView)
    → slice_get (places_from 0 (contents n)) k ≡ Some p → slice_get (contents n) p ≡ Some (content.Reference view)
    → slice_set (contents n) p (content.Reference
    (record { strong = view.strong; wanted = view.wanted; target = target })) ≡ contents (with_target k target n)
target-contents n k p target view at is =
    aimed-set target 0 (contents n) k p view (at ∙ ap (λ m. Some m) (omega arith)) is
    ∙ aimed-node n k target (let has = below (places_from 0
    (contents n)) k p at in let all = places-count 0 n in omega arith)

-- as many cells as before, and references at the same places
mutual
  target-length : (n : Node) (k : ℕ) (target : Option ℕ)
      → length (contents (with_target k target n)) ≡ length (contents n)
  target-length (Num width little bits) k target = refl
  target-length (Line bytes) k target = refl
  target-length (Ref strong wanted old) k target = refl
  target-length (Text index) k target = refl
  target-length (Bytes bytes) k target = refl
  target-length (Group members) k target = omega (
    arith,
    length-append (contents_in (with_target_in k target members)) (content.End ∷ []),
    length-append
        (contents_in members) (content.End ∷ []),
    target_in-length members k target,
  )
  target-length (Row items) k target = omega (
    arith,
    length-append (contents_in (with_target_in k target items))
        (content.End ∷ []),
    length-append (contents_in items) (content.End ∷ []),
    target_in-length items k target,
  )

  target_in-length : (members : Members) (k : ℕ) (target : Option ℕ)
      → length (contents_in (with_target_in k target members)) ≡ length (contents_in members)
  target_in-length End k target = refl
  target_in-length (Here n rest) k target =
      elim (nat_lt k (length (refs n))) as (λ t. length
      (contents_in (if t then Here (with_target k target n) rest
      else Here n (with_target_in (k - length (refs n)) target rest))) ≡ length (contents n ++ contents_in rest)) [
        | true ↦ omega (
          arith,
          length-append (contents (with_target k target n)) (contents_in rest),
          length-append
              (contents n) (contents_in rest),
          target-length n k target,
        )
        | false ↦ omega (
          arith,
          length-append (contents n)
              (contents_in (with_target_in (k - length (refs n)) target rest)),
          length-append (contents n)
              (contents_in rest),
          target_in-length rest (k - length (refs n)) target,
        )
      ]
  target_in-length (Absent rest) k target = ap suc (target_in-length rest k target)

-- the places of some cells and then others, where the first are as many
places-beside : (at : ℕ) (a a' b b' : List Content) → length a ≡ length a' → places_from at a ≡ places_from at a'
    → ((from : ℕ) → places_from from b ≡ places_from from b') → places_from at (a ++ b) ≡ places_from at (a' ++ b')
places-beside at a a' b b' long first second =
    places-more at a b ∙ ap (λ l. l ++ places_from (at + length a) b) first
    ∙ ap (λ l. places_from at a' ++ l) (second (at + length a))
    ∙ ap (λ n. places_from at a' ++ places_from (at + n) b') long ∙ sym (places-more at a' b')

mutual
  pub target-places : (n : Node) (k at : ℕ) (target : Option ℕ)
      → places_from at (contents (with_target k target n)) ≡ places_from at (contents n)
  target-places (Num width little bits) k at target = refl
  target-places (Line bytes) k at target = refl
  target-places (Ref strong wanted old) k at target = refl
  target-places (Text index) k at target = refl
  target-places (Bytes bytes) k at target = refl
  target-places (Group members) k at target =
      places-beside (suc at) (contents_in (with_target_in k target members)) (contents_in members) (content.End ∷ [])
      (content.End ∷ []) (target_in-length members k target) (target_in-places members k (suc at) target)
      (λ from. refl)
  target-places (Row items) k at target =
      places-beside (suc at) (contents_in (with_target_in k target items)) (contents_in items) (content.End ∷ [])
      (content.End ∷ []) (target_in-length items k target) (target_in-places items k (suc at) target) (λ from. refl)

  target_in-places : (members : Members) (k at : ℕ) (target : Option ℕ)
      → places_from at (contents_in (with_target_in k target members)) ≡ places_from at (contents_in members)
  target_in-places End k at target = refl
  target_in-places (Here n rest) k at target =
      elim (nat_lt k (length (refs n))) as (λ t. places_from at
      (contents_in (if t then Here (with_target k target n) rest
      else Here n (with_target_in (k - length (refs n)) target rest)))
      ≡ places_from at (contents n ++ contents_in rest)) [
        | true ↦ places-beside at (contents (with_target k target n)) (contents n) (contents_in rest) (contents_in rest)
            (target-length n k target) (target-places n k at target) (λ from. refl)
        | false ↦ places-beside at (contents n) (contents n)
            (contents_in (with_target_in (k - length (refs n)) target rest)) (contents_in rest) refl refl
            (λ from. target_in-places rest (k - length (refs n)) from target)
      ]
  target_in-places (Absent rest) k at target = target_in-places rest k (suc at) target

pub target-tree : (n : Node) (k p : ℕ) (target : Option ℕ) (view : RefView)
    → slice_get (places_from 0 (contents n)) k ≡ Some p → slice_get (contents n) p ≡ Some (content.Reference view)
    → slice_set (tree_contents n) p (content.Reference
    (record { strong = view.strong; wanted = view.wanted; target = target }))
    ≡ tree_contents (with_target k target n)
target-tree n k p target view at is =
    set-append_left (contents n) (index_from 0 (places_from 0 (contents n))) p (content.Reference (aimed target view))
    (below (contents n) p (content.Reference view) is)
    ∙ ap₂ (λ c l. c ++ index_from 0 l) (target-contents n k p target view at is) (sym (target-places n k 0 target))

mutual
  pub target-small : (n : Node) (k : ℕ) (target : Option ℕ) → HasBytes n → HasBytes (with_target k target n)
  target-small (Num width little bits) k target small = small
  target-small (Line bytes) k target small = small
  target-small (Ref strong wanted old) k target small = small
  target-small (Text index) k target small = small
  target-small (Bytes bytes) k target small = small
  target-small (Group members) k target small = target_in-small members k target small
  target-small (Row items) k target small = target_in-small items k target small

  target_in-small : (members : Members) (k : ℕ) (target : Option ℕ) → HasBytesIn members
      → HasBytesIn (with_target_in k target members)
  target_in-small End k target small = small
  target_in-small (Here n rest) k target small =
      elim (nat_lt k (length (refs n))) as (λ t. HasBytesIn
      (if t then Here (with_target k target n) rest
      else Here n (with_target_in (k - length (refs n)) target rest))) [
        | true ↦ (target-small n k target small.0, small.1)
        | false ↦ (small.0, target_in-small rest (k - length (refs n)) target small.1)
      ]
  target_in-small (Absent rest) k target small = target_in-small rest k target small

mutual
  pub target-nodes : (n : Node) (k : ℕ) (target : Option ℕ) → nodes (with_target k target n) ≡ nodes n
  target-nodes (Num width little bits) k target = refl
  target-nodes (Line bytes) k target = refl
  target-nodes (Ref strong wanted old) k target = refl
  target-nodes (Text index) k target = refl
  target-nodes (Bytes bytes) k target = refl
  target-nodes (Group members) k target = ap (λ c. 1 + c) (target_in-nodes members k target)
  target-nodes (Row items) k target = ap (λ c. 1 + c) (target_in-nodes items k target)

  target_in-nodes : (members : Members) (k : ℕ) (target : Option ℕ)
      → nodes_in (with_target_in k target members) ≡ nodes_in members
  target_in-nodes End k target = refl
  target_in-nodes (Here n rest) k target =
      elim (nat_lt k (length (refs n))) as (λ t. nodes_in
      (if t then Here (with_target k target n) rest else Here n (with_target_in (k - length (refs n)) target rest))
      ≡ nodes n + nodes_in rest) [
        | true ↦ ap (λ c. c + nodes_in rest) (target-nodes n k target)
        | false ↦ ap (λ c. nodes n + c) (target_in-nodes rest (k - length (refs n)) target)
      ]
  target_in-nodes (Absent rest) k target = ap (λ c. 1 + c) (target_in-nodes rest k target)

mutual
  pub target-bytes_of : (n : Node) (k : ℕ) (target : Option ℕ) → bytes_of (with_target k target n) ≡ bytes_of n
  target-bytes_of (Num width little bits) k target = refl
  target-bytes_of (Line bytes) k target = refl
  target-bytes_of (Ref strong wanted old) k target = refl
  target-bytes_of (Text index) k target = refl
  target-bytes_of (Bytes bytes) k target = refl
  target-bytes_of (Group members) k target = target_in-bytes_of members k target
  target-bytes_of (Row items) k target = target_in-bytes_of items k target

  target_in-bytes_of : (members : Members) (k : ℕ) (target : Option ℕ)
      → length (texts Little (with_target_in k target members)) ≡ length (texts Little members)
  target_in-bytes_of End k target = refl
  target_in-bytes_of (Here n rest) k target =
      elim (nat_lt k (length (refs n))) as (λ t. length
      (texts Little (if t then Here (with_target k target n) rest
      else Here n (with_target_in (k - length (refs n)) target rest)))
      ≡ length (text Little n ++ texts Little rest)) [
        | true ↦ omega (
          arith,
          length-append (text Little (with_target k target n)) (texts Little rest),
          length-append
              (text Little n) (texts Little rest),
          target-bytes_of n k target,
        )
        | false ↦ omega (
          arith,
          length-append (text Little n)
              (texts Little (with_target_in (k - length (refs n)) target rest)),
          length-append (text Little n)
              (texts Little rest),
          target_in-bytes_of rest (k - length (refs n)) target,
        )
      ]
  target_in-bytes_of (Absent rest) k target = target_in-bytes_of rest k target

-- what of each reference doesn't go by its target stays
module _ {A : Type 0} (f : Reference → A) (same : (strong : Bool) (wanted old new : Option ℕ)
    → f (record { strong = strong; wanted = wanted; target = old })
    ≡ f (record { strong = strong; wanted = wanted; target = new })) where
  mutual
    pub target-kept : (n : Node) (k : ℕ) (target : Option ℕ) → map f (refs (with_target k target n)) ≡ map f (refs n)
    target-kept (Num width little bits) k target = refl
    target-kept (Line bytes) k target = refl
    target-kept (Ref strong wanted old) k target = ap (λ x. x ∷ []) (same strong wanted target old)
    target-kept (Text index) k target = refl
    target-kept (Bytes bytes) k target = refl
    target-kept (Group members) k target = target_in-kept members k target
    target-kept (Row items) k target = target_in-kept items k target

    target_in-kept : (members : Members) (k : ℕ) (target : Option ℕ)
        → map f (refs_in (with_target_in k target members)) ≡ map f (refs_in members)
    target_in-kept End k target = refl
    target_in-kept (Here n rest) k target =
        elim (nat_lt k (length (refs n))) as (λ t. map f
        (refs_in (if t then Here (with_target k target n) rest
        else Here n (with_target_in (k - length (refs n)) target rest))) ≡ map f (refs n ++ refs_in rest)) [
          | true ↦ map-append f (refs (with_target k target n)) (refs_in rest)
              ∙ ap (λ l. l ++ map f (refs_in rest)) (target-kept n k target)
              ∙ sym (map-append f (refs n) (refs_in rest))
          | false ↦ map-append f (refs n) (refs_in (with_target_in (k - length (refs n)) target rest))
              ∙ ap (λ l. map f (refs n) ++ l) (target_in-kept rest (k - length (refs n)) target)
              ∙ sym (map-append f (refs n) (refs_in rest))
        ]
    target_in-kept (Absent rest) k target = target_in-kept rest k target

pub target-strong : (n : Node) (k : ℕ) (target : Option ℕ)
    → map (λ r. r.strong) (refs (with_target k target n)) ≡ map (λ r. r.strong) (refs n)
target-strong n k target = target-kept (λ r. r.strong) (λ strong wanted old new. refl) n k target

pub target-wanted : (n : Node) (k : ℕ) (target : Option ℕ)
    → map (λ r. r.wanted) (refs (with_target k target n)) ≡ map (λ r. r.wanted) (refs n)
target-wanted n k target = target-kept (λ r. r.wanted) (λ strong wanted old new. refl) n k target

-- the references, one of them with another target
mutual
  pub target-refs : (n : Node) (k : ℕ) (target : Option ℕ) (r : Reference) → slice_get (refs n) k ≡ Some r
      → refs (with_target k target n) ≡ slice_set (refs n) k
      (record { strong = r.strong; wanted = r.wanted; target = target })
  target-refs (Num width little bits) k target r is = absurd (cc)
  target-refs (Line bytes) k target r is = absurd (cc)
  target-refs (Ref strong wanted old) zero target r is =
      let same : record { strong = strong; wanted = wanted; target = old } ≡ r = cc in
      ap (λ x. record { strong = x.strong; wanted = x.wanted; target = target } ∷ []) same
  target-refs (Ref strong wanted old) (suc k) target r is = absurd (cc)
  target-refs (Text index) k target r is = absurd (cc)
  target-refs (Bytes bytes) k target r is = absurd (cc)
  target-refs (Group members) k target r is = target_in-refs members k target r is
  target-refs (Row items) k target r is = target_in-refs items k target r is

  target_in-refs : (members : Members) (k : ℕ) (target : Option ℕ) (r : Reference)
      → slice_get (refs_in members) k ≡ Some r
      → refs_in (with_target_in k target members) ≡ slice_set (refs_in members) k
      (record { strong = r.strong; wanted = r.wanted; target = target })
  target_in-refs End k target r is = absurd (cc)
  target_in-refs (Here n rest) k target r is = elim (leb_tells (suc k) (length (refs n))) [
    | inl e ↦
        let within : k < length (refs n) = let l = e.1 in omega arith in
        rw e.0 (
        ap (λ l. l ++ refs_in rest) (target-refs n k target r (sym (get-before (refs n) (refs_in rest) k within) ∙ is))
        ∙ sym (set-append_left (refs n) (refs_in rest) k
        (record { strong = r.strong; wanted = r.wanted; target = target }) within)
        )
    | inr e ↦
        let past : length (refs n) ≤ k = let l = e.1 in omega arith in
        let there_ : length (refs n) + (k - length (refs n)) ≡ k = omega arith in
        let tail : slice_get (refs_in rest) (k - length (refs n)) ≡ Some r =
        sym (get-behind (refs n) (refs_in rest) (k - length (refs n)))
        ∙ ap (λ m. slice_get (refs n ++ refs_in rest) m) there_ ∙ is in
        rw e.0 (
        ap (λ l. refs n ++ l) (target_in-refs rest (k - length (refs n)) target r tail)
        ∙ sym (set-append_right (refs n) (refs_in rest) (length (refs n)) k
        (record { strong = r.strong; wanted = r.wanted; target = target }) refl past)
        )
  ]
  target_in-refs (Absent rest) k target r is = target_in-refs rest k target r is

pub takes_target : (n : Node) (k : ℕ) (target : Option ℕ) → TakesTarget n k target
takes_target n k target place reference kth at =
    target-tree n k place target (view_of reference) at (place-is n k place reference kth at).1
