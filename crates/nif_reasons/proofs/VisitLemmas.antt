-- Why each declaration whose walk of parents ends is visited once.
use Rattle.std.proofs.Common.{◌≡◌, ℕ, zero, suc, ◌+◌, ◌-◌, ◌<◌, ◌≤◌, ◌||◌, nat_eq, Bool, true, false, List, [], ◌∷◌, ◌++◌, length, Contains, ◌⊎◌, inl, inr, Option, Some, None, option_and_then, slice_get, Vec, set, refl, sym, ap, subst, ◌∙◌, arith}
use Rattle.std.specs.declared.alloc.Global.{Global}
use Rattle.std.specs.List.{IsDistinct, AllByRecursion, list_any}
use Rattle.std.proofs.lemmas.List.{length-append, length-set}
use Rattle.std.proofs.lemmas.List.Elements.{Contains-append_left, Contains-append_right, Contains-append_cases, Contains-push, Contains-push_cases}
use Rattle.std.proofs.lemmas.Map.Steps.{length-le_from_distinct_below}
use Rattle.std.proofs.lemmas.Bool.{eqb-true}
use Rattle.nif_schema.specs.Schema.{Schema, parent, ancestor}
use Rattle.nif_reasons.specs.Visits.{IsNext, AreInOrder, AreVisits, AreDifferent, AreBelow, AreChildren}
use Rattle.nif_reasons.specs.Ways.{last_or}
use Rattle.nif_reasons.proofs.ParentLemmas.{ancestor-up, ancestor-past, parent-within}
use Rattle.nif_reasons.proofs.Lists.{set-get}

-- members of a list
pub contains-here : (x : ℕ) (xs : List ℕ) → Contains (x ∷ xs) x
contains-here x xs = (0, omega arith, refl)

pub contains-there : (x : ℕ) (xs : List ℕ) (y : ℕ) → Contains xs y → Contains (x ∷ xs) y
contains-there x xs y h = Contains-append_right (x ∷ []) xs y h

pub contains-none : (y : ℕ) → Contains [] y → ⊥
contains-none y h = let lt = h.1 in omega (arith, lt)

pub contains-cases : (x : ℕ) (xs : List ℕ) (y : ℕ) → Contains (x ∷ xs) y → (x ≡ y) ⊎ Contains xs y
contains-cases x xs y h = elim (Contains-append_cases (x ∷ []) xs y h) [
  | inl one ↦ elim (Contains-push_cases [] x y one) [ inl none ↦ absurd (contains-none y none) | inr same ↦ inl same ]
  | inr more ↦ inr more
]

-- lists without repeats
apart : (k : ℕ) (xs : List ℕ) → (Contains xs k → ⊥) → AllByRecursion (λ y. nat_eq k y ≡ false) xs
apart k [] none = tt
apart k (x ∷ xs) none = (by (nat_eq k x) refl, apart k xs (λ h. none (contains-there x xs k h)))
  where
    by : (b : Bool) → nat_eq k x ≡ b → nat_eq k x ≡ false
    by false e = e
    by true e = absurd (none (subst (Contains (x ∷ xs)) (sym (eqb-true k x e)) (contains-here x xs)))

pub distinct : (xs : List ℕ) → AreDifferent xs → IsDistinct nat_eq xs
unfolding IsDistinct
distinct [] d = tt
distinct (x ∷ xs) d = (apart x xs d.0, distinct xs d.1)

any-contains : (q : ℕ) (xs : List ℕ) → list_any (nat_eq q) xs ≡ true → Contains xs q
any-contains q [] e = absurd (cc)
any-contains q (x ∷ xs) e = by (nat_eq q x) refl (any-contains q xs) e
  where
    by : (b : Bool) → nat_eq q x ≡ b → (list_any (nat_eq q) xs ≡ true → Contains xs q) → (b || list_any (nat_eq q) xs) ≡ true → Contains (x ∷ xs) q
    by true is more e = subst (Contains (x ∷ xs)) (sym (eqb-true q x is)) (contains-here x xs)
    by false is more e = contains-there x xs q (more e)

pub few : (xs : List ℕ) (n : ℕ) → AreDifferent xs → ((q : ℕ) → Contains xs q → q < n) → length xs ≤ n
few xs n d below = length-le_from_distinct_below xs n (distinct xs d) (λ q e. below q (any-contains q xs e))

pub different-push : (xs : List ℕ) (x : ℕ) → AreDifferent xs → (Contains xs x → ⊥) → AreDifferent (xs ++ x ∷ [])
different-push [] x d none = (contains-none x, tt)
different-push (y ∷ ys) x d none = (
  (λ h. elim (Contains-push_cases ys x y h) [
    | inl old ↦ d.0 old
    | inr same ↦ none (subst (λ z. Contains (y ∷ ys) z) (sym same) (contains-here y ys))
  ]),
  different-push ys x d.1 (λ h. none (contains-there y ys x h)),
)

-- the last of a list, and what may come behind it
pub last-pushed : (above : Option ℕ) (xs : List ℕ) (n : ℕ) → last_or above (xs ++ n ∷ []) ≡ Some n
last-pushed above [] n = refl
last-pushed above (x ∷ xs) n = last-pushed (Some x) xs n

module _ (S : Schema) where
  pub in-order-push : (before : Option ℕ) (xs : List ℕ) (n : ℕ) → AreInOrder S before xs → IsNext S (last_or before xs) n → AreInOrder S before (xs ++ n ∷ [])
  in-order-push before [] n is next = (next, tt)
  in-order-push before (x ∷ xs) n is next = (is.0, in-order-push (Some x) xs n is.1 next)

  -- Those that wait, the first of which is taken last: behind each that is taken earlier each may come.
  pub Stacked : List ℕ → Type 0
  Stacked [] = Unit {0}
  Stacked (y ∷ ys) = ((x : ℕ) → Contains ys x → (y ≡ x → ⊥) × IsNext S (Some x) y) × Stacked ys

  stacked-append : (xs ys : List ℕ) → Stacked xs → Stacked ys → ((y x : ℕ) → Contains xs y → Contains ys x → (y ≡ x → ⊥) × IsNext S (Some x) y) → Stacked (xs ++ ys)
  unfolding Stacked
  stacked-append [] ys a b cross = b
  stacked-append (z ∷ zs) ys a b cross = (
    (λ x h. elim (Contains-append_cases zs ys x h) [ inl old ↦ a.0 x old | inr new ↦ cross z x (contains-here z zs) new ]),
    stacked-append zs ys a.1 b (λ y x h. cross y x (contains-there z zs y h)),
  )

  stacked-front : (xs ys : List ℕ) → Stacked (xs ++ ys) → Stacked xs
  unfolding Stacked
  stacked-front [] ys a = tt
  stacked-front (z ∷ zs) ys a = ((λ x h. a.0 x (Contains-append_left zs ys x h)), stacked-front zs ys a.1)

  stacked-cross : (xs ys : List ℕ) (y x : ℕ) → Stacked (xs ++ ys) → Contains xs y → Contains ys x → (y ≡ x → ⊥) × IsNext S (Some x) y
  unfolding Stacked
  stacked-cross [] ys y x a h g = absurd (contains-none y h)
  stacked-cross (z ∷ zs) ys y x a h g = elim (contains-cases z zs y h) [
    | inl same ↦ subst (λ k. (k ≡ x → ⊥) × IsNext S (Some x) k) same (a.0 x (Contains-append_right zs ys x g))
    | inr more ↦ stacked-cross zs ys y x a.1 more g
  ]

  stacked-all : (xs : List ℕ) → AreDifferent xs → ((y x : ℕ) → Contains xs y → Contains xs x → IsNext S (Some x) y) → Stacked xs
  unfolding Stacked
  stacked-all [] d each = tt
  stacked-all (z ∷ zs) d each = (
    (λ x h. ((λ same. d.0 (subst (Contains zs) (sym same) h)), each z x (contains-here z zs) (contains-there z zs x h))),
    stacked-all zs d.1 (λ y x h g. each y x (contains-there z zs y h) (contains-there z zs x g)),
  )

  -- those that were visited, and those that wait
  pub record AreVisited (order waiting : List ℕ) : Type 0 where
    pub once : AreDifferent order
    pub stacked : Stacked waiting
    pub apart : (n : ℕ) → Contains order n → Contains waiting n → ⊥
    pub within : (n : ℕ) → Contains order n → n < length S
    pub waits : (n : ℕ) → Contains waiting n → n < length S
    pub ends : (n : ℕ) → Contains order n → ancestor S (length order) n ≡ None
    pub will_end : (n : ℕ) → Contains waiting n → ancestor S (suc (length order)) n ≡ None
    pub above : (n p : ℕ) → Contains order n → parent S n ≡ Some p → Contains order p
    pub above_waiting : (n p : ℕ) → Contains waiting n → parent S n ≡ Some p → Contains order p
    pub below : (n p : ℕ) → n < length S → parent S n ≡ Some p → Contains order p → Contains order n ⊎ Contains waiting n
    pub roots : (n : ℕ) → n < length S → parent S n ≡ None → Contains order n ⊎ Contains waiting n
    pub behind : AreInOrder S None order
    pub next : (n : ℕ) → Contains waiting n → IsNext S (last_or None order) n

  -- at the start
  pub none-visited : (roots : List ℕ) → AreBelow S None (length S) roots → AreVisited [] roots
  none-visited roots are = record {
    once = tt;
    stacked = stacked-all roots are.once (λ y x h g p e. let none = are.child y h in absurd (cc));
    apart = λ n h g. contains-none n h;
    within = λ n h. absurd (contains-none n h);
    waits = are.within;
    ends = λ n h. absurd (contains-none n h);
    will_end = λ n h. are.child n h;
    above = λ n p h e. absurd (contains-none n h);
    above_waiting = λ n p h e. let none = are.child n h in absurd (cc);
    below = λ n p lt e h. absurd (contains-none p h);
    roots = λ n lt e. inr (are.all n lt e);
    behind = tt;
    next = are.child;
  }

  -- A step: the last that waits is visited, and its children wait.
  module _ (order rest cs : List ℕ) (m : ℕ) (old : AreVisited order (rest ++ m ∷ [])) (are : AreBelow S (Some m) (length S) cs) where
    top : Contains (rest ++ m ∷ []) m
    top = Contains-push rest m

    before : (n : ℕ) → Contains rest n → Contains (rest ++ m ∷ []) n
    before n h = Contains-append_left rest (m ∷ []) n h

    count : length (order ++ m ∷ []) ≡ suc (length order)
    count = let e = length-append order (m ∷ []) in omega (arith, e)

    own : (x : ℕ) → Contains (m ∷ []) x → m ≡ x
    own x h = elim (contains-cases m [] x h) [ inl same ↦ same | inr none ↦ absurd (contains-none x none) ]

    -- where a child would be that was there before, its parent would have been visited
    new : (c : ℕ) → Contains cs c → Contains (order ++ m ∷ []) c → ⊥
    new c h g = elim (Contains-push_cases order m c g) [
      | inl old_one ↦ old.apart m (old.above c m old_one (are.child c h)) top
      | inr same ↦ old.apart m (old.above_waiting m m top (ap (parent S) same ∙ are.child c h)) top
    ]

    fresh : (c : ℕ) → Contains cs c → Contains rest c → ⊥
    fresh c h g = old.apart m (old.above_waiting c m (before c g) (are.child c h)) top

    -- what may come behind a declaration may come behind its child
    further : (y c : ℕ) → Contains cs c → IsNext S (Some m) y → IsNext S (Some c) y
    further y c h next p e = let far = next p e in (suc far.0, ancestor-up S far.0 c ∙ ap (option_and_then (ancestor S far.0)) (are.child c h) ∙ far.1)

    under : (y x : ℕ) → Contains rest y → Contains cs x → (y ≡ x → ⊥) × IsNext S (Some x) y
    under y x h g = (
      (λ same. fresh x g (subst (Contains rest) same h)),
      further y x g (stacked-cross rest (m ∷ []) y m old.stacked h (contains-here m [])).1,
    )

    ended : (n : ℕ) → Contains (order ++ m ∷ []) n → ancestor S (suc (length order)) n ≡ None
    ended n h = elim (Contains-push_cases order m n h) [
      | inl old_one ↦ ancestor-past S (length order) (suc (length order)) n (omega arith) (old.ends n old_one)
      | inr same ↦ subst (λ k. ancestor S (suc (length order)) k ≡ None) same (old.will_end m top)
    ]

    pub visited : AreVisited (order ++ m ∷ []) (rest ++ cs)
    visited = record {
      once = different-push order m old.once (λ h. old.apart m h top);
      stacked = stacked-append rest cs (stacked-front rest (m ∷ []) old.stacked)
          (stacked-all cs are.once (λ y x h g p e. (1, let up = are.child x g in let same = are.child y h in let one : m ≡ p = cc in up ∙ ap Some one)))
          under;
      apart = λ n h g. elim (Contains-append_cases rest cs n g) [
        | inl waiting ↦ elim (Contains-push_cases order m n h) [
          | inl done ↦ old.apart n done (before n waiting)
          | inr same ↦ (stacked-cross rest (m ∷ []) n m old.stacked waiting (contains-here m [])).0 (sym same)
        ]
        | inr child ↦ new n child h
      ];
      within = λ n h. elim (Contains-push_cases order m n h) [ inl done ↦ old.within n done | inr same ↦ subst (λ k. k < length S) same (old.waits m top) ];
      waits = λ n h. elim (Contains-append_cases rest cs n h) [ inl waiting ↦ old.waits n (before n waiting) | inr child ↦ are.within n child ];
      ends = λ n h. subst (λ k. ancestor S k n ≡ None) (sym count) (ended n h);
      will_end = λ n h. subst (λ k. ancestor S (suc k) n ≡ None) (sym count) (elim (Contains-append_cases rest cs n h) [
        | inl waiting ↦ ancestor-past S (suc (length order)) (suc (suc (length order))) n (omega arith) (old.will_end n (before n waiting))
        | inr child ↦ ancestor-up S (suc (length order)) n ∙ ap (option_and_then (ancestor S (suc (length order)))) (are.child n child) ∙ old.will_end m top
      ]);
      above = λ n p h e. Contains-append_left order (m ∷ []) p (elim (Contains-push_cases order m n h) [
        | inl done ↦ old.above n p done e
        | inr same ↦ old.above_waiting m p top (ap (parent S) same ∙ e)
      ]);
      above_waiting = λ n p h e. elim (Contains-append_cases rest cs n h) [
        | inl waiting ↦ Contains-append_left order (m ∷ []) p (old.above_waiting n p (before n waiting) e)
        | inr child ↦ let up = are.child n child in let one : m ≡ p = cc in subst (Contains (order ++ m ∷ [])) one (Contains-push order m)
      ];
      below = λ n p lt e h. elim (Contains-push_cases order m p h) [
        | inl done ↦ moved n (old.below n p lt e done)
        | inr same ↦ inr (Contains-append_right rest cs n (are.all n lt (e ∙ ap Some (sym same))))
      ];
      roots = λ n lt e. moved n (old.roots n lt e);
      behind = in-order-push None order m old.behind (old.next m top);
      next = λ n h. subst (λ l. IsNext S l n) (sym (last-pushed None order m)) (elim (Contains-append_cases rest cs n h) [
        | inl waiting ↦ (stacked-cross rest (m ∷ []) n m old.stacked waiting (contains-here m [])).1
        | inr child ↦ (λ p e. (0, let up = are.child n child in let one : m ≡ p = cc in ap Some one))
      ]);
    }
      where
        moved : (n : ℕ) → Contains order n ⊎ Contains (rest ++ m ∷ []) n → Contains (order ++ m ∷ []) n ⊎ Contains (rest ++ cs) n
        moved n (inl done) = inl (Contains-append_left order (m ∷ []) n done)
        moved n (inr waiting) = elim (Contains-push_cases rest m n waiting) [
          | inl old_one ↦ inr (Contains-append_left rest cs n old_one)
          | inr same ↦ inl (subst (Contains (order ++ m ∷ [])) same (Contains-push order m))
        ]

  -- at the end
  module _ (order : List ℕ) (are : AreVisited order []) where
    reached : (steps n : ℕ) → n < length S → ancestor S steps n ≡ None → Contains order n
    reached zero n lt none = absurd (cc)
    reached (suc steps) n lt none = by (parent S n) refl (reached steps)
      where
        left : Contains order n ⊎ Contains [] n → Contains order n
        left (inl done) = done
        left (inr h) = absurd (contains-none n h)

        by : (o : Option ℕ) → parent S n ≡ o → ((p : ℕ) → p < length S → ancestor S steps p ≡ None → Contains order p) → Contains order n
        by None e rest = left (are.roots n lt e)
        by (Some p) e rest =
            let up : ancestor S steps p ≡ None = ap (option_and_then (ancestor S steps)) (sym e) ∙ sym (ancestor-up S steps n) ∙ none in
            left (are.below n p lt e (rest p (parent-within S n p e) up))

    pub all-visited : AreVisits S order
    all-visited = record {
      once = distinct order are.once;
      next = are.behind;
      all = λ n rooted. reached (length S) n rooted.within rooted.ends;
      only = λ n h. record {
        within = are.within n h;
        ends = ancestor-past S (length order) (length S) n (few order (length S) are.once are.within) (are.ends n h);
      };
    }

  -- so the declarations that weren't visited get fewer
  pub fewer : (order : List ℕ) (m : ℕ) (waiting : List ℕ) → AreVisited (order ++ m ∷ []) waiting → length S - length (order ++ m ∷ []) < length S - length order
  fewer order m waiting are =
      let le = few (order ++ m ∷ []) (length S) are.once are.within in
      let e = length-append order (m ∷ []) in
      omega (arith, le, e)

  -- ---- lists of children

  pub below-none : (above : Option ℕ) → AreBelow S above 0 []
  below-none above = record {
    within = λ n h. absurd (contains-none n h);
    child = λ n h. absurd (contains-none n h);
    all = λ n lt e. absurd (omega (arith, lt));
    once = tt;
  }

  pub below-push : (above : Option ℕ) (n : ℕ) (xs : List ℕ) → AreBelow S above n xs → parent S n ≡ above → AreBelow S above (n + 1) (xs ++ n ∷ [])
  below-push above n xs are e = record {
    within = λ k h. elim (Contains-push_cases xs n k h) [ inl old ↦ (let lt = are.within k old in omega (arith, lt)) | inr same ↦ omega (arith, same) ];
    child = λ k h. elim (Contains-push_cases xs n k h) [ inl old ↦ are.child k old | inr same ↦ ap (parent S) (sym same) ∙ e ];
    all = λ k lt up. by k (cases k n lt) up;
    once = different-push xs n are.once (λ h. let lt = are.within n h in omega (arith, lt));
  }
    where
      cases : (k n : ℕ) → k < n + 1 → (k < n) ⊎ (k ≡ n)
      cases zero zero lt = inr refl
      cases zero (suc n) lt = inl (omega arith)
      cases (suc k) zero lt = absurd (omega (arith, lt))
      cases (suc k) (suc n) lt = elim (cases k n (omega (arith, lt))) [ inl h ↦ inl (omega (arith, h)) | inr h ↦ inr (ap suc h) ]

      by : (k : ℕ) → (k < n) ⊎ (k ≡ n) → parent S k ≡ above → Contains (xs ++ n ∷ []) k
      by k (inl lt) up = Contains-append_left xs (n ∷ []) k (are.all k lt up)
      by k (inr same) up = subst (Contains (xs ++ n ∷ [])) (sym same) (Contains-push xs n)

  pub below-skip : (above : Option ℕ) (n : ℕ) (xs : List ℕ) → AreBelow S above n xs → (parent S n ≡ above → ⊥) → AreBelow S above (n + 1) xs
  below-skip above n xs are other = record {
    within = λ k h. (let lt = are.within k h in omega (arith, lt));
    child = are.child;
    all = λ k lt up. elim (cases k n lt) [ inl less ↦ are.all k less up | inr same ↦ absurd (other (ap (parent S) (sym same) ∙ up)) ];
    once = are.once;
  }
    where
      cases : (k n : ℕ) → k < n + 1 → (k < n) ⊎ (k ≡ n)
      cases zero zero lt = inr refl
      cases zero (suc n) lt = inl (omega arith)
      cases (suc k) zero lt = absurd (omega (arith, lt))
      cases (suc k) (suc n) lt = elim (cases k n (omega (arith, lt))) [ inl h ↦ inl (omega (arith, h)) | inr h ↦ inr (ap suc h) ]

  -- a child of this one
  pub children-push : (n p : ℕ) (below : List (Vec ℕ Global)) (old new : Vec ℕ Global) → AreChildren S n below → parent S n ≡ Some p → slice_get below p ≡ Some old
      → new.items ≡ old.items ++ n ∷ [] → AreChildren S (n + 1) (set below p new)
  children-push n p below old new are up at is = record {
    count = length-set below p new ∙ are.count;
    each = λ k one e. by k one (set-get below p new k one e);
  }
    where
      by : (k : ℕ) (one : Vec ℕ Global) → ((k ≡ p) × (new ≡ one)) ⊎ ((k ≡ p → ⊥) × (slice_get below k ≡ Some one)) → AreBelow S (Some k) (n + 1) one.items
      by k one (inl h) =
          subst (λ q. AreBelow S (Some q) (n + 1) one.items) (sym h.0)
          (subst (AreBelow S (Some p) (n + 1)) (sym is ∙ ap (λ (v : Vec ℕ Global). v.items) h.1) (below-push (Some p) n old.items (are.each p old at) up))
      by k one (inr h) = below-skip (Some k) n one.items (are.each k one h.1) (λ same. h.0 (let e : Some k ≡ Some p = sym same ∙ up in cc))

  pub children-skip : (n : ℕ) (below : List (Vec ℕ Global)) → AreChildren S n below → parent S n ≡ None → AreChildren S (n + 1) below
  children-skip n below are none = record {
    count = are.count;
    each = λ k one e. below-skip (Some k) n one.items (are.each k one e) (λ same. let e : Some k ≡ None = sym same ∙ none in absurd (cc));
  }
