-- Marking what references link to, and all that is reached.
use Rattle.std.proofs.Common.{◌≡◌, ◌≢◌, ◌⊎◌, ℕ, zero, suc, ◌+◌, ◌<◌, ◌≤◌, inl, inr, Bool, true, false, Option, Some, None, List, [], ◌∷◌, ◌++◌, length, refl, sym, ◌∙◌, ap, subst, arith, length-set, length-append}
use Rattle.std.proofs.lemmas.Bool.{eqb-true, eqb-false, eq-eqb, ltb-true, ltb-false}
use Rattle.std.proofs.lemmas.Option.{slice_get_within}
use Rattle.std.specs.Prelude.{◌==◌, nat_lt, if◌then◌else◌, slice_get, slice_set}
use Rattle.nif_base.specs.Node.{Reference, refs}
use Rattle.nif_base.specs.File.{Block}
use Rattle.nif_base.specs.Graph.{Named}
use Rattle.nif_graph.specs.Graph.{find, is_live}
use Rattle.nif_graph.specs.Reach.{Walk, Here, Then, Leads, Reaches}
use Rattle.nif_graph.specs.Marks.{IsMarked, unmarked, IsMarkedOnce, IsQueued, Links, IsExpanded, TellsReached}

pub test : (b : Bool) → (b ≡ true) ⊎ (b ≡ false)
test true = inl refl
test false = inr refl

pub differ : (a b : ℕ) → a ≢ b → (a == b) ≡ false
differ a b h = elim (test (a == b)) [ inl p ↦ absurd (h (eqb-true a b p)) | inr p ↦ p ]

joined : {S : ℕ → ℕ → Type 0} {a b c : ℕ} → Walk S a b → Walk S b c → Walk S a c
joined Here w = w
joined (Then e v) w = Then e (joined v w)

pub get_front : {A : Type 0} (xs ys : List A) (i : ℕ) → i < length xs → slice_get (xs ++ ys) i ≡ slice_get xs i
get_front [] ys i h = absurd (omega arith)
get_front (x ∷ xs) ys zero h = refl
get_front (x ∷ xs) ys (suc i) h = get_front xs ys i (omega arith)

pub get_last : {A : Type 0} (xs : List A) (x : A) → slice_get (xs ++ x ∷ []) (length xs) ≡ Some x
get_last [] x = refl
get_last (y ∷ xs) x = get_last xs x

mark_set : (marks : List Bool) (n m : ℕ) → m < length marks → slice_get (slice_set marks m true) n ≡ (if n == m then Some true else slice_get marks n)
mark_set [] n m l = absurd (omega arith)
mark_set (y ∷ marks) zero zero l = refl
mark_set (y ∷ marks) (suc n) zero l = rw (differ (suc n) 0 (λ e. omega arith)) refl
mark_set (y ∷ marks) zero (suc m) l = rw (differ 0 (suc m) (λ e. omega arith)) refl
mark_set (y ∷ marks) (suc n) (suc m) l = mark_set marks n m (omega arith) ∙ (elim (test (n == m)) [
  | inl q ↦ rw (q, eq-eqb (suc n) (suc m) (ap suc (eqb-true n m q))) refl
  | inr q ↦ rw (q, differ (suc n) (suc m) (λ e. eqb-false n m q (omega arith))) refl
])

pub unmarked_set : (marks : List Bool) (m : ℕ) → slice_get marks m ≡ Some false → suc (unmarked (slice_set marks m true)) ≡ unmarked marks
unmarked_set [] m h = absurd cc
unmarked_set (y ∷ marks) zero h = let e : y ≡ false = cc in rw e refl
unmarked_set (true ∷ marks) (suc m) h = unmarked_set marks m h
unmarked_set (false ∷ marks) (suc m) h = ap suc (unmarked_set marks m h)

-- one more mark is taken away
pub clear_more : (marks : List Bool) (place : ℕ) → place < length marks
    → ((k : ℕ) → k < place → slice_get marks k ≡ Some false)
    → (k : ℕ) → k < place + 1 → slice_get (slice_set marks place false) k ≡ Some false
clear_more [] place l h k m = absurd (omega arith)
clear_more (x ∷ marks) zero l h zero m = refl
clear_more (x ∷ marks) zero l h (suc k) m = absurd (omega arith)
clear_more (x ∷ marks) (suc place) l h zero m = h 0 (omega arith)
clear_more (x ∷ marks) (suc place) l h (suc k) m =
    clear_more marks place (omega arith) (λ i less. h (suc i) (omega arith)) k (omega arith)

pub all_clear : (marks : List Bool) (place : ℕ) → length marks ≤ place
    → ((k : ℕ) → k < place → slice_get marks k ≡ Some false) → unmarked marks ≡ length marks
all_clear [] place l h = refl
all_clear (x ∷ marks) zero l h = absurd (omega arith)
all_clear (x ∷ marks) (suc place) l h =
    let e : Some x ≡ Some false = h 0 (omega arith) in
    let e' : x ≡ false = cc in
    rw e' (ap suc (all_clear marks place (omega arith) (λ i less. h (suc i) (omega arith))))

-- The targets of the strong references of a block before k are marked and, where they were not, queued.
pub record IsExpanding (links : List Reference) (marks0 : List Bool) (queue0 : List ℕ) (marks : List Bool) (queue : List ℕ) (k : ℕ) : Type 0 where
  pub len : length marks ≡ length marks0
  pub longer : length queue0 ≤ length queue
  pub grown : (n : ℕ) → IsMarked marks0 n → IsMarked marks n
  pub led : (n : ℕ) → IsMarked marks n → IsMarked marks0 n ⊎ (Links links n × IsQueued queue (length queue0) n)
  pub front : (i x : ℕ) → slice_get queue0 i ≡ Some x → slice_get queue i ≡ Some x
  pub back : (i x : ℕ) → slice_get queue i ≡ Some x → (slice_get queue0 i ≡ Some x) ⊎ Links links x
  pub passed : (j : ℕ) (r : Reference) (t : ℕ) → j < k → slice_get links j ≡ Some r → r.strong ≡ true → r.target ≡ Some t → IsMarked marks t
  pub count : length queue + unmarked marks ≡ length queue0 + unmarked marks0

pub expand_begins : (links : List Reference) (marks : List Bool) (queue : List ℕ) → IsExpanding links marks queue marks queue 0
expand_begins links marks queue = record {
  len = refl;
  longer = omega arith;
  grown = λ n m. m;
  led = λ n m. inl m;
  front = λ i x h. h;
  back = λ i x h. inl h;
  passed = λ j r t l. absurd (omega arith);
  count = refl;
}

module _ (links : List Reference) (marks0 : List Bool) (queue0 : List ℕ) (marks : List Bool) (queue : List ℕ) (k : ℕ)
    (h : IsExpanding links marks0 queue0 marks queue k) (r : Reference) (s : slice_get links k ≡ Some r) where
  more : (new : List Bool) → ((n : ℕ) → IsMarked marks n → IsMarked new n) → ((t : ℕ) → r.strong ≡ true → r.target ≡ Some t → IsMarked new t)
      → (j : ℕ) (q : Reference) (t : ℕ) → j < k + 1 → slice_get links j ≡ Some q → q.strong ≡ true → q.target ≡ Some t → IsMarked new t
  more new grown this j q t l e strong target = elim (test (j == k)) [
    | inl p ↦
        let at : j ≡ k = eqb-true j k p in
        let is : Some r ≡ Some q = sym s ∙ sym (ap (λ n. slice_get links n) at) ∙ e in
        let is' : r ≡ q = cc in
        this t (ap (λ (x : Reference). x.strong) is' ∙ strong) (ap (λ (x : Reference). x.target) is' ∙ target)
    | inr p ↦ let ne : j ≢ k = eqb-false j k p in grown t (h.passed j q t (omega arith) e strong target)
  ]

  -- nothing to mark
  pub expand_skips : ((t : ℕ) → r.strong ≡ true → r.target ≡ Some t → IsMarked marks t) → IsExpanding links marks0 queue0 marks queue (k + 1)
  expand_skips this = record {
    len = h.len;
    longer = h.longer;
    grown = h.grown;
    led = h.led;
    front = h.front;
    back = h.back;
    passed = more marks (λ n m. m) this;
    count = h.count;
  }

  -- a target is marked and queued
  pub expand_marks : (t : ℕ) → r.strong ≡ true → r.target ≡ Some t → slice_get marks t ≡ Some false
      → IsExpanding links marks0 queue0 (slice_set marks t true) (queue ++ t ∷ []) (k + 1)
  expand_marks t strong target not_marked = record {
    len = length-set marks t true ∙ h.len;
    longer = (let l : length queue0 ≤ length queue = h.longer in omega (arith, length-append queue (t ∷ [])));
    grown = λ n m. stays n (h.grown n m);
    led = λ n m. now n m (test (n == t));
    front = λ i x e. in_front i x (h.front i x e);
    back = λ i x e. in_back i x e;
    passed = more (slice_set marks t true) stays (λ u a b. let same : Some t ≡ Some u = sym target ∙ b in let same' : t ≡ u = cc in subst (λ x. IsMarked (slice_set marks t true) x) same' this);
    count = (let c : length queue + unmarked marks ≡ length queue0 + unmarked marks0 = h.count in
        let u : suc (unmarked (slice_set marks t true)) ≡ unmarked marks = unmarked_set marks t not_marked in omega (arith, length-append queue (t ∷ [])));
  }
    where
      within : t < length marks
      within = slice_get_within marks t false not_marked

      this : IsMarked (slice_set marks t true) t
      this = mark_set marks t t within ∙ rw (eq-eqb t t refl) refl

      stays : (n : ℕ) → IsMarked marks n → IsMarked (slice_set marks t true) n
      stays n m = mark_set marks n t within ∙ (elim (test (n == t)) [ inl q ↦ rw q refl | inr q ↦ rw q m ])

      in_front : (i x : ℕ) → slice_get queue i ≡ Some x → slice_get (queue ++ t ∷ []) i ≡ Some x
      in_front i x e = get_front queue (t ∷ []) i (slice_get_within queue i x e) ∙ e

      last : slice_get (queue ++ t ∷ []) (length queue) ≡ Some t
      last = get_last queue t

      now : (n : ℕ) → IsMarked (slice_set marks t true) n → ((n == t) ≡ true) ⊎ ((n == t) ≡ false) → IsMarked marks0 n ⊎ (Links links n × IsQueued (queue ++ t ∷ []) (length queue0) n)
      now n m (inl q) =
          let e : t ≡ n = sym (eqb-true n t q) in
          inr (subst (λ x. Links links x) e (k, r, s, strong, target), (length queue, h.longer, last ∙ ap (λ x. Some x) e))
      now n m (inr q) =
          let m' : slice_get marks n ≡ Some true = sym (let w : slice_get (slice_set marks t true) n ≡ slice_get marks n = mark_set marks n t within ∙ rw q refl in w) ∙ m in
          elim (h.led n m') [ inl a ↦ inl a | inr a ↦ inr (a.0, (a.1.0, a.1.1, in_front a.1.0 n a.1.2)) ]

      one : (i x : ℕ) → length queue ≤ i → slice_get (queue ++ t ∷ []) i ≡ Some x → Links links x
      one i x l e =
          let w : i < length (queue ++ t ∷ []) = slice_get_within (queue ++ t ∷ []) i x e in
          let at : i ≡ length queue = omega (arith, length-append queue (t ∷ [])) in
          let is : Some t ≡ Some x = sym last ∙ ap (λ n. slice_get (queue ++ t ∷ []) n) (sym at) ∙ e in
          let is' : t ≡ x = cc in subst (λ x. Links links x) is' (k, r, s, strong, target)

      in_back : (i x : ℕ) → slice_get (queue ++ t ∷ []) i ≡ Some x → (slice_get queue0 i ≡ Some x) ⊎ Links links x
      in_back i x e = elim (test (nat_lt i (length queue))) [
        | inl q ↦ let l : i < length queue = ltb-true i (length queue) q in h.back i x (sym (get_front queue (t ∷ []) i l) ∙ e)
        | inr q ↦ inr (one i x (ltb-false i (length queue) q) e)
      ]

-- the target of a strong reference, or none
pub strong_some : (b : Bool) (o : Option ℕ) (t : ℕ) → (if b then o else None) ≡ Some t → (b ≡ true) × (o ≡ Some t)
strong_some true o t e = (refl, e)
strong_some false o t e = absurd cc

pub strong_none : (b : Bool) (o : Option ℕ) (t : ℕ) → (if b then o else None) ≡ None → b ≡ true → o ≡ Some t → ⊥
strong_none true o t e strong target = let both : Some t ≡ None = sym target ∙ e in cc
strong_none false o t e strong target = cc

pub expand_once : (links : List Reference) (marks0 : List Bool) (queue0 : List ℕ) (marks : List Bool) (queue : List ℕ) (k : ℕ)
    → IsExpanding links marks0 queue0 marks queue k → (r : Reference) → slice_get links k ≡ Some r → (t : ℕ)
    → r.strong ≡ true → r.target ≡ Some t → (new : List Bool) (longer : List ℕ) → IsMarkedOnce t marks queue new longer
    → IsExpanding links marks0 queue0 new longer (k + 1)
expand_once links marks0 queue0 marks queue k h r s t strong target new longer (inl m) =
    let this : (u : ℕ) → r.strong ≡ true → r.target ≡ Some u → IsMarked marks u = λ u a b.
    let same : Some t ≡ Some u = sym target ∙ b in
    let same' : t ≡ u = cc in subst (λ x. IsMarked marks x) same' m.0 in
    let skipped = expand_skips links marks0 queue0 marks queue k h r s this in
    subst (λ l. IsExpanding links marks0 queue0 new l (k + 1)) (sym m.2)
    (subst (λ l. IsExpanding links marks0 queue0 l queue (k + 1)) (sym m.1) skipped)
expand_once links marks0 queue0 marks queue k h r s t strong target new longer (inr m) =
    subst (λ l. IsExpanding links marks0 queue0 new l (k + 1)) (sym m.2)
    (subst (λ l. IsExpanding links marks0 queue0 l (queue ++ t ∷ []) (k + 1)) (sym m.1)
    (expand_marks links marks0 queue0 marks queue k h r s t strong target m.0))

pub expand_ends : (links : List Reference) (marks0 : List Bool) (queue0 : List ℕ) (marks : List Bool) (queue : List ℕ) (k : ℕ)
    → IsExpanding links marks0 queue0 marks queue k → ((j : ℕ) (r : Reference) → slice_get links j ≡ Some r → j < k) → IsExpanded links marks0 queue0 marks queue
expand_ends links marks0 queue0 marks queue k h last = record {
  len = h.len;
  longer = h.longer;
  grown = h.grown;
  led = h.led;
  front = h.front;
  back = h.back;
  all = λ t l. h.passed l.0 l.1 t (last l.0 l.1 l.2) l.2 l.3 l.4;
  count = h.count;
}

-- What is marked is reached, and leads to what is marked, or is still in the queue.
abbrev pub AllLed : List Named → List Bool → ℕ → Type 0
AllLed blocks marks n = (t : ℕ) → Leads blocks n t → IsMarked marks t

pub record IsReaching (blocks : List Named) (from : ℕ) (marks : List Bool) (queue : List ℕ) (next : ℕ) : Type 0 where
  pub sound : (n : ℕ) → IsMarked marks n → Reaches blocks from n
  pub queued : (i x : ℕ) → slice_get queue i ≡ Some x → Reaches blocks from x
  pub closed : (n : ℕ) → IsMarked marks n → IsQueued queue next n ⊎ AllLed blocks marks n
  pub begun : AllLed blocks marks from
  pub count : length queue + unmarked marks ≡ length marks

none_marked : (marks : List Bool) → unmarked marks ≡ length marks → (n : ℕ) → IsMarked marks n → ⊥
none_marked [] e n m = cc
none_marked (true ∷ marks) e n m = let l : unmarked marks ≤ length marks = at_most marks in omega (arith, e)
  where
    at_most : (marks : List Bool) → unmarked marks ≤ length marks
    at_most [] = omega arith
    at_most (true ∷ marks) = omega (arith, at_most marks)
    at_most (false ∷ marks) = omega (arith, at_most marks)
none_marked (false ∷ marks) e zero m = cc
none_marked (false ∷ marks) e (suc n) m = none_marked marks (omega (arith, e)) n m

-- what the references of a block link to, it leads to, and nothing else
leads : (blocks : List Named) (x t : ℕ) (block : Block) → find x blocks ≡ Some block → Links (refs block.node) t
    → Leads blocks x t
leads blocks x t block found l = (block, l.0, l.1, found, l.2, l.3, l.4)

links : (blocks : List Named) (x t : ℕ) (block : Block) → find x blocks ≡ Some block → Leads blocks x t
    → Links (refs block.node) t
links blocks x t block found l =
    let is : Some l.0 ≡ Some block = sym l.3 ∙ found in
    let is' : l.0 ≡ block = cc in
    subst (λ (b : Block). Links (refs b.node) t) is' (l.1, l.2, l.4, l.5, l.6)

pub reach_begins : (blocks : List Named) (from : ℕ) (block : Block) (marks0 marks : List Bool) (queue : List ℕ)
    → find from blocks ≡ Some block → unmarked marks0 ≡ length marks0
    → IsExpanded (refs block.node) marks0 [] marks queue → IsReaching blocks from marks queue 0
reach_begins blocks from block marks0 marks queue found clear h = record {
  sound = λ n m. elim (h.led n m) [
    | inl a ↦ absurd (none_marked marks0 clear n a)
    | inr a ↦ (n, leads blocks from n block found a.0, Here)
  ];
  queued = λ i x e. elim (h.back i x e) [ inl a ↦ absurd cc | inr a ↦ (x, leads blocks from x block found a, Here) ];
  closed = λ n m. elim (h.led n m) [ inl a ↦ absurd (none_marked marks0 clear n a) | inr a ↦ inl a.1 ];
  begun = λ t l. h.all t (links blocks from t block found l);
  count = (let c : length queue + unmarked marks ≡ 0 + unmarked marks0 = h.count in
      let l : length marks ≡ length marks0 = h.len in omega arith);
}

one_more : (blocks : List Named) (from x t : ℕ) → Reaches blocks from x → Leads blocks x t → Reaches blocks from t
one_more blocks from x t r l = (r.0, r.1, joined r.2 (Then l Here))

pub reach_goes_on : (blocks : List Named) (from : ℕ) (block : Block) (marks0 : List Bool) (queue0 : List ℕ)
    (marks : List Bool) (queue : List ℕ) (next x : ℕ) → IsReaching blocks from marks0 queue0 next
    → slice_get queue0 next ≡ Some x → find x blocks ≡ Some block
    → IsExpanded (refs block.node) marks0 queue0 marks queue → IsReaching blocks from marks queue (next + 1)
reach_goes_on blocks from block marks0 queue0 marks queue next x h s found e = record {
  sound = λ n m. elim (e.led n m) [
    | inl a ↦ h.sound n a
    | inr a ↦ one_more blocks from x n (h.queued next x s) (leads blocks x n block found a.0)
  ];
  queued = λ i y q. elim (e.back i y q) [
    | inl a ↦ h.queued i y a
    | inr a ↦ one_more blocks from x y (h.queued next x s) (leads blocks x y block found a)
  ];
  closed = λ n m. elim (e.led n m) [
    | inl a ↦ elim (h.closed n a) [
      | inl q ↦ elim (test (q.0 == next)) [
        | inl p ↦
            let at : q.0 ≡ next = eqb-true q.0 next p in
            let is : Some x ≡ Some n = sym s ∙ sym (ap (λ i. slice_get queue0 i) at) ∙ q.2 in
            let is' : x ≡ n = cc in
            inr (subst (λ y. AllLed blocks marks y) is' (λ t l. e.all t (links blocks x t block found l)))
        | inr p ↦
            let ne : q.0 ≢ next = eqb-false q.0 next p in
            let l : next ≤ q.0 = q.1 in inl (q.0, omega arith, e.front q.0 n q.2)
      ]
      | inr c ↦ inr (λ t l. e.grown t (c t l))
    ]
    | inr a ↦
        let l : length queue0 ≤ a.1.0 = a.1.1 in
        let w : next < length queue0 = slice_get_within queue0 next x s in
        inl (a.1.0, omega arith, a.1.2)
  ];
  begun = λ t l. e.grown t (h.begun t l);
  count = (let c : length queue + unmarked marks ≡ length queue0 + unmarked marks0 = e.count in
      let c' : length queue0 + unmarked marks0 ≡ length marks0 = h.count in
      let l : length marks ≡ length marks0 = e.len in omega arith);
}

module _ (blocks : List Named) (from : ℕ) (marks : List Bool) (queue : List ℕ) (next : ℕ)
    (h : IsReaching blocks from marks queue next) (done : length queue ≤ next) where
  all_closed : (n : ℕ) → IsMarked marks n → AllLed blocks marks n
  all_closed n m = elim (h.closed n m) [
    | inl q ↦ absurd (let w : q.0 < length queue = slice_get_within queue q.0 n q.2 in
        let l : next ≤ q.0 = q.1 in omega arith)
    | inr c ↦ c
  ]

  along : {a b : ℕ} → Walk (Leads blocks) a b → IsMarked marks a → IsMarked marks b
  along Here m = m
  along (Then {a} {b} l w) m = along w (all_closed a m b l)

  -- marked is what is reached
  pub reach_ends : TellsReached blocks from marks
  reach_ends to b s = (
    λ e. h.sound to (s ∙ ap (λ x. Some x) e),
    λ r. let m : slice_get marks to ≡ Some true = along r.2 (h.begun r.0 r.1) in
        let is : Some b ≡ Some true = sym s ∙ m in cc,
  )

-- what is reached lives
pub reached_lives : (blocks : List Named) → ((a b : ℕ) → Leads blocks a b → is_live b blocks ≡ true)
    → (from x : ℕ) → Reaches blocks from x → is_live x blocks ≡ true
reached_lives blocks aimed from x r = by r.2 (aimed from r.0 r.1)
  where
    by : {a b : ℕ} → Walk (Leads blocks) a b → is_live a blocks ≡ true → is_live b blocks ≡ true
    by Here l = l
    by (Then {a} {b} e w) l = by w (aimed a b e)
