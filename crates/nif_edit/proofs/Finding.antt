-- What is found under a name after each change of a list of blocks.
use Rattle.std.proofs.Common.{◌≡◌, ◌≢◌, ◌⊎◌, inl, inr, ℕ, zero, suc, ◌<◌, ◌≤◌, Bool, true, false, Option, Some, None, List, [], ◌∷◌, refl, sym, ◌∙◌, ap, arith}
use Rattle.std.proofs.lemmas.Bool.{eqb-true, eqb-false, eq-eqb}
use Rattle.std.proofs.lemmas.Bool.Decides.{nat_tests}
use Rattle.std.specs.Prelude.{◌==◌, if◌then◌else◌, insert, is_some}
use Rattle.std.specs.Option.{option_map, option_map_or}
use Rattle.nif_base.specs.File.{Block}
use Rattle.nif_base.specs.Graph.{Named}
use Rattle.nif_graph.specs.Graph.{find, Different}
use Rattle.nif_graph.specs.Changes.{without, changed, listed, emptied, all_emptied, with_node}
use Rattle.nif_graph.specs.Changes.{times, IsOrder}

pub test : (b : Bool) → (b ≡ true) ⊎ (b ≡ false)
test true = inl refl
test false = inr refl

pub same : (a : ℕ) → (a == a) ≡ true
same a = eq-eqb a a refl

pub differ : (a b : ℕ) → a ≢ b → (a == b) ≡ false
differ a b h = elim (test (a == b)) [ inl p ↦ absurd (h (eqb-true a b p)) | inr p ↦ p ]

insert_step : (n c b : ℕ) (y : Option Block) (x : Block) (z w v : Option Block) → (if b == c then Some x else z) ≡ None → w ≡ (if n == b then y else v)
    → (if n == c then Some x else w) ≡ (if n == b then y else if n == c then Some x else v)
insert_step n c b y x z w v h e = grind (arith, nat_tests)

later : (b c : ℕ) (x : Block) (z : Option Block) → (if b == c then Some x else z) ≡ None → z ≡ None
later b c x z h = grind (arith, nat_tests)

pub find-insert : (n at : ℕ) (b : Named) (blocks : List Named) → find b.name blocks ≡ None
    → find n (insert blocks at b) ≡ (if n == b.name then Some b.block else find n blocks)
find-insert n zero b blocks h = refl
find-insert n (suc at) b [] h = refl
find-insert n (suc at) b (c ∷ blocks) h =
    insert_step n c.name b.name (Some b.block) c.block (find b.name blocks) (find n (insert blocks at b)) (find n blocks) h
    (find-insert n at b blocks (later b.name c.name c.block (find b.name blocks) h))

first_out : (f : ℕ → Option Block) (n m c : ℕ) (x : Block) → f c ≡ None → (m == c) ≡ true → f n ≡ (if n == m then None else if n == c then Some x else f n)
first_out f n m c x h p =
    let e : m ≡ c = eqb-true m c p in
    elim (test (n == m)) [
      | inl q ↦ rw q (let e' : n ≡ m = eqb-true n m q in ap f (e' ∙ e) ∙ h)
      | inr q ↦ let q' : (n == c) ≡ false = rw e at q in rw (q, q') refl
    ]

later_out : (n m c : ℕ) (x : Block) (w v : Option Block) → (m == c) ≡ false → w ≡ (if n == m then None else v)
    → (if n == c then Some x else w) ≡ (if n == m then None else if n == c then Some x else v)
later_out n m c x w v p e = grind (arith, nat_tests)

pub find-without : (n m : ℕ) (blocks : List Named) → Different blocks → find n (without m blocks) ≡ (if n == m then None else find n blocks)
find-without n m [] d = elim (test (n == m)) [ inl q ↦ rw q refl | inr q ↦ rw q refl ]
find-without n m (c ∷ blocks) d =
    elim (test (m == c.name)) [
      | inl p ↦ rw p (first_out (λ k. find k blocks) n m c.name c.block d.0 p)
      | inr p ↦ rw p (later_out n m c.name c.block (find n (without m blocks)) (find n blocks) p (find-without n m blocks d.1))
    ]

pub find-all_emptied : (n m : ℕ) (blocks : List Named)
    → find n (all_emptied m blocks) ≡ option_map (λ (b : Block). with_node b (emptied m b.node)) (find n blocks)
find-all_emptied n m [] = refl
find-all_emptied n m (c ∷ blocks) =
    elim (test (n == c.name)) [ inl q ↦ rw q refl | inr q ↦ rw q (find-all_emptied n m blocks) ]

changed_here : (n m c : ℕ) (f : Block → Block) (x : Block) (w v : Option Block) → (m == c) ≡ true → w ≡ (if n == m then option_map f v else v)
    → (if n == c then Some (f x) else w) ≡ (if n == m then option_map f (if n == c then Some x else v) else (if n == c then Some x else v))
changed_here n m c f x w v p h =
    let e : m ≡ c = eqb-true m c p in
    elim (test (n == c)) [
      | inl q ↦ let q' : (n == m) ≡ true = rw (← e) at q in rw (q, q') refl
      | inr q ↦ let q' : (n == m) ≡ false = rw (← e) at q in rw (q, q') (rw q' at h)
    ]

changed_later : (n m c : ℕ) (f : Block → Block) (x : Block) (w v : Option Block) → (m == c) ≡ false → w ≡ (if n == m then option_map f v else v)
    → (if n == c then Some x else w) ≡ (if n == m then option_map f (if n == c then Some x else v) else (if n == c then Some x else v))
changed_later n m c f x w v p h =
    elim (test (n == c)) [
      | inl q ↦
          let e : n ≡ c = eqb-true n c q in
          let q' : (n == m) ≡ false = differ n m (λ k. eqb-false m c p (sym k ∙ e)) in rw (q, q') refl
      | inr q ↦ rw q h
    ]

pub find-changed : (n m : ℕ) (f : Block → Block) (blocks : List Named)
    → find n (changed m f blocks) ≡ (if n == m then option_map f (find n blocks) else find n blocks)
find-changed n m f [] = elim (test (n == m)) [ inl q ↦ rw q refl | inr q ↦ rw q refl ]
find-changed n m f (c ∷ blocks) =
    elim (test (m == c.name)) [
      | inl p ↦ rw p (changed_here n m c.name f c.block (find n (changed m f blocks)) (find n blocks) p (find-changed n m f blocks))
      | inr p ↦ rw p (changed_later n m c.name f c.block (find n (changed m f blocks)) (find n blocks) p (find-changed n m f blocks))
    ]

-- what a list of names gives, where the name stands in it and where it does not
pub find-listed_out : (n : ℕ) (names : List ℕ) (blocks : List Named) → times n names ≡ 0 → find n (listed names blocks) ≡ None
find-listed_out n [] blocks h = refl
find-listed_out n (m ∷ names) blocks h =
    elim (test (n == m)) [
      | inl q ↦ absurd (let h' : suc (times n names) ≡ 0 = rw q at h in omega arith)
      | inr q ↦ let h' : times n names ≡ 0 = rw q at h in listed_step (find m blocks) q (find-listed_out n names blocks h')
    ]
  where
    listed_step : (o : Option Block) → (n == m) ≡ false → find n (listed names blocks) ≡ None
        → find n (option_map_or (λ (b : Block). record { name = m; block = b } ∷ listed names blocks) o (listed names blocks)) ≡ None
    listed_step None q e = e
    listed_step (Some b) q e = rw q e

zero_or_more : (k : ℕ) → (k ≡ 0) ⊎ (0 < k)
zero_or_more zero = inl refl
zero_or_more (suc k) = inr (omega arith)

pub find-listed : (n : ℕ) (names : List ℕ) (blocks : List Named) → 0 < times n names → find n (listed names blocks) ≡ find n blocks
find-listed n [] blocks h = absurd (omega arith)
find-listed n (m ∷ names) blocks h = by (λ k. find-listed n names blocks k) (find m blocks) refl (test (n == m))
  where
    inner : (0 < times n names → find n (listed names blocks) ≡ find n blocks) → (n == m) ≡ true → find m blocks ≡ None
        → (t : (times n names ≡ 0) ⊎ (0 < times n names)) → find n (listed names blocks) ≡ find n blocks
    inner more q e (inl t) = find-listed_out n names blocks t ∙ sym (let k : n ≡ m = eqb-true n m q in ap (λ x. find x blocks) k ∙ e)
    inner more q e (inr t) = more t

    by : (0 < times n names → find n (listed names blocks) ≡ find n blocks) → (o : Option Block) → find m blocks ≡ o → ((n == m) ≡ true) ⊎ ((n == m) ≡ false)
        → find n (option_map_or (λ (b : Block). record { name = m; block = b } ∷ listed names blocks) o (listed names blocks)) ≡ find n blocks
    by more None e (inl q) = inner more q e (zero_or_more (times n names))
    by more None e (inr q) = more (rw q at h)
    by more (Some b) e (inl q) = rw q (sym (let k : n ≡ m = eqb-true n m q in ap (λ x. find x blocks) k ∙ e))
    by more (Some b) e (inr q) = rw q (more (rw q at h))

-- a reordering finds what was found
pub find-reordered : (n : ℕ) (names : List ℕ) (blocks : List Named) → IsOrder names blocks → find n (listed names blocks) ≡ find n blocks
find-reordered n names blocks h = by (find n blocks) refl (h n)
  where
    by : (o : Option Block) → find n blocks ≡ o → times n names ≡ (if is_some o then 1 else 0) → find n (listed names blocks) ≡ find n blocks
    by None e t = find-listed_out n names blocks t ∙ sym e
    by (Some b) e t = find-listed n names blocks (omega arith)

-- Names still differ.
pub different-insert : (at : ℕ) (b : Named) (blocks : List Named) → find b.name blocks ≡ None → Different blocks → Different (insert blocks at b)
different-insert zero b blocks h d = (h, d)
different-insert (suc at) b [] h d = (refl, tt)
different-insert (suc at) b (c ∷ blocks) h d =
    let h' : find b.name blocks ≡ None = later b.name c.name c.block (find b.name blocks) h in
    let far : (c.name == b.name) ≡ false = elim (test (c.name == b.name)) [
      | inl q ↦ absurd (let e : b.name ≡ c.name = sym (eqb-true c.name b.name q) in
          let z : Some c.block ≡ None = rw (eq-eqb b.name c.name e) at h in cc)
      | inr q ↦ q
    ] in
    ((find-insert c.name at b blocks h' ∙ rw far d.0), different-insert at b blocks h' d.1)

pub different-without : (m : ℕ) (blocks : List Named) → Different blocks → Different (without m blocks)
different-without m [] d = tt
different-without m (c ∷ blocks) d =
    elim (test (m == c.name)) [
      | inl p ↦ rw p d.1
      | inr p ↦ rw p ((find-without c.name m blocks d.1 ∙ (elim (test (c.name == m)) [ inl q ↦ rw q refl | inr q ↦ rw q d.0 ])), different-without m blocks d.1)
    ]

pub different-all_emptied : (m : ℕ) (blocks : List Named) → Different blocks → Different (all_emptied m blocks)
different-all_emptied m [] d = tt
different-all_emptied m (c ∷ blocks) d =
    (find-all_emptied c.name m blocks ∙ ap (λ o. option_map (λ (b : Block). with_node b (emptied m b.node)) o) d.0, different-all_emptied m blocks d.1)

pub different-changed : (m : ℕ) (f : Block → Block) (blocks : List Named) → Different blocks → Different (changed m f blocks)
different-changed m f [] d = tt
different-changed m f (c ∷ blocks) d =
    let e : find c.name (changed m f blocks) ≡ None = find-changed c.name m f blocks ∙ (elim (test (c.name == m)) [
      | inl q ↦ rw q (ap (λ o. option_map f o) d.0)
      | inr q ↦ rw q d.0
    ]) in
    elim (test (m == c.name)) [
      | inl p ↦ rw p (e, different-changed m f blocks d.1)
      | inr p ↦ rw p (e, different-changed m f blocks d.1)
    ]

pub different-listed : (names : List ℕ) (blocks : List Named) → ((n : ℕ) → times n names ≤ 1) → Different (listed names blocks)
different-listed [] blocks h = tt
different-listed (m ∷ names) blocks h = by (find m blocks) (different-listed names blocks less)
  where
    less : (n : ℕ) → times n names ≤ 1
    less n = elim (test (n == m)) [
      | inl q ↦ (let k : suc (times n names) ≤ 1 = rw q at (h n) in omega arith)
      | inr q ↦ rw q at (h n)
    ]

    once : times m names ≡ 0
    once = let k : suc (times m names) ≤ 1 = rw (same m) at (h m) in omega arith

    by : (o : Option Block) → Different (listed names blocks)
        → Different (option_map_or (λ (b : Block). record { name = m; block = b } ∷ listed names blocks) o (listed names blocks))
    by None d = d
    by (Some b) d = (find-listed_out m names blocks once, d)
