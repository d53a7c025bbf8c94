-- Emptying the references to a block one after another.
use Rattle.std.proofs.Common.{◌≡◌, ◌≢◌, ℕ, zero, suc, ◌+◌, ◌-◌, ◌<◌, ◌≤◌, inl, inr, Bool, true, false, Option, Some, None, IsSome, IfSome, List, [], ◌∷◌, ◌++◌, map, length, refl, sym, ◌∙◌, ap, subst, arith}
use Rattle.std.proofs.lemmas.Bool.{ltb-true, ltb-false, eqb-true, eqb-false}
use Rattle.std.proofs.lemmas.Option.{slice_get_within}
use Rattle.std.specs.Prelude.{nat_lt, ◌==◌, slice_get, unwrap_or, option_and_then, if◌then◌else◌}
use Rattle.std.specs.Option.{option_map, option_map_or}
use Rattle.nif_base.specs.Node.{Node, Members, Num, Line, Ref, Text, Bytes, Group, Row, End, Here, Absent, Reference, refs, refs_in, retargeted, retargeted_in}
use Rattle.nif_cells.specs.Building.{with_target, with_target_in}
use Rattle.nif_region.specs.Contents as region
use Rattle.nif_value.specs.Trees.{Trees, IsLive, SpareStays}
use Rattle.nif_graph.specs.Changes.{emptied}
use Rattle.nif_graph.specs.declared.slots.Slot.{Slot}
use Rattle.nif_graph.proofs.Marking.{test, get_front}
use Rattle.nif_graph.proofs.Targets.{aimed, refs-retargeted, pointed, refs-with_target, length-pointed, at-pointed, Stay, stays_same}
use Rattle.nif_graph.proofs.Changing.{empty, map_some, split}

pub get_back : {X : Type 0} (xs ys : List X) (k j : ℕ) → k ≡ length xs + j → slice_get (xs ++ ys) k ≡ slice_get ys j
get_back [] ys k j h = ap (λ n. slice_get ys n) (let e : k ≡ j = omega arith in e)
get_back (x ∷ xs) ys zero j h = absurd (omega arith)
get_back (x ∷ xs) ys (suc k) j h = get_back xs ys k j (omega arith)

mutual
  -- Where a function gives the new target and the old one the same, it gives the whole node the same.
  pub retargeted-set : (f : ℕ → Option ℕ) (k : ℕ) (to : Option ℕ) (node : Node) (r : Reference) → slice_get (refs node) k ≡ Some r
      → option_and_then f to ≡ option_and_then f r.target → retargeted f (with_target k to node) ≡ retargeted f node
  retargeted-set f k to (Num width little bits) r h e = refl
  retargeted-set f k to (Line bytes) r h e = refl
  retargeted-set f zero to (Ref strong wanted target) r h e =
      let old : target ≡ r.target = cc in ap (λ t. Ref strong wanted t) (e ∙ sym (ap (λ t. option_and_then f t) old))
  retargeted-set f (suc k) to (Ref strong wanted target) r h e = absurd cc
  retargeted-set f k to (Text index) r h e = refl
  retargeted-set f k to (Bytes bytes) r h e = refl
  retargeted-set f k to (Group members) r h e = ap (λ m. Group m) (retargeted_in-set f k to members r h e)
  retargeted-set f k to (Row items) r h e = ap (λ m. Row m) (retargeted_in-set f k to items r h e)

  retargeted_in-set : (f : ℕ → Option ℕ) (k : ℕ) (to : Option ℕ) (members : Members) (r : Reference) → slice_get (refs_in members) k ≡ Some r
      → option_and_then f to ≡ option_and_then f r.target → retargeted_in f (with_target_in k to members) ≡ retargeted_in f members
  retargeted_in-set f k to End r h e = refl
  retargeted_in-set f k to (Here node rest) r h e = elim (test (nat_lt k (length (refs node)))) [
    | inl q ↦
        let lt : k < length (refs node) = ltb-true k (length (refs node)) q in
        rw q (ap (λ n. Here n (retargeted_in f rest)) (retargeted-set f k to node r (sym (get_front (refs node) (refs_in rest) k lt) ∙ h) e))
    | inr q ↦
        let ge : length (refs node) ≤ k = ltb-false k (length (refs node)) q in
        rw q (ap (λ m. Here (retargeted f node) m)
        (retargeted_in-set f (k - length (refs node)) to rest r (sym (get_back (refs node) (refs_in rest) k (k - length (refs node)) (omega arith)) ∙ h) e))
  ]
  retargeted_in-set f k to (Absent rest) r h e = ap (λ m. Absent m) (retargeted_in-set f k to rest r h e)

stay_all : (f : ℕ → Option ℕ) (rs : List Reference) → ((k : ℕ) (r : Reference) → k < length rs → slice_get rs k ≡ Some r → option_and_then f r.target ≡ r.target) → Stay f rs
stay_all f [] h = tt
stay_all f (r ∷ rs) h = (h 0 r (omega arith) refl, stay_all f rs (λ k s l. h (suc k) s (omega arith)))

stay_map : (name : ℕ) (rs : List Reference) → Stay (empty name) (map (aimed (empty name)) rs)
stay_map name [] = tt
stay_map name (r ∷ rs) = (by r.target, stay_map name rs)
  where
    by : (o : Option ℕ) → option_and_then (empty name) (option_and_then (empty name) o) ≡ option_and_then (empty name) o
    by None = refl
    by (Some t) = elim (test (t == name)) [ inl q ↦ rw q refl | inr q ↦ rw q (rw q refl) ]

-- emptied twice is emptied once
pub emptied_twice : (name : ℕ) (node : Node) → emptied name (emptied name node) ≡ emptied name node
emptied_twice name node =
    stays_same (empty name) (emptied name node) (subst (λ rs. Stay (empty name) rs) (sym (refs-retargeted (empty name) node)) (stay_map name (refs node)))

-- the node under a key
abbrev pub under : Trees → ℕ → Node
under store key = unwrap_or (region.find store.trees key) (Bytes [])

pub stands_under : (store : Trees) (key : ℕ) → IsLive store key → region.find store.trees key ≡ Some (under store key)
stands_under store key live = by (region.find store.trees key) live
  where
    by : (o : Option Node) → IsSome o → o ≡ Some (unwrap_or o (Bytes []))
    by None h = absurd cc
    by (Some node) h = refl

pub spare_same : (store : Trees) → SpareStays store store
spare_same store = record { cells_stay = omega arith; trees_stay = omega arith }

pub spare_both : (a b c : Trees) → SpareStays a b → SpareStays b c → SpareStays a c
spare_both a b c h k =
    let p : a.spare_cells ≤ b.spare_cells = h.cells_stay in
    let q : b.spare_cells ≤ c.spare_cells = k.cells_stay in
    let r : a.spare_trees ≤ b.spare_trees = h.trees_stay in
    let s : b.spare_trees ≤ c.spare_trees = k.trees_stay in
    record { cells_stay = (omega arith); trees_stay = (omega arith) }

abbrev pub aims_at : ℕ → Option ℕ → Bool
aims_at name target = option_map_or (λ t. t == name) target false

-- a target that is not the name stays
stays : (name : ℕ) (target : Option ℕ) → aims_at name target ≡ false → option_and_then (empty name) target ≡ target
stays name None h = refl
stays name (Some t) h = rw h refl

goes : (name : ℕ) (target : Option ℕ) → aims_at name target ≡ true → option_and_then (empty name) target ≡ None
goes name None h = absurd cc
goes name (Some t) h = rw h refl

-- The tree is the first one, but that some references to the block are empty, and all those before k are.
pub record IsEmptying (name key : ℕ) (start now : Trees) (k : ℕ) : Type 0 where
  pub live : IsLive now key
  pub count : length (refs (under now key)) ≡ length (refs (under start key))
  pub same : emptied name (under now key) ≡ emptied name (under start key)
  pub passed : (j : ℕ) (r : Reference) → j < k → slice_get (refs (under now key)) j ≡ Some r → option_and_then (empty name) r.target ≡ r.target
  pub others : (other : ℕ) → other ≢ key → region.find now.trees other ≡ region.find start.trees other
  pub building : now.building ≡ start.building
  pub spare : SpareStays start now

pub begins : (name key : ℕ) (start : Trees) → IsLive start key → IsEmptying name key start start 0
begins name key start live = record {
  live = live;
  count = refl;
  same = refl;
  passed = λ j r l. absurd (omega arith);
  others = λ other ne. refl;
  building = refl;
  spare = spare_same start;
}

pub passes : (name key : ℕ) (start now : Trees) (k : ℕ) (r : Reference) → IsEmptying name key start now k
    → slice_get (refs (under now key)) k ≡ Some r → aims_at name r.target ≡ false → IsEmptying name key start now (k + 1)
passes name key start now k r i h aims = record {
  live = i.live;
  count = i.count;
  same = i.same;
  passed = λ j s l e. elim (test (j == k)) [
    | inl q ↦
        let at : j ≡ k = eqb-true j k q in
        let is : Some r ≡ Some s = sym h ∙ sym (ap (λ n. slice_get (refs (under now key)) n) at) ∙ e in
        let is' : r ≡ s = cc in
        stays name s.target (subst (λ (x : Reference). aims_at name x.target ≡ false) is' aims)
    | inr q ↦ i.passed j s (let ne : j ≢ k = eqb-false j k q in omega arith) e
  ];
  others = i.others;
  building = i.building;
  spare = i.spare;
}

pub sets : (name key : ℕ) (start now next : Trees) (k : ℕ) (r : Reference) → IsEmptying name key start now k
    → slice_get (refs (under now key)) k ≡ Some r → aims_at name r.target ≡ true
    → IfSome (region.find now.trees key) (λ node. region.find next.trees key ≡ Some (with_target k None node))
    → ((other : ℕ) → other ≢ key → region.find next.trees other ≡ region.find now.trees other)
    → next.building ≡ now.building → SpareStays now next
    → IsEmptying name key start next (k + 1)
sets name key start now next k r i h aims tree others building spare = record {
  live = subst (λ o. IsSome o) (sym is) refl;
  count = ap (λ n. length (refs n)) there ∙ ap (λ l. length l) refs_are ∙ length-pointed k None (refs (under now key)) ∙ i.count;
  same = ap (λ n. emptied name n) there ∙ retargeted-set (empty name) k None (under now key) r h (sym (goes name r.target aims)) ∙ i.same;
  passed = λ j s l e. by j s l (sym (at-pointed k j None (refs (under now key))) ∙ ap (λ l. slice_get l j) (sym refs_are) ∙ ap (λ n. slice_get (refs n) j) (sym there) ∙ e);
  others = λ other ne. others other ne ∙ i.others other ne;
  building = building ∙ i.building;
  spare = spare_both start now next i.spare spare;
}
  where
    is : region.find next.trees key ≡ Some (with_target k None (under now key))
    is = subst (λ o. IfSome o (λ (node : Node). region.find next.trees key ≡ Some (with_target k None node))) (stands_under now key i.live) tree

    there : under next key ≡ with_target k None (under now key)
    there = ap (λ o. unwrap_or o (Bytes [])) is

    refs_are : refs (with_target k None (under now key)) ≡ pointed k None (refs (under now key))
    refs_are = refs-with_target k None (under now key) (slice_get_within (refs (under now key)) k r h)

    by : (j : ℕ) (s : Reference) → j < k + 1
        → (if j == k then option_map (λ (r : Reference). record r { target = None }) (slice_get (refs (under now key)) j) else slice_get (refs (under now key)) j) ≡ Some s
        → option_and_then (empty name) s.target ≡ s.target
    by j s l e = split (j == k) (option_map (λ (r : Reference). record r { target = None }) (slice_get (refs (under now key)) j)) (slice_get (refs (under now key)) j) (Some s)
        (option_and_then (empty name) s.target ≡ s.target) e
        (λ q e. let m = map_some (λ (r : Reference). record r { target = None }) (slice_get (refs (under now key)) j) s e in
        let none : s.target ≡ None = ap (λ (x : Reference). x.target) m.2 in
        ap (λ t. option_and_then (empty name) t) none ∙ sym none)
        (λ q e. i.passed j s (let ne : j ≢ k = eqb-false j k q in omega arith) e)

-- all is passed
pub ends : (name key : ℕ) (start now : Trees) (k : ℕ) → IsLive start key → IsEmptying name key start now k
    → length (refs (under start key)) ≤ k
    → region.find now.trees key ≡ option_map (emptied name) (region.find start.trees key)
ends name key start now k live i h =
    stands_under now key i.live
    ∙ ap (λ n. Some n) (sym (stays_same (empty name) (under now key)
    (stay_all (empty name) (refs (under now key)) (λ j r l e. i.passed j r (let c : length (refs (under now key)) ≡ length (refs (under start key)) = i.count in omega arith) e)))
    ∙ i.same)
    ∙ ap (λ o. option_map (emptied name) o) (sym (stands_under start key live))

-- the emptied tree under a key, or none
abbrev pub emptied_at : ℕ → Trees → ℕ → Option Node
emptied_at name store key = option_map (emptied name) (region.find store.trees key)

twice_at : (name : ℕ) (o : Option Node) → option_map (emptied name) (option_map (emptied name) o) ≡ option_map (emptied name) o
twice_at name None = refl
twice_at name (Some node) = ap (λ n. Some n) (emptied_twice name node)

-- The trees of the blocks before a place are emptied, and all are as they were but for that.
pub record IsEmptyingAll (name : ℕ) (slots : List Slot) (start now : Trees) (k : ℕ) : Type 0 where
  pub same : (key : ℕ) → emptied_at name now key ≡ emptied_at name start key
  pub live : (key : ℕ) → IsLive start key → IsLive now key
  pub passed : (j : ℕ) (s : Slot) → j < k → slice_get slots j ≡ Some s
      → emptied_at name now s.tree.run.key ≡ region.find now.trees s.tree.run.key
  pub others : (key : ℕ) → ((j : ℕ) (s : Slot) → slice_get slots j ≡ Some s → key ≢ s.tree.run.key)
      → region.find now.trees key ≡ region.find start.trees key
  pub building : now.building ≡ start.building
  pub spare : SpareStays start now

pub begins_all : (name : ℕ) (slots : List Slot) (start : Trees) → IsEmptyingAll name slots start start 0
begins_all name slots start = record {
  same = λ key. refl;
  live = λ key l. l;
  passed = λ j s l. absurd (omega arith);
  others = λ key ne. refl;
  building = refl;
  spare = spare_same start;
}

pub more_emptied : (name : ℕ) (slots : List Slot) (start now next : Trees) (k : ℕ) (s : Slot) → IsEmptyingAll name slots start now k
    → slice_get slots k ≡ Some s
    → region.find next.trees s.tree.run.key ≡ emptied_at name now s.tree.run.key
    → ((other : ℕ) → other ≢ s.tree.run.key → region.find next.trees other ≡ region.find now.trees other)
    → next.building ≡ now.building → SpareStays now next
    → IsEmptyingAll name slots start next (k + 1)
more_emptied name slots start now next k s i at tree others building spare = record {
  same = λ key. same key ∙ i.same key;
  live = λ key l. live key (i.live key l);
  passed = λ j c l e. elim (test (j == k)) [
    | inl q ↦
        let is : Some s ≡ Some c = sym at ∙ sym (ap (λ n. slice_get slots n) (eqb-true j k q)) ∙ e in
        let is' : s ≡ c = cc in
        subst (λ (x : Slot). emptied_at name next x.tree.run.key ≡ region.find next.trees x.tree.run.key) is' this
    | inr q ↦ still c.tree.run.key (i.passed j c (let ne : j ≢ k = eqb-false j k q in omega arith) e)
  ];
  others = λ key apart. others key (apart k s at) ∙ i.others key apart;
  building = building ∙ i.building;
  spare = spare_both start now next i.spare spare;
}
  where
    this : emptied_at name next s.tree.run.key ≡ region.find next.trees s.tree.run.key
    this = ap (λ o. option_map (emptied name) o) tree ∙ twice_at name (region.find now.trees s.tree.run.key) ∙ sym tree

    same : (key : ℕ) → emptied_at name next key ≡ emptied_at name now key
    same key = elim (test (key == s.tree.run.key)) [
      | inl q ↦
          let e : key ≡ s.tree.run.key = eqb-true key s.tree.run.key q in
          ap (λ x. emptied_at name next x) e ∙ this ∙ tree ∙ ap (λ x. emptied_at name now x) (sym e)
      | inr q ↦ ap (λ o. option_map (emptied name) o) (others key (eqb-false key s.tree.run.key q))
    ]

    live : (key : ℕ) → IsLive now key → IsLive next key
    live key l = elim (test (key == s.tree.run.key)) [
      | inl q ↦
          let e : key ≡ s.tree.run.key = eqb-true key s.tree.run.key q in
          subst (λ o. IsSome o) (sym (ap (λ x. region.find next.trees x) e ∙ tree))
          (some_map (region.find now.trees s.tree.run.key) (subst (λ x. IsLive now x) e l))
      | inr q ↦ subst (λ o. IsSome o) (sym (others key (eqb-false key s.tree.run.key q))) l
    ]
      where
        some_map : (o : Option Node) → IsSome o → IsSome (option_map (emptied name) o)
        some_map None h = absurd cc
        some_map (Some n) h = refl

    still : (key : ℕ) → emptied_at name now key ≡ region.find now.trees key → emptied_at name next key ≡ region.find next.trees key
    still key h = elim (test (key == s.tree.run.key)) [
      | inl q ↦ subst (λ x. emptied_at name next x ≡ region.find next.trees x) (sym (eqb-true key s.tree.run.key q)) this
      | inr q ↦
          let o : region.find next.trees key ≡ region.find now.trees key = others key (eqb-false key s.tree.run.key q) in
          ap (λ x. option_map (emptied name) x) o ∙ h ∙ sym o
    ]

pub all_emptied_at : (name : ℕ) (slots : List Slot) (start now : Trees) (k : ℕ) → IsEmptyingAll name slots start now k → length slots ≤ k
    → (j : ℕ) (s : Slot) → slice_get slots j ≡ Some s
    → region.find now.trees s.tree.run.key ≡ emptied_at name start s.tree.run.key
all_emptied_at name slots start now k i h j s at =
    let w : j < length slots = slice_get_within slots j s at in
    sym (i.passed j s (omega arith) at) ∙ i.same s.tree.run.key
