-- A change of a graph leaves a graph.
use Rattle.std.proofs.Common.{◌≡◌, ◌≢◌, inl, inr, ℕ, suc, ◌<◌, Bool, true, false, Option, Some, None, List, length, refl, sym, ◌∙◌, ap, subst, arith}
use Rattle.std.proofs.lemmas.Bool.{eqb-true, eqb-false}
use Rattle.std.proofs.lemmas.Option.{slice_get-map, slice_get_within}
use Rattle.std.specs.Prelude.{◌==◌, if◌then◌else◌, is_some, slice_get, option_and_then, insert}
use Rattle.std.specs.Option.{option_map, option_map_or}
use Rattle.nif_base.specs.Node.{Node, Reference, refs}
use Rattle.nif_base.specs.File.{Block}
use Rattle.nif_base.specs.Graph.{Named, Graph}
use Rattle.nif_cells.specs.Building.{with_target}
use Rattle.nif_graph.specs.Graph.{find, is_live, reference, Different, IsGraph}
use Rattle.nif_graph.specs.Changes.{without, changed, with_node, emptied, all_emptied, taken_out, added, replaced, targeted}
use Rattle.nif_graph.proofs.Marking.{test, differ}
use Rattle.nif_graph.proofs.Finding.{same, find-insert, find-without, find-all_emptied, find-changed, different-insert, different-without, different-all_emptied, different-changed}
use Rattle.nif_graph.proofs.Targets.{aimed, refs-retargeted, refs-with_target, at-pointed}

abbrev pub empty : ℕ → ℕ → Option ℕ
empty name target = if target == name then None else Some target

pub map_some : {X Y : Type 0} (f : X → Y) (o : Option X) (y : Y) → option_map f o ≡ Some y → (x : X) × (o ≡ Some x) × (y ≡ f x)
map_some f None y h = absurd cc
map_some f (Some x) y h = (x, refl, cc)

-- a value that stands in one of two cases
pub split : {X : Type 0} (c : Bool) (x y z : Option X) (P : Type 0) → (if c then x else y) ≡ z → (c ≡ true → x ≡ z → P) → (c ≡ false → y ≡ z → P) → P
split true x y z P h p q = p refl h
split false x y z P h p q = q refl h

-- the targets of a node are names of blocks
abbrev pub Aims : List Named → Node → Type 0
Aims blocks node = (k : ℕ) (r : Reference) (target : ℕ) → slice_get (refs node) k ≡ Some r → r.target ≡ Some target
    → is_live target blocks ≡ true

pub footer_aims : (G : Graph) → IsGraph G → Aims G.blocks G.footer
footer_aims G g k r target at is = g.aimed None k r target at is

pub block_aims : (G : Graph) → IsGraph G → (name : ℕ) (block : Block) → find name G.blocks ≡ Some block → Aims G.blocks block.node
block_aims G g name block there k r target at is =
    g.aimed (Some name) k r target
    (ap (λ o. option_and_then (λ node. slice_get (refs node) k) (option_map (λ (b : Block). b.node) o)) there ∙ at) is

-- a graph by its blocks, one by one
pub is_graph : (G : Graph) → Different G.blocks
    → ((name : ℕ) (block : Block) → find name G.blocks ≡ Some block → (name < G.next) × Aims G.blocks block.node)
    → Aims G.blocks G.footer → IsGraph G
is_graph G different each footer = record {
  different = different;
  below = λ name live. below name (find name G.blocks) refl live;
  aimed = λ from k r target at is. aims from k r target at is;
}
  where
    below : (name : ℕ) (o : Option Block) → find name G.blocks ≡ o → is_some o ≡ true → name < G.next
    below name None e live = absurd cc
    below name (Some block) e live = (each name block e).0

    found : (name : ℕ) (o : Option Block) → find name G.blocks ≡ o → (k : ℕ) (r : Reference) (target : ℕ)
        → option_and_then (λ node. slice_get (refs node) k) (option_map (λ (b : Block). b.node) o) ≡ Some r
        → r.target ≡ Some target → is_live target G.blocks ≡ true
    found name None e k r target at is = absurd cc
    found name (Some block) e k r target at is = (each name block e).1 k r target at is

    aims : (from : Option ℕ) (k : ℕ) (r : Reference) (target : ℕ) → reference G from k ≡ Some r
        → r.target ≡ Some target → is_live target G.blocks ≡ true
    aims None k r target at is = footer k r target at is
    aims (Some name) k r target at is = found name (find name G.blocks) refl k r target at is

pub is_below : (G : Graph) → IsGraph G → (name : ℕ) (block : Block) → find name G.blocks ≡ Some block → name < G.next
is_below G g name block there = g.below name (ap (λ o. is_some o) there)

pub aims_too : (old new : List Named) (node : Node) → ((n : ℕ) → is_live n old ≡ true → is_live n new ≡ true)
    → Aims old node → Aims new node
aims_too old new node still h k r target at is = still target (h k r target at is)

-- where under each name the same is found
pub same_found : (old new : Graph) → IsGraph old → Different new.blocks → ((n : ℕ) → find n new.blocks ≡ find n old.blocks)
    → new.footer ≡ old.footer → new.next ≡ old.next → IsGraph new
same_found old new g different found footer next =
    is_graph new different
    (λ name block there. (
      subst (λ m. name < m) (sym next) (is_below old g name block (sym (found name) ∙ there)),
      aims_too old.blocks new.blocks block.node still (block_aims old g name block (sym (found name) ∙ there)),
    ))
    (subst (λ node. Aims new.blocks node) (sym footer) (aims_too old.blocks new.blocks old.footer still (footer_aims old g)))
  where
    still : (n : ℕ) → is_live n old.blocks ≡ true → is_live n new.blocks ≡ true
    still n l = ap (λ o. is_some o) (found n) ∙ l

some_is : {A : Type 0} {a b : A} → Some a ≡ Some b → a ≡ b
some_is {A} {a} {b} e = ap (λ o. option_map_or (λ x. x) o a) e

-- ---- a target

pointed_aims : (blocks : List Named) (k : ℕ) (to : Option ℕ) (node : Node) → k < length (refs node)
    → ((target : ℕ) → to ≡ Some target → is_live target blocks ≡ true) → Aims blocks node → Aims blocks (with_target k to node)
pointed_aims blocks k to node within live h j r target at is =
    split (j == k) (option_map (λ (r : Reference). record r { target = to }) (slice_get (refs node) j)) (slice_get (refs node) j) (Some r)
    (is_live target blocks ≡ true)
    (sym (at-pointed k j to (refs node)) ∙ ap (λ l. slice_get l j) (sym (refs-with_target k to node within)) ∙ at)
    (λ q e. let m = map_some (λ (r : Reference). record r { target = to }) (slice_get (refs node) j) r e in
    live target (sym (ap (λ (x : Reference). x.target) m.2) ∙ is))
    (λ q e. h j r target e is)

pub targeted_graph : (G : Graph) (from : Option ℕ) (k : ℕ) (to : Option ℕ) → IsGraph G → is_some (reference G from k) ≡ true
    → ((target : ℕ) → to ≡ Some target → is_live target G.blocks ≡ true) → IsGraph (targeted G from k to)
targeted_graph G None k to g there live = record {
  different = g.different;
  below = g.below;
  aimed = λ from. by from;
}
  where
    within : k < length (refs G.footer)
    within = inside (slice_get (refs G.footer) k) refl there
      where
        inside : (o : Option Reference) → slice_get (refs G.footer) k ≡ o → is_some o ≡ true → k < length (refs G.footer)
        inside None e h = absurd cc
        inside (Some r) e h = slice_get_within (refs G.footer) k r e

    by : (from : Option ℕ) (j : ℕ) (r : Reference) (target : ℕ) → reference (targeted G None k to) from j ≡ Some r
        → r.target ≡ Some target → is_live target G.blocks ≡ true
    by None j r target at is = pointed_aims G.blocks k to G.footer within live (footer_aims G g) j r target at is
    by (Some name) j r target at is = g.aimed (Some name) j r target at is
targeted_graph G (Some name) k to g there live =
    is_graph (targeted G (Some name) k to) (different-changed name f G.blocks g.different)
    (λ n block e. split (n == name) (option_map f (find n G.blocks)) (find n G.blocks) (Some block)
    ((n < G.next) × Aims blocks block.node) (sym (find-changed n name f G.blocks) ∙ e)
    (λ q e. let m = map_some f (find n G.blocks) block e in
    let is : n ≡ name = eqb-true n name q in (
      is_below G g n m.0 m.1,
      subst (λ (b : Block). Aims blocks b.node) (sym m.2)
          (aims_too G.blocks blocks (with_target k to m.0.node) still
          (pointed_aims G.blocks k to m.0.node (within m.0 (ap (λ x. find x G.blocks) (sym is) ∙ m.1)) live (block_aims G g n m.0 m.1))),
    ))
    (λ q e. (is_below G g n block e, aims_too G.blocks blocks block.node still (block_aims G g n block e))))
    (aims_too G.blocks blocks G.footer still (footer_aims G g))
  where
    f : Block → Block
    f block = with_node block (with_target k to block.node)

    blocks : List Named
    blocks = changed name f G.blocks

    within : (b : Block) → find name G.blocks ≡ Some b → k < length (refs b.node)
    within b e = inside (slice_get (refs b.node) k) refl
        (ap (λ o. is_some (option_and_then (λ node. slice_get (refs node) k) (option_map (λ (b : Block). b.node) o))) (sym e) ∙ there)
      where
        inside : (o : Option Reference) → slice_get (refs b.node) k ≡ o → is_some o ≡ true → k < length (refs b.node)
        inside None e h = absurd cc
        inside (Some r) e h = slice_get_within (refs b.node) k r e

    still : (n : ℕ) → is_live n G.blocks ≡ true → is_live n blocks ≡ true
    still n l = ap (λ o. is_some o) (find-changed n name f G.blocks) ∙ by (n == name) (find n G.blocks) l
      where
        by : (c : Bool) (o : Option Block) → is_some o ≡ true → is_some (if c then option_map f o else o) ≡ true
        by true None l = absurd cc
        by true (Some b) l = refl
        by false o l = l

-- ---- a place

pub find_moved : (n name at : ℕ) (block : Block) (blocks : List Named) → Different blocks → find name blocks ≡ Some block
    → find n (insert (without name blocks) at (record { name = name; block = block })) ≡ find n blocks
find_moved n name at block blocks d there =
    find-insert n at (record { name = name; block = block }) (without name blocks) (find-without name name blocks d ∙ rw (same name) refl)
    ∙ ap (λ o. if n == name then Some block else o) (find-without n name blocks d)
    ∙ (elim (test (n == name)) [
      | inl q ↦ rw q (sym (ap (λ m. find m blocks) (eqb-true n name q) ∙ there))
      | inr q ↦ rw q refl
    ])

pub moved_graph : (G : Graph) (name at : ℕ) (block : Block) → IsGraph G → find name G.blocks ≡ Some block
    → IsGraph (record G { blocks = insert (without name G.blocks) at (record { name = name; block = block }) })
moved_graph G name at block g there =
    same_found G (record G { blocks = insert (without name G.blocks) at (record { name = name; block = block }) }) g
    (different-insert at (record { name = name; block = block }) (without name G.blocks)
    (find-without name name G.blocks g.different ∙ rw (same name) refl) (different-without name G.blocks g.different))
    (λ n. find_moved n name at block G.blocks g.different there) refl refl

-- ---- a block that is taken out

emptied_aims : (old new : List Named) (name : ℕ) (node : Node)
    → ((n : ℕ) → n ≢ name → is_live n old ≡ true → is_live n new ≡ true) → Aims old node → Aims new (emptied name node)
emptied_aims old new name node still h k r target at is =
    let m = map_some (aimed (empty name)) (slice_get (refs node) k) r
    (sym (slice_get-map (aimed (empty name)) (refs node) k) ∙ ap (λ l. slice_get l k) (sym (refs-retargeted (empty name) node)) ∙ at) in
    by m.0 (m.0.target) refl (sym (ap (λ (x : Reference). x.target) m.2) ∙ is) m.1
  where
    by : (s : Reference) (o : Option ℕ) → s.target ≡ o → option_and_then (empty name) s.target ≡ Some target
        → slice_get (refs node) k ≡ Some s → is_live target new ≡ true
    by s None e t there = absurd (let z : ◌≡◌ {A = Option ℕ} None (Some target) = rw e at t in cc)
    by s (Some u) e t there = elim (test (u == name)) [
      | inl q ↦ absurd (let z : ◌≡◌ {A = Option ℕ} None (Some target) = rw q at (let t' : empty name u ≡ Some target = rw e at t in t') in cc)
      | inr q ↦
          let z : Some u ≡ Some target = rw q at (let t' : empty name u ≡ Some target = rw e at t in t') in
          let is' : u ≡ target = some_is z in
          subst (λ x. is_live x new ≡ true) is' (still u (eqb-false u name q) (h k s u there e))
    ]

pub find_taken : (n name : ℕ) (blocks : List Named) → Different blocks
    → find n (all_emptied name (without name blocks))
    ≡ option_map (λ (b : Block). with_node b (emptied name b.node)) (if n == name then None else find n blocks)
find_taken n name blocks d =
    find-all_emptied n name (without name blocks)
    ∙ ap (λ o. option_map (λ (b : Block). with_node b (emptied name b.node)) o) (find-without n name blocks d)

pub taken_graph : (G : Graph) (name : ℕ) → IsGraph G → IsGraph (taken_out G name)
taken_graph G name g =
    is_graph (taken_out G name) (different-all_emptied name (without name G.blocks) (different-without name G.blocks g.different))
    (λ n block e.
    let m = map_some (λ (b : Block). with_node b (emptied name b.node)) (if n == name then None else find n G.blocks) block
    (sym (find_taken n name G.blocks g.different) ∙ e) in
    split (n == name) None (find n G.blocks) (Some m.0) ((n < G.next) × Aims blocks block.node) m.1
    (λ q e. absurd (let z : ◌≡◌ {A = Option Block} None (Some m.0) = e in cc))
    (λ q e. (
      is_below G g n m.0 e,
      subst (λ (b : Block). Aims blocks b.node) (sym m.2) (emptied_aims G.blocks blocks name m.0.node still (block_aims G g n m.0 e)),
    )))
    (emptied_aims G.blocks blocks name G.footer still (footer_aims G g))
  where
    blocks : List Named
    blocks = all_emptied name (without name G.blocks)

    still : (n : ℕ) → n ≢ name → is_live n G.blocks ≡ true → is_live n blocks ≡ true
    still n ne l =
        ap (λ o. is_some o) (find_taken n name G.blocks g.different)
        ∙ rw (differ n name ne) (by (find n G.blocks) l)
      where
        by : (o : Option Block) → is_some o ≡ true → is_some (option_map (λ (b : Block). with_node b (emptied name b.node)) o) ≡ true
        by None l = absurd cc
        by (Some b) l = refl

-- ---- a block that comes

pub fresh : (G : Graph) → IsGraph G → find G.next G.blocks ≡ None
fresh G g = by (find G.next G.blocks) refl
  where
    by : (o : Option Block) → find G.next G.blocks ≡ o → o ≡ None
    by None e = refl
    by (Some b) e = absurd (let l : G.next < G.next = is_below G g G.next b e in omega arith)

pub added_graph : (G : Graph) (at : ℕ) (block : Block) → IsGraph G → Aims G.blocks block.node → IsGraph (added G at block)
added_graph G at block g aims =
    is_graph (added G at block) (different-insert at (record { name = G.next; block = block }) G.blocks (fresh G g) g.different)
    (λ n b e. split (n == G.next) (Some block) (find n G.blocks) (Some b) ((n < suc G.next) × Aims blocks b.node)
    (sym (find-insert n at (record { name = G.next; block = block }) G.blocks (fresh G g)) ∙ e)
    (λ q e. let is : n ≡ G.next = eqb-true n G.next q in
    (omega arith, subst (λ (x : Block). Aims blocks x.node) (some_is e) (aims_too G.blocks blocks block.node still aims)))
    (λ q e. let l : n < G.next = is_below G g n b e in
    (omega arith, aims_too G.blocks blocks b.node still (block_aims G g n b e))))
    (aims_too G.blocks blocks G.footer still (footer_aims G g))
  where
    blocks : List Named
    blocks = insert G.blocks at (record { name = G.next; block = block })

    still : (n : ℕ) → is_live n G.blocks ≡ true → is_live n blocks ≡ true
    still n l =
        ap (λ o. is_some o) (find-insert n at (record { name = G.next; block = block }) G.blocks (fresh G g))
        ∙ by (n == G.next) (find n G.blocks) l
      where
        by : (c : Bool) (o : Option Block) → is_some o ≡ true → is_some (if c then Some block else o) ≡ true
        by true o l = refl
        by false o l = l

pub replaced_graph : (G : Graph) (name : ℕ) (block : Block) → IsGraph G → Aims G.blocks block.node → IsGraph (replaced G name block)
replaced_graph G name block g aims =
    is_graph (replaced G name block) (different-changed name f G.blocks g.different)
    (λ n b e. split (n == name) (option_map f (find n G.blocks)) (find n G.blocks) (Some b) ((n < G.next) × Aims blocks b.node)
    (sym (find-changed n name f G.blocks) ∙ e)
    (λ q e. let m = map_some f (find n G.blocks) b e in (
      is_below G g n m.0 m.1,
      subst (λ (x : Block). Aims blocks x.node) (sym m.2) (aims_too G.blocks blocks block.node still aims),
    ))
    (λ q e. (is_below G g n b e, aims_too G.blocks blocks b.node still (block_aims G g n b e))))
    (aims_too G.blocks blocks G.footer still (footer_aims G g))
  where
    f : Block → Block
    f old = block

    blocks : List Named
    blocks = changed name f G.blocks

    still : (n : ℕ) → is_live n G.blocks ≡ true → is_live n blocks ≡ true
    still n l = ap (λ o. is_some o) (find-changed n name f G.blocks) ∙ by (n == name) (find n G.blocks) l
      where
        by : (c : Bool) (o : Option Block) → is_some o ≡ true → is_some (if c then option_map f o else o) ≡ true
        by true None l = absurd cc
        by true (Some b) l = refl
        by false o l = l
