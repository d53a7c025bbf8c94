-- What is kept, and the graph that it stands for.
use Rattle.std.proofs.Common.{◌≡◌, ◌≢◌, inl, inr, ℕ, zero, suc, ◌+◌, ◌^◌, ◌<◌, ◌≤◌, Bool, true, Option, Some, None, IsSome, IfSome, List, [], ◌∷◌, ◌++◌, map, length, take, refl, sym, ◌∙◌, ap, subst, arith}
use Rattle.std.proofs.lemmas.Bool.{eqb-true, eqb-false, eq-eqb}
use Rattle.std.specs.Prelude.{◌==◌, if◌then◌else◌, slice_get, unwrap_or, option_and_then, vec_capacity}
use Rattle.std.specs.Option.{option_map}
use Rattle.nif_base.specs.Node.{Node, Bytes, Reference, refs}
use Rattle.nif_base.specs.File.{Block, nodes_of}
use Rattle.nif_base.specs.Graph.{Origin, Named}
use Rattle.nif_region.specs.Contents as region
use Rattle.nif_value.specs.Trees.{Trees, IsLive}
use Rattle.nif_value.specs.declared.stores.TreeId.{TreeId}
use Rattle.nif_graph.specs.declared.parts.BlockPart.{BlockPart}
use Rattle.nif_graph.specs.declared.parts.GraphParts.{GraphParts}
use Rattle.nif_graph.specs.declared.slots.Slot.{Slot}
use Rattle.nif_graph.specs.declared.marks.Marks.{Marks}
use Rattle.nif_graph.specs.declared.places.RolePlaces.{RolePlaces}
use Rattle.nif_graph.specs.Graph.{find, is_live, place, Different, IsGraph}
use Rattle.nif_graph.specs.Reach.{Leads}
use Rattle.nif_graph.specs.Slots.{Listed, place_in, slots_from}
use Rattle.nif_graph.specs.State.{node_at, block_in, origin_of, graph_in, Differ, keys_of, AreParts}
use Rattle.nif_graph.specs.Written.{named_from, numbered, is_indexed}
use Rattle.nif_graph.specs.Kept.{named_in, kept_graph, kept_keys, IsKept, SlotsLive}
use Rattle.nif_graph.proofs.Marking.{test, differ}

pub place_named : (store : Trees) (n : ℕ) (slots : List Slot) → place n (map (named_in store) slots) ≡ place_in n slots
place_named store n [] = refl
place_named store n (s ∷ slots) = ap (λ o. if n == s.name then Some 0 else option_map suc o) (place_named store n slots)

-- a block is found where it has a place
pub found_at : (store : Trees) (n p : ℕ) (slots : List Slot) (s : Slot) → place_in n slots ≡ Some p
    → slice_get slots p ≡ Some s → find n (map (named_in store) slots) ≡ Some (named_in store s).block
found_at store n p [] s h at = absurd cc
found_at store n p (c ∷ slots) s h at = elim (test (n == c.name)) [
  | inl q ↦
      let e : ◌≡◌ {A = Option ℕ} (Some 0) (Some p) = rw q at h in
      let e' : 0 ≡ p = cc in
      let at' : Some c ≡ Some s = subst (λ k. slice_get (c ∷ slots) k ≡ Some s) (sym e') at in
      let is : c ≡ s = cc in
      rw q (ap (λ (x : Slot). Some (named_in store x).block) is)
  | inr q ↦ rw q (later (λ k is e. found_at store n k slots s is e) (place_in n slots) refl (rw q at h))
]
  where
    later : ((k : ℕ) → place_in n slots ≡ Some k → slice_get slots k ≡ Some s
        → find n (map (named_in store) slots) ≡ Some (named_in store s).block)
        → (o : Option ℕ) → place_in n slots ≡ o → option_map suc o ≡ Some p
        → find n (map (named_in store) slots) ≡ Some (named_in store s).block
    later more None is e = absurd cc
    later more (Some k) is e =
        let e' : suc k ≡ p = cc in
        more k is (subst (λ i. slice_get (c ∷ slots) i ≡ Some s) (sym e') at)

-- a block that lives has a place
pub placed : (store : Trees) (n : ℕ) (slots : List Slot) → is_live n (map (named_in store) slots) ≡ true
    → IsSome (place_in n slots)
placed store n [] h = absurd cc
placed store n (s ∷ slots) h = elim (test (n == s.name)) [
  | inl q ↦ rw q refl
  | inr q ↦ rw q (more (place_in n slots) (placed store n slots (rw q at h)))
]
  where
    more : (o : Option ℕ) → IsSome o → IsSome (option_map suc o)
    more None h = absurd cc
    more (Some k) h = refl

-- the block that stands under a name
pub found_slot : (store : Trees) (n : ℕ) (slots : List Slot) (s : Slot) → is_live n (map (named_in store) slots) ≡ true
    → IfSome (place_in n slots) (λ p. slice_get slots p ≡ Some s)
    → find n (map (named_in store) slots) ≡ Some (named_in store s).block
found_slot store n slots s live at = by (place_in n slots) refl (placed store n slots live) at
  where
    by : (o : Option ℕ) → place_in n slots ≡ o → IsSome o → IfSome o (λ p. slice_get slots p ≡ Some s)
        → find n (map (named_in store) slots) ≡ Some (named_in store s).block
    by None e some at = absurd cc
    by (Some p) e some at = found_at store n p slots s e at

-- the tree of the block of a name is live
pub slot_lives : (store : Trees) (n : ℕ) (slots : List Slot) (s : Slot) → SlotsLive store slots
    → is_live n (map (named_in store) slots) ≡ true → IfSome (place_in n slots) (λ p. slice_get slots p ≡ Some s)
    → IsLive store s.tree.run.key
slot_lives store n slots s trees live at = by (place_in n slots) (placed store n slots live) at
  where
    by : (o : Option ℕ) → IsSome o → IfSome o (λ p. slice_get slots p ≡ Some s) → IsLive store s.tree.run.key
    by None some at = absurd cc
    by (Some p) some at = trees p s at

-- its strong references are to blocks
pub strong_lives : (store : Trees) (n : ℕ) (slots : List Slot) (s : Slot) → is_live n (map (named_in store) slots) ≡ true
    → IfSome (place_in n slots) (λ p. slice_get slots p ≡ Some s)
    → ((a b : ℕ) → Leads (map (named_in store) slots) a b → is_live b (map (named_in store) slots) ≡ true)
    → (k : ℕ) (r : Reference) (t : ℕ) → slice_get (refs (node_at store s.tree)) k ≡ Some r → r.strong ≡ true
    → r.target ≡ Some t → is_live t (map (named_in store) slots) ≡ true
strong_lives store n slots s live at aimed k r t there strong target =
    aimed n t ((named_in store s).block, k, r, found_slot store n slots s live at, there, strong, target)

-- the block that is found, as a slot
pub slot_found : (store : Trees) (n : ℕ) (slots : List Slot) (block : Block)
    → find n (map (named_in store) slots) ≡ Some block
    → (k : ℕ) × (s : Slot) × (slice_get slots k ≡ Some s) × ((named_in store s).block ≡ block)
slot_found store n [] block h = absurd cc
slot_found store n (c ∷ slots) block h = elim (test (n == c.name)) [
  | inl q ↦ let e : Some (named_in store c).block ≡ Some block = rw q at h in (0, c, refl, some_same e)
  | inr q ↦ let r = slot_found store n slots block (rw q at h) in (suc r.0, r.1, r.2, r.3)
]
  where
    some_same : {a b : Block} → Some a ≡ Some b → a ≡ b
    some_same {a} {b} e = ap (λ o. unwrap_or o a) e

pub name_lives : (store : Trees) (k : ℕ) (slots : List Slot) (s : Slot) → slice_get slots k ≡ Some s
    → is_live s.name (map (named_in store) slots) ≡ true
name_lives store k [] s h = absurd cc
name_lives store zero (c ∷ slots) s h =
    let e : c ≡ s = cc in
    rw (eq-eqb s.name c.name (ap (λ (x : Slot). x.name) (sym e))) refl
name_lives store (suc k) (c ∷ slots) s h = elim (test (s.name == c.name)) [
  | inl q ↦ rw q refl
  | inr q ↦ rw q (name_lives store k slots s h)
]

-- a block is found by its name
pub found_by_name : (blocks : List Named) (k : ℕ) (b : Named) → Different blocks → slice_get blocks k ≡ Some b
    → find b.name blocks ≡ Some b.block
found_by_name [] k b d h = absurd cc
found_by_name (c ∷ blocks) zero b d h =
    let e : c ≡ b = named_same h in
    rw (eq-eqb b.name c.name (ap (λ (x : Named). x.name) (sym e))) (ap (λ (x : Named). Some x.block) e)
  where
    named_same : {x y : Named} → Some x ≡ Some y → x ≡ y
    named_same {x} {y} e = ap (λ o. unwrap_or o x) e
found_by_name (c ∷ blocks) (suc k) b d h =
    let there : find b.name blocks ≡ Some b.block = found_by_name blocks k b d.1 h in
    elim (test (b.name == c.name)) [
      | inl q ↦
          let e : b.name ≡ c.name = eqb-true b.name c.name q in
          let none : find b.name blocks ≡ None = ap (λ n. find n blocks) e ∙ d.0 in
          let both : Some b.block ≡ None = sym there ∙ none in absurd cc
      | inr q ↦ rw q there
    ]

pub get_map : {A B : Type 0} (f : A → B) (xs : List A) (k : ℕ) (x : A) → slice_get xs k ≡ Some x
    → slice_get (map f xs) k ≡ Some (f x)
get_map f [] k x h = absurd cc
get_map f (y ∷ xs) zero x h = let e : y ≡ x = cc in ap (λ z. Some (f z)) e
get_map f (y ∷ xs) (suc k) x h = get_map f xs k x h

pub length_map : {A B : Type 0} (f : A → B) (xs : List A) → length (map f xs) ≡ length xs
length_map f [] = refl
length_map f (x ∷ xs) = ap suc (length_map f xs)

-- a live tree holds the node that is seen there
pub node_there : (store : Trees) (tree : TreeId) → IsLive store tree.run.key
    → region.find store.trees tree.run.key ≡ Some (node_at store tree)
node_there store tree live = by (region.find store.trees tree.run.key) live
  where
    by : (o : Option Node) → IsSome o → o ≡ Some (unwrap_or o (Bytes []))
    by None h = absurd cc
    by (Some node) h = refl

-- ---- from parts

pub names_from : (store : Trees) (n : ℕ) (blocks : List BlockPart)
    → map (named_in store) (slots_from n blocks) ≡ named_from n (map (block_in store) blocks)
names_from store n [] = refl
names_from store n (b ∷ blocks) =
    ap (λ rest. record { name = n; block = block_in store b } ∷ rest) (names_from store (suc n) blocks)

pub keys_from : (n : ℕ) (blocks : List BlockPart)
    → map (λ (s : Slot). s.tree.run.key) (slots_from n blocks) ≡ map (λ (b : BlockPart). b.tree.run.key) blocks
keys_from n [] = refl
keys_from n (b ∷ blocks) = ap (λ rest. b.tree.run.key ∷ rest) (keys_from (suc n) blocks)

pub slots_behind : (n : ℕ) (blocks : List BlockPart) → length (slots_from n blocks) ≡ length blocks
slots_behind n [] = refl
slots_behind n (b ∷ blocks) = ap suc (slots_behind (suc n) blocks)

-- with one more block
pub slots_more : (n k : ℕ) (blocks : List BlockPart) (b : BlockPart) (name : ℕ) → name ≡ n + k → slice_get blocks k ≡ Some b
    → slots_from n (take k blocks) ++ record { name = name; kind = b.kind; index_word = b.index_word; tree = b.tree } ∷ []
    ≡ slots_from n (take (k + 1) blocks)
slots_more n k blocks b name is at =
    ap (λ m. slots_from n (take k blocks) ++ record { name = m; kind = b.kind; index_word = b.index_word; tree = b.tree } ∷ []) is
    ∙ by n k blocks at
    ∙ ap (λ m. slots_from n (take m blocks)) (let e : suc k ≡ k + 1 = omega arith in e)
  where
    by : (n k : ℕ) (blocks : List BlockPart) → slice_get blocks k ≡ Some b
        → slots_from n (take k blocks) ++ record { name = n + k; kind = b.kind; index_word = b.index_word; tree = b.tree } ∷ []
        ≡ slots_from n (take (suc k) blocks)
    by n k [] at = absurd cc
    by n zero (x ∷ blocks) at =
        let e : x ≡ b = cc in
        let z : n + 0 ≡ n = omega arith in
        ap (λ m. record { name = m; kind = b.kind; index_word = b.index_word; tree = b.tree } ∷ []) z
        ∙ ap (λ (y : BlockPart). record { name = n; kind = y.kind; index_word = y.index_word; tree = y.tree } ∷ []) (sym e)
    by n (suc k) (x ∷ blocks) at =
        let z : n + suc k ≡ suc n + k = omega arith in
        ap (λ rest. record { name = n; kind = x.kind; index_word = x.index_word; tree = x.tree } ∷ rest)
        (ap (λ m. slots_from (suc n) (take k blocks) ++ record { name = m; kind = b.kind; index_word = b.index_word; tree = b.tree } ∷ []) z
        ∙ by (suc n) k blocks at)

-- no name below the first is there
none_below : (m n : ℕ) (blocks : List Block) → m < n → find m (named_from n blocks) ≡ None
none_below m n [] l = refl
none_below m n (b ∷ blocks) l = rw (differ m n (λ e. omega arith)) (none_below m (suc n) blocks (omega arith))

pub different_from : (n : ℕ) (blocks : List Block) → Different (named_from n blocks)
different_from n [] = tt
different_from n (b ∷ blocks) = (none_below n (suc n) blocks (omega arith), different_from (suc n) blocks)

pub below_from : (m n : ℕ) (blocks : List Block) → is_live m (named_from n blocks) ≡ true → m < n + length blocks
below_from m n [] h = absurd cc
below_from m n (b ∷ blocks) h = elim (test (m == n)) [
  | inl q ↦ let e : m ≡ n = eqb-true m n q in omega arith
  | inr q ↦ let l : m < suc n + length blocks = below_from m (suc n) blocks (rw q at h) in omega arith
]

pub live_from : (m n : ℕ) (blocks : List Block) → n ≤ m → m < n + length blocks
    → is_live m (named_from n blocks) ≡ true
live_from m n [] a l = absurd (omega arith)
live_from m n (b ∷ blocks) a l = elim (test (m == n)) [
  | inl q ↦ rw q refl
  | inr q ↦ rw q (let ne : m ≢ n = eqb-false m n q in live_from m (suc n) blocks (omega arith) (omega arith))
]

module _ (parts : GraphParts) (are : AreParts parts) where
  count : length (map (block_in parts.store) parts.blocks) ≡ length parts.blocks
  count = length_map (block_in parts.store) parts.blocks

  -- the graph that is kept of the parts
  pub kept_is : (listed : Listed) → listed.slots ≡ slots_from 0 parts.blocks → listed.next ≡ length parts.blocks
      → kept_graph parts.store parts.header parts.footer parts.places (origin_of parts.context parts.strings) parts.types.items listed
      ≡ graph_in parts
  kept_is listed slots next = λ i. record (graph_in parts) {
    blocks = (ap (λ s. map (named_in parts.store) s) slots ∙ names_from parts.store 0 parts.blocks) i;
    next = (next ∙ sym count) i;
  }

  parts_graph : IsGraph (graph_in parts)
  parts_graph = record {
    different = different_from 0 (map (block_in parts.store) parts.blocks);
    below = λ n l.
        let b : n < 0 + length (map (block_in parts.store) parts.blocks) = below_from n 0 (map (block_in parts.store) parts.blocks) l in
        omega arith;
    aimed = λ from k r target at is.
        live_from target 0 (map (block_in parts.store) parts.blocks) (omega arith)
        (let l : target < length parts.blocks = are.aimed from k r target at is in omega (arith, count));
  }

  -- what stands of the parts once they are kept
  pub kept : (listed : Listed) (marks : Marks) → listed.slots ≡ slots_from 0 parts.blocks → listed.next ≡ length parts.blocks
      → length marks.marks.items ≡ listed.next → (listed.next + 0 ≤ vec_capacity marks.queue)
      → (listed.next + 0 ≤ vec_capacity marks.marks) → length parts.types.items < 2 ^ 32 → listed.next < 2 ^ 32
      → IsKept parts.store parts.header parts.footer parts.places (origin_of parts.context parts.strings) parts.indexed
      parts.types.items listed parts.nodes marks 0
  kept listed marks slots next marked queued markable few_types few_names =
      let same = kept_is listed slots next in
      let keys : kept_keys parts.header parts.footer listed.slots ≡ keys_of parts =
      ap (λ ks. parts.header.run.key ∷ parts.footer.run.key ∷ ks)
      (ap (λ s. map (λ (x : Slot). x.tree.run.key) s) slots ∙ keys_from 0 parts.blocks) in
      record {
        live = λ k key at. are.live k key (sym (ap (λ ks. slice_get ks k) keys) ∙ at);
        apart = subst Differ (sym keys) are.apart;
        idle = are.idle;
        tells_index = are.indexed;
        graph = subst IsGraph (sym same) parts_graph;
        counted = are.nodes ∙ sym (ap (λ g. nodes_of (numbered parts.places g)) same);
        marked = marked;
        queued = queued;
        markable = markable;
        roomy = omega arith;
        few_types = few_types;
        few_names = few_names;
      }

-- ---- what is kept

module _ (store : Trees) (header footer : TreeId) (places : RolePlaces) (origin : Origin) (indexed : Bool)
    (types : List (List ℕ)) (listed : Listed) (nodes : ℕ) (marks : Marks) (room : ℕ)
    (h : IsKept store header footer places origin indexed types listed nodes marks room) where
  pub header_live : IsLive store header.run.key
  header_live = h.live 0 header.run.key refl

  pub footer_live : IsLive store footer.run.key
  footer_live = h.live 1 footer.run.key refl

  pub slots_live : SlotsLive store listed.slots
  slots_live k s at = h.live (suc (suc k)) s.tree.run.key (get_map (λ (x : Slot). x.tree.run.key) listed.slots k s at)

  pub kept_aimed : (a b : ℕ) → Leads (map (named_in store) listed.slots) a b
      → is_live b (map (named_in store) listed.slots) ≡ true
  kept_aimed a b l =
      h.graph.aimed (Some a) l.1 l.2 b
      (ap (λ o. option_and_then (λ node. slice_get (refs node) l.1) (option_map (λ (x : Block). x.node) o)) l.3 ∙ l.4) l.6

  -- with more room
  pub roomier : (listed' : Listed) (marks' : Marks) (room' : ℕ) → listed'.slots ≡ listed.slots → listed'.next ≡ listed.next
      → length marks'.marks.items ≡ length marks.marks.items → listed.next + room' ≤ vec_capacity marks'.queue
      → listed.next + room' ≤ vec_capacity marks'.marks → room' ≤ listed'.room
      → IsKept store header footer places origin indexed types listed' nodes marks' room'
  roomier listed' marks' room' slots next len queued markable roomy =
      let same : kept_graph store header footer places origin types listed' ≡ kept_graph store header footer places origin types listed =
      λ i. record (kept_graph store header footer places origin types listed) {
        blocks = map (named_in store) (slots i);
        next = next i;
      } in
      record {
        live = λ k key at. h.live k key (sym (ap (λ s. slice_get (kept_keys header footer s) k) slots) ∙ at);
        apart = subst (λ s. Differ (kept_keys header footer s)) (sym slots) h.apart;
        idle = h.idle;
        tells_index = h.tells_index;
        graph = subst IsGraph (sym same) h.graph;
        counted = h.counted ∙ sym (ap (λ g. nodes_of (numbered places g)) same);
        marked = len ∙ h.marked ∙ sym next;
        queued = (let q : listed.next + room' ≤ vec_capacity marks'.queue = queued in omega arith);
        markable = (let q : listed.next + room' ≤ vec_capacity marks'.marks = markable in omega arith);
        roomy = roomy;
        few_types = h.few_types;
        few_names = subst (λ n. n < 2 ^ 32) (sym next) h.few_names;
      }

  -- where the trees are the same
  pub same_graph : (store' : Trees) → store'.trees ≡ store.trees
      → kept_graph store' header footer places origin types listed ≡ kept_graph store header footer places origin types listed
  same_graph store' trees = ap (λ t. kept_graph (record store { trees = t }) header footer places origin types listed) trees

  pub restored : (store' : Trees) → store'.trees ≡ store.trees → store'.building ≡ store.building
      → IsKept store' header footer places origin indexed types listed nodes marks room
  restored store' trees building =
      let same = same_graph store' trees in
      record {
        live = λ k key at. subst (λ t. IsSome (region.find t key)) (sym trees) (h.live k key at);
        apart = h.apart;
        idle = building ∙ h.idle;
        tells_index = h.tells_index ∙ sym (ap (λ t. is_indexed places (node_at (record store { trees = t }) header)) trees);
        graph = subst IsGraph (sym same) h.graph;
        counted = h.counted ∙ sym (ap (λ g. nodes_of (numbered places g)) same);
        marked = h.marked;
        queued = h.queued;
        markable = h.markable;
        roomy = h.roomy;
        few_types = h.few_types;
        few_names = h.few_names;
      }
