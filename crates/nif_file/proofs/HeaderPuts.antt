-- What is put of a header, member by member.
use Rattle.std.proofs.Common.{◌≡◌, ℕ, zero, suc, ◌+◌, ◌-◌, ◌<◌, ◌≤◌, Bool, true, false, ◌&&◌, ◌==◌, if◌then◌else◌, Option, Some, None, IfSome, List, [], ◌∷◌, ◌++◌, map, length, refl, sym, ◌∙◌, ap, subst, arith, append-nil, append_assoc}
use Rattle.std.specs.Prelude.{codes, slice_get, unwrap_or}
use Rattle.std.specs.List.{flat_map}
use Rattle.std.specs.Option.{option_map, option_map_or}
use Rattle.nif_base.specs.declared.orders.Order.{Order}
use Rattle.nif_base.specs.declared.orders.Order.TheVariants.{Little}
use Rattle.nif_cells.specs.Building.{bytes_of}
use Rattle.nif_file.specs.LengthLaws.{length_text}
use Rattle.nif_base.specs.Node.{Node, Members, Num, Line, Ref, Text, Bytes, Group, Row, End, Here, Absent, number, is_little, text, texts, size, retargeted, retargeted_in}
use Rattle.nif_base.specs.File.{Block}
use Rattle.nif_base.specs.Graph.{Named, Graph}
use Rattle.nif_cells.specs.Walks.{Met, count, walk}
use Rattle.nif_cells.specs.declared.steps.Step.{Step}
use Rattle.nif_cells.specs.declared.steps.Step.TheVariants as step
use Rattle.nif_schema.specs.Declaration.{Field}
use Rattle.nif_schema.specs.Schema.{Schema}
use Rattle.nif_value.specs.Walking.{Walking, step_of, next_step, walked}
use Rattle.nif_encode.specs.declared.steps.Targets.{Targets}
use Rattle.nif_encode.specs.Texts as put
use Rattle.nif_encode.specs.Texts.{placed, spelled, one_text, behind_one, behind_many, first_met, met_at}
use Rattle.nif_encode.specs.TextLaws.{member_ahead, step_ahead, many_more}
use Rattle.nif_graph.specs.Graph.{find, place, kind_of}
use Rattle.nif_graph.specs.State.{GraphState}
use Rattle.nif_graph.specs.Written.{Told, untold, with_bits, with_items, numbers, strings, told_at, by_place, is_indexed, with_told, told_of, rest_of}
use Rattle.nif_graph.specs.WrittenLaws.{told_again, indexed_told}
use Rattle.nif_graph.specs.declared.places.RolePlaces.{RolePlaces}
use Rattle.nif_file.specs.declared.encode_header.Telling.{Telling}
use Rattle.nif_file.specs.declared.encode_header.Telling.TheVariants as telling
use Rattle.nif_file.specs.Files.{sized_string, name_of, name_where, has_zero_word, zero_where}
use Rattle.nif_file.specs.PartsText.{up_to, header_part, text_at, texts_from, members_text, block_part, telling_at, telling_node, is_absent, telling_text, Suits, SuitsAt, AllSuit, WalksHeader, written_header}

-- ---- a block of a graph by its place

-- what is found under the name of a block
pub at_name : (blocks : List Named) (k name : ℕ) (b : Named) → slice_get blocks k ≡ Some b
    → find name blocks ≡ option_map (λ (x : Named). x.block) (slice_get blocks k) → find name blocks ≡ Some b.block
at_name blocks k name b at is = is ∙ ap (λ o. option_map (λ (x : Named). x.block) o) at

pub there_is : {A : Type 0} (xs : List A) (k : ℕ) → k < length xs → (x : A) × (slice_get xs k ≡ Some x)
there_is [] k l = absurd (omega arith)
there_is (x ∷ xs) zero l = (x, refl)
there_is (x ∷ xs) (suc k) l = there_is xs k (omega arith)

-- the length of the value of a block
pub len_is : (blocks : List Named) (k name : ℕ) (found : Option Node) (b : Named) (len : ℕ) → slice_get blocks k ≡ Some b
    → find name blocks ≡ option_map (λ (x : Named). x.block) (slice_get blocks k)
    → found ≡ option_map (λ (x : Block). x.node) (find name blocks) → IfSome found (λ at. len ≡ bytes_of at)
    → len ≡ size b.block.node
len_is blocks k name found b len at is there counted =
    let node : found ≡ Some b.block.node = there ∙ ap (λ o. option_map (λ (x : Block). x.node) o) (at_name blocks k name b at is) in
    subst (λ o. IfSome o (λ at. len ≡ bytes_of at)) node counted ∙ length_text Little b.block.node

-- its index word
pub word_is : (blocks : List Named) (k name : ℕ) (b : Named) (word : Option ℕ) → slice_get blocks k ≡ Some b
    → find name blocks ≡ option_map (λ (x : Named). x.block) (slice_get blocks k)
    → option_map (λ (x : Block). x.index) (find name blocks) ≡ Some word → word ≡ b.block.index
word_is blocks k name b word at is told =
    let both : Some word ≡ Some b.block.index = sym told ∙ ap (λ o. option_map (λ (x : Block). x.index) o) (at_name blocks k name b at is) in
    ap (λ o. unwrap_or o word) both

pub entry_text : (little : Bool) (order : Order) (width n m : ℕ) → little ≡ is_little order → n ≡ m
    → number little width n ≡ number (is_little order) width m
entry_text little order width n m is same = ap (λ l. number l width n) is ∙ ap (number (is_little order) width) same

pub none_told : (o p : Option Telling) → o ≡ p → ((x : Telling) → o ≡ Some x → ⊥) → p ≡ None
none_told None p is none = sym is
none_told (Some t) p is none = absurd (none t refl)

pub absent_is : (first : Step) → is_absent first ≡ true → first ≡ step.Absent
absent_is (step.Num width little bits) h = absurd cc
absent_is (step.Line len) h = absurd cc
absent_is (step.Ref view) h = absurd cc
absent_is (step.Text index) h = absurd cc
absent_is (step.Bytes len) h = absurd cc
absent_is (step.Group members) h = absurd cc
absent_is (step.Row items) h = absurd cc
absent_is step.Absent h = refl
absent_is step.End h = absurd cc

-- the type of a block
pub kind_is : (G : Graph) (k name : ℕ) (b : Named) (kind : ℕ) → slice_get G.blocks k ≡ Some b
    → find name G.blocks ≡ option_map (λ (x : Named). x.block) (slice_get G.blocks k) → kind_of G name ≡ Some kind → kind ≡ b.block.kind
kind_is G k name b kind at is told =
    let both : Some kind ≡ Some b.block.kind = sym told ∙ ap (λ o. option_map (λ (x : Block). x.kind) o) (at_name G.blocks k name b at is) in
    ap (λ o. unwrap_or o kind) both

-- the node of its tree
pub node_is : (blocks : List Named) (k name : ℕ) (found : Option Node) (b : Named) → slice_get blocks k ≡ Some b
    → find name blocks ≡ option_map (λ (x : Named). x.block) (slice_get blocks k)
    → found ≡ option_map (λ (x : Block). x.node) (find name blocks) → unwrap_or found (Bytes []) ≡ b.block.node
node_is blocks k name found b at is there =
    ap (λ o. unwrap_or o (Bytes [])) (there ∙ ap (λ o. option_map (λ (x : Block). x.node) o) (at_name blocks k name b at is))

-- the bytes of a block, part by part
pub block_is : (S : Schema) (G : Graph) (b : Named) (kind version : ℕ) (index : Option ℕ) (order : Order) (tree : List ℕ)
    → kind ≡ b.block.kind → index ≡ b.block.index → order ≡ G.origin.order → version ≡ G.origin.version
    → tree ≡ text G.origin.order (retargeted (λ name. place name G.blocks) b.block.node)
    → name_where index order (name_of S kind) ++ (zero_where (has_zero_word version) ++ tree) ≡ block_part S G b
block_is S G b kind version index order tree kind_eq index_eq order_eq version_eq tree_eq =
    ap (λ i. name_where i order (name_of S kind) ++ (zero_where (has_zero_word version) ++ tree)) index_eq
    ∙ ap (λ o. name_where b.block.index o (name_of S kind) ++ (zero_where (has_zero_word version) ++ tree)) order_eq
    ∙ ap (λ k. name_where b.block.index G.origin.order (name_of S k) ++ (zero_where (has_zero_word version) ++ tree)) kind_eq
    ∙ ap (λ v. name_where b.block.index G.origin.order (name_of S b.block.kind) ++ (zero_where (has_zero_word v) ++ tree)) version_eq
    ∙ ap (λ t. name_where b.block.index G.origin.order (name_of S b.block.kind) ++ (zero_where (has_zero_word G.origin.version) ++ t)) tree_eq

-- ---- bytes of lists

pub numbers_text : (order : Order) (f : ℕ → Option ℕ) (width : ℕ) (value : Named → ℕ) (blocks : List Named)
    → texts order (retargeted_in f (numbers width (map value blocks)))
    ≡ flat_map (λ (b : Named). number (is_little order) width (value b)) blocks
numbers_text order f width value [] = refl
numbers_text order f width value (b ∷ blocks) =
    ap (λ l. number (is_little order) width (value b) ++ l) (numbers_text order f width value blocks)

pub strings_text : (order : Order) (f : ℕ → Option ℕ) (names : List (List ℕ))
    → texts order (retargeted_in f (strings names)) ≡ flat_map (sized_string order) names
strings_text order f [] = refl
strings_text order f (name ∷ names) =
    ap (λ l. (number (is_little order) 4 (length name) ++ (l ++ [])) ++ texts order (retargeted_in f (strings names))) refl
    ∙ ap (λ l. (number (is_little order) 4 (length name) ++ l) ++ texts order (retargeted_in f (strings names))) (append-nil name)
    ∙ ap (λ l. sized_string order name ++ l) (strings_text order f names)

-- ---- what is told at a member

telling_by : (a b c d e : Bool) (told : Told) (at : Node)
    → telling_node (if a then Some telling.Blocks else if b then Some telling.Sizes else if c then Some telling.TypeCount
    else if d then Some telling.Types else if e then Some telling.Index else None) told at
    ≡ (if a then with_bits told.blocks at else if b then with_items (numbers 4 told.sizes) at
    else if c then with_bits (length told.types) at else if d then with_items (strings told.types) at
    else if e then with_items (numbers 2 told.index) at else at)
telling_by true b c d e told at = refl
telling_by false true c d e told at = refl
telling_by false false true d e told at = refl
telling_by false false false true e told at = refl
telling_by false false false false true told at = refl
telling_by false false false false false told at = refl

pub telling_is : (places : RolePlaces) (indexed : Bool) (told : Told) (k : ℕ) (at : Node)
    → telling_node (telling_at places indexed k) told at ≡ told_at places indexed told k at
telling_is places indexed told k at =
    telling_by (k == places.num_blocks) (option_map_or (λ place. k == place) places.sizes false)
    (indexed && option_map_or (λ place. k == place) places.num_types false)
    (indexed && option_map_or (λ place. k == place) places.types false)
    (indexed && option_map_or (λ place. k == place) places.index false) told at

-- the bytes of it
node_text : (G : Graph) (order : Order) (f : ℕ → Option ℕ) (t : Telling) (at : Node) → Suits t at
    → text order (retargeted f (telling_node (Some t) (told_of G) at)) ≡ telling_text G t (step_of (first_met at)) order
node_text G order f telling.Blocks (Num width little bits) s = refl
node_text G order f telling.Blocks (Line bytes) s = absurd cc
node_text G order f telling.Blocks (Ref strong wanted target) s = absurd cc
node_text G order f telling.Blocks (Text index) s = absurd cc
node_text G order f telling.Blocks (Bytes bytes) s = absurd cc
node_text G order f telling.Blocks (Group members) s = absurd cc
node_text G order f telling.Blocks (Row items) s = absurd cc
node_text G order f telling.TypeCount (Num width little bits) s = refl
node_text G order f telling.TypeCount (Line bytes) s = absurd cc
node_text G order f telling.TypeCount (Ref strong wanted target) s = absurd cc
node_text G order f telling.TypeCount (Text index) s = absurd cc
node_text G order f telling.TypeCount (Bytes bytes) s = absurd cc
node_text G order f telling.TypeCount (Group members) s = absurd cc
node_text G order f telling.TypeCount (Row items) s = absurd cc
node_text G order f telling.Sizes (Row items) s = numbers_text order f 4 (λ b. size b.block.node) G.blocks
node_text G order f telling.Sizes (Num width little bits) s = absurd cc
node_text G order f telling.Sizes (Line bytes) s = absurd cc
node_text G order f telling.Sizes (Ref strong wanted target) s = absurd cc
node_text G order f telling.Sizes (Text index) s = absurd cc
node_text G order f telling.Sizes (Bytes bytes) s = absurd cc
node_text G order f telling.Sizes (Group members) s = absurd cc
node_text G order f telling.Types (Row items) s = strings_text order f G.types
node_text G order f telling.Types (Num width little bits) s = absurd cc
node_text G order f telling.Types (Line bytes) s = absurd cc
node_text G order f telling.Types (Ref strong wanted target) s = absurd cc
node_text G order f telling.Types (Text index) s = absurd cc
node_text G order f telling.Types (Bytes bytes) s = absurd cc
node_text G order f telling.Types (Group members) s = absurd cc
node_text G order f telling.Index (Row items) s = numbers_text order f 2 (λ b. unwrap_or b.block.index 0) G.blocks
node_text G order f telling.Index (Num width little bits) s = absurd cc
node_text G order f telling.Index (Line bytes) s = absurd cc
node_text G order f telling.Index (Ref strong wanted target) s = absurd cc
node_text G order f telling.Index (Text index) s = absurd cc
node_text G order f telling.Index (Bytes bytes) s = absurd cc
node_text G order f telling.Index (Group members) s = absurd cc

-- ---- members by their places

-- the member at a place, or none where it is absent
abbrev pub member_at : ℕ → Members → Option Node
member_at k End = None
member_at zero (Here at rest) = Some at
member_at zero (Absent rest) = None
member_at (suc k) (Here at rest) = member_at k rest
member_at (suc k) (Absent rest) = member_at k rest

abbrev text_of_member : Order → (ℕ → Option ℕ) → (Node → Node) → Option Node → List ℕ
text_of_member order f change None = []
text_of_member order f change (Some at) = text order (retargeted f (change at))

written_at : (order : Order) (f : ℕ → Option ℕ) (T : ℕ → Node → Node) (k n : ℕ) (members : Members)
    → text_at order k (retargeted_in f (by_place T n members)) ≡ text_of_member order f (T (n + k)) (member_at k members)
written_at order f T k n End = refl
written_at order f T zero n (Here at rest) = ap (λ m. text order (retargeted f (T m at))) (let e : n ≡ n + 0 = omega arith in e)
written_at order f T zero n (Absent rest) = refl
written_at order f T (suc k) n (Here at rest) =
    written_at order f T k (suc n) rest
    ∙ ap (λ m. text_of_member order f (T m) (member_at k rest)) (let e : suc n + k ≡ n + suc k = omega arith in e)
written_at order f T (suc k) n (Absent rest) =
    written_at order f T k (suc n) rest
    ∙ ap (λ m. text_of_member order f (T m) (member_at k rest)) (let e : suc n + k ≡ n + suc k = omega arith in e)

-- what is put of it by the walk
walked_at : (to : Targets) (k : ℕ) (members : Members)
    → put.text_at to k members ≡ text_of_member to.order (placed to.places.now) (λ n. n) (member_at k members)
walked_at to k End = refl
walked_at to zero (Here at rest) = refl
walked_at to zero (Absent rest) = refl
walked_at to (suc k) (Here at rest) = walked_at to k rest
walked_at to (suc k) (Absent rest) = walked_at to k rest

-- and met
met_is : (k : ℕ) (members : Members) → k < count members
    → option_map step_of (met_at k members) ≡ Some (option_map_or (λ at. step_of (first_met at)) (member_at k members) step.Absent)
met_is k End l = absurd (omega arith)
met_is zero (Here at rest) l = refl
met_is zero (Absent rest) l = refl
met_is (suc k) (Here at rest) l = met_is k rest (omega arith)
met_is (suc k) (Absent rest) l = met_is k rest (omega arith)

suits_at : (places : RolePlaces) (indexed : Bool) (k n : ℕ) (members : Members) → AllSuit places indexed n members
    → IfSome (member_at k members) (λ at. SuitsAt (telling_at places indexed (n + k)) at)
suits_at places indexed k n End s = tt
suits_at places indexed zero n (Here at rest) s =
    subst (λ m. SuitsAt (telling_at places indexed m) at) (let e : n ≡ n + 0 = omega arith in e) s.0
suits_at places indexed zero n (Absent rest) s = tt
suits_at places indexed (suc k) n (Here at rest) s =
    subst (λ m. IfSome (member_at k rest) (λ at. SuitsAt (telling_at places indexed m) at))
    (let e : suc n + k ≡ n + suc k = omega arith in e) (suits_at places indexed k (suc n) rest s.1)
suits_at places indexed (suc k) n (Absent rest) s =
    subst (λ m. IfSome (member_at k rest) (λ at. SuitsAt (telling_at places indexed m) at))
    (let e : suc n + k ≡ n + suc k = omega arith in e) (suits_at places indexed k (suc n) rest s)

module _ (state : GraphState) (members : Members) (k : ℕ) (ahead : List Met) (w : WalksHeader state members k ahead)
    (within : k < count members) (order : Order) where
  indexed : Bool
  indexed = is_indexed state.places state.graph.header

  f : ℕ → Option ℕ
  f name = place name state.graph.blocks

  T : ℕ → Node → Node
  T = told_at state.places indexed (told_of state.graph)

  indexed_is : is_indexed state.places (Group members) ≡ indexed
  unfolding indexed
  indexed_is =
      sym (indexed_told state.places untold (Group members)) ∙ ap (is_indexed state.places) w.rest

  -- the members that are written
  written_is : written_header state ≡ Group (retargeted_in f (by_place T 0 members))
  unfolding f T indexed
  written_is =
      ap (λ h. retargeted f (with_told state.places (told_of state.graph) h)) (sym w.rest)
      ∙ ap (retargeted f) (told_again state.places (told_of state.graph) untold (Group members))
      ∙ ap (λ b. Group (retargeted_in f (by_place (told_at state.places b (told_of state.graph)) 0 members))) indexed_is

  one : (Z : Members) → texts_from order k (k + 1 - k) Z ≡ text_at order k Z
  one Z = ap (λ n. texts_from order k n Z) (let e : k + 1 - k ≡ suc 0 = omega arith in e) ∙ append-nil (text_at order k Z)

  -- the bytes of the member
  member_text : members_text order k (k + 1) (written_header state) ≡ text_of_member order f (T k) (member_at k members)
  unfolding f T
  member_text =
      ap (members_text order k (k + 1)) written_is ∙ one (retargeted_in f (by_place T 0 members))
      ∙ written_at order f T k 0 members
      ∙ ap (λ m. text_of_member order f (T m) (member_at k members)) (let e : 0 + k ≡ k = omega arith in e)

  -- where nothing is told
  pub plain_text : (to : Targets) → to.order ≡ order
      → ((name : ℕ) → unwrap_or (slice_get to.places.now name) None ≡ place name state.graph.blocks)
      → telling_at state.places (is_indexed state.places state.graph.header) k ≡ None
      → one_text to 0 ahead ≡ members_text order k (k + 1) (written_header state)
  unfolding f T indexed
  plain_text to order_is places none =
      let same : placed to.places.now ≡ f = λ i name. places name i in
      ap (one_text to 0) w.at ∙ member_ahead to k members within ∙ walked_at to k members
      ∙ ap (λ o. text_of_member o (placed to.places.now) (λ n. n) (member_at k members)) order_is
      ∙ ap (λ g. text_of_member order g (λ n. n) (member_at k members)) same
      ∙ by (member_at k members) ∙ sym member_text
    where
      by : (o : Option Node) → text_of_member order f (λ n. n) o ≡ text_of_member order f (T k) o
      by None = refl
      by (Some at) = ap (λ n. text order (retargeted f n))
          (ap (λ t. telling_node t (told_of state.graph) at) (sym none)
          ∙ telling_is state.places indexed (told_of state.graph) k at)

  -- the first step
  pub first_step : next_step ahead ≡ Some (option_map_or (λ at. step_of (first_met at)) (member_at k members) step.Absent)
  first_step = ap next_step w.at ∙ step_ahead k members within ∙ met_is k members within

  -- where something is told, and the member is there
  pub told_text : (t : Telling) → telling_at state.places (is_indexed state.places state.graph.header) k ≡ Some t
      → (first : Step) → (member_at k members ≡ None → ⊥) → Some first ≡ next_step ahead
      → telling_text state.graph t first order ≡ members_text order k (k + 1) (written_header state)
  unfolding f T indexed
  told_text t told first there is =
      by (member_at k members) refl (suits_at state.places indexed k 0 members w.suits) ∙ sym member_text
    where
      by : (o : Option Node) → member_at k members ≡ o → IfSome o (λ at. SuitsAt (telling_at state.places indexed (0 + k)) at)
          → telling_text state.graph t first order ≡ text_of_member order f (T k) o
      by None e s = absurd (there e)
      by (Some at) e s =
          let step_is : Some first ≡ Some (step_of (first_met at)) =
          is ∙ first_step ∙ ap (λ o. Some (option_map_or (λ at. step_of (first_met at)) o step.Absent)) e in
          let step_same : first ≡ step_of (first_met at) = ap (λ o. unwrap_or o first) step_is in
          let suits : Suits t at =
          subst (λ o. SuitsAt o at) (ap (telling_at state.places indexed) (let z : 0 + k ≡ k = omega arith in z) ∙ told) s in
          ap (λ s. telling_text state.graph t s order) step_same ∙ sym (node_text state.graph order f t at suits)
          ∙ ap (λ n. text order (retargeted f n)) (ap (λ o. telling_node o (told_of state.graph) at) (sym told)
          ∙ telling_is state.places indexed (told_of state.graph) k at)

  pub not_absent : (first : Step) → Some first ≡ next_step ahead → is_absent first ≡ false → member_at k members ≡ None → ⊥
  not_absent first is there none =
      let met : Some first ≡ Some step.Absent =
      is ∙ first_step ∙ ap (λ o. Some (option_map_or (λ at. step_of (first_met at)) o step.Absent)) none in
      let same : first ≡ step.Absent = ap (λ o. unwrap_or o first) met in
      let said : is_absent first ≡ true = ap is_absent same in cc

  pub never_none : (o : Option Step) → o ≡ next_step ahead → ((x : Step) → o ≡ Some x → ⊥) → ⊥
  never_none o is none =
      none (option_map_or (λ at. step_of (first_met at)) (member_at k members) step.Absent) (is ∙ first_step)

  -- where it is absent
  pub absent_text : member_at k members ≡ None → members_text order k (k + 1) (written_header state) ≡ []
  absent_text none = member_text ∙ ap (text_of_member order f (T k)) none

  -- an absent member is met as such, and no other
  pub none_there : next_step ahead ≡ Some step.Absent → member_at k members ≡ None
  none_there e = by (member_at k members) refl
    where
      by : (o : Option Node) → member_at k members ≡ o → o ≡ None
      by None e' = refl
      by (Some at) e' =
          let met : Some (step_of (first_met at)) ≡ Some step.Absent =
          sym (first_step ∙ ap (λ o. Some (option_map_or (λ at. step_of (first_met at)) o step.Absent)) e') ∙ e in
          absurd (never at met)
        where
          never : (at : Node) → Some (step_of (first_met at)) ≡ Some step.Absent → ⊥
          never (Num width little bits) h = cc
          never (Line bytes) h = cc
          never (Ref strong wanted target) h = cc
          never (Text index) h = cc
          never (Bytes bytes) h = cc
          never (Group members) h = cc
          never (Row items) h = cc

-- one member further
pub walks_on : (state : GraphState) (members : Members) (k : ℕ) (ahead new : List Met) → WalksHeader state members k ahead
    → new ≡ behind_one 0 ahead → WalksHeader state members (k + 1) new
walks_on state members k ahead new w is = record {
  rest = w.rest;
  suits = w.suits;
  at = is ∙ ap (behind_one 0) w.at ∙ many_more k (walked (walk (Group members))).ahead
      ∙ ap (λ n. behind_many n (walked (walk (Group members))).ahead) (let e : suc k ≡ k + 1 = omega arith in e);
}

-- ---- members from one on

texts_more : (order : Order) (from n : ℕ) (Z : Members)
    → texts_from order from n Z ++ text_at order (from + n) Z ≡ texts_from order from (suc n) Z
texts_more order from zero Z = ap (λ k. text_at order k Z) (let e : from + 0 ≡ from = omega arith in e) ∙ sym (append-nil (text_at order from Z))
texts_more order from (suc n) Z =
    append_assoc (text_at order from Z) (texts_from order (suc from) n Z) (text_at order (from + suc n) Z)
    ∙ ap (λ k. text_at order from Z ++ (texts_from order (suc from) n Z ++ text_at order k Z)) (let e : from + suc n ≡ suc from + n = omega arith in e)
    ∙ ap (λ l. text_at order from Z ++ l) (texts_more order (suc from) n Z)

pub members_more : (order : Order) (from k : ℕ) (header : Node) → from ≤ k
    → members_text order from k header ++ members_text order k (k + 1) header ≡ members_text order from (k + 1) header
members_more order from k (Group Z) l =
    ap (λ n. texts_from order from (k - from) Z ++ texts_from order k n Z) (let e : k + 1 - k ≡ suc 0 = omega arith in e)
    ∙ ap (λ l. texts_from order from (k - from) Z ++ l) (append-nil (text_at order k Z))
    ∙ ap (λ m. texts_from order from (k - from) Z ++ text_at order m Z) (let e : k ≡ from + (k - from) = omega arith in e)
    ∙ texts_more order from (k - from) Z
    ∙ ap (λ n. texts_from order from n Z) (let e : suc (k - from) ≡ k + 1 - from = omega arith in e)
members_more order from k (Num width little bits) l = refl
members_more order from k (Line bytes) l = refl
members_more order from k (Ref strong wanted target) l = refl
members_more order from k (Text index) l = refl
members_more order from k (Bytes bytes) l = refl
members_more order from k (Row items) l = refl

texts_split : (order : Order) (from n m : ℕ) (Z : Members)
    → texts_from order from n Z ++ texts_from order (from + n) m Z ≡ texts_from order from (n + m) Z
texts_split order from n zero Z =
    append-nil (texts_from order from n Z) ∙ ap (λ k. texts_from order from k Z) (let e : n ≡ n + 0 = omega arith in e)
texts_split order from n (suc m) Z =
    sym (append_assoc (texts_from order from n Z) (text_at order (from + n) Z) (texts_from order (suc (from + n)) m Z))
    ∙ ap (λ l. l ++ texts_from order (suc (from + n)) m Z) (texts_more order from n Z)
    ∙ ap (λ k. texts_from order from (suc n) Z ++ texts_from order k m Z) (let e : suc (from + n) ≡ from + suc n = omega arith in e)
    ∙ texts_split order from (suc n) m Z
    ∙ ap (λ k. texts_from order from k Z) (let e : suc n + m ≡ n + suc m = omega arith in e)

-- what is still to come of them
pub members_rest : (order : Order) (from k to : ℕ) (header : Node) → from ≤ k → k < to
    → (members_text order from k header ++ members_text order k (k + 1) header) ++ members_text order (k + 1) to header
    ≡ members_text order from to header
members_rest order from k to (Group Z) l m =
    ap (λ x. x ++ texts_from order (k + 1) (to - (k + 1)) Z) (members_more order from k (Group Z) l)
    ∙ ap (λ n. texts_from order from (k + 1 - from) Z ++ texts_from order n (to - (k + 1)) Z) (let e : k + 1 ≡ from + (k + 1 - from) = omega arith in e)
    ∙ texts_split order from (k + 1 - from) (to - (k + 1)) Z
    ∙ ap (λ n. texts_from order from n Z) (let e : (k + 1 - from) + (to - (k + 1)) ≡ to - from = omega arith in e)
members_rest order from k to (Num width little bits) l m = refl
members_rest order from k to (Line bytes) l m = refl
members_rest order from k to (Ref strong wanted target) l m = refl
members_rest order from k to (Text index) l m = refl
members_rest order from k to (Bytes bytes) l m = refl
members_rest order from k to (Row items) l m = refl

pub no_members : (order : Order) (from : ℕ) (header : Node) → members_text order from from header ≡ []
no_members order from (Group Z) = ap (λ n. texts_from order from n Z) (let e : from - from ≡ 0 = omega arith in e)
no_members order from (Num width little bits) = refl
no_members order from (Line bytes) = refl
no_members order from (Ref strong wanted target) = refl
no_members order from (Text index) = refl
no_members order from (Bytes bytes) = refl
no_members order from (Row items) = refl

-- ---- the whole header

-- a walk that is behind the head of the header
pub begins : (state : GraphState) (members : Members) (header : Node) (ahead : List Met) (now : Walking) → header ≡ Group members
    → rest_of state.places header ≡ state.graph.header → AllSuit state.places (is_indexed state.places state.graph.header) 0 members
    → ahead ≡ walk header → now ≡ walked ahead → WalksHeader state members 0 now.ahead
begins state members header ahead now group rest suits at next = record {
  rest = ap (rest_of state.places) (sym group) ∙ rest;
  suits = suits;
  at = ap (λ (w : Walking). w.ahead) next ∙ ap (λ a. (walked a).ahead) (at ∙ ap walk group);
}

pub header_parts_are : (fields : List Field) (order : Order) (header : Node) (front all : ℕ) → front ≡ up_to (codes "Endian Type") fields
    → all ≡ length fields → members_text Little 0 front header ++ members_text order front all header ≡ header_part fields order header
header_parts_are fields order header front all front_is all_is =
    ap (λ n. members_text Little 0 n header ++ members_text order n all header) front_is
    ∙ ap (λ n. members_text Little 0 (up_to (codes "Endian Type") fields) header ++ members_text order (up_to (codes "Endian Type") fields) n header) all_is
