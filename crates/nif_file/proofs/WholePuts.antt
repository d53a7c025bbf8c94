-- What is written of a whole graph is its file.
use Rattle.std.proofs.Common.{◌≡◌, ℕ, zero, suc, ◌+◌, ◌<◌, Bool, true, false, Option, Some, None, IsSome, List, [], ◌∷◌, ◌++◌, map, length, refl, sym, ◌∙◌, ap, subst, arith}
use Rattle.std.specs.Prelude.{slice_get, unwrap_or, ◌==◌, ◌&&◌, if◌then◌else◌}
use Rattle.std.specs.List.{flat_map}
use Rattle.std.specs.Option.{option_map_or}
use Rattle.nif_base.specs.Node.{Node, Members, Num, Line, Ref, Text, Bytes, Group, Row, End, Here, Absent, text, retargeted, retargeted_in}
use Rattle.nif_base.specs.File.{Block, File}
use Rattle.nif_base.specs.Graph.{Named, Origin}
use Rattle.nif_cells.specs.Walks.{count}
use Rattle.nif_schema.specs.Schema.{Schema, IsSchema}
use Rattle.nif_schema.specs.Roles.{Roles, header_fields}
use Rattle.nif_layout.specs.Earlier.{Env}
use Rattle.nif_decode.specs.Scopes.{member_at}
use Rattle.nif_graph.specs.Graph.{place}
use Rattle.nif_graph.specs.State.{GraphState}
use Rattle.nif_graph.specs.Written.{Told, untold, with_bits, with_items, numbers, strings, told_at, by_place, is_indexed, with_told, told_of, rest_of, numbered, block_placed}
use Rattle.nif_graph.specs.WrittenLaws.{told_again, indexed_told}
use Rattle.nif_graph.specs.declared.places.RolePlaces.{RolePlaces}
use Rattle.nif_file.specs.Head.{order_in, version_in, index_word}
use Rattle.nif_file.specs.Files.{IsHeader, AreBlocks, header_text, block_text, blocks_text, text_of, members_of, head_of, head_in, header_line, name_of, name_where, has_zero_word, zero_where}
use Rattle.nif_file.specs.GraphOf.{IsWhole}
use Rattle.nif_file.specs.PartsText.{is_number, is_row, Suits, SuitsAt, AllSuit, telling_at, IsKeptHeader, CanPut, header_part, block_part, graph_text}
use Rattle.nif_file.specs.RoleLaws.{header_line_is}
use Rattle.nif_file.specs.declared.encode_header.Telling.{Telling}
use Rattle.nif_file.specs.declared.encode_header.Telling.TheVariants as telling
use Rattle.nif_file.proofs.HeaderTexts.{header_parts, header_matched, matched_count}
use Rattle.nif_file.proofs.Telling.{told_suits}
use Rattle.nif_file.proofs.ValueSteps.{block_open}

-- ---- the header

count_same : (f : ℕ → Option ℕ) (T : ℕ → Node → Node) (n : ℕ) (members : Members)
    → count (retargeted_in f (by_place T n members)) ≡ count members
count_same f T n End = refl
count_same f T n (Here at rest) = ap (λ k. 1 + k) (count_same f T (suc n) rest)
count_same f T n (Absent rest) = ap (λ k. 1 + k) (count_same f T (suc n) rest)

-- ---- what is told keeps the form of a node

abbrev told_by : Bool → Bool → Bool → Bool → Bool → Told → Node → Node
told_by a b c d e told at =
    if a then with_bits told.blocks at else if b then with_items (numbers 4 told.sizes) at
    else if c then with_bits (length told.types) at else if d then with_items (strings told.types) at
    else if e then with_items (numbers 2 told.index) at else at

module _ (q : Node → Bool) (bits : (n : ℕ) (at : Node) → q (with_bits n at) ≡ q at)
    (items : (m : Members) (at : Node) → q (with_items m at) ≡ q at) where
  told_form : (a b c d e : Bool) (told : Told) (at : Node) → q (told_by a b c d e told at) ≡ q at
  told_form true b c d e told at = bits told.blocks at
  told_form false true c d e told at = items (numbers 4 told.sizes) at
  told_form false false true d e told at = bits (length told.types) at
  told_form false false false true e told at = items (strings told.types) at
  told_form false false false false true told at = items (numbers 2 told.index) at
  told_form false false false false false told at = refl

  form_at : (places : RolePlaces) (indexed : Bool) (told : Told) (k : ℕ) (at : Node) → q (told_at places indexed told k at) ≡ q at
  form_at places indexed told k at =
      told_form (k == places.num_blocks) (option_map_or (λ place. k == place) places.sizes false)
      (indexed && option_map_or (λ place. k == place) places.num_types false)
      (indexed && option_map_or (λ place. k == place) places.types false)
      (indexed && option_map_or (λ place. k == place) places.index false) told at

number_bits : (n : ℕ) (at : Node) → is_number (with_bits n at) ≡ is_number at
number_bits n (Num width little bits) = refl
number_bits n (Line bytes) = refl
number_bits n (Ref strong wanted target) = refl
number_bits n (Text index) = refl
number_bits n (Bytes bytes) = refl
number_bits n (Group members) = refl
number_bits n (Row items) = refl

number_items : (m : Members) (at : Node) → is_number (with_items m at) ≡ is_number at
number_items m (Num width little bits) = refl
number_items m (Line bytes) = refl
number_items m (Ref strong wanted target) = refl
number_items m (Text index) = refl
number_items m (Bytes bytes) = refl
number_items m (Group members) = refl
number_items m (Row items) = refl

row_bits : (n : ℕ) (at : Node) → is_row (with_bits n at) ≡ is_row at
row_bits n (Num width little bits) = refl
row_bits n (Line bytes) = refl
row_bits n (Ref strong wanted target) = refl
row_bits n (Text index) = refl
row_bits n (Bytes bytes) = refl
row_bits n (Group members) = refl
row_bits n (Row items) = refl

row_items : (m : Members) (at : Node) → is_row (with_items m at) ≡ is_row at
row_items m (Num width little bits) = refl
row_items m (Line bytes) = refl
row_items m (Ref strong wanted target) = refl
row_items m (Text index) = refl
row_items m (Bytes bytes) = refl
row_items m (Group members) = refl
row_items m (Row items) = refl

number_retargeted : (f : ℕ → Option ℕ) (at : Node) → is_number (retargeted f at) ≡ is_number at
number_retargeted f (Num width little bits) = refl
number_retargeted f (Line bytes) = refl
number_retargeted f (Ref strong wanted target) = refl
number_retargeted f (Text index) = refl
number_retargeted f (Bytes bytes) = refl
number_retargeted f (Group members) = refl
number_retargeted f (Row items) = refl

row_retargeted : (f : ℕ → Option ℕ) (at : Node) → is_row (retargeted f at) ≡ is_row at
row_retargeted f (Num width little bits) = refl
row_retargeted f (Line bytes) = refl
row_retargeted f (Ref strong wanted target) = refl
row_retargeted f (Text index) = refl
row_retargeted f (Bytes bytes) = refl
row_retargeted f (Group members) = refl
row_retargeted f (Row items) = refl

suits_before : (t : Telling) (f : ℕ → Option ℕ) (places : RolePlaces) (indexed : Bool) (told : Told) (k : ℕ) (at : Node)
    → Suits t (retargeted f (told_at places indexed told k at)) → Suits t at
suits_before telling.Blocks f places indexed told k at s =
    sym (number_retargeted f (told_at places indexed told k at) ∙ form_at is_number number_bits number_items places indexed told k at) ∙ s
suits_before telling.TypeCount f places indexed told k at s =
    sym (number_retargeted f (told_at places indexed told k at) ∙ form_at is_number number_bits number_items places indexed told k at) ∙ s
suits_before telling.Sizes f places indexed told k at s =
    sym (row_retargeted f (told_at places indexed told k at) ∙ form_at is_row row_bits row_items places indexed told k at) ∙ s
suits_before telling.Types f places indexed told k at s =
    sym (row_retargeted f (told_at places indexed told k at) ∙ form_at is_row row_bits row_items places indexed told k at) ∙ s
suits_before telling.Index f places indexed told k at s =
    sym (row_retargeted f (told_at places indexed told k at) ∙ form_at is_row row_bits row_items places indexed told k at) ∙ s

suits_at_before : (t : Option Telling) (f : ℕ → Option ℕ) (places : RolePlaces) (indexed : Bool) (told : Told) (k : ℕ) (at : Node)
    → SuitsAt t (retargeted f (told_at places indexed told k at)) → SuitsAt t at
suits_at_before None f places indexed told k at s = tt
suits_at_before (Some t) f places indexed told k at s = suits_before t f places indexed told k at s

-- where each member that is written suits, so does each that is kept
all_suit : (f : ℕ → Option ℕ) (places : RolePlaces) (indexed : Bool) (told : Told) (n : ℕ) (members : Members)
    → ((k : ℕ) (at : Node) → member_at (retargeted_in f (by_place (told_at places indexed told) n members)) k ≡ Some at
    → SuitsAt (telling_at places indexed (n + k)) at)
    → AllSuit places indexed n members
all_suit f places indexed told n End each = tt
all_suit f places indexed told n (Here at rest) each = (
  suits_at_before (telling_at places indexed n) f places indexed told n at
      (subst (λ m. SuitsAt (telling_at places indexed m) (retargeted f (told_at places indexed told n at))) (omega arith)
      (each 0 (retargeted f (told_at places indexed told n at)) refl)),
  all_suit f places indexed told (suc n) rest
      (λ k x e. subst (λ m. SuitsAt (telling_at places indexed m) x) (let z : n + suc k ≡ suc n + k = omega arith in z) (each (suc k) x e)),
)
all_suit f places indexed told n (Absent rest) each =
    all_suit f places indexed told (suc n) rest
    (λ k x e. subst (λ m. SuitsAt (telling_at places indexed m) x) (let z : n + suc k ≡ suc n + k = omega arith in z) (each (suc k) x e))

group_same : {a b : Members} → Group a ≡ Group b → a ≡ b
group_same {a} {b} e = ap members_of e

module _ (S : Schema) (is : IsSchema S) (roles : Roles S) (state : GraphState) (whole : IsWhole S state) where
  abbrev F : File
  F = numbered state.places state.graph

  abbrev f : ℕ → Option ℕ
  f name = place name state.graph.blocks

  abbrev told : Told
  told = told_of state.graph

  abbrev E : Env
  E = head_in S F

  -- what is kept of the header
  kept : (header : Node) → rest_of state.places header ≡ state.graph.header → IsKeptHeader S state header
  kept header rest = by header rest
    where
      file_header : IsHeader S F.header
      file_header = whole.is.header

      written : (header : Node) → rest_of state.places header ≡ state.graph.header
          → retargeted f (with_told state.places told header) ≡ Group file_header.members
      written header rest =
          ap (retargeted f) (sym (told_again state.places told untold header) ∙ ap (with_told state.places told) rest)
          ∙ file_header.group

      indexed_is : (members : Members) → rest_of state.places (Group members) ≡ state.graph.header
          → is_indexed state.places (Group members) ≡ is_indexed state.places state.graph.header
      indexed_is members rest =
          sym (indexed_told state.places untold (Group members)) ∙ ap (is_indexed state.places) rest

      by : (header : Node) → rest_of state.places header ≡ state.graph.header → IsKeptHeader S state header
      by (Num width little bits) rest = let w = written (Num width little bits) rest in absurd cc
      by (Line bytes) rest = let w = written (Line bytes) rest in absurd cc
      by (Ref strong wanted target) rest = let w = written (Ref strong wanted target) rest in absurd cc
      by (Text index) rest = let w = written (Text index) rest in absurd cc
      by (Bytes bytes) rest = let w = written (Bytes bytes) rest in absurd cc
      by (Row items) rest = let w = written (Row items) rest in absurd cc
      by (Group members) rest =
          let indexed = is_indexed state.places (Group members) in
          let same : retargeted_in f (by_place (told_at state.places indexed told) 0 members) ≡ file_header.members =
          group_same (written (Group members) rest) in
          let line_is = header_line_is S roles.roots.header roles.roots.is_header in
          record {
            members = members;
            group = refl;
            suits = subst (λ b. AllSuit state.places b 0 members) (indexed_is members rest)
                (all_suit f state.places indexed told 0 members
                (λ k at e. subst (λ m. SuitsAt (telling_at state.places indexed m) at) (let z : k ≡ 0 + k = omega arith in z)
                (told_suits S is roles state.places whole.places file_header.members file_header.each indexed k at
                (ap (λ m. member_at m k) (sym same) ∙ e))));
            all = sym (count_same f (told_at state.places indexed told) 0 members) ∙ ap count same
                ∙ matched_count (header_line S) file_header.members (header_matched S file_header.members file_header.each)
                ∙ ap length line_is;
          }

  -- ---- the blocks

  abbrev placed_blocks : List Named → List Block
  placed_blocks blocks = map (λ (b : Named). block_placed state.graph.blocks b.block) blocks

  kind_at : (n k : ℕ) (blocks : List Named) (b : Named) → AreBlocks S E n (placed_blocks blocks) → slice_get blocks k ≡ Some b
      → b.block.kind < length S
  kind_at n k [] b are at = absurd cc
  kind_at n zero (x ∷ blocks) b are at =
      let same : x ≡ b = named_same at in
      subst (λ (y : Named). y.block.kind < length S) same
      (block_open S x.block.kind (name_of S x.block.kind) are.0.type.named).0
    where
      named_same : {x y : Named} → Some x ≡ Some y → x ≡ y
      named_same {x} {y} e = ap (λ o. unwrap_or o x) e
  kind_at n (suc k) (x ∷ blocks) b are at = kind_at (n + 1) k blocks b are.1 at

  pub can_put : CanPut S state
  can_put = record {
    declared = subst IsSome (sym roles.roots.is_header.found) refl;
    header = kept;
    kinds = λ k b at. kind_at 0 k state.graph.blocks b whole.is.blocks at;
  }

  -- ---- the bytes

  order_is : state.graph.origin.order ≡ order_in E
  order_is = ap (λ (o : Origin). o.order) whole.origin

  version_is : state.graph.origin.version ≡ version_in E
  version_is = ap (λ (o : Origin). o.version) whole.origin

  said_header : header_part (header_fields S) state.graph.origin.order F.header ≡ header_text S (members_of F.header)
  said_header =
      let head = whole.is.header in
      let members_is : members_of F.header ≡ head.members = ap members_of head.group in
      ap (λ o. header_part (header_fields S) o F.header) (order_is ∙ ap (λ m. order_in (head_of S m)) members_is)
      ∙ ap (λ h. header_part (header_fields S) (order_in (head_of S head.members)) h) head.group
      ∙ sym (header_parts S roles head.members head.each) ∙ ap (header_text S) (sym members_is)

  said_blocks : (k : ℕ) (blocks : List Named) → AreBlocks S E k (placed_blocks blocks)
      → flat_map (block_part S state.graph) blocks ≡ blocks_text S E k (placed_blocks blocks)
  said_blocks k [] are = refl
  said_blocks k (b ∷ blocks) are =
      let node = retargeted f b.block.node in
      let one : block_part S state.graph b ≡ block_text S E k (block_placed state.graph.blocks b.block) =
      ap (λ i. name_where i state.graph.origin.order (name_of S b.block.kind) ++ (zero_where (has_zero_word state.graph.origin.version) ++ text state.graph.origin.order node)) are.0.index
      ∙ ap (λ o. name_where (index_word E k) o (name_of S b.block.kind) ++ (zero_where (has_zero_word state.graph.origin.version) ++ text o node)) order_is
      ∙ ap (λ v. name_where (index_word E k) (order_in E) (name_of S b.block.kind) ++ (zero_where (has_zero_word v) ++ text (order_in E) node)) version_is in
      ap (λ l. l ++ flat_map (block_part S state.graph) blocks) one
      ∙ ap (λ l. block_text S E k (block_placed state.graph.blocks b.block) ++ l) (said_blocks (k + 1) blocks are.1)

  pub said_text : graph_text S state ≡ text_of S F
  said_text =
      ap (λ l. l ++ (flat_map (block_part S state.graph) state.graph.blocks ++ text state.graph.origin.order F.footer)) said_header
      ∙ ap (λ l. header_text S (members_of F.header) ++ (l ++ text state.graph.origin.order F.footer)) (said_blocks 0 state.graph.blocks whole.is.blocks)
      ∙ ap (λ o. header_text S (members_of F.header) ++ (blocks_text S E 0 F.blocks ++ text o F.footer)) order_is
