-- The graph of a file is written as the file.
use Rattle.std.proofs.Common.{◌≡◌, ℕ, suc, ◌+◌, ◌<◌, Bool, true, false, ◌&&◌, ◌||◌, if◌then◌else◌, Option, Some, None, IfSome, option_and_then, List, [], ◌∷◌, map, length, slice_get, refl, sym, ◌∙◌, ap, subst, arith, true≢false}
use Rattle.std.specs.Prelude.{codes, is_none, is_some, ◌==◌}
use Rattle.std.specs.Option.{option_map, option_map_or, unwrap_or}
use Rattle.std.proofs.lemmas.Bool.{eqb-true}
use Rattle.nif_base.specs.Node as node
use Rattle.nif_base.specs.Node.{Node, Members, Reference, refs, text, size}
use Rattle.nif_base.specs.File.{Block, File}
use Rattle.nif_base.specs.Graph.{Origin, Named}
use Rattle.nif_schema.specs.Schema.{Schema, IsSchema}
use Rattle.nif_schema.specs.Roles.{Roles}
use Rattle.nif_layout.specs.Earlier.{Env}
use Rattle.nif_layout.specs.Form.{number_at_item}
use Rattle.nif_decode.specs.Scopes.{member_at}
use Rattle.nif_graph.specs.Graph.{find, reference}
use Rattle.nif_graph.specs.declared.places.RolePlaces.{RolePlaces}
use Rattle.nif_graph.specs.Written.{Told, with_bits, with_items, numbers, strings, told_at, has_member, is_indexed, with_told, told_of, named_from, graph_of, numbered}
use Rattle.nif_graph.specs.WrittenLaws.{told_same, Below, BlocksBelow, below_refs, written_again}
use Rattle.nif_file.specs.Head.{member, number_of, file_context, block_context, order_in, type_names, stated_size}
use Rattle.nif_file.specs.Checks.{refuse_where, header_check}
use Rattle.nif_file.specs.Files.{IsFile, IsBlock, AreBlocks, header_depth, header_line, head_of, head_in, members_of, footer_kind, block_kind}
use Rattle.nif_file.specs.GraphOf.{types_in}
use Rattle.nif_file.specs.HeaderParts.{IsPlaceOf}
use Rattle.nif_file.specs.Heads.{ArePlaces}
use Rattle.nif_file.specs.declared.faults.FileFault.TheVariants as fault
use Rattle.nif_file.specs.LengthLaws.{length_text}
use Rattle.nif_file.specs.PlaceLaws.{place_member}
use Rattle.nif_file.proofs.Targets.{below_shape, below_header, below_more}
use Rattle.nif_file.proofs.Telling.{each_member, has_is, at_place, both_true, blocks_at, mapped_at, length_map, blocks_told, types_counted, types_told, index_told, sizes_told}

-- what a graph tells, by the blocks of its file
abbrev told_by_file : List (List ℕ) → List Block → Told
told_by_file types blocks = record {
  blocks = length blocks;
  sizes = map (λ (b : Block). size b.node) blocks;
  types = types;
  index = map (λ (b : Block). unwrap_or b.index 0) blocks;
}

named_length : (n : ℕ) (blocks : List Block) → length (named_from n blocks) ≡ length blocks
named_length n [] = refl
named_length n (b ∷ blocks) = ap suc (named_length (suc n) blocks)

named_map : (f : Block → ℕ) (n : ℕ) (blocks : List Block) → map (λ (b : Named). f b.block) (named_from n blocks) ≡ map f blocks
named_map f n [] = refl
named_map f n (b ∷ blocks) = ap (λ l. f b ∷ l) (named_map f (suc n) blocks)

tells : (places : RolePlaces) (origin : Origin) (types : List (List ℕ)) (F : File)
    → told_of (graph_of places origin types F) ≡ told_by_file types F.blocks
tells places origin types F = λ i. record {
  blocks = named_length 0 F.blocks i;
  sizes = named_map (λ b. size b.node) 0 F.blocks i;
  types = types;
  index = named_map (λ b. unwrap_or b.index 0) 0 F.blocks i;
}

no_place : {A : Type 0} (o : Option A) → is_none o ≡ false → (x : A) × (o ≡ Some x)
no_place None h = absurd (true≢false h)
no_place (Some x) h = (x, refl)

neither_none : (a b : Bool) → (a || b) ≡ false → (a ≡ false) × (b ≡ false)
neither_none true b h = absurd (true≢false h)
neither_none false b h = (refl, h)

module _ (S : Schema) (is : IsSchema S) (roles : Roles S) (F : File) (bytes : List ℕ) (file : IsFile S F bytes)
    (places : RolePlaces) (at : ArePlaces S places) where
  abbrev members : Members
  members = file.header.members

  abbrev E : Env
  E = head_of S members

  head_is : head_in S F ≡ E
  head_is = ap (λ h. head_of S (members_of h)) file.header.group

  blocks_are : AreBlocks S E 0 F.blocks
  blocks_are = subst (λ e. AreBlocks S e 0 F.blocks) head_is file.blocks

  count : length F.blocks ≡ number_of (codes "Num Blocks") E
  count = file.count ∙ ap (number_of (codes "Num Blocks")) head_is

  block_at : (j : ℕ) (b : Block) → slice_get F.blocks j ≡ Some b → IsBlock S E j b
  block_at j b there = subst (λ k. IsBlock S E k b) (let e : 0 + j ≡ j = omega arith in e) (blocks_at S E 0 j F.blocks b blocks_are there)

  -- the header is indexed where its index is present
  indexed_is : is_indexed places (node.Group members) ≡ is_some (member (codes "Block Type Index") E)
  indexed_is = by places.index refl
    where
      by : (o : Option ℕ) → places.index ≡ o → option_map_or (λ k. has_member k members) o false
          ≡ is_some (member (codes "Block Type Index") E)
      by None e = sym (ap is_some (place_member S members (codes "Block Type Index") places.index at.index ∙ ap (option_and_then (member_at members)) e))
      by (Some k) e =
          has_is k members
          ∙ sym (ap is_some (place_member S members (codes "Block Type Index") places.index at.index ∙ ap (option_and_then (member_at members)) e))

  -- an indexed file has a list of types and its number
  lists_there : is_some (member (codes "Block Type Index") E) ≡ true
      → (is_none (member (codes "Num Block Types") E) ≡ false) × (is_none (member (codes "Block Types") E) ≡ false)
  lists_there index =
      let a = is_none (member (codes "Num Block Types") E) in
      let b = is_none (member (codes "Block Types") E) in
      let none : (a || b) ≡ false =
      ap (λ i. i && (a || b)) (sym index)
      ∙ refused (is_some (member (codes "Block Type Index") E) && (a || b)) file.header.types in
      neither_none a b none
    where
      refused : (x : Bool) → refuse_where x fault.NoTypeList (head_of S file.header.members) ≡ None → x ≡ false
      refused true h = absurd cc
      refused false h = refl

  place_there : (name : List ℕ) (place : Option ℕ) → IsPlaceOf name (header_line S) place
      → is_none (member name E) ≡ false → (k : ℕ) × (place ≡ Some k)
  place_there name None where_is there =
      let none : member name E ≡ None = place_member S members name None where_is in
      let no_more : is_none (member name E) ≡ true = ap is_none none in absurd (true≢false (sym no_more ∙ there))
  place_there name (Some k) where_is there = (k, refl)

  indexed : Bool
  indexed = is_some (member (codes "Block Type Index") E)

  types : List (List ℕ)
  types = types_in E

  told : Told
  told = told_by_file types F.blocks

  each : (k : ℕ) (value : Node) → member_at members k ≡ Some value → told_at places indexed told k value ≡ value
  unfolding indexed types told
  each k value there =
      by (k == places.num_blocks) refl (option_map_or (λ p. k == p) places.sizes false) refl
      (indexed && option_map_or (λ p. k == p) places.num_types false) refl
      (indexed && option_map_or (λ p. k == p) places.types false) refl
      (indexed && option_map_or (λ p. k == p) places.index false) refl
    where
      types_are : indexed ≡ true → types ≡ type_names E
      types_are e = ap (λ b. if b then type_names E else []) e

      by : (a : Bool) → (k == places.num_blocks) ≡ a → (b : Bool) → option_map_or (λ p. k == p) places.sizes false ≡ b
          → (c : Bool) → (indexed && option_map_or (λ p. k == p) places.num_types false) ≡ c
          → (d : Bool) → (indexed && option_map_or (λ p. k == p) places.types false) ≡ d
          → (e : Bool) → (indexed && option_map_or (λ p. k == p) places.index false) ≡ e
          → (if a then with_bits told.blocks value
          else if b then with_items (numbers 4 told.sizes) value
          else if c then with_bits (length told.types) value
          else if d then with_items (strings told.types) value
          else if e then with_items (numbers 2 told.index) value
          else value) ≡ value
      by true ea b eb c ec d ed e ee =
          let there' = ap (member_at members) (sym (eqb-true k places.num_blocks ea)) ∙ there in
          ap (λ n. with_bits n value) count ∙ blocks_told S is roles places at members file.header.each value there'
      by false ea true eb c ec d ed e ee =
          let place = at_place k places.sizes eb in
          sizes_told S is roles places at members file.header.each k value place there (map (λ (b : Block). size b.node) F.blocks)
          (length_map (λ b. size b.node) F.blocks ∙ count)
          (λ j v e. size_at j v (mapped_at (λ b. size b.node) F.blocks j v e) k place)
        where
          size_at : (j v : ℕ) → (b : Block) × (slice_get F.blocks j ≡ Some b) × (size b.node ≡ v) → (k : ℕ) → places.sizes ≡ Some k
              → option_map (number_at_item false j) (member (codes "Block Size") E) ≡ Some v
          size_at j v m k place = stated (stated_size E j) refl (block_at j m.0 m.1).sized
            where
              there_is : member (codes "Block Size") E ≡ Some value
              there_is = place_member S members (codes "Block Size") places.sizes at.sizes ∙ ap (option_and_then (member_at members)) (at_place _ places.sizes eb) ∙ there

              stated : (o : Option ℕ) → stated_size E j ≡ o → IfSome o (λ s. s ≡ length (text (order_in E) m.0.node))
                  → option_map (number_at_item false j) (member (codes "Block Size") E) ≡ Some v
              stated None e h =
                  let some : option_map (number_at_item false j) (member (codes "Block Size") E) ≡ Some (number_at_item false j value) = ap (option_map (number_at_item false j)) there_is in
                  let both : None ≡ Some (number_at_item false j value) = sym e ∙ some in absurd cc
              stated (Some s) e h = e ∙ ap (λ n. Some n) (h ∙ length_text (order_in E) m.0.node ∙ m.2)
      by false ea false eb true ec d ed e ee =
          let both = both_true indexed (option_map_or (λ p. k == p) places.num_types false) ec in
          let lists = lists_there both.0 in
          let place = at_place k places.num_types both.1 in
          let t = place_there (codes "Block Types") places.types at.types lists.1 in
          let m = no_place (member (codes "Block Types") E) lists.1 in
          let there_types : member_at members t.0 ≡ Some m.0 =
          sym (place_member S members (codes "Block Types") places.types at.types ∙ ap (option_and_then (member_at members)) t.1) ∙ m.1 in
          let told_types = types_told S is roles places at members file.header.each t.0 k m.0 t.1 place there_types in
          ap (λ n. with_bits n value) (ap length (types_are both.0) ∙ told_types.1)
          ∙ types_counted S is roles places at members file.header.each k value place there
      by false ea false eb false ec true ed e ee =
          let both = both_true indexed (option_map_or (λ p. k == p) places.types false) ed in
          let lists = lists_there both.0 in
          let place = at_place k places.types both.1 in
          let n = place_there (codes "Num Block Types") places.num_types at.num_types lists.0 in
          ap (λ l. with_items (strings l) value) (types_are both.0)
          ∙ (types_told S is roles places at members file.header.each k n.0 value place n.1 there).0
      by false ea false eb false ec false ed true ee =
          let both = both_true indexed (option_map_or (λ p. k == p) places.index false) ee in
          let place = at_place k places.index both.1 in
          let there_is : member (codes "Block Type Index") E ≡ Some value =
          place_member S members (codes "Block Type Index") places.index at.index ∙ ap (option_and_then (member_at members)) place ∙ there in
          index_told S is roles places at members file.header.each k value place there (map (λ (b : Block). unwrap_or b.index 0) F.blocks)
          (length_map (λ b. unwrap_or b.index 0) F.blocks ∙ count)
          (λ j v e.
          let m = mapped_at (λ b. unwrap_or b.index 0) F.blocks j v e in
          let word : m.0.index ≡ Some (number_at_item false j value) = (block_at j m.0 m.1).index ∙ ap (option_map (number_at_item false j)) there_is in
          ap (option_map (number_at_item false j)) there_is ∙ ap (λ n. Some n) (sym (ap (λ o. unwrap_or o 0) word) ∙ m.2))
      by false ea false eb false ec false ed false ee = refl

  header_told : with_told places told (node.Group members) ≡ node.Group members
  unfolding indexed
  header_told =
      told_same places told members
      (each_member (λ k at. told_at places (is_indexed places (node.Group members)) told k at ≡ at) 0 members
      (λ k value there.
      ap (λ b. told_at places b told (0 + k) value) indexed_is
      ∙ ap (λ n. told_at places indexed told n value) (let e : 0 + k ≡ k = omega arith in e)
      ∙ each k value there))

  blocks_below : (n k : ℕ) (blocks : List Block) → number_of (codes "Num Blocks") E ≡ n → AreBlocks S E k blocks → BlocksBelow n blocks
  blocks_below n k [] e are = tt
  blocks_below n k (b ∷ blocks) e are = (
    subst (λ m. Below m b.node) e (below_shape S (block_context S E b.kind) 64 (block_kind S E b.kind) b.node are.0.value),
    blocks_below n (k + 1) blocks e are.1,
  )

  pub again : (origin : Origin) → numbered places (graph_of places origin (types_in (head_in S F)) F) ≡ F
  unfolding types told
  again origin =
      written_again places origin (types_in (head_in S F)) F
      (ap (λ t. with_told places t F.header) (tells places origin (types_in (head_in S F)) F ∙ ap (λ e. told_by_file (types_in e) F.blocks) head_is)
      ∙ ap (with_told places told) file.header.group ∙ header_told ∙ sym file.header.group)
      (subst (Below (length F.blocks)) (sym file.header.group)
      (below_more 0 (length F.blocks) (omega arith) (node.Group members)
      (below_header S header_depth (header_check S) (header_line S) [] members file.header.each)))
      (blocks_below (length F.blocks) 0 F.blocks (sym count) blocks_are)
      (subst (λ m. Below m F.footer) (sym file.count)
      (below_shape S (file_context S (head_in S F)) 64 (footer_kind S (head_in S F)) F.footer file.footer))

-- ---- the targets of its graph

found_below : (n m first : ℕ) (blocks : List Block) → BlocksBelow n blocks → (o : Option Block)
    → find m (named_from first blocks) ≡ o → (k : ℕ) (r : Reference) (t : ℕ)
    → option_and_then (λ at. slice_get (refs at) k) (option_map (λ (b : Block). b.node) o) ≡ Some r → r.target ≡ Some t → t < n
found_below n m first [] below o found k r t at is =
    let none : option_and_then (λ x. slice_get (refs x) k) (option_map (λ (b : Block). b.node) (find m (named_from first []))) ≡ Some r =
    ap (λ o. option_and_then (λ x. slice_get (refs x) k) (option_map (λ (b : Block). b.node) o)) found ∙ at in absurd cc
found_below n m first (b ∷ blocks) below o found k r t at is =
    by (λ o' found' at'. found_below n m (suc first) blocks below.1 o' found' k r t at' is) (m == first) refl found
  where
    by : ((o : Option Block) → find m (named_from (suc first) blocks) ≡ o
        → option_and_then (λ x. slice_get (refs x) k) (option_map (λ (y : Block). y.node) o) ≡ Some r → t < n)
        → (c : Bool) → (m == first) ≡ c → (if m == first then Some b else find m (named_from (suc first) blocks)) ≡ o → t < n
    by later true e h =
        let here : Some b ≡ o = sym (ap (λ c. if c then Some b else find m (named_from (suc first) blocks)) e) ∙ h in
        below_refs n b.node below.0 k r t
        (ap (λ o. option_and_then (λ x. slice_get (refs x) k) (option_map (λ (y : Block). y.node) o)) here ∙ at) is
    by later false e h =
        later o (sym (ap (λ c. if c then Some b else find m (named_from (suc first) blocks)) e) ∙ h) at

pub aimed_within : (S : Schema) (F : File) (bytes : List ℕ) → IsFile S F bytes → (places : RolePlaces) (origin : Origin) (types : List (List ℕ))
    → (from : Option ℕ) (k : ℕ) (r : Reference) (target : ℕ) → reference (graph_of places origin types F) from k ≡ Some r
    → r.target ≡ Some target → target < length F.blocks
aimed_within S F bytes file places origin types from k r target at is = by from at
  where
    blocks_at_most : (k : ℕ) (blocks : List Block) → AreBlocks S (head_in S F) k blocks → BlocksBelow (length F.blocks) blocks
    blocks_at_most k [] are = tt
    blocks_at_most k (b ∷ blocks) are = (
      subst (λ m. Below m b.node) (sym file.count) (below_shape S (block_context S (head_in S F) b.kind) 64 (block_kind S (head_in S F) b.kind) b.node are.0.value),
      blocks_at_most (k + 1) blocks are.1,
    )

    by : (from : Option ℕ) → reference (graph_of places origin types F) from k ≡ Some r → target < length F.blocks
    by None at =
        below_refs (length F.blocks) F.footer
        (subst (λ m. Below m F.footer) (sym file.count) (below_shape S (file_context S (head_in S F)) 64 (footer_kind S (head_in S F)) F.footer file.footer))
        k r target at is
    by (Some name) at =
        found_below (length F.blocks) name 0 F.blocks (blocks_at_most 0 F.blocks file.blocks) (find name (named_from 0 F.blocks)) refl k r target at is

-- a file is indexed where its header has an index of types
pub indexed_alike : (S : Schema) (F : File) (bytes : List ℕ) → IsFile S F bytes → (places : RolePlaces) → ArePlaces S places
    → is_indexed places F.header ≡ is_some (member (codes "Block Type Index") (head_in S F))
indexed_alike S F bytes file places at =
    ap (is_indexed places) file.header.group ∙ by places.index refl
    ∙ ap (λ h. is_some (member (codes "Block Type Index") (head_of S (members_of h)))) (sym file.header.group)
  where
    by : (o : Option ℕ) → places.index ≡ o → option_map_or (λ k. has_member k file.header.members) o false
        ≡ is_some (member (codes "Block Type Index") (head_of S file.header.members))
    by None e =
        sym (ap is_some (place_member S file.header.members (codes "Block Type Index") places.index at.index
        ∙ ap (option_and_then (member_at file.header.members)) e))
    by (Some k) e =
        has_is k file.header.members
        ∙ sym (ap is_some (place_member S file.header.members (codes "Block Type Index") places.index at.index
        ∙ ap (option_and_then (member_at file.header.members)) e))
