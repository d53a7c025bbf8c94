-- The parts that were read make the graph of their file.
use Rattle.std.proofs.Common.{◌≡◌, ℕ, zero, suc, ◌<◌, Ok, Err, Option, Some, None, IsSome, List, [], ◌∷◌, ◌++◌, map, length, slice_get, refl, sym, ◌∙◌, ap, ap₂, subst, arith}
use Rattle.std.specs.Prelude.{unwrap_or, IfOk, IfErr}
use Rattle.std.specs.declared.result.Result.{Result}
use Rattle.nif_base.specs.Node.{Bytes}
use Rattle.nif_base.specs.File.{Block, File, nodes_of}
use Rattle.nif_region.specs.Contents.{find, AreApart}
use Rattle.nif_schema.specs.Schema.{Schema}
use Rattle.nif_value.specs.Trees.{Trees, IsLive}
use Rattle.nif_graph.specs.declared.parts.BlockPart.{BlockPart}
use Rattle.nif_graph.specs.declared.parts.GraphParts.{GraphParts}
use Rattle.nif_graph.specs.Graph.{reference}
use Rattle.nif_graph.specs.State.{GraphState, block_in, file_in, graph_in, origin_of, Differ, keys_of, AreParts}
use Rattle.nif_graph.specs.Written.{graph_of, is_indexed, numbered}
use Rattle.nif_file.specs.Heads.{ArePlaces}
use Rattle.nif_file.specs.Files.{head_in, text_of}
use Rattle.nif_file.specs.FileLaws.{AimedWithin, IndexedAlike, NumberedAgain}
use Rattle.nif_file.specs.GraphOf.{IsGraphOf, origin_in, types_in}
use Rattle.nif_stream.specs.declared.takers.Taker.{Taker}
use Rattle.nif_stream.specs.Taking.{source_of, left_of}
use Rattle.nif_file.specs.declared.faults.FileFault.{FileFault}
use Rattle.nif_file.specs.declared.faults.FileFault.TheVariants as file_faults
use Rattle.nif_file_reader.specs.Answers.{AreRead, GetsFile, HasParts}
use Rattle.nif_file_reader.specs.Known.{block_trees}
use Rattle.nif_file_reader.specs.PartsSay.{SaysBlocks, SaysFile}
use Rattle.nif_region.specs.RunLaws.{find-append}
use Rattle.nif_file_reader.proofs.Trees.{find_kept, one_same}
use Rattle.std.specs.Option.{option_or}

-- ---- keys of trees

module _ {A : Type 0} where
  abbrev keys : List (ℕ × A) → List ℕ
  keys trees = map (λ t. t.0) trees

  found_first : (key : ℕ) (value : A) (rest : List (ℕ × A)) → IsSome (find ((key, value) ∷ rest) key)
  found_first key value rest =
      subst IsSome (sym (find_kept ((key, value) ∷ []) rest key value (one_same key value))) refl

  -- a key of the list is found
  key_found : (trees : List (ℕ × A)) (j key : ℕ) → slice_get (keys trees) j ≡ Some key → IsSome (find trees key)
  key_found [] j key at = absurd cc
  key_found (t ∷ trees) zero key at =
      let same : t.0 ≡ key = cc in subst (λ k. IsSome (find (t ∷ trees) k)) same (found_first t.0 t.1 trees)
  key_found (t ∷ trees) (suc j) key at =
      let later = key_found trees j key at in
      subst IsSome (sym (find-append (t ∷ []) trees key)) (either (find (t ∷ []) key) (find trees key) later)
    where
      either : (a b : Option A) → IsSome b → IsSome (option_or a b)
      either None b h = h
      either (Some x) b h = refl

  none_some : (o : Option A) → o ≡ None → IsSome o → ⊥
  none_some None e h = cc
  none_some (Some x) e h = cc

  none_front : (xs ys : List (ℕ × A)) (key : ℕ) → find (xs ++ ys) key ≡ None → find xs key ≡ None
  none_front xs ys key e = by (find xs key) (find ys key) (sym (find-append xs ys key) ∙ e)
    where
      by : (a b : Option A) → option_or a b ≡ None → a ≡ None
      by None b h = refl
      by (Some x) b h = absurd cc

  apart_front : (xs ys : List (ℕ × A)) → AreApart (xs ++ ys) → AreApart xs
  apart_front [] ys h = tt
  apart_front (x ∷ xs) ys h = (none_front xs ys x.0 h.0, apart_front xs ys h.1)

  differ : (trees : List (ℕ × A)) → AreApart trees → Differ (keys trees)
  differ [] h = tt
  differ (t ∷ trees) h = (λ j at. none_some (find trees t.0) h.0 (key_found trees j t.0 at), differ trees h.1)

  -- the last key is none of those before
  last_other : (xs : List (ℕ × A)) (key : ℕ) (value : A) (j : ℕ) → AreApart (xs ++ (key, value) ∷ [])
      → slice_get (keys xs) j ≡ Some key → ⊥
  last_other [] key value j h at = cc
  last_other (x ∷ xs) key value zero h at =
      let same : x.0 ≡ key = cc in
      none_some (find (xs ++ (key, value) ∷ []) key) (ap (find (xs ++ (key, value) ∷ [])) (sym same) ∙ h.0)
      (last_found xs)
    where
      last_found : (xs : List (ℕ × A)) → IsSome (find (xs ++ (key, value) ∷ []) key)
      last_found xs = subst IsSome (sym (find-append xs ((key, value) ∷ []) key)) (by (find xs key) (find ((key, value) ∷ []) key) (found_first key value []))
        where
          by : (a b : Option A) → IsSome b → IsSome (option_or a b)
          by None b h = h
          by (Some y) b h = refl
  last_other (x ∷ xs) key value (suc j) h at = last_other xs key value j h.1 at

  -- the last key put behind the first
  moved : (first key : ℕ) (top value : A) (xs : List (ℕ × A)) → AreApart ((first, top) ∷ xs ++ (key, value) ∷ [])
      → Differ (first ∷ key ∷ keys xs)
  moved first key top value xs h = (by, ((λ j at. last_other xs key value j h.1 at), differ xs (apart_front xs ((key, value) ∷ []) h.1)))
    where
      all : List (ℕ × A)
      all = xs ++ (key, value) ∷ []

      last_found : IsSome (find (xs ++ (key, value) ∷ []) key)
      last_found = subst IsSome (sym (find-append xs ((key, value) ∷ []) key)) (either (find xs key) (find ((key, value) ∷ []) key) (found_first key value []))
        where
          either : (a b : Option A) → IsSome b → IsSome (option_or a b)
          either None b h = h
          either (Some y) b h = refl

      by : (j : ℕ) → slice_get (key ∷ keys xs) j ≡ Some first → ⊥
      by zero at =
          let same : key ≡ first = cc in
          none_some (find (xs ++ (key, value) ∷ []) first) h.0 (subst (λ k. IsSome (find (xs ++ (key, value) ∷ []) k)) same last_found)
      by (suc j) at = none_some (find xs first) (none_front xs ((key, value) ∷ []) first h.0) (key_found xs j first at)

-- the keys of the blocks
block_keys : (store : Trees) (parts : List BlockPart) (blocks : List Block) → SaysBlocks store parts blocks
    → map (λ t. t.0) (block_trees parts blocks) ≡ map (λ (b : BlockPart). b.tree.run.key) parts
block_keys store [] [] says = refl
block_keys store [] (b ∷ blocks) says = refl
block_keys store (p ∷ parts) [] says = absurd says
block_keys store (p ∷ parts) (b ∷ blocks) says = ap (λ l. p.tree.run.key ∷ l) (block_keys store parts blocks says.1)

block_live : (store : Trees) (parts : List BlockPart) (blocks : List Block) → SaysBlocks store parts blocks → (j key : ℕ)
    → slice_get (map (λ (b : BlockPart). b.tree.run.key) parts) j ≡ Some key → IsLive store key
block_live store [] blocks says j key at = absurd cc
block_live store (p ∷ parts) [] says j key at = absurd says
block_live store (p ∷ parts) (b ∷ blocks) says zero key at =
    let same : p.tree.run.key ≡ key = cc in
    subst (IsLive store) same (subst IsSome (sym says.0.value) refl)
block_live store (p ∷ parts) (b ∷ blocks) says (suc j) key at = block_live store parts blocks says.1 j key at

blocks_are : (store : Trees) (parts : List BlockPart) (blocks : List Block) → SaysBlocks store parts blocks
    → map (block_in store) parts ≡ blocks
blocks_are store [] [] says = refl
blocks_are store [] (b ∷ blocks) says = absurd says
blocks_are store (p ∷ parts) [] says = absurd says
blocks_are store (p ∷ parts) (b ∷ blocks) says =
    let one : block_in store p ≡ b = λ i. record {
      kind = says.0.kind i;
      index = says.0.index i;
      node = unwrap_or (says.0.value i) (Bytes []);
    } in
    ap₂ (λ x l. x ∷ l) one (blocks_are store parts blocks says.1)

blocks_count : (store : Trees) (parts : List BlockPart) (blocks : List Block) → SaysBlocks store parts blocks
    → length blocks ≡ length parts
blocks_count store [] [] says = refl
blocks_count store [] (b ∷ blocks) says = absurd says
blocks_count store (p ∷ parts) [] says = absurd says
blocks_count store (p ∷ parts) (b ∷ blocks) says = ap suc (blocks_count store parts blocks says.1)

module _ (S : Schema) (again : NumberedAgain S) (aimed : AimedWithin S) (alike : IndexedAlike S) (parts : GraphParts) (F : File)
    (read : AreRead S parts F) where
  abbrev says : SaysFile S parts F
  says = read.0

  file_is : file_in parts ≡ F
  file_is = λ i. record {
    header = unwrap_or (says.header i) (Bytes []);
    blocks = blocks_are parts.store parts.blocks F.blocks says.blocks i;
    footer = unwrap_or (says.footer i) (Bytes []);
  }

  origin_is : origin_of parts.context parts.strings ≡ origin_in S (head_in S F)
  origin_is = λ i. record {
    version = says.context.version i;
    user = says.context.user i;
    bs = says.context.bs i;
    order = says.context.order i;
    strings = says.strings i;
  }

  pub graph_is : graph_in parts ≡ graph_of parts.places (origin_in S (head_in S F)) (types_in (head_in S F)) F
  graph_is = λ i. graph_of parts.places (origin_is i) (says.types i) (file_is i)

  pub numbered_is : numbered parts.places (graph_in parts) ≡ F
  numbered_is =
      ap (numbered parts.places) graph_is
      ∙ again F (text_of S F) read.1 parts.places says.places (origin_in S (head_in S F))

  pub are_parts : AreParts parts
  are_parts = record {
    live = live;
    apart = subst (λ ks. Differ (parts.header.run.key ∷ parts.footer.run.key ∷ ks))
        (block_keys parts.store parts.blocks F.blocks says.blocks)
        (moved parts.header.run.key parts.footer.run.key F.header F.footer (block_trees parts.blocks F.blocks)
        (subst AreApart read.2.trees read.2.apart));
    idle = read.2.building;
    aimed = λ from k r target at is.
        let at' : reference (graph_of parts.places (origin_in S (head_in S F)) (types_in (head_in S F)) F) from k ≡ Some r =
        ap (λ g. reference g from k) (sym graph_is) ∙ at in
        let l : target < length F.blocks =
        aimed F (text_of S F) read.1 parts.places (origin_in S (head_in S F)) (types_in (head_in S F)) from k r target at' is in
        omega (arith, blocks_count parts.store parts.blocks F.blocks says.blocks);
    indexed = says.indexed ∙ sym (alike F (text_of S F) read.1 parts.places says.places)
        ∙ ap (is_indexed parts.places) (sym (ap (λ o. unwrap_or o (Bytes [])) says.header));
    nodes = says.nodes ∙ sym (ap nodes_of numbered_is);
  }
    where
      live : (k key : ℕ) → slice_get (keys_of parts) k ≡ Some key → IsLive parts.store key
      live zero key at =
          let same : parts.header.run.key ≡ key = cc in
          subst (IsLive parts.store) same (subst IsSome (sym says.header) refl)
      live (suc zero) key at =
          let same : parts.footer.run.key ≡ key = cc in
          subst (IsLive parts.store) same (subst IsSome (sym says.footer) refl)
      live (suc (suc k)) key at = block_live parts.store parts.blocks F.blocks says.blocks k key at

  -- the graph in memory
  pub graph_read : (state : GraphState) → state.graph ≡ graph_in parts → state.places ≡ parts.places → state.bytes ≡ parts.bytes
      → IsGraphOf S F state × (numbered state.places state.graph ≡ F)
  graph_read state graph places bytes = (
    record {
      places = subst (ArePlaces S) (sym places) says.places;
      graph = graph ∙ graph_is ∙ ap (λ p. graph_of p (origin_in S (head_in S F)) (types_in (head_in S F)) F) (sym places);
      bytes = bytes ∙ says.bytes;
    },
    (λ i. numbered (places i) (graph i)) ∙ numbered_is,
  )

-- what is got of the parts that were read, by the answer of the call that makes their graph
pub graph_got : {T : Type 0} (left : T → Option (List ℕ)) (faults : T → ℕ) (S : Schema) (old new : Taker T) (parts : GraphParts)
    → HasParts S (left_of left old) (left (source_of new)) parts → (result : Result GraphState FileFault)
    → IfOk result (λ state. (F : File) → AreRead S parts F → IsGraphOf S F state × (numbered state.places state.graph ≡ F))
    → IfErr result (λ fault. fault ≡ file_faults.NoMemory)
    → GetsFile left faults S old new result
graph_got left faults S old new parts has (Ok state) ok err =
    let made = ok has.file (has.says, has.is, has.holds) in
    record { file = has.file; is = has.is; graph = made.0; again = made.1; told = has.told; end = has.end }
graph_got left faults S old new parts has (Err fault) ok err = record {
  read = λ e. absurd (cc);
  stops = λ a b. absurd (b err);
}
