-- Blocks that were read, and one more behind them.
use Rattle.std.proofs.Common.{◌≡◌, ◌≢◌, ℕ, ◌+◌, ◌<◌, ◌≤◌, inl, inr, Bool, true, false, Option, Some, None, List, [], ◌∷◌, ◌++◌, length, refl, sym, ◌∙◌, ap, subst, arith, append_assoc, append-nil, length-append}
use Rattle.std.specs.Prelude.{IfSome, if◌then◌else◌, ◌==◌}
use Rattle.std.proofs.lemmas.Bool.{eqb-true, eqb-false}
use Rattle.nif_base.specs.Node.{Members, text, nodes}
use Rattle.nif_base.specs.File.{Block, block_nodes}
use Rattle.nif_schema.specs.Schema.{Schema}
use Rattle.nif_region.specs.Contents.{find, AreApart}
use Rattle.nif_stream.specs.declared.takers.Taker.{Taker}
use Rattle.nif_stream.specs.Taking.{Takes, place_of}
use Rattle.nif_stream.specs.TakerLaws.{takes_joined}
use Rattle.nif_layout.specs.Earlier.{Env}
use Rattle.nif_base.specs.Limits.{most_nodes, most_depth}
use Rattle.nif_layout.specs.Fault.{Point}
use Rattle.nif_layout.specs.Fails.{Fails, Lifted}
use Rattle.nif_decode.specs.Answers.{IsReadyTaker, Went}
use Rattle.nif_decode.specs.WentLaws.{went_on, went_whole}
use Rattle.nif_value.specs.Trees.{Trees}
use Rattle.nif_graph.specs.declared.parts.BlockPart.{BlockPart}
use Rattle.nif_lists.specs.Lists.{Listed, entry_of}
use Rattle.nif_file.specs.declared.faults.FileFault.{FileFault}
use Rattle.nif_file.specs.declared.faults.FileFault.TheVariants as file
use Rattle.nif_file.specs.declared.header.Header.{Header}
use Rattle.nif_file.specs.Stops.{Stop, of_value}
use Rattle.nif_file.specs.Head.{block_context, order_in, index_word, stated_size}
use Rattle.nif_file.specs.Files.{IsBlock, block_kind, block_text, blocks_text, IsBlockType, IsIndexed, IsValue, head_of, name_of, name_where, zero_word}
use Rattle.nif_file.specs.FileFails.{BlockFails, BlocksFail, FrameFails, SizeFails, TypeFails, ValueFails, ZeroFails}
use Rattle.nif_file_reader.specs.Halting.{Halts}
use Rattle.nif_file_reader.specs.Known.{Knows, HasBlock, HasBlocks, ReadsType, ReadsValue, block_trees, size_fault}
use Rattle.nif_file_reader.proofs.Halting.{halts_also, halts_behind, halts_known}
use Rattle.nif_file_reader.proofs.Going.{ready, takes_none}
use Rattle.nif_file_reader.proofs.Trees.{apart_more, find_kept, find_new, says_kept, says_more, trees_more}
use Rattle.nif_file_reader.proofs.BlockLaws.{are_more, fails_behind, nodes_more, text_more}

module _ {T : Type 0} (left : T → Option (List ℕ)) (still : T → T → Type 0) (faults : T → ℕ) (S : Schema) (members : Members) where
  abbrev E : Env
  E = head_of S members

  -- ---- one block

  -- its type isn't read
  pub type_halts : (k nodes : ℕ) (old new : Taker T) (fault : FileFault) → Halts left still faults (λ total. TypeFails S total E k) nodes old new fault → Halts left still faults (λ total. BlockFails S total E k) nodes old new fault
  type_halts k nodes old new fault h = halts_also left still faults (λ total. TypeFails S total E k) (λ total. BlockFails S total E k) nodes old new fault (λ total at stop n p l bad. inl bad) h

  module _ (k kind counted : ℕ) (old mid : Taker T) (t : ReadsType left still faults S members k old mid kind) (few : counted ≤ most_nodes) where
    -- behind the type something fails
    frame_halts : (new : Taker T) (fault : FileFault) → Halts left still faults (λ total. FrameFails S total E k kind) counted mid new fault → Halts left still faults (λ total. BlockFails S total E k) counted old new fault
    frame_halts new fault h =
        let none : counted ≡ counted + 0 = omega arith in
        let here : Halts left still faults (λ total. FrameFails S total E k kind) (counted + 0) mid new fault = subst (λ n. Halts left still faults (λ total. FrameFails S total E k kind) n mid new fault) none h in
        halts_behind left still faults (λ total. FrameFails S total E k kind) (λ total. BlockFails S total E k) counted 0 (name_where (index_word E k) (order_in E) (name_of S kind)) old mid new fault t.takes (omega arith)
        (λ total at next stop p bad. inr (kind, next, (t.type, t.indexed, p), bad)) here

    -- the zero word isn't read
    pub zero_halts : (new : Taker T) (fault : FileFault) → Halts left still faults (λ total. ZeroFails total E k) counted mid new fault → Halts left still faults (λ total. BlockFails S total E k) counted old new fault
    zero_halts new fault h = frame_halts new fault (halts_also left still faults (λ total. ZeroFails total E k) (λ total. FrameFails S total E k kind) counted mid new fault (λ total at stop n p l bad. inl bad) h)

    module _ (last : Taker T) (z : Takes left still faults mid (zero_word E) last) where
      behind_zero : (new : Taker T) (fault : FileFault) → Halts left still faults (λ total. ValueFails S total E k kind) counted last new fault → Halts left still faults (λ total. BlockFails S total E k) counted old new fault
      behind_zero new fault h =
          let none : counted ≡ counted + 0 = omega arith in
          let here : Halts left still faults (λ total. ValueFails S total E k kind) (counted + 0) last new fault = subst (λ n. Halts left still faults (λ total. ValueFails S total E k kind) n last new fault) none h in
          frame_halts new fault
          (halts_behind left still faults (λ total. ValueFails S total E k kind) (λ total. FrameFails S total E k kind) counted 0 (zero_word E) mid last new fault z (omega arith)
          (λ total at next stop p bad. inr (next, p, bad)) here)

      -- the value isn't read
      pub value_halts : (new : Taker T) (fault : FileFault) → Halts left still faults (λ total. Lifted (of_value total) (Fails S (block_context S E kind) most_depth (block_kind S E kind))) counted last new fault
          → Halts left still faults (λ total. BlockFails S total E k) counted old new fault
      value_halts new fault h =
          behind_zero new fault
          (halts_also left still faults (λ total. Lifted (of_value total) (Fails S (block_context S E kind) most_depth (block_kind S E kind))) (λ total. ValueFails S total E k kind) counted last new fault (λ total at stop n p l bad. inl bad) h)

      module _ (now : ℕ) (new : Taker T) (before after : Trees) (part : BlockPart) (v : ReadsValue left still faults S members kind last new counted now before after part.tree) (used : ℕ) (is : place_of new ≡ place_of last + used)
          (lists : Listed) (sizes : stated_size E k ≡ entry_of lists.sizes k) where
        long : length (text (order_in E) v.node) ≡ used
        long = omega (arith, is, v.takes.place)

        -- its length is refused
        pub size_halts : (fault : FileFault) → Some fault ≡ size_fault k used (entry_of lists.sizes k) → Halts left still faults (λ total. BlockFails S total E k) counted old new fault
        size_halts fault e = by (stated_size E k) refl (e ∙ ap (size_fault k used) (sym sizes))
          where
            few_here : counted + nodes v.node ≤ most_nodes
            few_here = omega (arith, v.nodes, v.few)

            r : IsReadyTaker new
            r = ready left still faults last new (text (order_in E) v.node) v.takes

            value_bad : (stated : ℕ) → stated_size E k ≡ Some stated → stated ≢ used → fault ≡ file.BlockSize k stated used → Halts left still faults (λ total. BlockFails S total E k) counted old new fault
            value_bad stated there other same =
                let Sized : ℕ → Point → Stop → Type 0 = λ total. SizeFails E k v.node in
                let here : Halts left still faults Sized (counted + nodes v.node) new new fault =
                halts_known left still faults Sized (counted + nodes v.node) (place_of new) [] new new fault (takes_none left still faults new r) (λ q. absurd (let z : file.BlockSize k stated used ≡ file.ReadFault = sym same ∙ q in cc)) (omega arith)
                (λ m rest told. (stated, there, λ q. other (q ∙ long), λ i. record { fault = (same ∙ ap (λ n. file.BlockSize k stated n) (sym long)) i; known = place_of new })) in
                behind_zero new fault
                (halts_behind left still faults Sized (λ total. ValueFails S total E k kind) counted (nodes v.node) (text (order_in E) v.node) last new new fault v.takes few_here
                (λ total at next stop p bad. inr (v.node, next, (v.is, p), bad)) here)

            by : (o : Option ℕ) → stated_size E k ≡ o → Some fault ≡ size_fault k used o → Halts left still faults (λ total. BlockFails S total E k) counted old new fault
            by None there q = absurd (cc)
            by (Some stated) there q = test (stated == used) refl q
              where
                test : (b : Bool) → (stated == used) ≡ b → Some fault ≡ (if b then None else Some (file.BlockSize k stated used)) → Halts left still faults (λ total. BlockFails S total E k) counted old new fault
                test true eq q = absurd (cc)
                test false eq q = value_bad stated there (eqb-false stated used eq) (cc)

        fits : None ≡ size_fault k used (entry_of lists.sizes k) → IfSome (stated_size E k) (λ stated. stated ≡ length (text (order_in E) v.node))
        fits e = by (stated_size E k) (e ∙ ap (size_fault k used) (sym sizes))
          where
            by : (o : Option ℕ) → None ≡ size_fault k used o → IfSome o (λ stated. stated ≡ length (text (order_in E) v.node))
            by None q = tt
            by (Some stated) q = test (stated == used) refl q
              where
                test : (b : Bool) → (stated == used) ≡ b → None ≡ (if b then None else Some (file.BlockSize k stated used)) → stated ≡ length (text (order_in E) v.node)
                test true eq q = eqb-true stated used eq ∙ sym long
                test false eq q = absurd (cc)

        -- and it is read
        pub has_block : None ≡ size_fault k used (entry_of lists.sizes k) → part.kind ≡ kind → part.index_word ≡ index_word E k → HasBlock left still faults S members k old new counted now before after part
        has_block e same index = record {
          node = v.node;
          is = record {
            type = subst (λ n. IsBlockType S n) (sym same) t.type;
            index = index;
            indexed = subst (λ n. IsIndexed S E k n) (sym same) t.indexed;
            value = subst (λ n. IsValue S E n v.node) (sym same) v.is;
            sized = fits e;
          };
          takes = subst (λ n. Takes left still faults old (name_where (index_word E k) (order_in E) (name_of S n) ++ (zero_word E ++ text (order_in E) v.node)) new) (sym same) whole;
          nodes = v.nodes;
          few = v.few;
          fresh = v.fresh;
          trees = v.trees;
        }
          where
            framed : Takes left still faults mid (zero_word E ++ text (order_in E) v.node) new
            framed = takes_joined left still faults mid last new (zero_word E) (text (order_in E) v.node) (zero_word E ++ text (order_in E) v.node) z v.takes refl

            whole : Takes left still faults old (name_where (index_word E k) (order_in E) (name_of S kind) ++ (zero_word E ++ text (order_in E) v.node)) new
            whole = takes_joined left still faults old mid new (name_where (index_word E k) (order_in E) (name_of S kind)) (zero_word E ++ text (order_in E) v.node) (name_where (index_word E k) (order_in E) (name_of S kind) ++ (zero_word E ++ text (order_in E) v.node)) t.takes framed refl

  -- ---- all blocks

  -- none were read yet
  pub blocks_first : (old : Taker T) (counted : ℕ) (store : Trees) → IsReadyTaker old → counted ≤ most_nodes → AreApart store.trees → HasBlocks left still faults S members 0 old old counted counted store store []
  blocks_first old counted store r few apart = record {
    blocks = [];
    are = tt;
    long = refl;
    takes = takes_none left still faults old r;
    nodes = omega arith;
    few = few;
    says = tt;
    trees = sym (append-nil store.trees);
    apart = apart;
  }

  module _ (count counted mid_nodes : ℕ) (old mid : Taker T) (before between : Trees) (parts : List BlockPart) (b : HasBlocks left still faults S members count old mid counted mid_nodes before between parts) where
    -- the header is known as before
    pub knows_still : (header : Header) (lists : Listed) → Knows S members header lists before.trees → Knows S members header lists between.trees
    knows_still header lists k = record {
      schema = k.schema;
      roles = k.roles;
      is = k.is;
      context = k.context;
      places = k.places;
      said_lists = k.said_lists;
      found = ap (λ trees. find trees header.tree.run.key) b.trees ∙ find_kept before.trees (block_trees parts b.blocks) header.tree.run.key _ k.found;
    }

    -- the next one isn't read
    pub next_halts : (all : ℕ) (new : Taker T) (fault : FileFault) → count < all → Halts left still faults (λ total. BlockFails S total E count) mid_nodes mid new fault → Halts left still faults (λ total. BlocksFail S total E 0 all) counted old new fault
    next_halts all new fault below h =
        let few : counted + block_nodes b.blocks ≤ most_nodes = omega (arith, b.nodes, b.few) in
        let within : length b.blocks < all = omega (arith, b.long) in
        let there : Halts left still faults (λ total. BlockFails S total E (length b.blocks)) mid_nodes mid new fault = subst (λ k. Halts left still faults (λ total. BlockFails S total E k) mid_nodes mid new fault) (sym b.long) h in
        let here : Halts left still faults (λ total. BlockFails S total E (length b.blocks)) (counted + block_nodes b.blocks) mid new fault = subst (λ n. Halts left still faults (λ total. BlockFails S total E (length b.blocks)) n mid new fault) b.nodes there in
        halts_behind left still faults (λ total. BlockFails S total E (length b.blocks)) (λ total. BlocksFail S total E 0 all) counted (block_nodes b.blocks) (blocks_text S E 0 b.blocks) old mid new fault b.takes few
        (λ total at next stop p bad. fails_behind S E total all b.blocks at next stop within b.are p bad) here

    -- what was read
    pub block_went : (now : ℕ) (new : Taker T) (after : Trees) (part : BlockPart) → HasBlock left still faults S members count mid new mid_nodes now between after part → Went still faults old new
    block_went now new after part n = went_on left still faults old mid new (went_whole left still faults old mid (blocks_text S E 0 b.blocks) b.takes) (went_whole left still faults mid new _ n.takes)

    -- the next one is read
    pub blocks_more : (now : ℕ) (new : Taker T) (after : Trees) (part : BlockPart) → HasBlock left still faults S members count mid new mid_nodes now between after part
        → HasBlocks left still faults S members (count + 1) old new counted now before after (parts ++ part ∷ [])
    blocks_more now new after part n = record {
      blocks = b.blocks ++ one ∷ [];
      are = are_more S E 0 b.blocks one b.are (subst (λ k. IsBlock S E k one) at n.is);
      long = length-append b.blocks (one ∷ []) ∙ ap (λ k. k + 1) b.long;
      takes = takes_joined left still faults old mid new (blocks_text S E 0 b.blocks) (block_text S E count one) (blocks_text S E 0 (b.blocks ++ one ∷ [])) b.takes n.takes
          (ap (λ k. blocks_text S E 0 b.blocks ++ block_text S E k one) at ∙ sym (text_more S E 0 b.blocks one));
      nodes = let m : block_nodes (b.blocks ++ one ∷ []) ≡ block_nodes b.blocks + nodes n.node = nodes_more S E b.blocks one in omega (arith, m, n.nodes, b.nodes);
      few = n.few;
      says = says_more after parts b.blocks part one (says_kept between after ((part.tree.run.key, n.node) ∷ []) parts b.blocks n.trees b.says)
          (record { kind = refl; index = refl; value = ap (λ trees. find trees part.tree.run.key) n.trees ∙ find_new between.trees part.tree.run.key n.node n.fresh });
      trees = n.trees ∙ ap (λ trees. trees ++ (part.tree.run.key, n.node) ∷ []) b.trees ∙ append_assoc before.trees (block_trees parts b.blocks) ((part.tree.run.key, n.node) ∷ [])
          ∙ ap (λ more. before.trees ++ more) (sym (trees_more between parts b.blocks part one b.says));
      apart = subst AreApart (sym n.trees) (apart_more between.trees part.tree.run.key n.node b.apart n.fresh);
    }
      where
        one : Block
        one = record { kind = part.kind; index = part.index_word; node = n.node }

        at : count ≡ 0 + length b.blocks
        at = omega (arith, b.long)
