-- What stands behind the header: the blocks, the footer, and nothing more.
use Rattle.std.proofs.Common.{◌≡◌, ℕ, ◌+◌, ◌≤◌, inl, inr, List, [], ◌∷◌, ◌++◌, length, refl, sym, ◌∙◌, ap, subst, arith, append_assoc, append-nil, Option}
use Rattle.std.specs.Prelude.{codes}
use Rattle.nif_base.specs.Node.{Node, Members, text, nodes}
use Rattle.nif_base.specs.File.{Block, block_nodes}
use Rattle.nif_base.specs.Outside.{IsAtEnd}
use Rattle.nif_schema.specs.Schema.{Schema}
use Rattle.nif_region.specs.Contents.{find, AreApart}
use Rattle.nif_stream.specs.declared.takers.Taker.{Taker}
use Rattle.nif_stream.specs.Taking.{Takes, left_of}
use Rattle.nif_stream.specs.TakerLaws.{takes_joined}
use Rattle.nif_layout.specs.Context.{Context}
use Rattle.nif_layout.specs.Earlier.{Env}
use Rattle.nif_base.specs.Limits.{most_nodes, most_depth}
use Rattle.nif_layout.specs.Fault.{Point, Passes}
use Rattle.nif_layout.specs.Fails.{Fails, Lifted}
use Rattle.nif_layout.specs.PassLaws.{split}
use Rattle.nif_value.specs.Trees.{Trees}
use Rattle.nif_value.specs.declared.stores.TreeId.{TreeId}
use Rattle.nif_graph.specs.declared.parts.BlockPart.{BlockPart}
use Rattle.nif_file.specs.declared.faults.FileFault.{FileFault}
use Rattle.nif_file.specs.declared.header.Header.{Header}
use Rattle.nif_lists.specs.Lists.{Listed}
use Rattle.nif_file.specs.Stops.{Stop, of_value}
use Rattle.nif_file.specs.Head.{file_context, order_in, number_of}
use Rattle.nif_file.specs.Files.{AreBlocks, blocks_text, footer_kind, head_of}
use Rattle.nif_file.specs.FileFails.{BlocksRead, BlocksFail, BodyFails, IsTrailing}
use Rattle.nif_file.specs.BlockLaws.{blocks_split}
use Rattle.nif_file_reader.specs.Halting.{Halts}
use Rattle.nif_file_reader.specs.Known.{Knows, HasBlocks, HasRest, ReadsFooter, block_trees}
use Rattle.nif_file_reader.proofs.Halting.{halts_also, halts_behind}
use Rattle.nif_file_reader.proofs.Trees.{find_new, says_kept, apart_more}

-- how many blocks the header says
pub said_blocks : (S : Schema) (members : Members) (header : Header) (lists : Listed) (trees : List (ℕ × Node)) → Knows S members header lists trees → header.bounds.blocks ≡ number_of (codes "Num Blocks") (head_of S members)
said_blocks S members header lists trees k = ap (λ (c : Context). c.blocks) k.context

module _ {T : Type 0} (left : T → Option (List ℕ)) (still : T → T → Type 0) (faults : T → ℕ) (S : Schema) (members : Members) where
  abbrev E : Env
  E = head_of S members

  abbrev FooterStops : ℕ → Point → Stop → Type 0
  FooterStops total = Lifted (of_value total) (Fails S (file_context S E) most_depth (footer_kind S E))

  read_blocks : (blocks : List Block) (count : ℕ) (at next : Point) → AreBlocks S E 0 blocks → length blocks ≡ count → count ≡ number_of (codes "Num Blocks") E → Passes (blocks_text S E 0 blocks) (block_nodes blocks) at next
      → BlocksRead S E 0 (number_of (codes "Num Blocks") E) blocks at next
  read_blocks blocks count at next are long said p = subst (λ (n : ℕ). BlocksRead S E 0 n blocks at next) (long ∙ said) (blocks_split S E blocks 0 at next are p)

  -- the blocks fail
  pub blocks_halt : (count nodes : ℕ) (old new : Taker T) (fault : FileFault) → count ≡ number_of (codes "Num Blocks") E → Halts left still faults (λ total. BlocksFail S total E 0 count) nodes old new fault
      → Halts left still faults (λ total. BodyFails S total E) nodes old new fault
  blocks_halt count nodes old new fault said h =
      halts_also left still faults (λ total. BlocksFail S total E 0 count) (λ total. BodyFails S total E) nodes old new fault
      (λ total at stop n p l bad. inl (subst (λ (m : ℕ). BlocksFail S total E 0 m at stop) said bad)) h

  module _ (count counted mid_nodes : ℕ) (old mid : Taker T) (before between : Trees) (parts : List BlockPart) (said : count ≡ number_of (codes "Num Blocks") E)
      (b : HasBlocks left still faults S members count old mid counted mid_nodes before between parts) where
    -- the footer fails behind them
    pub footer_halts : (new : Taker T) (fault : FileFault) → Halts left still faults FooterStops mid_nodes mid new fault → Halts left still faults (λ total. BodyFails S total E) counted old new fault
    footer_halts new fault h =
        let few : counted + block_nodes b.blocks ≤ most_nodes = omega (arith, b.nodes, b.few) in
        let here : Halts left still faults FooterStops (counted + block_nodes b.blocks) mid new fault = subst (λ n. Halts left still faults FooterStops n mid new fault) b.nodes h in
        halts_behind left still faults FooterStops (λ total. BodyFails S total E) counted (block_nodes b.blocks) (blocks_text S E 0 b.blocks) old mid new fault b.takes few
        (λ total at next stop p bad. inr (b.blocks, next, read_blocks b.blocks count at next b.are b.long said p, inl bad)) here

    module _ (now : ℕ) (last : Taker T) (after : Trees) (tree : TreeId) (f : ReadsFooter left still faults S members mid last mid_nodes now between after tree) where
      abbrev bytes : List ℕ
      bytes = blocks_text S E 0 b.blocks ++ text (order_in E) f.node

      all_taken : Takes left still faults old bytes last
      all_taken = takes_joined left still faults old mid last (blocks_text S E 0 b.blocks) (text (order_in E) f.node) bytes b.takes f.takes refl

      counted_all : now ≡ counted + (block_nodes b.blocks + nodes f.node)
      counted_all = omega (arith, b.nodes, f.nodes)

      -- something follows the footer
      pub end_halts : (new : Taker T) (fault : FileFault) → Halts left still faults (λ total. IsTrailing) now last new fault → Halts left still faults (λ total. BodyFails S total E) counted old new fault
      end_halts new fault h =
          let few : counted + (block_nodes b.blocks + nodes f.node) ≤ most_nodes = omega (arith, counted_all, f.few) in
          let here : Halts left still faults (λ total. IsTrailing) (counted + (block_nodes b.blocks + nodes f.node)) last new fault = subst (λ n. Halts left still faults (λ total. IsTrailing) n last new fault) counted_all h in
          halts_behind left still faults (λ total. IsTrailing) (λ total. BodyFails S total E) counted (block_nodes b.blocks + nodes f.node) bytes old last new fault all_taken few
          (λ total at next stop p bad.
          let s = split (blocks_text S E 0 b.blocks) (text (order_in E) f.node) (block_nodes b.blocks) (nodes f.node) at next p in
          inr (b.blocks, s.0, read_blocks b.blocks count at s.0 b.are b.long said s.1, inr (f.node, next, (f.is, s.2), bad))) here

      -- and nothing follows it
      pub has_rest : (new : Taker T) → Takes left still faults last [] new → IsAtEnd (left_of left new) → HasRest left still faults S members count old new counted now before after parts tree
      has_rest new t end = record {
        blocks = b.blocks;
        footer = f.node;
        are = b.are;
        long = b.long;
        is = f.is;
        takes = takes_joined left still faults old last new bytes [] bytes all_taken t (append-nil bytes);
        end = end;
        nodes = counted_all;
        few = f.few;
        says = says_kept between after ((tree.run.key, f.node) ∷ []) parts b.blocks f.trees b.says;
        found = ap (λ trees. find trees tree.run.key) f.trees ∙ find_new between.trees tree.run.key f.node f.fresh;
        trees = f.trees ∙ ap (λ trees. trees ++ (tree.run.key, f.node) ∷ []) b.trees ∙ append_assoc before.trees (block_trees parts b.blocks) ((tree.run.key, f.node) ∷ []);
        apart = subst AreApart (sym f.trees) (apart_more between.trees tree.run.key f.node b.apart f.fresh);
      }
