-- Blocks with one more behind them.
use Rattle.std.proofs.Common.{◌≡◌, ℕ, zero, suc, ◌+◌, ◌-◌, ◌<◌, inl, inr, List, [], ◌∷◌, ◌++◌, length, sym, ◌∙◌, ap, subst, arith, append_assoc, append-nil}
use Rattle.nif_base.specs.Node.{nodes}
use Rattle.nif_base.specs.File.{Block, block_nodes}
use Rattle.nif_schema.specs.Schema.{Schema}
use Rattle.nif_layout.specs.Earlier.{Env}
use Rattle.nif_layout.specs.Fault.{Point, Passes}
use Rattle.nif_file.specs.Stops.{Stop}
use Rattle.nif_file.specs.Files.{IsBlock, AreBlocks, block_text, blocks_text}
use Rattle.nif_file.specs.FileFails.{BlockFails, BlocksRead, BlocksFail}
use Rattle.nif_file.specs.BlockLaws.{blocks_split}

module _ (S : Schema) (E : Env) where
  pub are_more : (k : ℕ) (blocks : List Block) (block : Block) → AreBlocks S E k blocks → IsBlock S E (k + length blocks) block → AreBlocks S E k (blocks ++ block ∷ [])
  are_more k [] block a is = let e : k + length {A = Block} [] ≡ k = omega arith in (subst (λ n. IsBlock S E n block) e is, tt)
  are_more k (b ∷ blocks) block a is =
      let e : k + length (b ∷ blocks) ≡ k + 1 + length blocks = omega arith in
      (a.0, are_more (k + 1) blocks block a.1 (subst (λ n. IsBlock S E n block) e is))

  pub text_more : (k : ℕ) (blocks : List Block) (block : Block) → blocks_text S E k (blocks ++ block ∷ []) ≡ blocks_text S E k blocks ++ block_text S E (k + length blocks) block
  text_more k [] block =
      let e : k ≡ k + length {A = Block} [] = omega arith in
      append-nil (block_text S E k block) ∙ ap (λ n. block_text S E n block) e
  text_more k (b ∷ blocks) block =
      let e : k + 1 + length blocks ≡ k + length (b ∷ blocks) = omega arith in
      ap (λ s. block_text S E k b ++ s) (text_more (k + 1) blocks block ∙ ap (λ n. blocks_text S E (k + 1) blocks ++ block_text S E n block) e)
      ∙ sym (append_assoc (block_text S E k b) (blocks_text S E (k + 1) blocks) (block_text S E (k + length (b ∷ blocks)) block))

  pub nodes_more : (blocks : List Block) (block : Block) → block_nodes (blocks ++ block ∷ []) ≡ block_nodes blocks + nodes block.node
  nodes_more [] block = omega arith
  nodes_more (b ∷ blocks) block = let h : block_nodes (blocks ++ block ∷ []) ≡ block_nodes blocks + nodes block.node = nodes_more blocks block in omega arith

  -- blocks are read, and the one behind them fails
  fails_read : (total k n left : ℕ) (blocks : List Block) (at mid : Point) (stop : Stop) → BlocksRead S E k n blocks at mid → BlockFails S total E (k + n) mid stop → BlocksFail S total E k (n + suc left) at stop
  fails_read total k zero left blocks at mid stop r bad =
      let e : k + zero ≡ k = omega arith in
      let e' : suc left ≡ zero + suc left = omega arith in
      let bad' : BlockFails S total E k at stop = subst (λ (p : Point). BlockFails S total E k p stop) r.1 (subst (λ m. BlockFails S total E m mid stop) e bad) in
      subst (λ m. BlocksFail S total E k m at stop) e' (inl bad')
  fails_read total k (suc n) left blocks at mid stop r bad =
      let e : k + suc n ≡ k + 1 + n = omega arith in
      let e' : suc (n + suc left) ≡ suc n + suc left = omega arith in
      let later = fails_read total (k + 1) n left r.1 r.2 mid stop r.5 (subst (λ m. BlockFails S total E m mid stop) e bad) in
      subst (λ m. BlocksFail S total E k m at stop) e' (inr (r.0, r.2, r.4, later))

  pub fails_behind : (total count : ℕ) (blocks : List Block) (at mid : Point) (stop : Stop) → length blocks < count → AreBlocks S E 0 blocks → Passes (blocks_text S E 0 blocks) (block_nodes blocks) at mid
      → BlockFails S total E (length blocks) mid stop → BlocksFail S total E 0 count at stop
  fails_behind total count blocks at mid stop below are p bad =
      let left : ℕ = count - length blocks - 1 in
      let e : length blocks + suc left ≡ count = omega arith in
      let e' : length blocks ≡ 0 + length blocks = omega arith in
      subst (λ m. BlocksFail S total E 0 m at stop) e (fails_read total 0 (length blocks) left blocks at mid stop (blocks_split S E blocks 0 at mid are p) (subst (λ m. BlockFails S total E m mid stop) e' bad))
