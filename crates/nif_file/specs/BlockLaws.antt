-- Bytes of blocks one behind another are read block by block.
use Rattle.std.proofs.Common.{◌≡◌, ℕ, ◌+◌, List, [], ◌∷◌, length, refl, sym, arith}
use Rattle.nif_base.specs.Node.{nodes}
use Rattle.nif_base.specs.File.{Block, block_nodes}
use Rattle.nif_schema.specs.Schema.{Schema}
use Rattle.nif_layout.specs.Earlier.{Env}
use Rattle.nif_layout.specs.Fault.{Point, Passes}
use Rattle.nif_layout.specs.PassLaws.{split}
use Rattle.nif_file.specs.Files.{block_text, blocks_text, AreBlocks}
use Rattle.nif_file.specs.FileFails.{BlocksRead}

pub blocks_split : (S : Schema) (E : Env) (blocks : List Block) (k : ℕ) (at next : Point) → AreBlocks S E k blocks
    → Passes (blocks_text S E k blocks) (block_nodes blocks) at next
    → BlocksRead S E k (length blocks) blocks at next
blocks_split S E [] k at next are p =
    let place : next.place ≡ at.place = omega (arith, p.place) in
    let number : next.nodes ≡ at.nodes = omega (arith, p.nodes) in
    let left : next.left ≡ at.left = sym p.here in
    (refl, λ i. record { nodes = number i; place = place i; left = left i })
blocks_split S E (block ∷ blocks) k at next are p =
    let s = split (block_text S E k block) (blocks_text S E (k + 1) blocks) (nodes block.node) (block_nodes blocks) at next p in
    (block, blocks, s.0, refl, (are.0, s.1), blocks_split S E blocks (k + 1) s.0 next are.1 s.2)
