-- Which file the parts of a file that was read say.
use Rattle.std.specs.Prelude.{◌≡◌, List, [], ◌∷◌, Some, codes, is_some}
use Rattle.nif_base.specs.Node.{Node}
use Rattle.nif_base.specs.File.{Block, File, nodes_of}
use Rattle.nif_region.specs.Contents as region
use Rattle.nif_schema.specs.Schema.{Schema}
use Rattle.nif_schema.specs.declared.contexts.Context as code
use Rattle.nif_value.specs.Trees.{Trees}
use Rattle.nif_value.specs.declared.stores.TreeId.{TreeId}
use Rattle.nif_graph.specs.declared.parts.BlockPart.{BlockPart}
use Rattle.nif_graph.specs.declared.parts.GraphParts.{GraphParts}
use Rattle.nif_layout.specs.Context.{Context}
use Rattle.nif_file.specs.GraphOf.{types_in}
use Rattle.nif_file.specs.Head.{file_context, member, number_of}
use Rattle.nif_file.specs.Files.{head_in, size_of}
use Rattle.nif_file.specs.Heads.{ArePlaces}

-- this node stands under the tree
abbrev pub StandsUnder : Trees → TreeId → Node → Type 0
StandsUnder store tree node = region.find store.trees tree.run.key ≡ Some node

pub record SaysBlock (store : Trees) (part : BlockPart) (block : Block) : Type 0 where
  pub kind : part.kind ≡ block.kind
  pub index : part.index_word ≡ block.index
  pub value : StandsUnder store part.tree block.node

-- one for one
abbrev pub SaysBlocks : Trees → List BlockPart → List Block → Type 0
SaysBlocks store [] [] = Unit {0}
SaysBlocks store [] (block ∷ blocks) = ⊥
SaysBlocks store (part ∷ parts) [] = ⊥
SaysBlocks store (part ∷ parts) (block ∷ blocks) = SaysBlock store part block × SaysBlocks store parts blocks

-- the versions and the byte order are these
pub record SaysContext (said : code.Context) (C : Context) : Type 0 where
  pub version : said.version.number ≡ C.version
  pub user : said.user ≡ C.user
  pub bs : said.bs ≡ C.bs
  pub order : said.order ≡ C.order

pub record SaysFile (S : Schema) (parts : GraphParts) (F : File) : Type 0 where
  pub header : StandsUnder parts.store parts.header F.header
  pub blocks : SaysBlocks parts.store parts.blocks F.blocks
  pub footer : StandsUnder parts.store parts.footer F.footer
  pub context : SaysContext parts.context (file_context S (head_in S F))
  pub places : ArePlaces S parts.places
  pub nodes : parts.nodes ≡ nodes_of F
  pub bytes : parts.bytes ≡ size_of S F
  pub strings : parts.strings ≡ number_of (codes "Num Strings") (head_in S F)
  pub indexed : parts.indexed ≡ is_some (member (codes "Block Type Index") (head_in S F))
  pub types : parts.types.items ≡ types_in (head_in S F)
