-- What the reader knows of a header that was read, and what it answers of the parts behind it.
use Rattle.std.specs.Prelude.{ℕ, ◌≡◌, ◌+◌, ◌≤◌, ◌==◌, if◌then◌else◌, List, [], ◌∷◌, ◌++◌, length, Option, None, Some}
use Rattle.nif_base.specs.Node as node
use Rattle.nif_base.specs.Node.{Node, Members, text, nodes}
use Rattle.nif_base.specs.File.{Block, block_nodes}
use Rattle.nif_base.specs.Outside.{IsAtEnd}
use Rattle.nif_schema.specs.Schema.{Schema, IsSchema}
use Rattle.nif_schema.specs.Roles.{Roles}
use Rattle.nif_region.specs.Contents.{find, AreApart}
use Rattle.nif_stream.specs.declared.takers.Taker.{Taker}
use Rattle.nif_stream.specs.Taking.{Takes, left_of}
use Rattle.nif_base.specs.Limits.{most_nodes}
use Rattle.nif_value.specs.Trees.{Trees}
use Rattle.nif_value.specs.declared.stores.TreeId.{TreeId}
use Rattle.nif_graph.specs.declared.parts.BlockPart.{BlockPart}
use Rattle.nif_lists.specs.Lists.{Listed, AreListsOf}
use Rattle.nif_file.specs.declared.faults.FileFault.{FileFault}
use Rattle.nif_file.specs.declared.faults.FileFault.TheVariants as file
use Rattle.nif_file.specs.declared.header.Header.{Header}
use Rattle.nif_file.specs.Head.{file_context, index_word, order_in}
use Rattle.nif_file.specs.Files.{IsHeader, IsBlock, IsBlockType, IsIndexed, IsValue, IsFooter, AreBlocks, block_text, blocks_text, head_of, name_of, name_where}
use Rattle.nif_file.specs.Heads.{ArePlaces, context_of}
use Rattle.nif_file_reader.specs.PartsSay.{SaysBlocks}

-- The members of the header are these, and what is kept of them says what they say.
pub record Knows (S : Schema) (members : Members) (header : Header) (lists : Listed)
    (trees : List (ℕ × Node)) : Type 0 where
  pub schema : IsSchema S
  pub roles : Roles S
  pub is : IsHeader S (node.Group members)
  pub context : context_of header.context header.bounds.blocks header.bounds.strings
      ≡ file_context S (head_of S members)
  pub places : ArePlaces S header.places
  pub said_lists : AreListsOf S (head_of S members) lists
  pub found : find trees header.tree.run.key ≡ Some (node.Group members)

-- What names the type of block k was read, and the type may be that of a block.
pub record ReadsType {S : Type 0} (left : S → Option (List ℕ)) (still : S → S → Type 0) (faults : S → ℕ)
    (schema : Schema) (members : Members) (k : ℕ) (old new : Taker S) (kind : ℕ) : Type 0 where
  pub type : IsBlockType schema kind
  pub indexed : IsIndexed schema (head_of schema members) k kind
  pub takes : Takes left still faults old (name_where (index_word (head_of schema members) k)
      (order_in (head_of schema members)) (name_of schema kind)) new

-- The value of a block of this type was read into a new tree, and its nodes were counted.
pub record ReadsValue {S : Type 0} (left : S → Option (List ℕ)) (still : S → S → Type 0) (faults : S → ℕ)
    (schema : Schema) (members : Members) (kind : ℕ) (old new : Taker S) (counted now : ℕ) (before after : Trees)
    (tree : TreeId) : Type 0 where
  pub node : Node
  pub is : IsValue schema (head_of schema members) kind node
  pub takes : Takes left still faults old (text (order_in (head_of schema members)) node) new
  pub nodes : now ≡ counted + nodes node
  pub few : now ≤ most_nodes
  pub fresh : find before.trees tree.run.key ≡ None
  pub trees : after.trees ≡ before.trees ++ (tree.run.key, node) ∷ []

-- The trees of blocks, under their keys.
abbrev pub block_trees : List BlockPart → List Block → List (ℕ × Node)
block_trees (part ∷ parts) (block ∷ blocks) = (part.tree.run.key, block.node) ∷ block_trees parts blocks
block_trees _ _ = []

-- Block k was read into a new tree, and its nodes were counted.
pub record HasBlock {S : Type 0} (left : S → Option (List ℕ)) (still : S → S → Type 0) (faults : S → ℕ)
    (schema : Schema) (members : Members) (k : ℕ) (old new : Taker S) (counted now : ℕ) (before after : Trees)
    (part : BlockPart) : Type 0 where
  pub node : Node
  pub is : IsBlock schema (head_of schema members) k (record { kind = part.kind; index = part.index_word; node = node })
  pub takes : Takes left still faults old (block_text schema (head_of schema members) k
      (record { kind = part.kind; index = part.index_word; node = node })) new
  pub nodes : now ≡ counted + nodes node
  pub few : now ≤ most_nodes
  pub fresh : find before.trees part.tree.run.key ≡ None
  pub trees : after.trees ≡ before.trees ++ (part.tree.run.key, node) ∷ []

-- The first blocks were read, so many of them.
pub record HasBlocks {S : Type 0} (left : S → Option (List ℕ)) (still : S → S → Type 0) (faults : S → ℕ)
    (schema : Schema) (members : Members) (count : ℕ) (old new : Taker S) (counted now : ℕ) (before after : Trees)
    (parts : List BlockPart) : Type 0 where
  pub blocks : List Block
  pub are : AreBlocks schema (head_of schema members) 0 blocks
  pub long : length blocks ≡ count
  pub takes : Takes left still faults old (blocks_text schema (head_of schema members) 0 blocks) new
  pub nodes : now ≡ counted + block_nodes blocks
  pub few : now ≤ most_nodes
  pub says : SaysBlocks after parts blocks
  pub trees : after.trees ≡ before.trees ++ block_trees parts blocks
  pub apart : AreApart after.trees

-- The footer was read into a new tree, and its nodes were counted.
pub record ReadsFooter {S : Type 0} (left : S → Option (List ℕ)) (still : S → S → Type 0) (faults : S → ℕ)
    (schema : Schema) (members : Members) (old new : Taker S) (counted now : ℕ) (before after : Trees)
    (tree : TreeId) : Type 0 where
  pub node : Node
  pub is : IsFooter schema (head_of schema members) node
  pub takes : Takes left still faults old (text (order_in (head_of schema members)) node) new
  pub nodes : now ≡ counted + nodes node
  pub few : now ≤ most_nodes
  pub fresh : find before.trees tree.run.key ≡ None
  pub trees : after.trees ≡ before.trees ++ (tree.run.key, node) ∷ []

-- All behind the header was read: so many blocks, the footer, and nothing more.
pub record HasRest {S : Type 0} (left : S → Option (List ℕ)) (still : S → S → Type 0) (faults : S → ℕ) (schema : Schema)
    (members : Members) (count : ℕ) (old new : Taker S) (counted now : ℕ) (before after : Trees)
    (parts : List BlockPart) (tree : TreeId) : Type 0 where
  pub blocks : List Block
  pub footer : Node
  pub are : AreBlocks schema (head_of schema members) 0 blocks
  pub long : length blocks ≡ count
  pub is : IsFooter schema (head_of schema members) footer
  pub takes : Takes left still faults old (blocks_text schema (head_of schema members) 0 blocks
      ++ text (order_in (head_of schema members)) footer) new
  pub end : IsAtEnd (left_of left new)
  pub nodes : now ≡ counted + (block_nodes blocks + nodes footer)
  pub few : now ≤ most_nodes
  pub says : SaysBlocks after parts blocks
  pub found : find after.trees tree.run.key ≡ Some footer
  pub trees : after.trees ≡ before.trees ++ (block_trees parts blocks ++ (tree.run.key, footer) ∷ [])
  pub apart : AreApart after.trees

-- Why the length of a value is refused where the file states a length, if it is.
abbrev pub size_fault : ℕ → ℕ → Option ℕ → Option FileFault
size_fault block used None = None
size_fault block used (Some stated) = if stated == used then None else Some (file.BlockSize block stated used)
