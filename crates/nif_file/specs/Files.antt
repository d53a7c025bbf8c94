-- Which files there are by a schema, and their bytes: a header, blocks, a footer, and nothing more.
use Rattle.std.specs.Prelude.{ℕ, ◌≡◌, ◌+◌, ◌-◌, ◌≤◌, Bool, true, false, ◌&&◌, nat_le, codes, List, [], ◌∷◌, ◌++◌, length, None, Some, IfSome, slice_get, if◌then◌else◌}
use Rattle.std.specs.declared.option.Option.{Option}
use Rattle.std.specs.Option.{option_map_or}
use Rattle.nif_base.specs.declared.orders.Order.{Order}
use Rattle.nif_base.specs.Node as node
use Rattle.nif_base.specs.Node.{Node, Members, End, text, size, number, is_little}
use Rattle.nif_base.specs.File.{Block, File, nodes_of}
use Rattle.nif_schema.specs.Declaration.{Name, Field}
use Rattle.nif_schema.specs.Schema.{Schema, find, find_block, line}
use Rattle.nif_schema.specs.Uses.{what_at}
use Rattle.nif_schema.specs.Reasons.{IsOpen}
use Rattle.nif_schema.specs.declared.decls.What.{What}
use Rattle.nif_schema.specs.declared.decls.What.TheVariants as what
use Rattle.nif_layout.specs.Earlier.{Env, passed}
use Rattle.nif_layout.specs.Kind.{Kind, Unknown, kind_of}
use Rattle.nif_layout.specs.Shape.{Shape, LineShape}
use Rattle.nif_base.specs.Limits.{most_file_bytes, most_nodes, most_depth}
use Rattle.nif_layout.specs.Laws.{line_text}
use Rattle.nif_file.specs.Head.{header_context, file_context, block_context, order_in, version_in, number_of, type_names, index_word, type_place, stated_size}
use Rattle.nif_file.specs.Checks.{header_check, types_fault}

-- The header is a group itself, so groups in it lie one less deep.
abbrev pub header_depth : ℕ
header_depth = most_depth - 1

-- ---- the header

-- the fields of the header
abbrev pub header_line : Schema → List Field
header_line S = option_map_or (line S) (find S (codes "Header")) []

abbrev pub members_of : Node → Members
members_of (node.Group members) = members
members_of _ = End

-- the fields of the header with what was read of them
abbrev pub head_of : Schema → Members → Env
head_of S members = passed (header_line S) members []

-- Each member is read in the context that those before it make, and none is refused.
abbrev pub IsHeaderLine : Schema → Members → Type 0
IsHeaderLine S members = LineShape S (header_context S) header_depth None 0 (header_check S) (header_line S) [] members

-- the bytes of the members, each in the order that held for it
abbrev pub header_text : Schema → Members → List ℕ
header_text S members = line_text (header_context S) (header_line S) [] members

pub record IsHeader (S : Schema) (header : Node) : Type 0 where
  pub members : Members
  pub group : header ≡ node.Group members
  pub each : IsHeaderLine S members
  pub types : types_fault (head_of S members) ≡ None

-- these bytes spell this header
abbrev pub SpellsHeader : Schema → Node → List ℕ → Type 0
SpellsHeader S header bytes = IsHeader S header × (bytes ≡ header_text S (members_of header))

-- ---- blocks

-- the name of a declaration
abbrev pub name_of : Schema → ℕ → Name
name_of S number = option_map_or (λ d. d.name) (slice_get S number) []

-- a length in 32 bits, and so many bytes
abbrev pub sized_string : Order → List ℕ → List ℕ
sized_string order bytes = number (is_little order) 4 (length bytes) ++ bytes

-- In a file that isn't indexed the name of its type stands before each block.
abbrev pub name_where : Option ℕ → Order → Name → List ℕ
name_where (Some word) order name = []
name_where None order name = sized_string order name

-- From version 5.0.0.1 to 10.1.0.106 a zero word stands before the value of each block.
abbrev pub has_zero_word : ℕ → Bool
has_zero_word version = nat_le 0x05000001 version && nat_le version 0x0A01006A

abbrev pub zero_where : Bool → List ℕ
zero_where true = 0 ∷ 0 ∷ 0 ∷ 0 ∷ []
zero_where false = []

abbrev pub zero_word : Env → List ℕ
zero_word E = zero_where (has_zero_word (version_in E))

abbrev pub block_text : Schema → Env → ℕ → Block → List ℕ
block_text S E k block =
    name_where (index_word E k) (order_in E) (name_of S block.kind) ++ (zero_word E ++ text (order_in E) block.node)

-- The type is abstract.
abbrev pub is_abstract_type : What → Bool
is_abstract_type (what.Block parent is_abstract) = is_abstract
is_abstract_type _ = false

abbrev pub is_abstract : Schema → ℕ → Bool
is_abstract S number = option_map_or is_abstract_type (what_at S number) false

-- An open block type that isn't abstract, and is the type of its name.
pub record IsBlockType (S : Schema) (kind : ℕ) : Type 0 where
  pub named : find_block S (name_of S kind) ≡ Some kind
  pub concrete : is_abstract S kind ≡ false
  pub opens : IsOpen S kind

-- The index word of a block, in a file that is indexed, names its type.
abbrev pub IsIndexed : Schema → Env → ℕ → ℕ → Type 0
IsIndexed S E k kind =
    IfSome (index_word E k) (λ word. slice_get (type_names E) (type_place word) ≡ Some (name_of S kind))

-- what a block of a type is
abbrev pub block_kind : Schema → Env → ℕ → Kind
block_kind S E kind = kind_of S (block_context S E kind) kind None 0

abbrev pub IsValue : Schema → Env → ℕ → Node → Type 0
IsValue S E kind value = Shape S (block_context S E kind) most_depth (block_kind S E kind) value

-- Where the file states the length of the value, it has that length.
abbrev pub HasSize : Env → ℕ → Node → Type 0
HasSize E k value = IfSome (stated_size E k) (λ stated. stated ≡ length (text (order_in E) value))

-- block k of a file with this header
pub record IsBlock (S : Schema) (E : Env) (k : ℕ) (block : Block) : Type 0 where
  pub type : IsBlockType S block.kind
  pub index : block.index ≡ index_word E k
  pub indexed : IsIndexed S E k block.kind
  pub value : IsValue S E block.kind block.node
  pub sized : HasSize E k block.node

-- the blocks from block k on
abbrev pub AreBlocks : Schema → Env → ℕ → List Block → Type 0
AreBlocks S E k [] = Unit {0}
AreBlocks S E k (block ∷ blocks) = IsBlock S E k block × AreBlocks S E (k + 1) blocks

abbrev pub blocks_text : Schema → Env → ℕ → List Block → List ℕ
blocks_text S E k [] = []
blocks_text S E k (block ∷ blocks) = block_text S E k block ++ blocks_text S E (k + 1) blocks

-- ---- the footer, and the file

abbrev pub footer_kind : Schema → Env → Kind
footer_kind S E = option_map_or (λ footer. kind_of S (file_context S E) footer None 0) (find S (codes "Footer")) Unknown

abbrev pub IsFooter : Schema → Env → Node → Type 0
IsFooter S E footer = Shape S (file_context S E) most_depth (footer_kind S E) footer

abbrev pub head_in : Schema → File → Env
head_in S F = head_of S (members_of F.header)

-- the bytes of a file
abbrev pub text_of : Schema → File → List ℕ
text_of S F =
    header_text S (members_of F.header)
    ++ (blocks_text S (head_in S F) 0 F.blocks
    ++ text (order_in (head_in S F)) F.footer)

-- The same number of bytes, by the sizes of the nodes and of what stands before the blocks alone.
abbrev pub block_size : Schema → Env → ℕ → Block → ℕ
block_size S E k block =
    option_map_or (λ word. 0) (index_word E k) (4 + length (name_of S block.kind))
    + ((if has_zero_word (version_in E) then 4 else 0) + size block.node)

abbrev pub blocks_size : Schema → Env → ℕ → List Block → ℕ
blocks_size S E k [] = 0
blocks_size S E k (block ∷ blocks) = block_size S E k block + blocks_size S E (k + 1) blocks

abbrev pub size_of : Schema → File → ℕ
size_of S F = size F.header + (blocks_size S (head_in S F) 0 F.blocks + size F.footer)

-- a file, and the bytes that spell it
pub record IsFile (S : Schema) (F : File) (bytes : List ℕ) : Type 0 where
  pub header : IsHeader S F.header
  pub blocks : AreBlocks S (head_in S F) 0 F.blocks
  pub count : length F.blocks ≡ number_of (codes "Num Blocks") (head_in S F)
  pub footer : IsFooter S (head_in S F) F.footer
  pub text : bytes ≡ text_of S F
  pub few_nodes : nodes_of F ≤ most_nodes
  pub short : length bytes ≤ most_file_bytes
