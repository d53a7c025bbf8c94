-- Why a file can't be read: the parts before are read, and the next one fails or is refused.
use Rattle.std.specs.Prelude.{ℕ, zero, suc, ◌≡◌, ◌≢◌, ◌+◌, ◌⊎◌, Bool, true, false, codes, nat_lt, List, [], ◌∷◌, length, None, Some, slice_get, if◌then◌else◌}
use Rattle.std.specs.declared.option.Option.{Option}
use Rattle.nif_base.specs.declared.orders.Order.{Order}
use Rattle.nif_base.specs.Node.{Node, Members, text, nodes, nodes_in, is_little}
use Rattle.nif_base.specs.File.{Block}
use Rattle.nif_schema.specs.Declaration.{Name}
use Rattle.nif_schema.specs.Schema.{Schema, find_block}
use Rattle.nif_schema.specs.Reasons.{IsReason}
use Rattle.nif_schema.specs.declared.faults.Closed.{Closed}
use Rattle.nif_layout.specs.Earlier.{Env}
use Rattle.nif_layout.specs.Fault.{Fault, Point, Passes, Reads}
use Rattle.nif_layout.specs.LeafFault.{shortage, number_at}
use Rattle.nif_layout.specs.Fails.{Lifted, Fails, LineFails}
use Rattle.nif_file.specs.declared.faults.FileFault.{FileFault}
use Rattle.nif_file.specs.declared.faults.FileFault.TheVariants as file
use Rattle.nif_file.specs.Stops.{Stop, of_value}
use Rattle.nif_file.specs.Head.{header_context, file_context, block_context, order_in, version_in, number_of, type_names, index_word, type_place, stated_size}
use Rattle.nif_file.specs.Checks.{header_check, types_fault}
use Rattle.nif_base.specs.Limits.{most_depth}
use Rattle.nif_file.specs.Files.{header_depth, header_line, head_of, IsHeaderLine, header_text, name_of, name_where, sized_string, has_zero_word, zero_word, is_abstract, IsBlockType, IsIndexed, block_kind, IsValue, IsBlock, block_text, footer_kind, IsFooter}

-- A type name or a zero word is one part of its whole length: it fails where its bytes aren't there. The file has so
-- many bytes in all.
abbrev pub PartFails : ℕ → ℕ → Point → Stop → Type 0
PartFails total k at stop = (fault : Fault) × (shortage k at ≡ Some fault) × (stop ≡ of_value total fault)

-- ---- the type of a block

-- A sized string needs its length, and where that is there also so many bytes.
abbrev pub sized_needs : Order → List ℕ → ℕ
sized_needs order left = if nat_lt (length left) 4 then 4 else 4 + number_at (is_little order) 4 left

-- The type of block k is abstract, or else it is closed.
abbrev pub KindRefused : Schema → ℕ → ℕ → ℕ → Stop → Type 0
KindRefused S k kind known stop =
    ((is_abstract S kind ≡ true) × (stop ≡ record { fault = file.AbstractType k; known = known }))
    ⊎ ((is_abstract S kind ≡ false) × (reason : Closed) × IsReason S kind (Some reason)
    × (stop ≡ record { fault = file.ClosedType k reason; known = known }))

-- No block type has this name, or that type is refused.
abbrev pub NameRefused : Schema → ℕ → Name → ℕ → Stop → Type 0
NameRefused S k name known stop =
    ((find_block S name ≡ None) × (stop ≡ record { fault = file.UnknownType k name; known = known }))
    ⊎ ((kind : ℕ) × (find_block S name ≡ Some kind) × KindRefused S k kind known stop)

-- In an indexed file: there is no such entry, or the name there is refused.
abbrev pub EntryRefused : Schema → Env → ℕ → ℕ → Point → Stop → Type 0
EntryRefused S E k word at stop =
    ((slice_get (type_names E) (type_place word) ≡ None)
    × (stop ≡ record { fault = file.TypeIndex k (type_place word); known = at.place }))
    ⊎ ((name : Name) × (slice_get (type_names E) (type_place word) ≡ Some name) × NameRefused S k name at.place stop)

-- In another file: the name isn't there, or it is refused.
abbrev pub NameFails : Schema → ℕ → Env → ℕ → Point → Stop → Type 0
NameFails S total E k at stop =
    PartFails total (sized_needs (order_in E) at.left) at stop
    ⊎ ((name : Name) × (next : Point) × Passes (sized_string (order_in E) name) 0 at next
    × NameRefused S k name next.place stop)

abbrev pub TypeFailsBy : Option ℕ → Schema → ℕ → Env → ℕ → Point → Stop → Type 0
TypeFailsBy (Some word) S total E k at stop = EntryRefused S E k word at stop
TypeFailsBy None S total E k at stop = NameFails S total E k at stop

abbrev pub TypeFails : Schema → ℕ → Env → ℕ → Point → Stop → Type 0
TypeFails S total E k at stop = TypeFailsBy (index_word E k) S total E k at stop

-- the type of block k is read
abbrev pub TypeReads : Schema → Env → ℕ → ℕ → Point → Point → Type 0
TypeReads S E k kind at next =
    IsBlockType S kind × IsIndexed S E k kind
    × Passes (name_where (index_word E k) (order_in E) (name_of S kind)) 0 at next

-- ---- a block

-- the zero word isn't there, or it isn't zero
abbrev pub ZeroFailsBy : Bool → ℕ → Env → ℕ → Point → Stop → Type 0
ZeroFailsBy true total E k at stop =
    PartFails total 4 at stop
    ⊎ ((shortage 4 at ≡ None) × (number_at (is_little (order_in E)) 4 at.left ≢ 0)
    × (stop ≡ record { fault = file.CheckWord k (number_at (is_little (order_in E)) 4 at.left); known = at.place + 4 }))
ZeroFailsBy false total E k at stop = ⊥

abbrev pub ZeroFails : ℕ → Env → ℕ → Point → Stop → Type 0
ZeroFails total E k at stop = ZeroFailsBy (has_zero_word (version_in E)) total E k at stop

-- the value has another length than the file states
abbrev pub SizeFails : Env → ℕ → Node → Point → Stop → Type 0
SizeFails E k value at stop =
    (stated : ℕ) × (stated_size E k ≡ Some stated) × (stated ≢ length (text (order_in E) value))
    × (stop ≡ record { fault = file.BlockSize k stated (length (text (order_in E) value)); known = at.place })

abbrev pub ValueReads : Schema → Env → ℕ → Node → Point → Point → Type 0
ValueReads S E kind value at next = IsValue S E kind value × Reads (order_in E) value at next

-- behind the zero word: the value fails, or its length is refused
abbrev pub ValueFails : Schema → ℕ → Env → ℕ → ℕ → Point → Stop → Type 0
ValueFails S total E k kind at stop =
    Lifted (of_value total) (Fails S (block_context S E kind) most_depth (block_kind S E kind)) at stop
    ⊎ ((value : Node) × (next : Point) × ValueReads S E kind value at next × SizeFails E k value next stop)

-- behind the type: the zero word fails, or what follows it does
abbrev pub FrameFails : Schema → ℕ → Env → ℕ → ℕ → Point → Stop → Type 0
FrameFails S total E k kind at stop =
    ZeroFails total E k at stop
    ⊎ ((next : Point) × Passes (zero_word E) 0 at next × ValueFails S total E k kind next stop)

-- block k fails
abbrev pub BlockFails : Schema → ℕ → Env → ℕ → Point → Stop → Type 0
BlockFails S total E k at stop =
    TypeFails S total E k at stop
    ⊎ ((kind : ℕ) × (next : Point) × TypeReads S E k kind at next × FrameFails S total E k kind next stop)

-- ---- all blocks

abbrev pub BlockReads : Schema → Env → ℕ → Block → Point → Point → Type 0
BlockReads S E k block at next = IsBlock S E k block × Passes (block_text S E k block) (nodes block.node) at next

-- so many blocks from block k on, one behind another
abbrev pub BlocksRead : Schema → Env → ℕ → ℕ → List Block → Point → Point → Type 0
BlocksRead S E k zero blocks at next = (blocks ≡ []) × (next ≡ at)
BlocksRead S E k (suc n) blocks at next =
    (block : Block) × (rest : List Block) × (mid : Point) × (blocks ≡ block ∷ rest) × BlockReads S E k block at mid
    × BlocksRead S E (k + 1) n rest mid next

-- the first of them are read, and the next one fails
abbrev pub BlocksFail : Schema → ℕ → Env → ℕ → ℕ → Point → Stop → Type 0
BlocksFail S total E k zero at stop = ⊥
BlocksFail S total E k (suc n) at stop =
    BlockFails S total E k at stop
    ⊎ ((block : Block) × (next : Point) × BlockReads S E k block at next × BlocksFail S total E (k + 1) n next stop)

-- ---- the footer, and the file

abbrev pub FooterReads : Schema → Env → Node → Point → Point → Type 0
FooterReads S E footer at next = IsFooter S E footer × Reads (order_in E) footer at next

-- a byte follows
abbrev pub IsTrailing : Point → Stop → Type 0
IsTrailing at stop = (at.left ≢ []) × (stop ≡ record { fault = file.Trailing at.place; known = at.place + 1 })

abbrev pub FooterFails : Schema → ℕ → Env → Point → Stop → Type 0
FooterFails S total E at stop =
    Lifted (of_value total) (Fails S (file_context S E) most_depth (footer_kind S E)) at stop
    ⊎ ((footer : Node) × (next : Point) × FooterReads S E footer at next × IsTrailing next stop)

abbrev pub BodyFails : Schema → ℕ → Env → Point → Stop → Type 0
BodyFails S total E at stop =
    BlocksFail S total E 0 (number_of (codes "Num Blocks") E) at stop
    ⊎ ((blocks : List Block) × (next : Point) × BlocksRead S E 0 (number_of (codes "Num Blocks") E) blocks at next
    × FooterFails S total E next stop)

-- behind the header: it lacks its types, or what follows it fails
abbrev pub RestFails : Schema → ℕ → Env → Point → Stop → Type 0
RestFails S total E at stop = (types_fault E ≡ Some stop) ⊎ ((types_fault E ≡ None) × BodyFails S total E at stop)

abbrev pub HeaderReads : Schema → Members → Point → Point → Type 0
HeaderReads S members at next = IsHeaderLine S members × Passes (header_text S members) (nodes_in members) at next

-- the members of the header fail, or one is refused
abbrev pub HeaderFails : Schema → ℕ → Point → Stop → Type 0
HeaderFails S total at stop =
    LineFails S (header_context S) header_depth None 0 (of_value total) (header_check S) (header_line S) [] at stop

-- the first byte of a file, with the node of its header counted
abbrev pub start_of : List ℕ → Point
start_of bytes = record { nodes = 1; place = 0; left = bytes }

-- Reading these bytes stops so.
abbrev pub FileStops : Schema → List ℕ → Stop → Type 0
FileStops S bytes stop =
    HeaderFails S (length bytes) (start_of bytes) stop
    ⊎ ((members : Members) × (next : Point) × HeaderReads S members (start_of bytes) next
    × RestFails S (length bytes) (head_of S members) next stop)

-- the first fault of a file
abbrev pub FileFails : Schema → List ℕ → FileFault → Type 0
FileFails S bytes fault = (known : ℕ) × FileStops S bytes (record { fault = fault; known = known })

-- and where it is known
abbrev pub IsKnown : Schema → List ℕ → FileFault → ℕ → Type 0
IsKnown S bytes fault known = FileStops S bytes (record { fault = fault; known = known })
