-- The size of a file is the length of its text.
use Rattle.std.proofs.Common.{◌≡◌, ℕ, ◌+◌, Bool, true, false, ◌||◌, Option, Some, None, List, [], ◌∷◌, ◌++◌, length, refl, sym, ap, subst, arith, length-append, if◌then◌else◌}
use Rattle.std.specs.Option.{option_map_or}
use Rattle.nif_base.specs.declared.orders.Order.{Order}
use Rattle.nif_base.specs.Node as node
use Rattle.nif_base.specs.Node.{Node, Members, End, Here, Absent, text, texts, number, is_little, place_or_none, size, size_in}
use Rattle.nif_base.specs.File.{Block}
use Rattle.nif_schema.specs.Declaration.{Field}
use Rattle.nif_schema.specs.Schema.{Schema}
use Rattle.nif_layout.specs.Earlier.{Env, behind}
use Rattle.nif_layout.specs.Members.{Member, Check, Fields, fields_text}
use Rattle.nif_layout.specs.ByteLaws.{length_number}
use Rattle.nif_file.specs.Head.{order_in, version_in, index_word, header_context}
use Rattle.nif_file.specs.Files.{header_line, header_text, members_of, head_in, name_of, name_where, has_zero_word, zero_where, zero_word, block_text, blocks_text, block_size, blocks_size, text_of, IsHeader}
use Rattle.nif_file.specs.FileLaws.{SizeIsLength}

mutual
  pub length_text : (order : Order) (at : Node) → length (text order at) ≡ size at
  length_text order (node.Num width little bits) = length_number (little || is_little order) width bits
  length_text order (node.Line bytes) = length-append bytes (0x0A ∷ [])
  length_text order (node.Ref strong wanted target) = length_number (is_little order) 4 (place_or_none target)
  length_text order (node.Text index) = length_number (is_little order) 4 (place_or_none index)
  length_text order (node.Bytes bytes) = refl
  length_text order (node.Group members) = length_texts order members
  length_text order (node.Row items) = length_texts order items

  length_texts : (order : Order) (members : Members) → length (texts order members) ≡ size_in members
  length_texts order End = refl
  length_texts order (Here at rest) =
      let a = length-append (text order at) (texts order rest) in
      let b = length_text order at in
      let c = length_texts order rest in
      omega arith
  length_texts order (Absent rest) = length_texts order rest

-- the members of a line, in whatever orders
pub line_length : {Why : Type 0} (order : Env → Order) (here : Env → Field → Bool) (V : Env → Field → Node → Type 0)
    (check : Check Why) (fields : List Field) (E : Env) (members : Members)
    → Fields here V check fields E members → length (fields_text order fields E members) ≡ size_in members
line_length order here V check [] E members h = sym (ap size_in h)
line_length {Why} order here V check (f ∷ fields) E members h =
    by (here E f) members h (λ got rest k. line_length order here V check fields (behind f got E) rest k)
  where
    by : (b : Bool) (members : Members)
        → Member b (V E f)
        (λ got rest. (check E f got ≡ None) × Fields here V check fields (behind f got E) rest) members
        → ((got : Option Node) (rest : Members) → Fields here V check fields (behind f got E) rest
        → length (fields_text order fields (behind f got E) rest) ≡ size_in rest)
        → length (fields_text order (f ∷ fields) E members) ≡ size_in members
    by true members h ih =
        let P : Members → Type 0 = λ m. length (fields_text order (f ∷ fields) E m) ≡ size_in m in
        let a = length-append (text (order E) h.0) (fields_text order fields (behind f (Some h.0) E) h.1) in
        let b = length_text (order E) h.0 in
        let c = ih (Some h.0) h.1 h.4.1 in
        let whole : P (Here h.0 h.1) = omega arith in
        subst P (sym h.2) whole
    by false members h ih =
        let P : Members → Type 0 = λ m. length (fields_text order (f ∷ fields) E m) ≡ size_in m in
        let whole : P (Absent h.0) = ih None h.0 h.2.1 in
        subst P (sym h.1) whole

name_length : (o : Option ℕ) (order : Order) (name : List ℕ)
    → length (name_where o order name) ≡ option_map_or (λ word. 0) o (4 + length name)
name_length (Some word) order name = refl
name_length None order name =
    let a = length-append (number (is_little order) 4 (length name)) name in
    let b = length_number (is_little order) 4 (length name) in
    omega arith

zero_length : (b : Bool) → length (zero_where b) ≡ (if b then 4 else 0)
zero_length true = refl
zero_length false = refl

block_length : (S : Schema) (E : Env) (k : ℕ) (block : Block) → length (block_text S E k block) ≡ block_size S E k block
block_length S E k block =
    let name = name_where (index_word E k) (order_in E) (name_of S block.kind) in
    let a = length-append name (zero_word E ++ text (order_in E) block.node) in
    let b = length-append (zero_word E) (text (order_in E) block.node) in
    let c = name_length (index_word E k) (order_in E) (name_of S block.kind) in
    let d = zero_length (has_zero_word (version_in E)) in
    let e = length_text (order_in E) block.node in
    omega arith

blocks_length : (S : Schema) (E : Env) (blocks : List Block) (k : ℕ)
    → length (blocks_text S E k blocks) ≡ blocks_size S E k blocks
blocks_length S E [] k = refl
blocks_length S E (block ∷ blocks) k =
    let a = length-append (block_text S E k block) (blocks_text S E (k + 1) blocks) in
    let b = block_length S E k block in
    let c = blocks_length S E blocks (k + 1) in
    omega arith

header_length : (S : Schema) (header : Node) → IsHeader S header
    → length (header_text S (members_of header)) ≡ size header
header_length S header is =
    let P : Node → Type 0 = λ h. length (header_text S (members_of h)) ≡ size h in
    subst P (sym is.group) (line_length (λ E. (header_context S E).order) _ _ _ (header_line S) [] is.members is.each)

pub size_is_length : (S : Schema) → SizeIsLength S
size_is_length S F bytes is =
    let E = head_in S F in
    let rest = blocks_text S E 0 F.blocks ++ text (order_in E) F.footer in
    let a = length-append (header_text S (members_of F.header)) rest in
    let b = length-append (blocks_text S E 0 F.blocks) (text (order_in E) F.footer) in
    let c = header_length S F.header is.header in
    let d = blocks_length S E F.blocks 0 in
    let e = length_text (order_in E) F.footer in
    let f : length bytes ≡ length (text_of S F) = ap length is.text in
    omega arith
