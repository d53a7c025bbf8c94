-- A whole file, part by part, and as one text.
use Rattle.std.proofs.Common.{◌≡◌, ℕ, zero, suc, ◌+◌, ◌≤◌, ◌⊎◌, inl, inr, None, List, [], ◌++◌, length, refl, sym, ◌∙◌, ap, subst, arith, append-nil, lit≤}
use Rattle.std.specs.Prelude.{codes}
use Rattle.nif_base.specs.Node as node
use Rattle.nif_base.specs.Node.{Node, Members, text, nodes, nodes_in}
use Rattle.nif_base.specs.File.{Block, File, block_nodes}
use Rattle.nif_schema.specs.Declaration.{Field}
use Rattle.nif_schema.specs.Schema.{Schema, IsSchema, line}
use Rattle.nif_schema.specs.Roles.{Roles, IsRoot}
use Rattle.nif_layout.specs.Earlier.{Env}
use Rattle.nif_layout.specs.Leaf.{AreBytes}
use Rattle.nif_base.specs.Limits.{most_file_bytes, most_nodes}
use Rattle.nif_layout.specs.Fault.{Point, Passes}
use Rattle.nif_layout.specs.Shape.{LineShape}
use Rattle.nif_layout.specs.Fails.{LineFails}
use Rattle.nif_layout.specs.Laws.{AllFit, ExactlyOne, line_text}
use Rattle.nif_layout.specs.PassLaws.{split, join}
use Rattle.nif_file.specs.Stops.{Stop, of_value}
use Rattle.nif_file.specs.Head.{header_context, order_in, number_of}
use Rattle.nif_file.specs.Checks.{header_check, types_fault}
use Rattle.nif_file.specs.Files.{header_line, head_of, header_text, block_text, blocks_text, AreBlocks, text_of, IsHeader, IsFile}
use Rattle.nif_file.specs.FileFails.{HeaderReads, HeaderFails, BlocksRead, RestFails, start_of, FileStops, FileFails}
use Rattle.nif_file.specs.FileLaws.{FileOrFault, OneFile, OnePlace}
use Rattle.nif_file.proofs.Walks.{Within, Sound, Then, ThenFails, Unless, chain}
use Rattle.nif_file.proofs.ValueSteps.{Spelled, OneValue, LineSpelled, OneOfLine, line_sound, no_template}
use Rattle.nif_file.proofs.BlockSteps.{Body, rest_sound}
use Rattle.nif_file.specs.RoleLaws.{root_within}
use Rattle.nif_file.proofs.HeadNumbers.{head_fits}
use Rattle.nif_file.specs.BlockLaws.{blocks_split}

abbrev pub Parts : Type 0
Parts = Members × (List Block × (Node × Unit {0}))

abbrev pub Whole : Schema → Parts → Point → Point → Type 0
Whole S = Then (HeaderReads S) (λ members. Unless (types_fault (head_of S members)) (Body S (head_of S members)))

abbrev pub file_of : Parts → File
file_of z = record { header = node.Group z.0; blocks = z.1.0; footer = z.1.1.0 }

-- ---- each part is sound

header_fits : (S : Schema) → AllFit (header_context S)
header_fits S E = record { blocks = omega arith; strings = omega arith }

header_sound : LineSpelled → OneOfLine → (S : Schema) (total number : ℕ) → IsRoot S (codes "Header") number → Sound (HeaderReads S) (HeaderFails S total)
header_sound spelled one S total number root = subst P (sym is) (line_sound spelled one S total (header_context S) 63 number (header_check S) (header_fits S) (root_within S (codes "Header") number root, root.opens) (no_template S number root.single))
  where
    P : List Field → Type 0
    P fields = Sound (λ members here next. LineShape S (header_context S) 63 None 0 (header_check S) fields [] members × Passes (line_text (header_context S) fields [] members) (nodes_in members) here next)
        (LineFails S (header_context S) 63 None 0 (of_value total) (header_check S) fields [])

    is : header_line S ≡ line S number
    is = rw root.found refl

pub file_sound : Spelled → OneValue → LineSpelled → OneOfLine → (S : Schema) → IsSchema S → Roles S → (total : ℕ)
    → Sound (Whole S) (ThenFails (HeaderFails S total) (HeaderReads S) (λ members. RestFails S total (head_of S members)))
file_sound spelled one_value line_spelled one_line S is roles total =
    let roots = roles.roots in
    chain (HeaderReads S) (HeaderFails S total) (λ members. Unless (types_fault (head_of S members)) (Body S (head_of S members))) (λ members. RestFails S total (head_of S members))
    (header_sound line_spelled one_line S total roots.header roots.is_header)
    (λ members at mid r. rest_sound spelled one_value S total (head_of S members) (head_fits S is roles members r.0) roots.footer roots.is_footer (root_within S (codes "Footer") roots.footer roots.is_footer))

-- ---- blocks as one text

pub blocks_join : (S : Schema) (E : Env) (n k : ℕ) (blocks : List Block) (at next : Point) → at.place ≤ most_file_bytes → at.nodes ≤ most_nodes → BlocksRead S E k n blocks at next
    → (length blocks ≡ n) × AreBlocks S E k blocks × Passes (blocks_text S E k blocks) (block_nodes blocks) at next
blocks_join S E zero k blocks at next place few r =
    let none : Passes [] 0 at at = record { here = refl; place = omega arith; nodes = omega arith; within = place; counted = few } in
    let P : List Block → Type 0 = λ bs. (length bs ≡ 0) × AreBlocks S E k bs × Passes (blocks_text S E k bs) (block_nodes bs) at next in
    subst P (sym r.0) (refl, tt, subst (λ (p : Point). Passes [] 0 at p) (sym r.1) none)
blocks_join S E (suc n) k blocks at next place few r =
    let block = r.0 in
    let rest = r.1 in
    let mid = r.2 in
    let here = r.4 in
    let later = blocks_join S E n (k + 1) rest mid next here.1.within here.1.counted r.5 in
    let P : List Block → Type 0 = λ bs. (length bs ≡ suc n) × AreBlocks S E k bs × Passes (blocks_text S E k bs) (block_nodes bs) at next in
    subst P (sym r.3) (
      ap suc later.0,
      (here.0, later.1),
      join (block_text S E k block) (blocks_text S E (k + 1) rest) (nodes block.node) (block_nodes rest) at mid next here.1 later.2,
    )

-- ---- the whole as one text

pub to_file : (S : Schema) (z : Parts) (bytes : List ℕ) (next : Point) → Whole S z (start_of bytes) next → IsFile S (file_of z) bytes
to_file S z bytes next r =
    let members = z.0 in
    let blocks = z.1.0 in
    let footer = z.1.1.0 in
    let E = head_of S members in
    let head_end = r.0 in
    let head = r.1 in
    let body_end = r.2.1.0 in
    let read = r.2.1.1 in
    let end = r.2.1.2.0 in
    let foot = r.2.1.2.1 in
    let last = r.2.1.2.2 in
    let all = blocks_join S E (number_of (codes "Num Blocks") E) 0 blocks head_end body_end head.1.within head.1.counted read in
    let body = join (blocks_text S E 0 blocks) (text (order_in E) footer) (block_nodes blocks) (nodes footer) head_end body_end end all.2 foot.1 in
    let whole =
    join (header_text S members) (blocks_text S E 0 blocks ++ text (order_in E) footer) (nodes_in members) (block_nodes blocks + nodes footer) (start_of bytes) head_end end head.1 body in
    let spelled : bytes ≡ text_of S (file_of z) = whole.here ∙ ap (λ l. text_of S (file_of z) ++ l) last.0 ∙ append-nil (text_of S (file_of z)) in
    let place : end.place ≡ 0 + length (text_of S (file_of z)) = whole.place in
    let count : end.nodes ≡ 1 + (nodes_in members + (block_nodes blocks + nodes footer)) = whole.nodes in
    let within : end.place ≤ most_file_bytes = whole.within in
    let few : end.nodes ≤ most_nodes = whole.counted in
    let long : length bytes ≡ length (text_of S (file_of z)) = ap length spelled in
    record {
      header = record { members = members; group = refl; each = head.0; types = r.2.0 };
      blocks = all.1;
      count = all.0;
      footer = foot.0;
      text = spelled;
      few_nodes = omega arith;
      short = omega arith;
    }

regrouped : (S : Schema) (F : File) (bytes : List ℕ) → (h : IsHeader S F.header) → IsFile S F bytes → IsFile S (file_of (h.members, (F.blocks, (F.footer, tt)))) bytes
regrouped S F bytes h is =
    let group = h.group in
    let same : F ≡ file_of (h.members, (F.blocks, (F.footer, tt))) = λ i. record { header = group i; blocks = F.blocks; footer = F.footer } in
    subst (λ (G : File). IsFile S G bytes) same is

pub from_file : (S : Schema) (F : File) (bytes : List ℕ) → IsFile S F bytes → (z : Parts) × (F ≡ file_of z) × (next : Point) × Whole S z (start_of bytes) next
from_file S F bytes is =
    let h = is.header in
    let members = h.members in
    let z : Parts = (members, (F.blocks, (F.footer, tt))) in
    let G = file_of z in
    let E = head_of S members in
    let group = h.group in
    let same : F ≡ G = λ i. record { header = group i; blocks = F.blocks; footer = F.footer } in
    let it : IsFile S G bytes = regrouped S F bytes h is in
    let blocks = F.blocks in
    let footer = F.footer in
    let T = text_of S G in
    let N = nodes_in members + (block_nodes blocks + nodes footer) in
    let next : Point = record { nodes = 1 + N; place = length bytes; left = [] } in
    let long : length bytes ≡ length T = ap length it.text in
    let few : 1 + nodes_in members + (block_nodes blocks + nodes footer) ≤ most_nodes = it.few_nodes in
    let whole : Passes T N (start_of bytes) next = record { here = it.text ∙ sym (append-nil T); place = omega arith; nodes = refl; within = it.short; counted = omega arith } in
    let a = split (header_text S members) (blocks_text S E 0 blocks ++ text (order_in E) footer) (nodes_in members) (block_nodes blocks + nodes footer) (start_of bytes) next whole in
    let b = split (blocks_text S E 0 blocks) (text (order_in E) footer) (block_nodes blocks) (nodes footer) a.0 next a.2 in
    let read = blocks_split S E blocks 0 a.0 b.0 it.blocks b.1 in
    let counted : BlocksRead S E 0 (number_of (codes "Num Blocks") E) blocks a.0 b.0 = subst (λ (n : ℕ). BlocksRead S E 0 n blocks a.0 b.0) it.count read in
    (z, same, next, (a.0, (h.each, a.1), (h.types, (b.0, counted, (next, (it.footer, b.2), (refl, refl))))))

-- ---- the laws

module _ (spelled : Spelled) (one_value : OneValue) (line_spelled : LineSpelled) (one_line : OneOfLine) (S : Schema) (is : IsSchema S) (roles : Roles S) where
  sound : (bytes : List ℕ) → Sound (Whole S) (λ at stop. ThenFails (HeaderFails S (length bytes)) (HeaderReads S) (λ members. RestFails S (length bytes) (head_of S members)) at stop)
  sound bytes = file_sound spelled one_value line_spelled one_line S is roles (length bytes)

  start_within : (bytes : List ℕ) → AreBytes bytes → Within (start_of bytes)
  start_within bytes are = record { place = lit≤ tt; nodes = lit≤ tt; bytes = are }

  pub one_file : OneFile S
  one_file bytes are F G f g =
      let a = from_file S F bytes f in
      let b = from_file S G bytes g in
      let e = (sound bytes).same a.0 b.0 (start_of bytes) a.2 b.2 (start_within bytes are) a.3 b.3 in
      a.1 ∙ ap file_of e.0 ∙ sym b.1

  not_both : (bytes : List ℕ) → AreBytes bytes → (F : File) → IsFile S F bytes → (stop : Stop) → FileStops S bytes stop → ⊥
  not_both bytes are F f stop bad =
      let a = from_file S F bytes f in (sound bytes).excludes a.0 (start_of bytes) a.2 stop (start_within bytes are) a.3 bad

  one_stop : (bytes : List ℕ) → AreBytes bytes → (s t : Stop) → FileStops S bytes s → FileStops S bytes t → s ≡ t
  one_stop bytes are s t a b = (sound bytes).one (start_of bytes) s t (start_within bytes are) a b

  pub one_place : OnePlace S
  one_place bytes are fault j k a b = ap (λ (s : Stop). s.known) (one_stop bytes are (record { fault = fault; known = j }) (record { fault = fault; known = k }) a b)

  pub file_or_fault : FileOrFault S
  file_or_fault bytes are = by ((sound bytes).decides (start_of bytes) (start_within bytes are))
    where
      by : (((z : Parts) × (next : Point) × Whole S z (start_of bytes) next) ⊎ ((stop : Stop) × FileStops S bytes stop)) → ExactlyOne ((F : File) × IsFile S F bytes) (FileFails S bytes)
      by (inl r) = inl ((file_of r.0, to_file S r.0 bytes r.1 r.2), λ fault bad. not_both bytes are (file_of r.0) (to_file S r.0 bytes r.1 r.2) (record { fault = fault; known = bad.0 }) bad.1)
      by (inr r) = inr (
        (λ f. not_both bytes are f.0 f.1 r.0 r.1),
        (r.0.fault, (r.0.known, r.1), λ fault bad. ap (λ (s : Stop). s.fault) (one_stop bytes are (record { fault = fault; known = bad.0 }) r.0 bad.1 r.1)),
      )
