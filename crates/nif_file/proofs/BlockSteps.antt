-- Blocks, one behind another, and the footer behind them.
use Rattle.std.proofs.Common.{◌≡◌, ℕ, zero, suc, ◌+◌, ◌<◌, inl, inr, Some, None, List, [], ◌∷◌, ◌++◌, length, refl, sym, ◌∙◌, subst, arith}
use Rattle.std.specs.Prelude.{codes}
use Rattle.nif_base.specs.Node.{Node, text, nodes}
use Rattle.nif_base.specs.File.{Block}
use Rattle.nif_schema.specs.Schema.{Schema, find}
use Rattle.nif_schema.specs.Roles.{IsRoot}
use Rattle.nif_layout.specs.Earlier.{Env}
use Rattle.nif_layout.specs.Kind.{Kind, kind_of}
use Rattle.nif_layout.specs.Shape.{Shape}
use Rattle.nif_layout.specs.Fault.{Point, Passes, Reads}
use Rattle.nif_layout.specs.Fails.{Lifted, Fails}
use Rattle.nif_layout.specs.Laws.{Fits}
use Rattle.nif_layout.specs.PassLaws.{split, join}
use Rattle.nif_file.specs.Stops.{Stop, of_value}
use Rattle.nif_file.specs.Head.{file_context, block_context, order_in, number_of, index_word}
use Rattle.nif_file.specs.Checks.{types_fault}
use Rattle.nif_base.specs.Limits.{most_depth}
use Rattle.nif_file.specs.Files.{name_of, name_where, zero_word, block_text, block_kind, HasSize, footer_kind}
use Rattle.nif_file.specs.FileFails.{TypeReads, TypeFails, ZeroFails, ValueReads, ValueFails, SizeFails, FrameFails, BlockFails, BlockReads, BlocksRead, BlocksFail, FooterReads, FooterFails, IsTrailing, BodyFails, RestFails}
use Rattle.nif_file.proofs.Walks.{Within, Sound, Then, ThenFails, Unless, chain, unless, viewed, refailed}
use Rattle.nif_file.proofs.Pieces.{zero_sound, size_sound, end_sound}
use Rattle.nif_file.proofs.TypeSteps.{type_sound}
use Rattle.nif_file.proofs.ValueSteps.{Spelled, OneValue, value_sound, block_open, no_template}

-- Nothing but nodes of the value are counted in a block.
counted : (s : List ℕ) (n : ℕ) (at next : Point) → Passes s (0 + (0 + n)) at next → Passes s n at next
counted s n at next p = let e : 0 + (0 + n) ≡ n = omega arith in subst (λ (k : ℕ). Passes s k at next) e p

uncounted : (s : List ℕ) (n : ℕ) (at next : Point) → Passes s n at next → Passes s (0 + (0 + n)) at next
uncounted s n at next p = let e : n ≡ 0 + (0 + n) = omega arith in subst (λ (k : ℕ). Passes s k at next) e p

-- a block, from its parts
pub block_read : (S : Schema) (E : Env) (k kind : ℕ) (value : Node) (at typed framed next : Point) → TypeReads S E k kind at typed → Passes (zero_word E) 0 typed framed
    → ValueReads S E kind value framed next → HasSize E k value → BlockReads S E k (record { kind = kind; index = index_word E k; node = value }) at next
block_read S E k kind value at typed framed next t z v sized =
    let rest = join (zero_word E) (text (order_in E) value) 0 (nodes value) typed framed next z v.1 in
    let all = join (name_where (index_word E k) (order_in E) (name_of S kind)) (zero_word E ++ text (order_in E) value) 0 (0 + nodes value) at typed next t.2 rest in (
      record { type = t.0; index = refl; indexed = t.1; value = v.0; sized = sized },
      counted (name_where (index_word E k) (order_in E) (name_of S kind) ++ (zero_word E ++ text (order_in E) value)) (nodes value) at next all,
    )

-- nothing is left
abbrev pub End : Unit {0} → Point → Point → Type 0
End u at next = (at.left ≡ []) × (next ≡ at)

abbrev pub Footed : Schema → Env → (Node × Unit {0}) → Point → Point → Type 0
Footed S E = Then (FooterReads S E) (λ footer. End)

-- the blocks and the footer, and nothing more
abbrev pub Body : Schema → Env → (List Block × (Node × Unit {0})) → Point → Point → Type 0
Body S E = Then (BlocksRead S E 0 (number_of (codes "Num Blocks") E)) (λ blocks. Footed S E)

module _ (spelled : Spelled) (one_value : OneValue) (S : Schema) (total : ℕ) (E : Env) (fits : Fits (file_context S E)) where
  value_part : (k kind : ℕ) (at mid : Point) → TypeReads S E k kind at mid
      → Sound (ValueReads S E kind) (Lifted (of_value total) (Fails S (block_context S E kind) most_depth (block_kind S E kind)))
  value_part k kind at mid r =
      let o = block_open S kind (name_of S kind) r.0.named in
      value_sound spelled one_value S total (block_context S E kind) most_depth kind (record { blocks = fits.blocks; strings = fits.strings })
      (o.0, r.0.opens) (no_template S kind o.1)

  abbrev Sized : ℕ → Node → Unit {0} → Point → Point → Type 0
  Sized k value u at next = HasSize E k value × (next ≡ at)

  abbrev Zero : Unit {0} → Point → Point → Type 0
  Zero u at next = Passes (zero_word E) 0 at next

  -- the value and its size, behind the zero word, behind the type
  abbrev Framed : ℕ → ℕ → (Unit {0} × (Node × Unit {0})) → Point → Point → Type 0
  Framed k kind = Then Zero (λ u. Then (ValueReads S E kind) (Sized k))

  frame_part : (k kind : ℕ) (at mid : Point) → TypeReads S E k kind at mid → Sound (Framed k kind) (FrameFails S total E k kind)
  frame_part k kind at mid r =
      refailed (Framed k kind) (ThenFails (ZeroFails total E k) Zero (λ u. ValueFails S total E k kind)) (FrameFails S total E k kind) there back
      (chain Zero (ZeroFails total E k) (λ u. Then (ValueReads S E kind) (Sized k)) (λ u. ValueFails S total E k kind) (zero_sound total E k)
      (λ u p q z. chain (ValueReads S E kind) (Lifted (of_value total) (Fails S (block_context S E kind) most_depth (block_kind S E kind))) (Sized k) (SizeFails E k)
      (value_part k kind at mid r) (λ value p q v. size_sound E k value)))
    where
      there : (p : Point) (s : Stop) → ThenFails (ZeroFails total E k) Zero (λ u. ValueFails S total E k kind) p s → FrameFails S total E k kind p s
      there p s (inl bad) = inl bad
      there p s (inr bad) = inr (bad.1, bad.2, bad.3)

      back : (p : Point) (s : Stop) → FrameFails S total E k kind p s → ThenFails (ZeroFails total E k) Zero (λ u. ValueFails S total E k kind) p s
      back p s (inl bad) = inl bad
      back p s (inr bad) = inr (tt, bad.0, bad.1, bad.2)

  abbrev Parts : Type 0
  Parts = ℕ × (Unit {0} × (Node × Unit {0}))

  abbrev block_of : ℕ → Parts → Block
  block_of k z = record { kind = z.0; index = index_word E k; node = z.1.1.0 }

  to_block : (k : ℕ) (z : Parts) (at next : Point) → Then (TypeReads S E k) (Framed k) z at next → BlockReads S E k (block_of k z) at next
  to_block k z at next r =
      let value = z.1.1.0 in
      let sized = r.2.2.2 in
      let valued : ValueReads S E z.0 value r.2.0 next = subst (λ (p : Point). ValueReads S E z.0 value r.2.0 p) (sym sized.1) r.2.2.1 in
      block_read S E k z.0 value at r.0 r.2.0 next r.1 r.2.1 valued sized.0

  from_block : (k : ℕ) (block : Block) (at next : Point) → BlockReads S E k block at next → (z : Parts) × (block ≡ block_of k z) × Then (TypeReads S E k) (Framed k) z at next
  from_block k block at next r =
      let is = r.0 in
      let name = name_where (index_word E k) (order_in E) (name_of S block.kind) in
      let value = block.node in
      let all = uncounted (block_text S E k block) (nodes value) at next r.1 in
      let a = split name (zero_word E ++ text (order_in E) value) 0 (0 + nodes value) at next all in
      let b = split (zero_word E) (text (order_in E) value) 0 (nodes value) a.0 next a.2 in (
        (block.kind, (tt, (value, tt))),
        (λ i. record { kind = block.kind; index = is.index i; node = value }),
        (a.0, (is.type, is.indexed, a.1), (b.0, b.1, (next, (is.value, b.2), (is.sized, refl)))),
      )

  pub block_sound : (k : ℕ) → Sound (BlockReads S E k) (BlockFails S total E k)
  block_sound k =
      viewed (Then (TypeReads S E k) (Framed k)) (BlockReads S E k) (BlockFails S total E k) (block_of k) (to_block k) (from_block k)
      (chain (TypeReads S E k) (TypeFails S total E k) (Framed k) (FrameFails S total E k) (type_sound S total E k) (frame_part k))

  pub blocks_sound : (n k : ℕ) → Sound (BlocksRead S E k n) (BlocksFail S total E k n)
  blocks_sound zero k = record {
    stays = λ x at next w r. subst (λ (p : Point). Within p) (sym r.1) w;
    excludes = λ x at next s w r bad. bad;
    same = λ x y at p q w r t. (r.0 ∙ sym t.0, r.1 ∙ sym t.1);
    one = λ at s t w a b. absurd a;
    decides = λ at w. inl ([], at, (refl, refl));
  }
  blocks_sound (suc n) k =
      viewed (Then (BlockReads S E k) (λ block. BlocksRead S E (k + 1) n)) (BlocksRead S E k (suc n)) (BlocksFail S total E k (suc n)) (λ z. z.0 ∷ z.1)
      (λ z at next r. (z.0, z.1, r.0, refl, r.1, r.2)) (λ blocks at next r. ((r.0, r.1), r.3, (r.2, r.4, r.5)))
      (chain (BlockReads S E k) (BlockFails S total E k) (λ block. BlocksRead S E (k + 1) n) (λ block. BlocksFail S total E (k + 1) n) (block_sound k) (λ block at mid r. blocks_sound n (k + 1)))

  -- ---- the footer, and all behind the header

  footer_value : (number : ℕ) → IsRoot S (codes "Footer") number → number < length S → Sound (FooterReads S E) (Lifted (of_value total) (Fails S (file_context S E) most_depth (footer_kind S E)))
  footer_value number root below =
      let kind = kind_of S (file_context S E) number None 0 in
      let e : footer_kind S E ≡ kind = by root.found in
      let P : Kind → Type 0 = λ kind. Sound (λ footer at next. Shape S (file_context S E) most_depth kind footer × Reads (order_in E) footer at next) (Lifted (of_value total) (Fails S (file_context S E) most_depth kind)) in
      subst P (sym e) (value_sound spelled one_value S total (file_context S E) most_depth number fits (below, root.opens) (no_template S number root.single))
    where
      by : find S (codes "Footer") ≡ Some number → footer_kind S E ≡ kind_of S (file_context S E) number None 0
      by found = rw found refl

  pub rest_sound : (number : ℕ) → IsRoot S (codes "Footer") number → number < length S → Sound (Unless (types_fault E) (Body S E)) (RestFails S total E)
  rest_sound number root below =
      let n = number_of (codes "Num Blocks") E in
      unless (types_fault E) (Body S E) (BodyFails S total E)
      (λ fine. chain (BlocksRead S E 0 n) (BlocksFail S total E 0 n) (λ blocks. Footed S E) (λ blocks. FooterFails S total E) (blocks_sound n 0)
      (λ blocks at mid r. chain (FooterReads S E) (Lifted (of_value total) (Fails S (file_context S E) most_depth (footer_kind S E))) (λ footer. End) (λ footer. IsTrailing)
      (footer_value number root below) (λ footer at mid r. end_sound)))
