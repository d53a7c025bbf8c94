-- From member to member of the header, and from block to block.
use Rattle.std.proofs.Common.{◌≡◌, ℕ, zero, suc, ◌+◌, ◌<◌, ◌≤◌, inr, Bool, true, false, Option, Some, None, List, [], ◌∷◌, ◌++◌, refl, sym, ap, subst, subst₂, arith}
use Rattle.nif_base.specs.Node.{Node, Members, End, text, nodes, nodes_in}
use Rattle.nif_base.specs.File.{Block}
use Rattle.nif_schema.specs.Declaration.{Field}
use Rattle.nif_schema.specs.Schema.{Schema}
use Rattle.nif_layout.specs.Earlier.{Env, behind, passed}
use Rattle.nif_layout.specs.Present.{present}
use Rattle.nif_base.specs.Limits.{most_file_bytes, most_nodes}
use Rattle.nif_layout.specs.Fault.{Point, Passes, one_more}
use Rattle.nif_layout.specs.Shape.{LineShape}
use Rattle.nif_layout.specs.Fails.{LineFails}
use Rattle.nif_layout.specs.Laws.{line_text}
use Rattle.nif_layout.specs.PassLaws.{join, count_out}
use Rattle.nif_file.specs.Stops.{Stop, of_value}
use Rattle.nif_file.specs.Head.{header_context}
use Rattle.nif_file.specs.Checks.{header_check}
use Rattle.nif_file.specs.FileFails.{BlockReads, BlocksRead, BlocksFail}
use Rattle.nif_file.specs.HeaderParts.{with_members, MemberReads, PartReads}

-- ---- members

abbrev Fails : Schema → ℕ → List Field → Env → Point → Stop → Type 0
Fails S total fields E at stop = LineFails S (header_context S) 63 None 0 (of_value total) (header_check S) fields E at stop

abbrev Whole : Schema → List Field → Env → Members → Type 0
Whole S fields E members = LineShape S (header_context S) 63 None 0 (header_check S) fields E members

module _ (S : Schema) where
  -- one member more
  pub part_more : (gots : List (Option Node)) (fields : List Field) (E : Env) (at : Point) (f : Field) (left : List Field) (E' : Env) (mid next : Point) (got : Option Node)
      → PartReads S gots fields E at (f ∷ left) E' mid → MemberReads S E' f got mid next → header_check S E' f got ≡ None
      → PartReads S (gots ++ got ∷ []) fields E at left (behind f got E') next
  part_more [] fields E at f left E' mid next got r m fine =
      let P : List Field → Type 0 = λ fs. PartReads S (got ∷ []) fs E at left (behind f got E') next in
      let here : MemberReads S E f got at next = subst₂ (λ (x : Env) (p : Point). MemberReads S x f got p next) r.1 r.2 m in
      let checked : header_check S E f got ≡ None = subst (λ (x : Env). header_check S x f got ≡ None) r.1 fine in
      let env : behind f got E' ≡ behind f got E = ap (behind f got) r.1 in
      subst P r.0 (next, here, checked, (refl, env, refl))
  part_more (g ∷ gots) [] E at f left E' mid next got r m fine = absurd r
  part_more (g ∷ gots) (h ∷ fields) E at f left E' mid next got r m fine =
      (r.0, r.1, r.2, part_more gots fields (behind h g E) r.0 f left E' mid next got r.3 m fine)

  -- the rest fails behind the first members
  pub part_fails : (total : ℕ) (gots : List (Option Node)) (fields : List Field) (E : Env) (at : Point) (left : List Field) (E' : Env) (next : Point) (stop : Stop)
      → PartReads S gots fields E at left E' next → Fails S total left E' next stop → Fails S total fields E at stop
  part_fails total [] fields E at left E' next stop r bad =
      let a : Fails S total fields E' next stop = subst (λ (fs : List Field). Fails S total fs E' next stop) r.0 bad in
      subst₂ (λ (x : Env) (p : Point). Fails S total fields x p stop) r.1 r.2 a
  part_fails total (got ∷ gots) [] E at left E' next stop r bad = absurd r
  part_fails total (got ∷ gots) (f ∷ fields) E at left E' next stop r bad =
      by got (present S (header_context S E) 0 E f) refl r.1 r.2 (part_fails total gots fields (behind f got E) r.0 left E' next stop r.3 bad)
    where
      by : (got : Option Node) (b : Bool) → present S (header_context S E) 0 E f ≡ b → MemberReads S E f got at r.0 → header_check S E f got ≡ None
          → Fails S total fields (behind f got E) r.0 stop → Fails S total (f ∷ fields) E at stop
      by (Some node) true e m fine rest = rw e (inr (node, r.0, m.1, m.2, inr (fine, rest)))
      by (Some node) false e m fine rest = let yes_f : present S (header_context S E) 0 E f ≡ true = m.0 in absurd (cc)
      by None true e m fine rest = let no_f : present S (header_context S E) 0 E f ≡ false = m.0 in absurd (cc)
      by None false e m fine rest =
          let here : Fails S total fields (behind f None E) (one_more at) stop = subst (λ (p : Point). Fails S total fields (behind f None E) p stop) m.2 rest in
          rw e (inr (m.1, inr (fine, here)))

  -- all members are read
  pub part_whole : (gots : List (Option Node)) (fields : List Field) (E : Env) (at : Point) (E' : Env) (next : Point) → at.place ≤ most_file_bytes → at.nodes ≤ most_nodes
      → PartReads S gots fields E at [] E' next
      → Whole S fields E (with_members gots End)
      × Passes (line_text (header_context S) fields E (with_members gots End)) (nodes_in (with_members gots End)) at next
      × (E' ≡ passed fields (with_members gots End) E)
  part_whole [] fields E at E' next place few r =
      let none : Passes [] 0 at at = record { here = refl; place = omega arith; nodes = omega arith; within = place; counted = few } in
      let P : List Field → Type 0 = λ fs. Whole S fs E End × Passes (line_text (header_context S) fs E End) 0 at next × (E' ≡ passed fs End E) in
      subst P r.0 (refl, subst (λ (p : Point). Passes [] 0 at p) (sym r.2) none, r.1)
  part_whole (got ∷ gots) [] E at E' next place few r = absurd r
  part_whole (Some node ∷ gots) (f ∷ fields) E at E' next place few r =
      let here = r.1 in
      let later = part_whole gots fields (behind f (Some node) E) r.0 E' next here.2.within here.2.counted r.3 in
      let order = (header_context S E).order in
      let rest = with_members gots End in
      let b : present S (header_context S E) 0 E f ≡ true = here.0 in (
        rw b (node, rest, refl, here.1, (r.2, later.0)),
        join (text order node) (line_text (header_context S) fields (behind f (Some node) E) rest) (nodes node) (nodes_in rest) at r.0 next here.2 later.1,
        later.2,
      )
  part_whole (None ∷ gots) (f ∷ fields) E at E' next place few r =
      let here = r.1 in
      let b : present S (header_context S E) 0 E f ≡ false = here.0 in
      let more : PartReads S gots fields (behind f None E) (one_more at) [] E' next = subst (λ (p : Point). PartReads S gots fields (behind f None E) p [] E' next) here.2 r.3 in
      let room : at.nodes < most_nodes = here.1 in
      let later = part_whole gots fields (behind f None E) (one_more at) E' next place (omega (arith, room)) more in
      let rest = with_members gots End in (
        rw b (rest, refl, (r.2, later.0)),
        count_out (line_text (header_context S) fields (behind f None E) rest) (nodes_in rest) at next later.1,
        later.2,
      )

-- ---- blocks

module _ (S : Schema) (E : Env) where
  -- one block more
  pub blocks_more : (n k : ℕ) (blocks : List Block) (block : Block) (at mid next : Point) → BlocksRead S E k n blocks at mid → BlockReads S E (k + n) block mid next
      → BlocksRead S E k (n + 1) (blocks ++ block ∷ []) at next
  blocks_more zero k blocks block at mid next r b =
      let z : k + 0 ≡ k = omega arith in
      let here : BlockReads S E k block at next = subst₂ (λ (j : ℕ) (p : Point). BlockReads S E j block p next) z r.1 b in
      let P : List Block → Type 0 = λ bs. BlocksRead S E k (0 + 1) (bs ++ block ∷ []) at next in
      subst P (sym r.0) (block, [], next, refl, here, (refl, refl))
  blocks_more (suc n) k blocks block at mid next r b =
      let z : k + suc n ≡ k + 1 + n = omega arith in
      let later = blocks_more n (k + 1) r.1 block r.2 mid next r.5 (subst (λ (j : ℕ). BlockReads S E j block mid next) z b) in
      let y : suc (n + 1) ≡ suc n + 1 = omega arith in
      let P : List Block → Type 0 = λ bs. BlocksRead S E k (suc (n + 1)) (bs ++ block ∷ []) at next in
      subst (λ (j : ℕ). BlocksRead S E k j (blocks ++ block ∷ []) at next) y (subst P (sym r.3) (r.0, r.1 ++ block ∷ [], r.2, refl, r.4, later))

  -- the next block fails behind the first ones
  pub blocks_fail : (total n m k : ℕ) (blocks : List Block) (at mid : Point) (stop : Stop) → BlocksRead S E k n blocks at mid → BlocksFail S total E (k + n) m mid stop
      → BlocksFail S total E k (n + m) at stop
  blocks_fail total zero m k blocks at mid stop r bad =
      let z : k + 0 ≡ k = omega arith in
      let y : m ≡ 0 + m = omega arith in
      let here : BlocksFail S total E k m at stop = subst₂ (λ (j : ℕ) (p : Point). BlocksFail S total E j m p stop) z r.1 bad in
      subst (λ (j : ℕ). BlocksFail S total E k j at stop) y here
  blocks_fail total (suc n) m k blocks at mid stop r bad =
      let z : k + suc n ≡ k + 1 + n = omega arith in
      let y : suc (n + m) ≡ suc n + m = omega arith in
      let later = blocks_fail total n m (k + 1) r.1 r.2 mid stop r.5 (subst (λ (j : ℕ). BlocksFail S total E j m mid stop) z bad) in
      let here : BlocksFail S total E k (suc (n + m)) at stop = inr (r.0, r.2, r.4, later) in
      subst (λ (j : ℕ). BlocksFail S total E k j at stop) y here
