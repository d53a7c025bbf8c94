-- The first fault of a file is known within it.
use Rattle.std.proofs.Common.{◌≡◌, ◌≢◌, ℕ, zero, suc, ◌+◌, ◌≤◌, ◌⊎◌, inl, inr, Bool, true, false, ◌&&◌, ◌||◌, not, if◌then◌else◌, Option, Some, None, List, [], ◌∷◌, length, refl, sym, ap, subst, arith, true≢false}
use Rattle.std.specs.Prelude.{codes, bytes_eq, nat_eq, nat_lt, nat_le, is_none}
use Rattle.std.specs.Option.{option_map_or}
use Rattle.nif_base.specs.Node.{Node, Members, Here, Absent, text, nodes, nodes_in, size, size_in}
use Rattle.nif_base.specs.File.{Block}
use Rattle.nif_schema.specs.Declaration.{Name, Field}
use Rattle.nif_schema.specs.Schema.{Schema, IsSchema}
use Rattle.nif_schema.specs.Basic.{listed_leaf}
use Rattle.nif_schema.specs.Roles.{Roles, has_line, is_named, is_of_basic, is_bare, is_plain, has_no_bounds, lowest, highest}
use Rattle.nif_schema.specs.declared.decls.Leaf.TheVariants as leaf
use Rattle.nif_layout.specs.Earlier.{Earlier, Env, behind, passed}
use Rattle.nif_layout.specs.Present.{present}
use Rattle.nif_layout.specs.Form.{form_of}
use Rattle.nif_layout.specs.Fault.{Point, Passes, one_more}
use Rattle.nif_layout.specs.Members.{Member, Check, Fields}
use Rattle.nif_layout.specs.Shape.{FormShape}
use Rattle.nif_layout.specs.Fails.{Lifted, MemberFails, Fails, FormShapeFails, LineFails}
use Rattle.nif_file.specs.declared.faults.FileFault.{FileFault}
use Rattle.nif_file.specs.declared.faults.FileFault.TheVariants as file
use Rattle.nif_file.specs.Stops.{Stop, of_value}
use Rattle.nif_file.specs.FirstLine.{line_version}
use Rattle.nif_file.specs.Sizes.{size_of_fields}
use Rattle.nif_file.specs.Head.{header_context, file_context, block_context, order_in, version_in, number_of, bs_version, index_word, line_in}
use Rattle.nif_base.specs.Limits.{most_blocks, most_types, highest_bs, most_depth}
use Rattle.nif_file.specs.Checks.{line_fault, refuse_where, member_fault, header_check}
use Rattle.nif_file.specs.Files.{header_line, head_of, header_text, has_zero_word, zero_word, name_of, name_where, block_kind, block_text, footer_kind}
use Rattle.nif_file.specs.FileFails.{PartFails, KindRefused, NameRefused, TypeFailsBy, ZeroFailsBy, ValueFails, FrameFails, BlockFails, BlocksRead, BlocksFail, FooterFails, BodyFails, RestFails, HeaderReads, start_of, FileStops, sized_needs}
use Rattle.nif_file.specs.FileLaws.{KnownWithin}
use Rattle.nif_file.proofs.Walks.{none_some, some_same}
use Rattle.nif_file.specs.RoleLaws.{header_line_is, left, right}
use Rattle.nif_file.proofs.HeadNumbers.{basic_value}
use Rattle.nif_file.specs.LengthLaws.{length_text, line_length}
use Rattle.nif_file.proofs.KnownValues.{IsOf, of_behind, left_within, short_kept, there, fails_kept, form_fails_kept, lifted_kept}
use Rattle.nif_file.specs.RoleLaws.{bare_present, no_value}

-- ---- the checks of the header

pub refused_known : (b : Bool) (fault : FileFault) (E : Env) (w : Stop) → refuse_where b fault E ≡ Some w → w.known ≡ size_of_fields E
refused_known true fault E w e =
    let same : record { fault = fault; known = size_of_fields E } ≡ w = some_same (Some (record { fault = fault; known = size_of_fields E })) (record { fault = fault; known = size_of_fields E }) w refl e in
    sym (ap (λ (s : Stop). s.known) same)
refused_known false fault E w e = absurd (none_some None w refl e)

either : {P : Type 0} (b : Bool) (x y : Option Stop) (w : Stop) → (x ≡ Some w → P) → (y ≡ Some w → P) → (if b then x else y) ≡ Some w → P
either true x y w first second e = first e
either false x y w first second e = second e

pub member_known : (S : Schema) (name : Name) (n : ℕ) (E : Env) (w : Stop) → member_fault S name n E ≡ Some w → w.known ≡ size_of_fields E
member_known S name n E w e =
    either (bytes_eq name (codes "Version")) _ _ w (refused_known (not (nat_eq n (version_in E))) (file.VersionDisagrees (version_in E) n) E w)
    (either (bytes_eq name (codes "Endian Type")) _ _ w (refused_known (nat_lt 1 n) (file.EndianValue n) E w)
    (either (bytes_eq name (codes "Num Blocks")) _ _ w (refused_known (nat_lt most_blocks n) (file.TooManyBlocks n) E w)
    (either (bytes_eq name (codes "Num Block Types")) _ _ w (refused_known (nat_lt most_types n) (file.TooManyTypes n) E w)
    (either (bytes_eq name (codes "BS Header") || bytes_eq name (codes "User Version 2")) _ _ w (refused_known (nat_lt highest_bs (bs_version S E)) (file.BsRange (bs_version S E)) E w)
    (λ none. absurd (none_some None w refl none)))))) e

pub line_known : (line : List ℕ) (w : Stop) → line_fault line ≡ Some w → w.known ≡ length line + 1
line_known line w e = by (line_version line) e
  where
    known_is : (fault : FileFault) → ◌≡◌ {A = Option Stop} (Some (record { fault = fault; known = length line + 1 })) (Some w) → w.known ≡ length line + 1
    known_is fault e =
        let same = some_same (Some (record { fault = fault; known = length line + 1 })) (record { fault = fault; known = length line + 1 }) w refl e in
        sym (ap (λ (s : Stop). s.known) same)

    by : (o : Option ℕ) → option_map_or (λ version. if nat_le lowest version && nat_le version highest then None else Some (record { fault = file.VersionRange version; known = length line + 1 })) o (Some (record { fault = file.BadLine; known = length line + 1 })) ≡ Some w
        → w.known ≡ length line + 1
    by None e = known_is file.BadLine e
    by (Some v) e = either (nat_le lowest v && nat_le v highest) None _ w (λ none. absurd (none_some None w refl none)) (known_is (file.VersionRange v)) e

-- ---- the members

module _ (S : Schema) (total : ℕ) where
  abbrev Line : List Field → Env → Point → Stop → Type 0
  Line fields E at w = LineFails S (header_context S) 63 None 0 (of_value total) (header_check S) fields E at w

  lifted : (E : Env) (f : Field) (at : Point) (w : Stop) → IsOf total at → Lifted (of_value total) (FormShapeFails S (header_context S E) 63 (form_of S (header_context S E) None 0 E f)) at w → w.known ≤ total
  lifted E f at w of bad =
      lifted_kept total (FormShapeFails S (header_context S E) 63 (form_of S (header_context S E) None 0 E f)) (form_fails_kept total S (header_context S E) 63 (form_of S (header_context S E) None 0 E f)) at w of bad

  -- the place behind one member more
  further : (E : Env) (f : Field) (order_of : Env) (value : Node) (at next : Point) → at.place ≡ size_of_fields E → Passes (text (header_context S order_of).order value) (nodes value) at next
      → next.place ≡ size_of_fields (behind f (Some value) E)
  further E f order_of value at next place p =
      let a : next.place ≡ at.place + length (text (header_context S order_of).order value) = p.place in
      let b = length_text (header_context S order_of).order value in
      omega arith

  later : (fields : List Field) (e : Earlier) (E : Env) (at : Point) (w : Stop) → IsOf total at → at.place ≡ size_of_fields (e ∷ E) → Line fields (e ∷ E) at w → w.known ≤ total
  later [] e E at w of place bad = absurd bad
  later (f ∷ fields) e E at w of place bad =
      by (present S (header_context S (e ∷ E)) 0 (e ∷ E) f) bad (λ got next of' place' bad'. later fields (record { field = f; node = got }) (e ∷ E) next w of' place' bad')
    where
      A : Env
      A = e ∷ E

      Later : Type 0
      Later = (got : Option Node) (next : Point) → IsOf total next → next.place ≡ size_of_fields (behind f got (e ∷ E)) → Line fields (behind f got (e ∷ E)) next w → w.known ≤ total

      by : (b : Bool)
          → MemberFails (of_value total) (header_context S (e ∷ E)).order b (FormShape S (header_context S (e ∷ E)) 63 (form_of S (header_context S (e ∷ E)) None 0 (e ∷ E) f))
          (FormShapeFails S (header_context S (e ∷ E)) 63 (form_of S (header_context S (e ∷ E)) None 0 (e ∷ E) f))
          (λ got next w. (header_check S (e ∷ E) f got ≡ Some w) ⊎ ((header_check S (e ∷ E) f got ≡ None) × Line fields (behind f got (e ∷ E)) next w)) at w
          → Later → w.known ≤ total
      by true (inl bad) ih = lifted (e ∷ E) f at w of bad
      by true (inr bad) ih = behind_value bad.0 bad.1 (of_behind total _ _ at bad.1 of bad.3) (further (e ∷ E) f (e ∷ E) bad.0 at bad.1 place bad.3) bad.4 ih
        where
          behind_value : (value : Node) (next : Point) → IsOf total next → next.place ≡ size_of_fields (behind f (Some value) (e ∷ E))
              → ((header_check S (e ∷ E) f (Some value) ≡ Some w) ⊎ ((header_check S (e ∷ E) f (Some value) ≡ None) × Line fields (behind f (Some value) (e ∷ E)) next w)) → Later → w.known ≤ total
          behind_value value next of' place' (inl refused) ih =
              let a : w.known ≡ size_of_fields (behind f (Some value) (e ∷ E)) = member_known S f.name _ (behind f (Some value) (e ∷ E)) w refused in omega arith
          behind_value value next of' place' (inr bad) ih = ih (Some value) next of' place' bad.1
      by false (inl bad) ih = let a : w.known ≡ at.place = ap (λ (s : Stop). s.known) bad.1 in omega arith
      by false (inr bad) ih = behind_none bad.1 ih
        where
          behind_none : ((◌≡◌ {A = Option Stop} None (Some w)) ⊎ ((◌≡◌ {A = Option Stop} None None) × Line fields (behind f None (e ∷ E)) (one_more at) w)) → Later → w.known ≤ total
          behind_none (inl refused) ih = absurd (none_some None w refl refused)
          behind_none (inr bad) ih = let a : at.place ≡ size_of_fields (behind f None (e ∷ E)) = omega arith in ih None (one_more at) of a bad.1

-- ---- the line

pub line_leaf : listed_leaf (codes "HeaderString") ≡ Some leaf.Line
unfolding listed_leaf
line_leaf = refl

pub line_rule : (S : Schema) (f : Field) (fields : List Field) → has_line S (f ∷ fields) ≡ true → (is_of_basic S (codes "HeaderString") f ≡ true) × (is_bare f ≡ true)
unfolding has_line
line_rule S f fields h =
    let both = right (is_named (codes "Header String") f) (is_of_basic S (codes "HeaderString") f && is_bare f) h in
    (left (is_of_basic S (codes "HeaderString") f) (is_bare f) both, right (is_of_basic S (codes "HeaderString") f) (is_bare f) both)

first : (S : Schema) → IsSchema S → (total : ℕ) (fields : List Field) (at : Point) (w : Stop) → has_line S fields ≡ true → IsOf total at → at.place ≡ 0 → Line S total fields [] at w → w.known ≤ total
first S is total [] at w rule of place bad = absurd bad
first S is total (f ∷ fields) at w rule of place bad = by (present S (header_context S []) 0 [] f) (bare_present S (header_context S []) [] f r.1) bad
  where
    r : (is_of_basic S (codes "HeaderString") f ≡ true) × (is_bare f ≡ true)
    r = line_rule S f fields rule

    single : f.length ≡ None
    single = no_value f.length (left (is_none f.length) (has_no_bounds f) (right (is_plain f) (is_none f.length && has_no_bounds f) r.1))

    behind_line : (value : Node) (next : Point) → FormShape S (header_context S []) 63 (form_of S (header_context S []) None 0 [] f) value → IsOf total next
        → next.place ≡ size_of_fields (behind f (Some value) [])
        → ((header_check S [] f (Some value) ≡ Some w) ⊎ ((header_check S [] f (Some value) ≡ None) × Line S total fields (behind f (Some value) []) next w)) → w.known ≤ total
    behind_line value next shape of' place' (inr bad) = later S total fields (record { field = f; node = Some value }) [] next w of' place' bad.1
    behind_line value next shape of' place' (inl refused) =
        let line = basic_value S is (header_context S []) [] f (codes "HeaderString") leaf.Line value r.0 single line_leaf shape in
        let moved : line_fault line.0 ≡ Some w = subst (λ (v : Node). line_fault (line_in (Some v)) ≡ Some w) line.1 refused in
        let a = line_known line.0 w moved in
        let b : size value ≡ length line.0 + 1 = ap size line.1 in
        omega arith

    by : (b : Bool) → b ≡ true
        → MemberFails (of_value total) (header_context S []).order b (FormShape S (header_context S []) 63 (form_of S (header_context S []) None 0 [] f))
        (FormShapeFails S (header_context S []) 63 (form_of S (header_context S []) None 0 [] f))
        (λ got next w. (header_check S [] f got ≡ Some w) ⊎ ((header_check S [] f got ≡ None) × Line S total fields (behind f got []) next w)) at w → w.known ≤ total
    by false e bad = absurd (true≢false (sym e))
    by true e (inl bad) = lifted S total [] f at w of bad
    by true e (inr bad) = behind_line bad.0 bad.1 bad.2 (of_behind total _ _ at bad.1 of bad.3) (further S total [] f [] bad.0 at bad.1 place bad.3) bad.4

-- ---- the members together

passed_size : {Why : Type 0} (here : Env → Field → Bool) (V : Env → Field → Node → Type 0) (check : Check Why) (fields : List Field) (E : Env) (members : Members) → Fields here V check fields E members
    → size_of_fields (passed fields members E) ≡ size_of_fields E + size_in members
passed_size here V check [] E members h = let a : size_in members ≡ 0 = ap size_in h in omega arith
passed_size {Why} here V check (f ∷ fields) E members h = by (here E f) members h (λ got rest k. passed_size here V check fields (behind f got E) rest k)
  where
    by : (b : Bool) (members : Members) → Member b (V E f) (λ got rest. (check E f got ≡ None) × Fields here V check fields (behind f got E) rest) members
        → ((got : Option Node) (rest : Members) → Fields here V check fields (behind f got E) rest → size_of_fields (passed fields rest (behind f got E)) ≡ size_of_fields (behind f got E) + size_in rest)
        → size_of_fields (passed (f ∷ fields) members E) ≡ size_of_fields E + size_in members
    by true members h ih =
        let P : Members → Type 0 = λ m. size_of_fields (passed (f ∷ fields) m E) ≡ size_of_fields E + size_in m in
        let a = ih (Some h.0) h.1 h.4.1 in
        let whole : P (Here h.0 h.1) = omega arith in
        subst P (sym h.2) whole
    by false members h ih =
        let P : Members → Type 0 = λ m. size_of_fields (passed (f ∷ fields) m E) ≡ size_of_fields E + size_in m in
        let a = ih None h.0 h.2.1 in
        let whole : P (Absent h.0) = omega arith in
        subst P (sym h.1) whole

pub head_place : (S : Schema) (members : Members) (bytes : List ℕ) (next : Point) → HeaderReads S members (start_of bytes) next → next.place ≡ size_of_fields (head_of S members)
head_place S members bytes next r =
    let a : next.place ≡ 0 + length (header_text S members) = r.1.place in
    let b = line_length (λ E. (header_context S E).order) _ _ _ (header_line S) [] members r.0 in
    let c = passed_size _ _ _ (header_line S) [] members r.0 in
    omega arith

-- ---- blocks and footer

module _ (S : Schema) (total : ℕ) (E : Env) where
  part : (k : ℕ) (at : Point) (s : Stop) → IsOf total at → PartFails total k at s → s.known ≤ total
  part k at s of bad = let a : s.known ≡ (of_value total bad.0).known = ap (λ (s : Stop). s.known) bad.2 in let b = short_kept total k at bad.0 of bad.1 in omega arith

  at_place : (known : ℕ) (fault : FileFault) (s : Stop) → s ≡ record { fault = fault; known = known } → known ≤ total → s.known ≤ total
  at_place known fault s e below = let a : s.known ≡ known = ap (λ (s : Stop). s.known) e in omega arith

  named : (k : ℕ) (name : Name) (known : ℕ) (s : Stop) → known ≤ total → NameRefused S k name known s → s.known ≤ total
  named k name known s below (inl bad) = at_place known _ s bad.1 below
  named k name known s below (inr bad) = by bad.2
    where
      by : KindRefused S k bad.0 known s → s.known ≤ total
      by (inl b) = at_place known _ s b.1 below
      by (inr b) = at_place known _ s b.3 below

  place_below : (at : Point) → IsOf total at → at.place ≤ total
  place_below at of = omega arith

  typed : (o : Option ℕ) (k : ℕ) (at : Point) (s : Stop) → IsOf total at → TypeFailsBy o S total E k at s → s.known ≤ total
  typed (Some word) k at s of (inl bad) = at_place at.place _ s bad.1 (place_below at of)
  typed (Some word) k at s of (inr bad) = named k bad.0 at.place s (place_below at of) bad.2
  typed None k at s of (inl bad) = part (sized_needs (order_in E) at.left) at s of bad
  typed None k at s of (inr bad) = named k bad.0 bad.1.place s (left_within total _ 0 at bad.1 of bad.2) bad.3

  zeroed : (b : Bool) (k : ℕ) (at : Point) (s : Stop) → IsOf total at → ZeroFailsBy b total E k at s → s.known ≤ total
  zeroed true k at s of (inl bad) = part 4 at s of bad
  zeroed true k at s of (inr bad) = at_place (at.place + 4) _ s bad.2 (there total 4 at of bad.0)
  zeroed false k at s of bad = absurd bad

  valued : (k kind : ℕ) (at : Point) (s : Stop) → IsOf total at → ValueFails S total E k kind at s → s.known ≤ total
  valued k kind at s of (inl bad) =
      lifted_kept total (Fails S (block_context S E kind) most_depth (block_kind S E kind)) (fails_kept total S (block_context S E kind) most_depth (block_kind S E kind)) at s of bad
  valued k kind at s of (inr bad) = at_place bad.1.place _ s bad.3.3 (left_within total _ _ at bad.1 of bad.2.1)

  framed : (k kind : ℕ) (at : Point) (s : Stop) → IsOf total at → FrameFails S total E k kind at s → s.known ≤ total
  framed k kind at s of (inl bad) = zeroed (has_zero_word (version_in E)) k at s of bad
  framed k kind at s of (inr bad) = valued k kind bad.0 s (of_behind total (zero_word E) 0 at bad.0 of bad.1) bad.2

  block : (k : ℕ) (at : Point) (s : Stop) → IsOf total at → BlockFails S total E k at s → s.known ≤ total
  block k at s of (inl bad) = typed (index_word E k) k at s of bad
  block k at s of (inr bad) = framed k bad.0 bad.1 s (of_behind total (name_where (index_word E k) (order_in E) (name_of S bad.0)) 0 at bad.1 of bad.2.2) bad.3

  blocks : (n k : ℕ) (at : Point) (s : Stop) → IsOf total at → BlocksFail S total E k n at s → s.known ≤ total
  blocks zero k at s of bad = absurd bad
  blocks (suc n) k at s of (inl bad) = block k at s of bad
  blocks (suc n) k at s of (inr bad) = blocks n (k + 1) bad.1 s (of_behind total (block_text S E k bad.0) (nodes bad.0.node) at bad.1 of bad.2.1) bad.3

  read_of : (n k : ℕ) (bs : List Block) (at next : Point) → IsOf total at → BlocksRead S E k n bs at next → IsOf total next
  read_of zero k bs at next of r = subst (λ (p : Point). IsOf total p) (sym r.1) of
  read_of (suc n) k bs at next of r = read_of n (k + 1) r.1 r.2 next (of_behind total (block_text S E k r.0) (nodes r.0.node) at r.2 of r.4.1) r.5

  trailing : (at : Point) → IsOf total at → at.left ≢ [] → at.place + 1 ≤ total
  trailing at of more = by at.left refl
    where
      by : (l : List ℕ) → at.left ≡ l → at.place + 1 ≤ total
      by [] e = absurd (more e)
      by (b ∷ l) e = let a : length at.left ≡ suc (length l) = ap length e in omega arith

  footed : (at : Point) (s : Stop) → IsOf total at → FooterFails S total E at s → s.known ≤ total
  footed at s of (inl bad) = lifted_kept total (Fails S (file_context S E) most_depth (footer_kind S E)) (fails_kept total S (file_context S E) most_depth (footer_kind S E)) at s of bad
  footed at s of (inr bad) = at_place (bad.1.place + 1) _ s bad.3.1 (trailing bad.1 (of_behind total _ _ at bad.1 of bad.2.1) bad.3.0)

  body : (at : Point) (s : Stop) → IsOf total at → BodyFails S total E at s → s.known ≤ total
  body at s of (inl bad) = blocks (number_of (codes "Num Blocks") E) 0 at s of bad
  body at s of (inr bad) = footed bad.1 s (read_of (number_of (codes "Num Blocks") E) 0 bad.0 at bad.1 of bad.2) bad.3

  rest : (at : Point) (s : Stop) → IsOf total at → at.place ≡ size_of_fields E → RestFails S total E at s → s.known ≤ total
  rest at s of place (inl bad) = let a : s.known ≡ size_of_fields E = refused_known _ file.NoTypeList E s bad in omega arith
  rest at s of place (inr bad) = body at s of bad.1

-- ---- the law

stop_within : (S : Schema) → IsSchema S → Roles S → (bytes : List ℕ) (s : Stop) → FileStops S bytes s → s.known ≤ length bytes
stop_within S is roles bytes s (inl bad) =
    let rule : has_line S (header_line S) ≡ true = subst (λ (fields : List Field). has_line S fields ≡ true) (sym (header_line_is S roles.roots.header roles.roots.is_header)) roles.header_line in
    first S is (length bytes) (header_line S) (start_of bytes) s rule (omega arith) refl bad
stop_within S is roles bytes s (inr bad) =
    let start : IsOf (length bytes) (start_of bytes) = omega arith in
    let of = of_behind (length bytes) (header_text S bad.0) (nodes_in bad.0) (start_of bytes) bad.1 start bad.2.1 in
    rest S (length bytes) (head_of S bad.0) bad.1 s of (head_place S bad.0 bytes bad.1 bad.2) bad.3

pub known_within : (S : Schema) → IsSchema S → Roles S → KnownWithin S
known_within S is roles bytes fault known bad = stop_within S is roles bytes (record { fault = fault; known = known }) bad
