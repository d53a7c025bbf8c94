-- One more member of a header: where the reader stands behind it, and why it isn't read.
use Rattle.std.proofs.Common.{◌≡◌, ◌≢◌, ℕ, zero, suc, ◌+◌, ◌-◌, ◌<◌, ◌≤◌, inr, false, if◌then◌else◌, option_and_then, Option, Some, None, List, [], ◌∷◌, ◌++◌, drop, take, length, slice_get, refl, sym, ◌∙◌, ap, subst, subst₂, arith}
use Rattle.std.specs.Prelude.{codes}
use Rattle.std.specs.Option.{option_map, option_map_or}
use Rattle.nif_base.specs.Node.{Node, Members, End, texts, nodes_in}
use Rattle.nif_schema.specs.Declaration.{Field, Declaration, is_block}
use Rattle.nif_schema.specs.Schema.{Schema, find, has_block, line}
use Rattle.nif_schema.specs.Uses.{what_at}
use Rattle.nif_schema.specs.Roles.{Roles, IsRoot}
use Rattle.nif_schema.specs.declared.contexts.Context as code
use Rattle.nif_schema.specs.declared.decls.What.TheVariants.{Struct}
use Rattle.nif_layout.specs.Context.{Context}
use Rattle.nif_layout.specs.Earlier.{Earlier, Env, behind, passed}
use Rattle.nif_layout.specs.Laws.{IsOpenType}
use Rattle.nif_layout.specs.Shape.{LineShape}
use Rattle.nif_layout.specs.Members.{no_check}
use Rattle.nif_base.specs.Limits.{most_file_bytes}
use Rattle.nif_layout.specs.Fault.{Fault, Point}
use Rattle.nif_layout.specs.PathValue.{number_in}
use Rattle.nif_stream.specs.declared.takers.Taker.{Taker}
use Rattle.nif_stream.specs.Taking.{Takes, place_of}
use Rattle.nif_stream.specs.TakerLaws.{takes_joined}
use Rattle.nif_cells.specs.Building.{Building}
use Rattle.nif_scope.specs.declared.entries.Entry.{Entry}
use Rattle.nif_value.specs.Trees.{Trees}
use Rattle.nif_decode.specs.declared.faults.ValueFault.{ValueFault}
use Rattle.nif_decode.specs.declared.faults.Bounds.{Bounds}
use Rattle.nif_decode.specs.Decodes.{MembersDecoded, MembersRefused, MembersFail, IsGroupType, context_for, fields_between, env_of, owner_of}
use Rattle.nif_decode.specs.Answers.{Stops}
use Rattle.nif_decode.specs.Faults.{cause}
use Rattle.nif_decode.specs.Scopes.{joined, member_at}
use Rattle.nif_file.specs.declared.faults.FileFault.{FileFault}
use Rattle.nif_file.specs.declared.faults.FileFault.TheVariants as file
use Rattle.nif_file.specs.declared.heads.Head.{Head}
use Rattle.nif_file.specs.Stops.{Stop}
use Rattle.nif_file.specs.Head.{header_context}
use Rattle.nif_file.specs.Sizes.{size_of_fields}
use Rattle.nif_file.specs.Checks.{header_check}
use Rattle.nif_file.specs.Files.{header_line, head_of}
use Rattle.nif_file.specs.HeaderParts.{with_members}
use Rattle.nif_file.specs.Heads.{IsHead, IsNext, IsPart, context_of}
use Rattle.nif_file.specs.HeaderReading.{HasNoHeader, IsNoted, Notes, StandsAt, fault_of}
use Rattle.nif_file.proofs.KnownFiles.{member_known}
use Rattle.nif_file.proofs.Walks.{none_some, some_same}
use Rattle.nif_file.specs.RoleLaws.{root_within}
use Rattle.nif_file.proofs.FieldPlaces.{drop_at}
use Rattle.nif_file.proofs.MemberReading.{one_member, member_fails, part_step}
use Rattle.nif_decode.specs.WentLaws.{went_whole}
use Rattle.nif_file.proofs.HeaderEnds.{value_ends, check_ends, next_size}
use Rattle.nif_file.proofs.LineReading.{member_other}
use Rattle.nif_file.proofs.Noting.{next_at}

within_list : {A : Type 0} (xs : List A) (k : ℕ) (x : A) → slice_get xs k ≡ Some x → k < length xs
within_list [] k x h = absurd (cc)
within_list (y ∷ xs) zero x h = lit-less (length xs)
  where
    lit-less : (n : ℕ) → 0 < suc n
    lit-less n = omega arith
within_list (y ∷ xs) (suc k) x h = let below : k < length xs = within_list xs k x h in omega arith

module _ {T : Type 0} (src : T → Option (List ℕ)) (still : T → T → Type 0) (faults : T → ℕ) (S : Schema) (header k : ℕ) (f : Field) (start old now : Taker T) (entries : List Entry) (building : Option Building) (counted : ℕ) (head : Head)
    (found : find S (codes "Header") ≡ Some header) (at : slice_get (header_line S) k ≡ Some f) (st : StandsAt src still faults S header k start old entries building counted head) (C : Context) (same : C ≡ header_context S (head_of S st.held)) where
  own : header_line S ≡ line S header
  own = ap (λ o. option_map_or (line S) o []) found

  abbrev pub E : Env
  E = head_of S st.held

  env : env_of S header st.held ≡ E
  env = ap (λ (fs : List Field). passed fs st.held []) (sym own)

  between : fields_between S header k (k + 1) ≡ f ∷ []
  between =
      let one : k + 1 - k ≡ 1 = omega arith in
      ap (λ (n : ℕ). take n (drop k (line S header))) one ∙ ap (λ (fs : List Field). take 1 (drop k fs)) (sym own) ∙ ap (λ (fs : List Field). take 1 fs) (drop_at (header_line S) k f at)

  place : place_of old ≡ length st.bytes
  place = omega (arith, st.takes.place, st.first)

  -- ---- it isn't read

  pub more_refused : (after : Trees) (vf : ValueFault) → MembersRefused src still faults S C header k (k + 1) st.held old now counted after vf → HasNoHeader src still faults S start now (fault_of vf)
  more_refused after vf d =
      let F : Point → Fault → Type 0 = MembersFail S C (f ∷ []) E in
      let stops : Stops src faults F (record { taker = old; nodes = counted; building = None; told = [] }) now (cause vf) =
      subst₂ (λ (fs : List Field) (x : Env). Stops src faults (MembersFail S C fs x) (record { taker = old; nodes = counted; building = None; told = [] }) now (cause vf)) between env d.stops in
      value_ends src still faults S F k st.held st.bytes counted f start old now vf (λ total at v bad. member_fails S total C f (drop (k + 1) (header_line S)) E at v same bad)
      st.part at (went_whole src still faults start old st.bytes st.takes) place st.takes.given d.went stops

  -- ---- it is read

  module _ (now_counted : ℕ) (now_entries : List Entry) (after : Trees) (d : MembersDecoded src still faults S C header k (k + 1) st.held old now counted now_counted now_entries after) where
    pub one : (got : Option Node) × (d.more ≡ with_members (got ∷ []) End) × IsNext S E f got
    one = one_member S C f E d.more same (subst₂ (λ (fs : List Field) (x : Env). LineShape S (λ E. C) 63 None 0 (no_check {Why = Fault}) fs x d.more) between env d.are)

    abbrev pub got : Option Node
    got = one.0

    abbrev bytes : List ℕ
    bytes = texts C.order d.more

    text : bytes ≡ texts (header_context S E).order (with_members (got ∷ []) End)
    text = ap (λ (c : Context). texts c.order d.more) same ∙ ap (texts (header_context S E).order) one.1

    count : now_counted ≡ counted + nodes_in (with_members (got ∷ []) End)
    count = d.nodes ∙ ap (λ m. counted + nodes_in m) one.1

    takes : Takes src still faults start (st.bytes ++ bytes) now
    takes = takes_joined src still faults start old now st.bytes bytes (st.bytes ++ bytes) st.takes d.takes refl

    few : length st.bytes + length bytes ≤ most_file_bytes
    few = omega (arith, d.takes.place, d.takes.within, place)

    pub noted : IsNoted S header k E f got now_entries head
    noted = record {
      held = joined st.held d.more;
      kept = d.holds.are;
      at = subst (λ (m : Members). member_at (joined st.held m) k ≡ got) (sym one.1)
          (next_at (line S header) k st.held got (subst (λ (fs : List Field). k < length fs) own (within_list (header_line S) k f at)) st.holds.are.each);
      next = one.2;
      told = st.told;
      line = st.line;
    }

    none_refused : (o : Option Stop) → None ≡ option_map (λ (stop : Stop). stop.fault) o → o ≡ None
    none_refused None e = refl
    none_refused (Some stop) e = absurd (cc)

    -- and not refused
    pub more_stands : (head' : Head) → Notes S E f got head' None → StandsAt src still faults S header (k + 1) start now now_entries after.building now_counted head'
    more_stands head' n =
        let fine : header_check S E f got ≡ None = none_refused (header_check S E f got) n.refused in
        let step = part_step S k st.held st.bytes bytes counted now_counted f got st.part at one.2 text count few d.within fine in
        let moved : joined st.held (with_members (got ∷ []) End) ≡ joined st.held d.more = ap (joined st.held) (sym one.1) in
        let P : Members → Type 0 = λ m. IsPart S (k + 1) m (st.bytes ++ bytes) now_counted × (head_of S m ≡ behind f got E) in
        let both = subst P moved step in
        record {
          held = joined st.held d.more;
          bytes = st.bytes ++ bytes;
          part = both.0;
          first = st.first;
          takes = takes;
          holds = d.holds;
          within = d.within;
          told = subst (λ (x : Env). IsHead S x head') (sym both.1) n.told;
          line = (record { field = f; node = got }, E, both.1);
        }

    known_at : (e : Earlier) (before x : Env) (g : Option Node) (stop : Stop) → x ≡ e ∷ before → header_check S x f g ≡ Some stop → (stop.fault ≢ file.ReadFault) × (stop.known ≡ size_of_fields (behind f g x))
    known_at e before x None stop is h = absurd (none_some (header_check S (e ∷ before) f None) stop refl (subst (λ (x : Env). header_check S x f None ≡ Some stop) is h))
    known_at e before x (Some value) stop is h =
        let there : header_check S (e ∷ before) f (Some value) ≡ Some stop = subst (λ (x : Env). header_check S x f (Some value) ≡ Some stop) is h in
        let P : Env → Type 0 = λ x. (stop.fault ≢ file.ReadFault) × (stop.known ≡ size_of_fields (behind f (Some value) x)) in
        subst P (sym is) (
          member_other S f.name (number_in false value) (behind f (Some value) (e ∷ before)) stop there,
          member_known S f.name (number_in false value) (behind f (Some value) (e ∷ before)) stop there,
        )

    some_refused : (fault : FileFault) (o : Option Stop) → Some fault ≡ option_map (λ (stop : Stop). stop.fault) o → (stop : Stop) × (o ≡ Some stop) × (stop.fault ≡ fault)
    some_refused fault None e = absurd (cc)
    some_refused fault (Some stop) e = (stop, refl, cc)

    -- or refused
    pub more_checked : (head' : Head) (fault : FileFault) → Notes S E f got head' (Some fault) → HasNoHeader src still faults S start now fault
    more_checked head' fault n =
        let r = some_refused fault (header_check S E f got) n.refused in
        let stop = r.0 in
        let k' = known_at st.line.0 st.line.1 E got stop st.line.2 r.1 in
        let size : length (st.bytes ++ bytes) ≡ size_of_fields (behind f got E) = next_size src still faults S k st.held st.bytes bytes counted f got st.part text in
        let below : length (st.bytes ++ bytes) ≤ stop.known = omega (arith, size, k'.1) in
        let ends = check_ends src still faults S k st.held st.bytes bytes counted now_counted f got stop start now st.part at one.2 text count d.within r.1 k'.0 below st.first takes in
        subst (λ (x : FileFault). HasNoHeader src still faults S start now x) r.2 ends

-- ---- the type of the header, and its contexts

struct_block : (S : Schema) (n : ℕ) → what_at S n ≡ Some Struct → has_block S n ≡ false
struct_block S n h = by (slice_get S n) h
  where
    by : (o : Option Declaration) → option_and_then (λ d. Some d.what) o ≡ Some Struct → option_map_or (λ (d : Declaration). is_block d.what) o false ≡ false
    by None h = refl
    by (Some d) h = let what : d.what ≡ Struct = cc in ap is_block what

pub header_root : (S : Schema) → Roles S → (header : ℕ) → find S (codes "Header") ≡ Some header → IsRoot S (codes "Header") header
header_root S roles header found =
    let same : roles.roots.header ≡ header = same_number (find S (codes "Header")) roles.roots.header header roles.roots.is_header.found found in
    subst (λ (n : ℕ). IsRoot S (codes "Header") n) same roles.roots.is_header
  where
    same_number : (o : Option ℕ) (a b : ℕ) → o ≡ Some a → o ≡ Some b → a ≡ b
    same_number o a b x y = some_same o a b x y

pub header_open : (S : Schema) → Roles S → (header : ℕ) → find S (codes "Header") ≡ Some header → IsOpenType S header
header_open S roles header found = let r = header_root S roles header found in (root_within S (codes "Header") header r, r.opens)

pub header_group : (S : Schema) → Roles S → (header : ℕ) → find S (codes "Header") ≡ Some header → IsGroupType S header
header_group S roles header found = let r = header_root S roles header found in inr (r.declared, r.single)

pub context_here : (S : Schema) → Roles S → (header : ℕ) → find S (codes "Header") ≡ Some header → (E : Env) (context : code.Context) (bounds : Bounds) → context_of context 0 0 ≡ header_context S E → bounds.blocks ≡ 0
    → bounds.strings ≡ 0 → context_for S context header bounds ≡ header_context S E
context_here S roles header found E context bounds e blocks strings =
    let r = header_root S roles header found in
    let owner : owner_of S header ≡ None = ap (λ b. if b then Some header else None) (struct_block S header r.declared) in
    (λ i. record { version = context.version.number; user = context.user; bs = context.bs; order = context.order; owner = owner i; blocks = blocks i; strings = strings i }) ∙ e

-- there is a field at each place of the line
pub get_within : {A : Type 0} (xs : List A) (k : ℕ) → k < length xs → (x : A) × (slice_get xs k ≡ Some x)
get_within [] k h = absurd (omega arith)
get_within (x ∷ xs) zero h = (x, refl)
get_within (x ∷ xs) (suc k) h = let below : k < length xs = omega arith in get_within xs k below

pub next_within : (S : Schema) (header k : ℕ) → find S (codes "Header") ≡ Some header → k < length (header_line S) → k + 1 ≤ length (line S header)
next_within S header k found below =
    let own : length (header_line S) ≡ length (line S header) = ap (λ o. length (option_map_or (line S) o [])) found in
    omega arith
