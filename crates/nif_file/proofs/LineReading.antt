-- The line of a header that was read, and why it isn't.
use Rattle.std.proofs.Common.{◌≡◌, ◌≢◌, ℕ, ◌+◌, ◌≤◌, inl, Bool, true, false, ◌&&◌, if◌then◌else◌, Option, Some, None, option_and_then, List, [], ◌∷◌, ◌++◌, drop, take, length, refl, sym, ◌∙◌, ap, subst, arith, append-nil, length-append, true≢false, lit≤}
use Rattle.std.specs.Prelude.{codes, slice_get, is_none, bytes_eq, ◌||◌, nat_le, nat_lt, nat_eq, not}
use Rattle.std.specs.Option.{option_map_or}
use Rattle.std.proofs.lemmas.Slice.Eq.{bytes_eq-Decides}
use Rattle.nif_base.specs.Node as node
use Rattle.nif_base.specs.Node.{Node, Members, End, Here, text, texts, nodes_in}
use Rattle.nif_schema.specs.Declaration.{Name, Field}
use Rattle.nif_schema.specs.Schema.{Schema, IsSchema, find, line}
use Rattle.nif_schema.specs.Basic.{listed_leaf}
use Rattle.nif_schema.specs.Uses.{is_own_template}
use Rattle.nif_schema.specs.Roles.{Roles, has_line, is_named, is_of_basic, is_bare, is_plain, has_no_bounds, lowest, highest}
use Rattle.nif_schema.specs.declared.decls.Leaf.TheVariants as leaf
use Rattle.nif_schema.specs.declared.decls.What.TheVariants.{Basic}
use Rattle.nif_layout.specs.Context.{Context}
use Rattle.nif_layout.specs.Earlier.{Env, behind, passed}
use Rattle.nif_layout.specs.Present.{present, formula_value}
use Rattle.nif_layout.specs.Kind.{Kind, Line, Unknown, kind_of}
use Rattle.nif_layout.specs.Form.{Form, One, form_of, field_kind, replaced}
use Rattle.nif_layout.specs.Leaf.{AreInLine}
use Rattle.nif_layout.specs.Shape.{FormShape}
use Rattle.nif_base.specs.Limits.{most_file_bytes, most_nodes, most_blocks, most_types, highest_bs}
use Rattle.nif_layout.specs.Fault.{Fault, Point}
use Rattle.nif_layout.specs.Fails.{LeafFails, FormShapeFails, LineFails}
use Rattle.nif_stream.specs.declared.takers.Taker.{Taker}
use Rattle.nif_stream.specs.Taking.{Takes, left_of, place_of}
use Rattle.nif_stream.specs.TakerLaws.{keeps_same, prepended_none}
use Rattle.nif_cells.specs.Building.{Building, InGroup}
use Rattle.nif_scope.specs.declared.entries.Entry.{Entry}
use Rattle.nif_scope.specs.declared.entries.Entry.TheVariants as entry
use Rattle.nif_scope.specs.Scope.{asks}
use Rattle.nif_scope.specs.Told.{member_told, line_told}
use Rattle.nif_scope.specs.Keeping.{AreFor}
use Rattle.nif_decode.specs.declared.faults.ValueFault.{ValueFault}
use Rattle.nif_decode.specs.Answers.{Went, Stops}
use Rattle.nif_decode.specs.Faults.{cause}
use Rattle.nif_file.specs.declared.faults.FileFault.{FileFault}
use Rattle.nif_file.specs.declared.faults.FileFault.TheVariants as file
use Rattle.nif_file.specs.declared.heads.Head.{Head}
use Rattle.nif_file.specs.Stops.{Stop, of_value}
use Rattle.nif_file.specs.FirstLine.{line_version}
use Rattle.nif_file.specs.Head.{header_context, bs_version, version_in}
use Rattle.nif_file.specs.Checks.{line_fault, member_fault, refuse_where, header_check}
use Rattle.nif_file.specs.Files.{header_line, head_of}
use Rattle.nif_file.specs.HeaderParts.{with_members}
use Rattle.nif_file.specs.Heads.{IsHead, IsNext, IsPart}
use Rattle.nif_file.specs.HeaderReading.{HasNoHeader, StandsAt, fault_of}
use Rattle.nif_file.specs.RoleLaws.{left, right, header_line_is, of_basic, basic_by, own_leaf, found_declared, own_kind}
use Rattle.nif_file.proofs.HeadNumbers.{single_form}
use Rattle.nif_file.specs.RoleLaws.{bare_present, no_value}
use Rattle.nif_file.proofs.Walks.{none_some, some_same}
use Rattle.nif_file.proofs.MemberReading.{part_step}
use Rattle.nif_file.proofs.HeaderEnds.{value_ends, check_ends}

-- ---- checks answer no fault of the outside

either : {P : Type 0} (b : Bool) (x y : Option Stop) (w : Stop) → (x ≡ Some w → P) → (y ≡ Some w → P) → (if b then x else y) ≡ Some w → P
either true x y w first second e = first e
either false x y w first second e = second e

other_than : (fault : FileFault) (known : ℕ) (w : Stop) → fault ≢ file.ReadFault → ◌≡◌ {A = Option Stop} (Some (record { fault = fault; known = known })) (Some w) → w.fault ≢ file.ReadFault
other_than fault known w other e =
    let same = some_same (Some (record { fault = fault; known = known })) (record { fault = fault; known = known }) w refl e in
    subst (λ (s : Stop). s.fault ≢ file.ReadFault) same other

pub line_other : (l : List ℕ) (w : Stop) → line_fault l ≡ Some w → w.fault ≢ file.ReadFault
line_other l w e = by (line_version l) e
  where
    by : (o : Option ℕ) → option_map_or (λ version. if nat_le lowest version && nat_le version highest then None else Some (record { fault = file.VersionRange version; known = length l + 1 })) o (Some (record { fault = file.BadLine; known = length l + 1 })) ≡ Some w
        → w.fault ≢ file.ReadFault
    by None e = other_than file.BadLine (length l + 1) w (λ e. cc) e
    by (Some v) e = either (nat_le lowest v && nat_le v highest) None _ w (λ none. absurd (none_some None w refl none)) (other_than (file.VersionRange v) (length l + 1) w (λ e. cc)) e

refused_other : (b : Bool) (fault : FileFault) (E : Env) (w : Stop) → fault ≢ file.ReadFault → refuse_where b fault E ≡ Some w → w.fault ≢ file.ReadFault
refused_other true fault E w other e = other_than fault _ w other e
refused_other false fault E w other e = absurd (none_some None w refl e)

pub types_other : (b : Bool) (E : Env) (w : Stop) → refuse_where b file.NoTypeList E ≡ Some w → w.fault ≢ file.ReadFault
types_other b E w e = refused_other b file.NoTypeList E w (λ e. cc) e

pub member_other : (S : Schema) (name : Name) (n : ℕ) (E : Env) (w : Stop) → member_fault S name n E ≡ Some w → w.fault ≢ file.ReadFault
member_other S name n E w e =
    either (bytes_eq name (codes "Version")) _ _ w (refused_other (not (nat_eq n (version_in E))) (file.VersionDisagrees (version_in E) n) E w (λ e. cc))
    (either (bytes_eq name (codes "Endian Type")) _ _ w (refused_other (nat_lt 1 n) (file.EndianValue n) E w (λ e. cc))
    (either (bytes_eq name (codes "Num Blocks")) _ _ w (refused_other (nat_lt most_blocks n) (file.TooManyBlocks n) E w (λ e. cc))
    (either (bytes_eq name (codes "Num Block Types")) _ _ w (refused_other (nat_lt most_types n) (file.TooManyTypes n) E w (λ e. cc))
    (either (bytes_eq name (codes "BS Header") || bytes_eq name (codes "User Version 2")) _ _ w (refused_other (nat_lt highest_bs (bs_version S E)) (file.BsRange (bs_version S E)) E w (λ e. cc))
    (λ none. absurd (none_some None w refl none)))))) e

-- ---- the first field

line_leaf : listed_leaf (codes "HeaderString") ≡ Some leaf.Line
unfolding listed_leaf
line_leaf = refl

pub record IsFirst (S : Schema) (f : Field) (fields : List Field) : Type 0 where
  pub line : header_line S ≡ f ∷ fields
  pub name : f.name ≡ codes "Header String"
  pub basic : is_of_basic S (codes "HeaderString") f ≡ true
  pub bare : is_bare f ≡ true

pub first_field : (S : Schema) → Roles S → (f : Field) × (fields : List Field) × IsFirst S f fields
unfolding has_line
first_field S roles =
    let e = header_line_is S roles.roots.header roles.roots.is_header in
    by (header_line S) refl (subst (λ (fs : List Field). has_line S fs ≡ true) (sym e) roles.header_line)
  where
    by : (fs : List Field) → header_line S ≡ fs → has_line S fs ≡ true → (f : Field) × (fields : List Field) × IsFirst S f fields
    by [] e h = absurd (true≢false (sym h))
    by (f ∷ fields) e h =
        let named = left (is_named (codes "Header String") f) (is_of_basic S (codes "HeaderString") f && is_bare f) h in
        let both = right (is_named (codes "Header String") f) (is_of_basic S (codes "HeaderString") f && is_bare f) h in (
          f,
          fields,
          record {
            line = e;
            name = sym ((bytes_eq-Decides (codes "Header String") f.name).0 named);
            basic = left (is_of_basic S (codes "HeaderString") f) (is_bare f) both;
            bare = right (is_of_basic S (codes "HeaderString") f) (is_bare f) both;
          },
        )

-- what is kept of the line alone
told_line : (asked : Field → Bool) (all : List Field) (l : List ℕ) {f : Field} {fields : List Field} → all ≡ f ∷ fields → entry.Nothing ∷ [] ≡ line_told asked all (Here (node.Line l) End)
told_line asked all l {f} {fields} e = by (asked f) fields ∙ ap (λ (fs : List Field). line_told asked fs (Here (node.Line l) End)) (sym e)
  where
    none : (fs : List Field) → line_told asked fs End ≡ []
    none [] = refl
    none (g ∷ fs) = refl

    by : (b : Bool) (fs : List Field) → entry.Nothing ∷ [] ≡ member_told b (node.Line l) ++ line_told asked fs End
    by true fs = ap (λ t. entry.Nothing ∷ t) (sym (none fs))
    by false fs = ap (λ t. entry.Nothing ∷ t) (sym (none fs))

module _ (S : Schema) (is : IsSchema S) (f : Field) (fields : List Field) (first : IsFirst S f fields) where
  single : f.length ≡ None
  single = no_value f.length (left (is_none f.length) (has_no_bounds f) (right (is_plain f) (is_none f.length && has_no_bounds f) first.bare))

  abbrev pub C : Context
  C = header_context S []

  there : present S C 0 [] f ≡ true
  there = bare_present S C [] f first.bare

  own_name : replaced S None (codes "HeaderString") ≡ find S (codes "HeaderString")
  unfolding is_own_template
  own_name = refl

  line_form : form_of S C None 0 [] f ≡ One Line
  line_form =
      let b = of_basic S (codes "HeaderString") f first.basic in
      let r = basic_by S (find S (codes "HeaderString")) b.1 in
      let n = r.0 in
      let own : r.2 ≡ leaf.Line = own_leaf S is n r.1 r.2 leaf.Line r.4 r.5 (ap listed_leaf (found_declared S (codes "HeaderString") n r.1 r.3 r.4) ∙ line_leaf) in
      let inner = option_and_then (replaced S None) f.template in
      let value_of = option_map_or (formula_value S C [] 0) f.arg 0 in
      let kind : field_kind S C None 0 [] f ≡ Line =
      ap (λ o. option_map_or (λ number. kind_of S C number inner value_of) o Unknown) (ap (replaced S None) b.0 ∙ own_name ∙ r.3)
      ∙ own_kind S C n inner value_of r.1 leaf.Line r.4 (r.5 ∙ ap (λ l. Basic l) own) in
      single_form S C [] f single ∙ ap (λ (k : Kind). One k) kind

  -- the line is its member
  line_next : (l : List ℕ) → AreInLine l → length l ≤ 255 → IsNext S [] f (Some (node.Line l))
  line_next l are few = (there, subst (λ (form : Form). FormShape S C 63 form (node.Line l)) (sym line_form) (l, refl, are, few))

  -- and where it fails, the header does
  line_fails : (total : ℕ) (left : List Field) (at : Point) (v : Fault) → LeafFails C Line at v → LineFails S (header_context S) 63 None 0 (of_value total) (header_check S) (f ∷ left) [] at (of_value total v)
  line_fails total left at v bad =
      let here : FormShapeFails S C 63 (form_of S C None 0 [] f) at v = subst (λ (form : Form). FormShapeFails S C 63 form at v) (sym line_form) bad in
      rw there (inl (v, refl, here))

  no_members : head_of S End ≡ []
  no_members = ap (λ (fs : List Field). passed fs End []) first.line

  no_part : IsPart S 0 End [] 1
  no_part = record { gots = []; is = refl; reads = λ rest. (refl, no_members, refl) }

  first_at : slice_get (header_line S) 0 ≡ Some f
  first_at = ap (λ (fs : List Field). slice_get fs 0) first.line

  abbrev line_bytes : List ℕ → List ℕ
  line_bytes l = l ++ 0x0A ∷ []

  line_text : (l : List ℕ) → line_bytes l ≡ texts (header_context S (head_of S End)).order (with_members (Some (node.Line l) ∷ []) End)
  line_text l = sym (append-nil (line_bytes l))

  next_here : (l : List ℕ) → AreInLine l → length l ≤ 255 → IsNext S (head_of S End) f (Some (node.Line l))
  next_here l are few = subst (λ (E : Env). IsNext S E f (Some (node.Line l))) (sym no_members) (line_next l are few)

  line_check : (l : List ℕ) → header_check S (head_of S End) f (Some (node.Line l)) ≡ line_fault l
  line_check l = ap (λ (E : Env). header_check S E f (Some (node.Line l))) no_members

  module _ {T : Type 0} (src : T → Option (List ℕ)) (still : T → T → Type 0) (faults : T → ℕ) where
    -- the line can't be read
    pub line_ends : (start new : Taker T) (vf : ValueFault) → place_of start ≡ 0 → Went still faults start new
        → Stops src faults (LeafFails C Line) (record { taker = start; nodes = 1; building = None; told = [] }) new (cause vf) → HasNoHeader src still faults S start new (fault_of vf)
    line_ends start new vf first-place went stops =
        value_ends src still faults S (LeafFails C Line) 0 End [] 1 f start start new vf
        (λ total at v bad. subst (λ (E : Env). LineFails S (header_context S) 63 None 0 (of_value total) (header_check S) (f ∷ drop 1 (header_line S)) E at (of_value total v)) (sym no_members) (line_fails total (drop 1 (header_line S)) at v bad))
        no_part first_at (record { same_reference = refl; keeps = keeps_same still start start refl; later = omega arith }) first-place (prepended_none (left_of src start)) went stops

    -- the line is refused
    pub line_refused : (start now : Taker T) (l : List ℕ) (fault : FileFault) → place_of start ≡ 0 → AreInLine l → length l ≤ 255 → Takes src still faults start (line_bytes l) now
        → line_fault l ≡ Some (record { fault = fault; known = length l + 1 }) → HasNoHeader src still faults S start now fault
    line_refused start now l fault first-place are few takes refused =
        let stop : Stop = record { fault = fault; known = length l + 1 } in
        let long : length (line_bytes l) ≡ length l + 1 = length-append l (0x0A ∷ []) in
        let below : length (line_bytes l) ≤ length l + 1 = omega arith in
        check_ends src still faults S 0 End [] (line_bytes l) 1 2 f (Some (node.Line l)) stop start now no_part first_at (next_here l are few) (line_text l) refl (lit≤ tt) (line_check l ∙ refused)
        (line_other l stop refused) below first-place takes

    -- the line was read
    pub line_stands : (header : ℕ) (start now : Taker T) (l : List ℕ) (entries : List Entry) (building : Option Building) (counted : ℕ) (head : Head)
        → find S (codes "Header") ≡ Some header → place_of start ≡ 0 → AreInLine l → length l ≤ 255 → Takes src still faults start (line_bytes l) now → line_fault l ≡ None → counted ≡ 2
        → building ≡ Some (record { top = None; levels = InGroup (Here (node.Line l) End) ∷ [] }) → entries ≡ entry.Nothing ∷ [] → IsHead S (behind f (Some (node.Line l)) []) head
        → StandsAt src still faults S header 1 start now entries building counted head
    line_stands header start now l entries building counted head found first-place are few takes fine count built told is_head =
        let few_counted : counted ≤ most_nodes = subst (λ (n : ℕ). n ≤ most_nodes) (sym count) (lit≤ tt) in
        let long : length (line_bytes l) ≡ length l + 1 = length-append l (0x0A ∷ []) in
        let below : 256 ≤ most_file_bytes = lit≤ tt in
        let short : 0 + length (line_bytes l) ≤ most_file_bytes = omega (arith, below) in
        let step = part_step S 0 End [] (line_bytes l) 1 counted f (Some (node.Line l)) no_part first_at (next_here l are few) (line_text l) count short few_counted (line_check l ∙ fine) in
        let env : head_of S (Here (node.Line l) End) ≡ behind f (Some (node.Line l)) [] = step.1 ∙ ap (behind f (Some (node.Line l))) no_members in
        let own : line S header ≡ f ∷ fields = sym (ap (λ o. option_map_or (line S) o []) found) ∙ first.line in
        record {
          held = Here (node.Line l) End;
          bytes = line_bytes l;
          part = step.0;
          first = first-place;
          takes = takes;
          holds = record {
            are = record { each = subst (λ (fs : List Field). AreFor (take 1 fs) (Here (node.Line l) End)) (sym own) tt; told = told ∙ told_line (asks S header) (line S header) l own };
            is = built;
            nodes = subst (λ (n : ℕ). 2 ≤ n) (sym count) (lit≤ tt);
            bytes = omega (arith, takes.place, ap length (append-nil (line_bytes l)));
          };
          within = few_counted;
          told = subst (λ (E : Env). IsHead S E head) (sym env) is_head;
          line = (record { field = f; node = Some (node.Line l) }, [], env);
        }
