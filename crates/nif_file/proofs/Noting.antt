-- What is told of a member of the header that was read.
use Rattle.std.proofs.Common.{◌≡◌, ℕ, zero, suc, ◌+◌, ◌<◌, Bool, true, false, if◌then◌else◌, Option, Some, None, option_and_then, List, [], ◌∷◌, length, take, refl, sym, ◌∙◌, ap, map, inl, inr, subst, subst₂, arith, true≢false}
use Rattle.std.specs.Prelude.{bytes_eq, codes, slice_get, is_some, ◌==◌}
use Rattle.std.specs.Option.{option_map, option_map_or, unwrap_or}
use Rattle.std.proofs.lemmas.List.{length-map}
use Rattle.nif_base.specs.declared.orders.Order.TheVariants.{Little, Big}
use Rattle.nif_base.specs.Node as node
use Rattle.nif_base.specs.Node.{Node, Members, End, Here, Absent}
use Rattle.nif_schema.specs.Declaration.{Name, Field, Declaration, field, declaration}
use Rattle.nif_schema.specs.declared.decls.Decl.{Decl}
use Rattle.nif_schema.specs.declared.fields.Field as kept
use Rattle.nif_schema.specs.Schema.{Schema, IsSchema, find, fields_of}
use Rattle.nif_schema.specs.Roles.{Roles, of_name}
use Rattle.nif_schema.specs.Uses.{named}
use Rattle.nif_layout.specs.Earlier.{Earlier, Env, behind, last_present, passed}
use Rattle.nif_layout.specs.PathValue.{number_in, fields_in}
use Rattle.nif_scope.specs.declared.entries.Entry.{Entry}
use Rattle.nif_scope.specs.Keeping.{AreFor}
use Rattle.nif_decode.specs.Scopes as scope
use Rattle.nif_decode.specs.Scopes.{AreKept, joined}
use Rattle.nif_file.specs.declared.faults.FileFault.{FileFault}
use Rattle.nif_file.specs.declared.heads.Head.{Head}
use Rattle.nif_file.specs.Head.{number_of, inner_number}
use Rattle.nif_file.specs.Checks.{member_fault}
use Rattle.nif_file.specs.Files.{header_line}
use Rattle.nif_file.specs.HeaderParts.{with_members, IsPlaceOf}
use Rattle.nif_decode.specs.Scopes.{member_at}
use Rattle.nif_file.specs.Heads.{IsHead, IsNext, IsSmall, place_in}
use Rattle.nif_file.specs.HeaderReading.{IsNoted, Notes}
use Rattle.nif_file.proofs.Walks.{some_same}
use Rattle.nif_file.specs.RoleLaws.{Among, header_line_is}
use Rattle.nif_file.proofs.HeadNumbers.{at_most}
use Rattle.nif_file.proofs.HeadSmall.{InnerOf, bs_struct, small_member}
use Rattle.nif_file.proofs.FieldPlaces.{field_list, only_of, some_of}
use Rattle.nif_file.specs.PlaceLaws.{one_named, node_in}

-- ---- an absent member says nothing

absent : (name : Name) (f : Field) (E : Env) → last_present name (behind f None E) ≡ last_present name E
absent name f E = by (bytes_eq name f.name)
  where
    by : (b : Bool) → (if b then last_present name E else last_present name E) ≡ last_present name E
    by true = refl
    by false = refl

kept_absent : {X : Type 0} (g : Option (Field × Node) → X) (name : Name) (f : Field) (E : Env) → g (last_present name E) ≡ g (last_present name (behind f None E))
kept_absent g name f E = ap g (sym (absent name f E))

pub head_absent : (S : Schema) (f : Field) (earlier : Earlier) (E : Env) (head : Head) → IsHead S (earlier ∷ E) head → IsHead S (behind f None (earlier ∷ E)) head
head_absent S f earlier E head h =
    let A = earlier ∷ E in
    record {
      version = h.version;
      user = h.user ∙ kept_absent (λ o. option_map_or (number_in false) (option_map (λ at. at.1) o) 0) (codes "User Version") f A;
      second = h.second ∙ kept_absent (λ o. option_map (number_in false) (option_map (λ at. at.1) o)) (codes "User Version 2") f A;
      inner = h.inner ∙ kept_absent (λ o. option_map_or (λ at. inner_number S (codes "BS Version") at.0 at.1) o 0) (codes "BS Header") f A;
      order = h.order ∙ kept_absent (λ o. option_map_or (λ at. if number_in false at == 0 then Big else Little) (option_map (λ at. at.1) o) Little) (codes "Endian Type") f A;
      blocks = h.blocks ∙ kept_absent (λ o. option_map_or (number_in false) (option_map (λ at. at.1) o) 0) (codes "Num Blocks") f A;
      strings = h.strings ∙ kept_absent (λ o. option_map_or (number_in false) (option_map (λ at. at.1) o) 0) (codes "Num Strings") f A;
      index = h.index ∙ kept_absent (λ o. is_some (option_map (λ at. at.1) o)) (codes "Block Type Index") f A;
      types = h.types ∙ kept_absent (λ o. is_some (option_map (λ at. at.1) o)) (codes "Num Block Types") f A;
      names = h.names ∙ kept_absent (λ o. is_some (option_map (λ at. at.1) o)) (codes "Block Types") f A;
    }

-- ---- the numbers that are kept

-- the two readings of a place among members
same_at : (members : Members) (k : ℕ) → scope.member_at members k ≡ member_at members k
same_at End k = refl
same_at (Here value rest) zero = refl
same_at (Absent rest) zero = refl
same_at (Here value rest) (suc k) = same_at rest k
same_at (Absent rest) (suc k) = same_at rest k

same_number : (at : Node) → unwrap_or (scope.number_in at) 0 ≡ number_in false at
same_number (node.Num width little bits) = refl
same_number (node.Line bytes) = refl
same_number (node.Ref strong wanted target) = refl
same_number (node.Text index) = refl
same_number (node.Bytes bytes) = refl
same_number (node.Group members) = refl
same_number (node.Row items) = refl

pub kept_number : (held : Members) (k : ℕ) (at : Node) → scope.member_at held k ≡ Some at → unwrap_or (scope.number_at held k None) 0 ≡ number_in false at
kept_number held k at e = ap (λ o. unwrap_or (option_and_then scope.number_in o) 0) e ∙ same_number at

-- the number of a name inside a group, by its place
inner_by : (name : Name) (fields : List Field) (inner : ℕ) (members : Members) → IsPlaceOf name fields (Some inner)
    → unwrap_or (option_and_then scope.number_in (scope.member_at members inner)) 0 ≡ number_of name (passed fields members [])
inner_by name fields inner members is =
    let m : node_in (last_present name (passed fields members [])) ≡ member_at members inner = one_named name fields inner members [] is refl in
    by (member_at members inner) (scope.member_at members inner) (same_at members inner) ∙ ap (λ o. option_map_or (number_in false) o 0) (sym m)
  where
    by : (o p : Option Node) → p ≡ o → unwrap_or (option_and_then scope.number_in p) 0 ≡ option_map_or (number_in false) o 0
    by None p e = ap (λ o. unwrap_or (option_and_then scope.number_in o) 0) e
    by (Some at) p e = ap (λ o. unwrap_or (option_and_then scope.number_in o) 0) e ∙ same_number at

pub kept_inner : (S : Schema) (name : Name) (f : Field) (held : Members) (k inner : ℕ) (at : Node) → scope.member_at held k ≡ Some at → IsPlaceOf name (fields_in S f) (Some inner)
    → unwrap_or (scope.number_at held k (Some inner)) 0 ≡ inner_number S name f at
kept_inner S name f held k inner at e is = ap (λ o. unwrap_or (option_and_then (scope.inner_number inner) o) 0) e ∙ by at
  where
    by : (at : Node) → unwrap_or (scope.inner_number inner at) 0 ≡ inner_number S name f at
    by (node.Group members) = inner_by name (fields_in S f) inner members is
    by (node.Num width little bits) = refl
    by (node.Line bytes) = refl
    by (node.Ref strong wanted target) = refl
    by (node.Text index) = refl
    by (node.Bytes bytes) = refl
    by (node.Row items) = refl

-- ---- the member that was read last

last_at : (fields : List Field) (held : Members) (got : Option Node) → AreFor fields held → scope.member_at (joined held (with_members (got ∷ []) End)) (length fields) ≡ got
last_at [] End (Some value) h = refl
last_at [] End None h = refl
last_at [] (Here value rest) got h = absurd h
last_at [] (Absent rest) got h = absurd h
last_at (f ∷ fields) End got h = absurd h
last_at (f ∷ fields) (Here value rest) got h = last_at fields rest got h
last_at (f ∷ fields) (Absent rest) got h = last_at fields rest got h

length_take : {A : Type 0} (xs : List A) (k : ℕ) → k < length xs → length (take k xs) ≡ k
length_take [] k h = absurd (omega arith)
length_take (x ∷ xs) zero h = refl
length_take (x ∷ xs) (suc k) h = ap suc (length_take xs k (omega arith))

pub next_at : (fields : List Field) (place : ℕ) (held : Members) (got : Option Node) → place < length fields → AreFor (take place fields) held → scope.member_at (joined held (with_members (got ∷ []) End)) place ≡ got
next_at fields place held got below h =
    subst (λ (k : ℕ). scope.member_at (joined held (with_members (got ∷ []) End)) k ≡ got) (length_take fields place below) (last_at (take place fields) held got h)

-- ---- the field of a member

get_map : {A B : Type 0} (g : A → B) (xs : List A) (k : ℕ) (x : A) → slice_get xs k ≡ Some x → slice_get (map g xs) k ≡ Some (g x)
get_map g [] k x h = absurd (cc)
get_map g (y ∷ xs) zero x h = let e : y ≡ x = cc in ap (λ z. Some (g z)) e
get_map g (y ∷ xs) (suc k) x h = get_map g xs k x h

pub fields_are : (S : Schema) → Roles S → (header : ℕ) → find S (codes "Header") ≡ Some header → (d : Decl) → slice_get S header ≡ Some (declaration d) → header_line S ≡ map field d.fields
fields_are S roles header found d at = header_line_is S roles.roots.header roles.roots.is_header ∙ field_list S header found d at

pub field_there : (S : Schema) → Roles S → (header : ℕ) → find S (codes "Header") ≡ Some header → (d : Decl) → slice_get S header ≡ Some (declaration d) → (place : ℕ) (o : kept.Field) → slice_get d.fields place ≡ Some o
    → slice_get (header_line S) place ≡ Some (field o)
field_there S roles header found d at place o got = ap (λ fs. slice_get fs place) (fields_are S roles header found d at) ∙ get_map field d.fields place o got

pub field_within : (S : Schema) → Roles S → (header : ℕ) → find S (codes "Header") ≡ Some header → (d : Decl) → slice_get S header ≡ Some (declaration d) → (place : ℕ) → place < length (header_line S) → place < length d.fields
field_within S roles header found d at place below =
    let e : length (header_line S) ≡ length d.fields = ap length (fields_are S roles header found d at) ∙ length-map d.fields field in
    omega arith

among_at : (fields : List Field) (k : ℕ) (f : Field) → slice_get fields k ≡ Some f → Among fields f
among_at [] k f h = absurd (cc)
among_at (g ∷ fields) zero f h = inl (cc)
among_at (g ∷ fields) (suc k) f h = inr (among_at fields k f h)

some_field : (o : Option Field) (f g : Field) → o ≡ Some f → o ≡ Some g → f ≡ g
some_field o f g a b = some_same o f g a b

-- ---- what is told

is_absent : (got : Option Node) → is_some got ≡ false → got ≡ None
is_absent None e = refl
is_absent (Some at) e = absurd (true≢false e)

is_there : (got : Option Node) → is_some got ≡ true → (at : Node) × (got ≡ Some at)
is_there None e = absurd (true≢false (sym e))
is_there (Some at) e = (at, refl)

module _ (S : Schema) (header place : ℕ) (E : Env) (f : Field) (got : Option Node) (entries : List Entry) (head : Head) (noted : IsNoted S header place E f got entries head) where
  -- an absent member is told by nothing
  pub noted_absent : is_some (scope.member_at noted.held place) ≡ false → Notes S E f got head None
  noted_absent e =
      let none : got ≡ None = is_absent got (ap is_some (sym noted.at) ∙ e) in
      subst (λ (g : Option Node). Notes S E f g head None) (sym none) (by E noted.line.0 noted.line.1 noted.line.2 noted.told)
    where
      by : (E : Env) (e : Earlier) (before : Env) → E ≡ e ∷ before → IsHead S E head → Notes S E f None head None
      by E e before is told =
          let there : Notes S (e ∷ before) f None head None = record { told = head_absent S f e before head (subst (λ (x : Env). IsHead S x head) is told); refused = refl } in
          subst (λ (x : Env). Notes S x f None head None) (sym is) there

  -- the member that is there
  pub noted_node : is_some (scope.member_at noted.held place) ≡ true → (at : Node) × (got ≡ Some at) × (scope.member_at noted.held place ≡ Some at)
  noted_node e = let n = is_there got (ap is_some (sym noted.at) ∙ e) in (n.0, n.1, noted.at ∙ n.1)

  pub noted_small : IsSchema S → Roles S → (at : Node) → got ≡ Some at → slice_get (header_line S) place ≡ Some f → (name : Name) (number inner : ℕ) → f.name ≡ name → number ≡ number_in false at
      → (bytes_eq (codes "BS Header") f.name ≡ true → inner ≡ inner_number S (codes "BS Version") f at) → IsSmall name number inner
  noted_small is roles at there of name number inner named same inside =
      let next : IsNext S E f (Some at) = subst (λ (g : Option Node). IsNext S E f g) there noted.next in
      let small = small_member S is roles E f at inner (among_at (header_line S) place f of) next inside in
      subst₂ (λ (n : Name) (k : ℕ). IsSmall n k inner) named (sym same) small

  -- a member that is there is told by its name and numbers
  pub noted_told : (at : Node) → got ≡ Some at → (name : Name) (number : ℕ) (head' : Head) (refusal : Option FileFault) → f.name ≡ name → number ≡ number_in false at
      → ((e : Earlier) (before : Env) → IsHead S (e ∷ before) head → IsHead S (behind f (Some at) (e ∷ before)) head') → ((E : Env) → IsHead S E head' → refusal ≡ option_map (λ stop. stop.fault) (member_fault S name number E))
      → Notes S E f got head' refusal
  noted_told at there name number head' refusal named same adds refuses =
      subst (λ (g : Option Node). Notes S E f g head' refusal) (sym there) (by E noted.line.0 noted.line.1 noted.line.2 noted.told)
    where
      by : (E : Env) (e : Earlier) (before : Env) → E ≡ e ∷ before → IsHead S E head → Notes S E f (Some at) head' refusal
      by E e before is told =
          let A = behind f (Some at) (e ∷ before) in
          let now : IsHead S A head' = adds e before (subst (λ (x : Env). IsHead S x head) is told) in
          let refused : refusal ≡ option_map (λ stop. stop.fault) (member_fault S f.name (number_in false at) A) =
          refuses A now ∙ ap (λ (n : Name). option_map (λ stop. stop.fault) (member_fault S n number A)) (sym named) ∙ ap (λ (k : ℕ). option_map (λ stop. stop.fault) (member_fault S f.name k A)) same in
          let there : Notes S (e ∷ before) f (Some at) head' refusal = record { told = now; refused = refused } in
          subst (λ (x : Env). Notes S x f (Some at) head' refusal) (sym is) there

-- ---- the number in `BS Header`

module _ (S : Schema) (is : IsSchema S) (roles : Roles S) (f : Field) (place : ℕ) (at : slice_get (header_line S) place ≡ Some f) (named_so : bytes_eq (codes "BS Header") f.name ≡ true)
    (n : ℕ) (d : Decl) (found : named S f.kind ≡ Some n) (decl : slice_get S n ≡ Some (declaration d)) (o : Option ℕ) (where_it_is : o ≡ place_in (codes "BS Version") (map field d.fields)) where
  inner : InnerOf S f
  inner = bs_struct S is roles f (among_at (header_line S) place f at) named_so

  same_struct : inner.number ≡ n
  same_struct = some_number (named S f.kind) inner.number n inner.found found
    where
      some_number : (o : Option ℕ) (a b : ℕ) → o ≡ Some a → o ≡ Some b → a ≡ b
      some_number o a b x y = some_same o a b x y

  fields_here : fields_of S inner.number ≡ map field d.fields
  fields_here = ap (fields_of S) same_struct ∙ ap (λ o. option_map_or (λ (x : Declaration). x.fields) o []) decl

  place_is : o ≡ place_in (codes "BS Version") (fields_of S inner.number)
  place_is = where_it_is ∙ ap (place_in (codes "BS Version")) (sym fields_here)

  -- it has a place
  pub inner_there : o ≡ None → ⊥
  inner_there none = some_of _ (codes "BS Version") (fields_of S inner.number) inner.one (sym place_is ∙ none)

  -- and is kept there
  pub inner_kept : (held : Members) (k : ℕ) (value : Node) (inside : ℕ) → scope.member_at held k ≡ Some value → o ≡ Some inside → unwrap_or (scope.number_at held k (Some inside)) 0 ≡ inner_number S (codes "BS Version") f value
  inner_kept held k value inside there is_some =
      let whole : IsPlaceOf (codes "BS Version") (fields_of S inner.number) (place_in (codes "BS Version") (fields_of S inner.number)) = only_of _ (codes "BS Version") (fields_of S inner.number) (at_most _ (of_name (codes "BS Version") (fields_of S inner.number)) inner.one) in
      let here : IsPlaceOf (codes "BS Version") (fields_of S inner.number) (Some inside) = subst (λ (o : Option ℕ). IsPlaceOf (codes "BS Version") (fields_of S inner.number) o) (sym place_is ∙ is_some) whole in
      kept_inner S (codes "BS Version") f held k inside value there (subst (λ (fs : List Field). IsPlaceOf (codes "BS Version") fs (Some inside)) (sym inner.line) here)

-- ---- the call that tells of it

module _ (S : Schema) (is : IsSchema S) (roles : Roles S) (header : ℕ) (found : find S (codes "Header") ≡ Some header) (place : ℕ) (d : Decl) (decl : slice_get S header ≡ Some (declaration d)) (o : kept.Field) (got_o : slice_get d.fields place ≡ Some o)
    (E : Env) (f : Field) (got : Option Node) (entries : List Entry) (head : Head) (at : slice_get (header_line S) place ≡ Some f) (noted : IsNoted S header place E f got entries head) where
  pub field_is : field o ≡ f
  field_is = some_field (slice_get (header_line S) place) (field o) f (field_there S roles header found d decl place o got_o) at

  module _ (name : Name) (number inner : ℕ) (is_name : name ≡ o.name) (value : Node) (there : got ≡ Some value) (member : scope.member_at noted.held place ≡ Some value) (same : number ≡ number_in false value)
      (inside : (header : ℕ) (held : Members) (at : Node) → IsSchema S → Roles S → find S (codes "Header") ≡ Some header → slice_get (header_line S) place ≡ Some (field o) → AreKept S header (place + 1) entries held
      → scope.member_at held place ≡ Some at → bytes_eq (codes "BS Header") o.name ≡ true → inner ≡ inner_number S (codes "BS Version") (field o) at) where
    named_f : f.name ≡ name
    named_f = ap (λ (g : Field). g.name) (sym field_is) ∙ sym is_name

    inside_f : bytes_eq (codes "BS Header") f.name ≡ true → inner ≡ inner_number S (codes "BS Version") f value
    inside_f n =
        let here : bytes_eq (codes "BS Header") o.name ≡ true = subst (λ (g : Field). bytes_eq (codes "BS Header") g.name ≡ true) (sym field_is) n in
        inside header noted.held value is roles found (field_there S roles header found d decl place o got_o) noted.kept member here ∙ ap (λ (g : Field). inner_number S (codes "BS Version") g value) field_is

    pub call_small : IsSmall name number inner
    call_small = noted_small S header place E f got entries head noted is roles value there at name number inner named_f same inside_f

    pub call_notes : (head' : Head) (refusal : Option FileFault)
        → ((S : Schema) (E : Env) (earlier : Earlier) (f : Field) (at : Node) → IsHead S (earlier ∷ E) head → f.name ≡ name → number ≡ number_in false at
        → (bytes_eq (codes "BS Header") f.name ≡ true → inner ≡ inner_number S (codes "BS Version") f at) → IsHead S (behind f (Some at) (earlier ∷ E)) head')
        → ((S : Schema) (E : Env) → IsHead S E head' → refusal ≡ option_map (λ stop. stop.fault) (member_fault S name number E)) → Notes S E f got head' refusal
    call_notes head' refusal adds refuses =
        noted_told S header place E f got entries head noted value there name number head' refusal named_f same (λ e before h. adds S before e f value h named_f same inside_f) (refuses S)
