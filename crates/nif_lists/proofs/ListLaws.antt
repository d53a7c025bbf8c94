-- What the members of a header give to the lists is what is defined of them.
use Rattle.std.proofs.Common.{◌≡◌, ℕ, zero, suc, ◌%◌, ◌^◌, ◌<◌, ◌≤◌, Bool, true, false, if◌then◌else◌, Option, Some, None, IfSome, option_and_then, option_map, Result, IfOk, List, [], ◌∷◌, ◌++◌, map, slice_get, refl, sym, ◌∙◌, ap, subst, arith, true≢false, append_assoc, append-nil}
use Rattle.std.specs.Prelude.{codes, bytes_eq, nat_lt}
use Rattle.std.specs.Option.{option_map_or, unwrap_or, IsSomeAnd}
use Rattle.std.proofs.lemmas.Result.{IfOk-weaker}
use Rattle.std.proofs.Math.Nat.{mod-eq_of_lt}
use Rattle.std.proofs.lemmas.Bool.Decides.{nat_tests}
use Rattle.std.proofs.lemmas.Slice.Eq.{bytes_eq-Decides}
use Rattle.nif_base.specs.Node.{Node, Members, Num, Line, Ref, Text, Bytes, Group, Row, End, Here, Absent}
use Rattle.nif_schema.specs.Declaration.{Name, Field}
use Rattle.nif_schema.specs.Schema.{Schema, IsSchema, find_block}
use Rattle.nif_schema.specs.Roles.{Roles}
use Rattle.nif_layout.specs.PathValue.{number_in}
use Rattle.nif_layout.specs.Form.{item_at, number_at_item}
use Rattle.nif_file.specs.Head.{string_in, strings_in, row_in, member}
use Rattle.nif_file.specs.Files.{IsHeader, header_line, head_of, members_of}
use Rattle.nif_file.specs.HeaderParts.{IsPlaceOf}
use Rattle.nif_decode.specs.Scopes.{member_at}
use Rattle.nif_file.specs.PlaceLaws.{place_member}
use Rattle.nif_cells.specs.Walks.{Ends, count, walk_in}
use Rattle.nif_cells.specs.declared.steps.Step.TheVariants as step
use Rattle.nif_graph.specs.declared.places.RolePlaces.{RolePlaces}
use Rattle.nif_lists.specs.declared.roles.Role.{Role}
use Rattle.nif_lists.specs.declared.roles.Role.TheVariants as role
use Rattle.nif_lists.specs.Passing.{Keeps}
use Rattle.nif_lists.specs.Lists.{Listed, entry_of, AreListsOf, ArePlaces, is_at, role_at, kept, kept_first, kept_of}
use Rattle.nif_lists.proofs.MemberWalks.{kept_node, kept_in, kept_member, kept_at, past_members}
use Rattle.nif_file.specs.HeaderShapes.{IsNumber, AreNumbers, IsNumberRow, IsString, AreStrings, IsStringRow, types_shape, index_shape, sizes_shape}

-- ---- what is kept of a row of names

-- with these names and their types behind the others
abbrev with_names : Schema → List (List ℕ) → Listed → Listed
with_names S names lists = record lists { names = lists.names ++ names; types = lists.types ++ map (find_block S) names }

string_kept : (S : Schema) (n : Node) (lists : Listed) → IsString n → kept_node (kept S role.Types) n lists ≡ with_names S (string_in n ∷ []) lists
string_kept S n lists is = subst (λ n. kept_node (kept S role.Types) n lists ≡ with_names S (string_in n ∷ []) lists) (sym is.4) refl

with_none : (S : Schema) (lists : Listed) → lists ≡ with_names S [] lists
with_none S lists = λ i. record lists { names = sym (append-nil lists.names) i; types = sym (append-nil lists.types) i }

with_both : (S : Schema) (name : List ℕ) (names : List (List ℕ)) (lists : Listed) → with_names S names (with_names S (name ∷ []) lists) ≡ with_names S (name ∷ names) lists
with_both S name names lists = λ i. record lists {
  names = append_assoc lists.names (name ∷ []) names i;
  types = append_assoc lists.types (find_block S name ∷ []) (map (find_block S) names) i;
}

strings_kept : (S : Schema) (items : Members) (lists : Listed) → AreStrings items → kept_in (kept S role.Types) items lists ≡ with_names S (strings_in items) lists
strings_kept S End lists are = with_none S lists
strings_kept S (Absent rest) lists are = absurd are
strings_kept S (Here n rest) lists are =
    ap (kept_in (kept S role.Types) rest) (string_kept S n lists are.0)
    ∙ strings_kept S rest (with_names S (string_in n ∷ []) lists) are.1
    ∙ with_both S (string_in n) (strings_in rest) lists

-- the names of a row and their types
abbrev row_names : Schema → Option Node → Listed → Listed
row_names S got lists = record lists { names = row_in got; types = map (find_block S) (row_in got) }

types_step : (S : Schema) (got : Option Node) (lists : Listed) → IfSome got IsStringRow → lists.names ≡ [] → lists.types ≡ [] → kept_member (kept S role.Types) got lists ≡ row_names S got lists
types_step S None lists is no_names none = λ i. record lists { names = no_names i; types = none i }
types_step S (Some n) lists is no_names none =
    subst (λ n. kept_node (kept S role.Types) n lists ≡ row_names S (Some n) lists) (sym is.1)
    (strings_kept S is.0 lists is.2 ∙ (λ i. record lists { names = no_names i ++ strings_in is.0; types = none i ++ map (find_block S) (strings_in is.0) }))

-- ---- what is kept of a row of numbers

abbrev numbers_of : Members → List ℕ
numbers_of End = []
numbers_of (Here n rest) = number_in false n ∷ numbers_of rest
numbers_of (Absent rest) = []

abbrev numbers_in : Option Node → Option (List ℕ)
numbers_in (Some (Row items)) = Some (numbers_of items)
numbers_in _ = None

small : (below bits : ℕ) → bits < below → bits % below ≡ bits
small below bits h = mod-eq_of_lt h

-- where each number is put behind the others
numbers_kept : (keep : Keeps Listed) (put : List ℕ → Listed) (below : ℕ)
    → ((width : ℕ) (little : Bool) (bits : ℕ) (words : List ℕ) → keep (step.Num width little bits) [] (put words) ≡ put (words ++ (bits % below) ∷ []))
    → (items : Members) (words : List ℕ) → AreNumbers below items → kept_in keep items (put words) ≡ put (words ++ numbers_of items)
numbers_kept keep put below adds End words are = ap put (sym (append-nil words))
numbers_kept keep put below adds (Absent rest) words are = absurd are
numbers_kept keep put below adds (Here n rest) words are =
    ap (kept_in keep rest) (one are.0)
    ∙ numbers_kept keep put below adds rest (words ++ number_in false n ∷ []) are.1
    ∙ ap put (append_assoc words (number_in false n ∷ []) (numbers_of rest))
  where
    one : IsNumber below n → kept_node keep n (put words) ≡ put (words ++ number_in false n ∷ [])
    one is =
        subst (λ n. kept_node keep n (put words) ≡ put (words ++ number_in false n ∷ [])) (sym is.3)
        (adds is.0 is.1 is.2 words ∙ ap (λ b. put (words ++ b ∷ [])) (small below is.2 is.4))

index_step : (S : Schema) (got : Option Node) (lists : Listed) → IfSome got (IsNumberRow (2 ^ 16)) → lists.index ≡ None → kept_member (kept S role.Index) got lists ≡ record lists { index = numbers_in got }
index_step S None lists is none = ap (λ t. record lists { index = t }) none
index_step S (Some n) lists is none =
    subst (λ n. kept_node (kept S role.Index) n lists ≡ record lists { index = numbers_in (Some n) }) (sym is.1)
    (numbers_kept (kept S role.Index) (λ words. record lists { index = Some words }) (2 ^ 16) (λ width little bits words. refl) is.0 [] is.2)

sizes_step : (S : Schema) (got : Option Node) (lists : Listed) → IfSome got (IsNumberRow (2 ^ 32)) → lists.sizes ≡ None → kept_member (kept S role.Sizes) got lists ≡ record lists { sizes = numbers_in got }
sizes_step S None lists is none = ap (λ t. record lists { sizes = t }) none
sizes_step S (Some n) lists is none =
    subst (λ n. kept_node (kept S role.Sizes) n lists ≡ record lists { sizes = numbers_in (Some n) }) (sym is.1)
    (numbers_kept (kept S role.Sizes) (λ words. record lists { sizes = Some words }) (2 ^ 32) (λ width little bits words. refl) is.0 [] is.2)

-- ---- what is kept of any other member

mutual
  nothing_kept : (S : Schema) (n : Node) (lists : Listed) → kept_node (kept S role.Other) n lists ≡ lists
  nothing_kept S (Num width little bits) lists = refl
  nothing_kept S (Line bytes) lists = refl
  nothing_kept S (Ref strong wanted target) lists = refl
  nothing_kept S (Text index) lists = refl
  nothing_kept S (Bytes bytes) lists = refl
  nothing_kept S (Group members) lists = nothing_in S members lists
  nothing_kept S (Row items) lists = nothing_in S items lists

  nothing_in : (S : Schema) (members : Members) (lists : Listed) → kept_in (kept S role.Other) members lists ≡ lists
  nothing_in S End lists = refl
  nothing_in S (Here n rest) lists = ap (kept_in (kept S role.Other) rest) (nothing_kept S n lists) ∙ nothing_in S rest lists
  nothing_in S (Absent rest) lists = nothing_in S rest lists

-- ---- the members before a place

-- the member at a place, where it is one of the first so many
abbrev before : ℕ → Option ℕ → Members → Option Node
before n None members = None
before n (Some k) members = if nat_lt k n then member_at members k else None

before_start : (place : Option ℕ) (members : Members) → before 0 place members ≡ None
before_start None members = refl
before_start (Some k) members = let out : nat_lt k 0 ≡ false = grind (arith, nat_tests) in ap (λ b. if b then member_at members k else None) out

before_here : (place : Option ℕ) (n : ℕ) (members : Members) → is_at place n ≡ true → (before n place members ≡ None) × (before (suc n) place members ≡ member_at members n)
before_here None n members h = absurd (true≢false (sym h))
before_here (Some k) n members h =
    let same : k ≡ n = grind (arith, nat_tests) in
    let out : nat_lt k n ≡ false = grind (arith, nat_tests) in
    let within : nat_lt k (suc n) ≡ true = grind (arith, nat_tests) in
    (ap (λ b. if b then member_at members k else None) out, ap (λ b. if b then member_at members k else None) within ∙ ap (member_at members) same)

before_other : (place : Option ℕ) (n : ℕ) (members : Members) → is_at place n ≡ false → before (suc n) place members ≡ before n place members
before_other None n members h = refl
before_other (Some k) n members h =
    let same : nat_lt k (suc n) ≡ nat_lt k n = grind (arith, nat_tests) in
    ap (λ b. if b then member_at members k else None) same

before_all : (place : Option ℕ) (members : Members) → before (count members) place members ≡ option_and_then (member_at members) place
before_all None members = refl
before_all (Some k) members = by (nat_lt k (count members)) refl
  where
    by : (b : Bool) → nat_lt k (count members) ≡ b → (if b then member_at members k else None) ≡ member_at members k
    by true e = refl
    by false e = let past : count members ≤ k = grind (arith, nat_tests) in sym (past_members members k past)

-- ---- the lists behind so many members

abbrev lists_from : Schema → Option Node → Option Node → Option Node → Listed
lists_from S types index sizes = record { names = row_in types; types = map (find_block S) (row_in types); index = numbers_in index; sizes = numbers_in sizes }

abbrev lists_before : Schema → RolePlaces → Members → ℕ → Listed
lists_before S places members n = lists_from S (before n places.types members) (before n places.index members) (before n places.sizes members)

-- each list has its shape, and no member is two of them
record AreShaped (places : RolePlaces) (members : Members) : Type 0 where
  types : (k : ℕ) (n : Node) → is_at places.types k ≡ true → member_at members k ≡ Some n → IsStringRow n
  index : (k : ℕ) (n : Node) → is_at places.index k ≡ true → member_at members k ≡ Some n → IsNumberRow (2 ^ 16) n
  sizes : (k : ℕ) (n : Node) → is_at places.sizes k ≡ true → member_at members k ≡ Some n → IsNumberRow (2 ^ 32) n
  types_index : (k : ℕ) → is_at places.types k ≡ true → is_at places.index k ≡ false
  types_sizes : (k : ℕ) → is_at places.types k ≡ true → is_at places.sizes k ≡ false
  index_sizes : (k : ℕ) → is_at places.index k ≡ true → is_at places.sizes k ≡ false

shaped : {P : Node → Type 0} (got : Option Node) → ((n : Node) → got ≡ Some n → P n) → IfSome got P
shaped None h = tt
shaped (Some n) h = h n refl

abbrev role_by : Bool → Bool → Bool → Role
role_by t i s = if t then role.Types else if i then role.Index else if s then role.Sizes else role.Other

advance : (S : Schema) (places : RolePlaces) (members : Members) (n : ℕ) → AreShaped places members
    → kept_member (kept S (role_at places n)) (member_at members n) (lists_before S places members n) ≡ lists_before S places members (suc n)
advance S places members n is = by (is_at places.types n) refl (is_at places.index n) refl (is_at places.sizes n) refl
  where
    got : Option Node
    got = member_at members n

    now : Listed
    now = lists_before S places members n

    role_is : (t i s : Bool) → is_at places.types n ≡ t → is_at places.index n ≡ i → is_at places.sizes n ≡ s → kept_member (kept S (role_at places n)) got now ≡ kept_member (kept S (role_by t i s)) got now
    role_is t i s et ei es = ap (λ r. kept_member (kept S r) got now) (rw (et, ei, es) refl)

    parts : (t t' i i' s s' : Option Node) → t ≡ t' → i ≡ i' → s ≡ s' → lists_from S t i s ≡ lists_from S t' i' s'
    parts t t' i i' s s' et ei es = ap (λ x. lists_from S x i s) et ∙ ap (λ x. lists_from S t' x s) ei ∙ ap (λ x. lists_from S t' i' x) es

    by : (t : Bool) → is_at places.types n ≡ t → (i : Bool) → is_at places.index n ≡ i → (s : Bool) → is_at places.sizes n ≡ s → kept_member (kept S (role_at places n)) got now ≡ lists_before S places members (suc n)
    by true et i ei s es =
        let at = before_here places.types n members et in
        role_is true i s et ei es
        ∙ types_step S got now (shaped got (λ k e. is.types n k et e)) (ap row_in at.0) (ap (λ t. map (find_block S) (row_in t)) at.0)
        ∙ parts got _ (before n places.index members) _ (before n places.sizes members) _
        (sym at.1) (sym (before_other places.index n members (is.types_index n et))) (sym (before_other places.sizes n members (is.types_sizes n et)))
    by false et true ei s es =
        let at = before_here places.index n members ei in
        role_is false true s et ei es
        ∙ index_step S got now (shaped got (λ k e. is.index n k ei e)) (ap numbers_in at.0)
        ∙ parts (before n places.types members) _ got _ (before n places.sizes members) _
        (sym (before_other places.types n members et)) (sym at.1) (sym (before_other places.sizes n members (is.index_sizes n ei)))
    by false et false ei true es =
        let at = before_here places.sizes n members es in
        role_is false false true et ei es
        ∙ sizes_step S got now (shaped got (λ k e. is.sizes n k es e)) (ap numbers_in at.0)
        ∙ parts (before n places.types members) _ (before n places.index members) _ got _
        (sym (before_other places.types n members et)) (sym (before_other places.index n members ei)) (sym at.1)
    by false et false ei false es =
        role_is false false false et ei es
        ∙ other_kept got
        ∙ parts (before n places.types members) _ (before n places.index members) _ (before n places.sizes members) _
        (sym (before_other places.types n members et)) (sym (before_other places.index n members ei)) (sym (before_other places.sizes n members es))
      where
        other_kept : (got : Option Node) → kept_member (kept S role.Other) got now ≡ now
        other_kept None = refl
        other_kept (Some value) = nothing_kept S value now

first_kept : (S : Schema) (places : RolePlaces) (members : Members) → AreShaped places members → (n : ℕ) → n ≤ count members
    → kept_first S places n (walk_in members ++ Ends ∷ []) ≡ lists_before S places members n
first_kept S places members is zero h =
    sym (ap (λ t. lists_from S t (before 0 places.index members) (before 0 places.sizes members)) (before_start places.types members)
    ∙ ap (λ i. lists_from S None i (before 0 places.sizes members)) (before_start places.index members)
    ∙ ap (λ s. lists_from S None None s) (before_start places.sizes members))
first_kept S places members is (suc n) h =
    kept_at (kept S (role_at places n)) n members (Ends ∷ []) (kept_first S places n (walk_in members ++ Ends ∷ [])) (omega arith)
    ∙ ap (kept_member (kept S (role_at places n)) (member_at members n)) (first_kept S places members is n (omega arith))
    ∙ advance S places members n is

-- ---- the lists of a header

-- a name has one place
apart : (a b : Name) (fields : List Field) (k : ℕ) → IsPlaceOf a fields (Some k) → IsPlaceOf b fields (Some k) → a ≡ b
apart a b [] k p q = absurd p
apart a b (f ∷ fields) zero p q = (bytes_eq-Decides a f.name).0 p.0 ∙ sym ((bytes_eq-Decides b f.name).0 q.0)
apart a b (f ∷ fields) (suc k) p q = apart a b fields k p.1 q.1

at_is : (place : Option ℕ) (k : ℕ) → is_at place k ≡ true → place ≡ Some k
at_is None k h = absurd (true≢false (sym h))
at_is (Some n) k h = let same : n ≡ k = grind (arith, nat_tests) in ap (λ n. Some n) same

not_both : (a b : Name) (fields : List Field) (first second : Option ℕ) → bytes_eq a b ≡ false → IsPlaceOf a fields first → IsPlaceOf b fields second → (k : ℕ) → is_at first k ≡ true → is_at second k ≡ false
not_both a b fields first second other p q k h = by (is_at second k) refl
  where
    by : (t : Bool) → is_at second k ≡ t → t ≡ false
    by false e = refl
    by true e =
        let p' = subst (IsPlaceOf a fields) (at_is first k h) p in
        let q' = subst (IsPlaceOf b fields) (at_is second k e) q in
        absurd (true≢false (sym ((bytes_eq-Decides a b).1 (apart a b fields k p' q')) ∙ other))

named : (S : Schema) (members : Members) (name : Name) (place : Option ℕ) → IsPlaceOf name (header_line S) place → (k : ℕ) (n : Node) → is_at place k ≡ true → member_at members k ≡ Some n
    → member name (head_of S members) ≡ Some n
named S members name place is k n h e = place_member S members name place is ∙ ap (option_and_then (member_at members)) (at_is place k h) ∙ e

entry_at : (below : ℕ) (items : Members) (block : ℕ) → AreNumbers below items → option_map_or (number_in false) (item_at items block) 0 ≡ unwrap_or (slice_get (numbers_of items) block) 0
entry_at below End block are = refl
entry_at below (Absent rest) block are = absurd are
entry_at below (Here n rest) zero are = refl
entry_at below (Here n rest) (suc block) are = entry_at below rest block are.1

entries : (below : ℕ) (got : Option Node) → IfSome got (IsNumberRow below) → (block : ℕ) → option_map (number_at_item false block) got ≡ entry_of (numbers_in got) block
entries below None is block = refl
entries below (Some n) is block =
    subst (λ n. option_map (number_at_item false block) (Some n) ≡ entry_of (numbers_in (Some n)) block) (sym is.1) (ap (λ e. Some e) (entry_at below is.0 block is.2))

pub header_lists : (S : Schema) (places : RolePlaces) (header : Node) → IsSchema S → Roles S → ArePlaces S places → IsHeader S header → AreListsOf S (head_of S (members_of header)) (kept_of S places header)
header_lists S places header is roles at h = subst (λ n. AreListsOf S (head_of S (members_of n)) (kept_of S places n)) (sym h.group) whole
  where
    members : Members
    members = h.members

    shapes : AreShaped places members
    shapes = record {
      types = λ k n place e. types_shape S is roles members h.each n (named S members (codes "Block Types") places.types at.types k n place e);
      index = λ k n place e. index_shape S is roles members h.each n (named S members (codes "Block Type Index") places.index at.index k n place e);
      sizes = λ k n place e. sizes_shape S is roles members h.each n (named S members (codes "Block Size") places.sizes at.sizes k n place e);
      types_index = not_both (codes "Block Types") (codes "Block Type Index") (header_line S) places.types places.index refl at.types at.index;
      types_sizes = not_both (codes "Block Types") (codes "Block Size") (header_line S) places.types places.sizes refl at.types at.sizes;
      index_sizes = not_both (codes "Block Type Index") (codes "Block Size") (header_line S) places.index places.sizes refl at.index at.sizes;
    }

    of_name : (name : Name) (place : Option ℕ) → IsPlaceOf name (header_line S) place → before (count members) place members ≡ member name (head_of S members)
    of_name name place is = before_all place members ∙ sym (place_member S members name place is)

    lists : kept_of S places (Group members)
        ≡ lists_from S (member (codes "Block Types") (head_of S members)) (member (codes "Block Type Index") (head_of S members)) (member (codes "Block Size") (head_of S members))
    lists =
        first_kept S places members shapes (count members) (omega arith)
        ∙ ap (λ t. lists_from S t (before (count members) places.index members) (before (count members) places.sizes members)) (of_name (codes "Block Types") places.types at.types)
        ∙ ap (λ i. lists_from S types i (before (count members) places.sizes members)) (of_name (codes "Block Type Index") places.index at.index)
        ∙ ap (λ s. lists_from S types (member (codes "Block Type Index") (head_of S members)) s) (of_name (codes "Block Size") places.sizes at.sizes)
      where
        types : Option Node
        types = member (codes "Block Types") (head_of S members)

    whole : AreListsOf S (head_of S members) (kept_of S places (Group members))
    whole = subst (AreListsOf S (head_of S members)) (sym lists) (record {
      names = refl;
      types = refl;
      index = entries (2 ^ 16) (member (codes "Block Type Index") (head_of S members)) (shaped _ (λ n e. index_shape S is roles members h.each n e));
      sizes = entries (2 ^ 32) (member (codes "Block Size") (head_of S members)) (shaped _ (λ n e. sizes_shape S is roles members h.each n e));
    })

-- the lists of the tree that was found
pub read_lists_of : {E : Type 0} (S : Schema) (places : RolePlaces) (found : Option Node) (result : Result Listed E) → IsSchema S → Roles S → ArePlaces S places → IsSomeAnd found (IsHeader S)
    → IfOk result (λ lists. IfSome found (λ node. lists ≡ kept_of S places node)) → IfOk result (λ lists. IfSome found (λ node. AreListsOf S (head_of S (members_of node)) lists))
read_lists_of S places None result is roles at h kept = IfOk-weaker result _ _ (λ lists k. tt) kept
read_lists_of S places (Some node) result is roles at h kept =
    IfOk-weaker result (λ lists. lists ≡ kept_of S places node) _ (λ lists k. subst (AreListsOf S (head_of S (members_of node))) (sym k) (header_lists S places node is roles at h)) kept
