-- The name of an entry of the types, where a walk meets it.
use Rattle.std.proofs.Common.{◌≡◌, ℕ, zero, suc, Option, Some, None, IfSome, IfOk, Result, option_and_then, List, [], ◌∷◌, ◌++◌, slice_get, refl, sym, ◌∙◌, ap, subst, arith, append_assoc}
use Rattle.std.specs.Prelude.{codes}
use Rattle.std.specs.Option.{unwrap_or}
use Rattle.std.proofs.lemmas.Result.{IfOk-weaker}
use Rattle.nif_base.specs.Node.{Node, Members, Group, Row, End, Here, Absent}
use Rattle.nif_file.specs.Head.{string_in, strings_in, row_in, type_names, member}
use Rattle.nif_file.specs.Files.{head_of, members_of}
use Rattle.nif_decode.specs.Scopes.{member_at}
use Rattle.nif_file.specs.PlaceLaws.{place_member}
use Rattle.nif_cells.specs.Walks.{Met, Ends, walk, walk_in}
use Rattle.nif_graph.specs.declared.places.RolePlaces.{RolePlaces}
use Rattle.nif_lists.specs.Passing.{behind_first, behind_step, run_ahead}
use Rattle.nif_lists.specs.Lists.{IsNameOf}
use Rattle.nif_lists.proofs.MemberWalks.{from, with_member, at_place, place_within, first_behind}
use Rattle.nif_file.specs.HeaderShapes.{IsString, AreStrings, IsStringRow, types_shape}

-- the string at an entry of a row
record Entry (items : Members) (entry : ℕ) (name : List ℕ) : Type 0 where
  item : Node
  is : IsString item
  named : string_in item ≡ name
  at : member_at items entry ≡ Some item

string_at : (items : Members) (entry : ℕ) (name : List ℕ) → AreStrings items → slice_get (strings_in items) entry ≡ Some name → Entry items entry name
string_at End entry name are e = absurd (cc)
string_at (Absent rest) entry name are e = absurd are
string_at (Here item rest) zero name are e = record { item = item; is = are.0; named = cc; at = refl }
string_at (Here item rest) (suc entry) name are e =
    let later = string_at rest entry name are.1 e in
    record { item = later.item; is = later.is; named = later.named; at = later.at }

-- what is ahead where a member begins
begins : (k : ℕ) (members : Members) (value : Node) (rest : List Met) → member_at members k ≡ Some value → behind_first k (walk_in members ++ rest) ≡ walk value ++ (walk_in (from (suc k) members) ++ rest)
begins k members value rest e =
    let within = place_within members k value e in
    first_behind k members rest (omega arith)
    ∙ ap (λ m. walk_in m ++ rest) (at_place k members within ∙ ap (λ got. with_member got (from (suc k) members)) e)
    ∙ append_assoc (walk value) (walk_in (from (suc k) members)) rest

-- the bytes of a string are two steps behind its begin
string_run : (item : Node) (rest : List Met) → IsString item → run_ahead (behind_step (behind_step (walk item ++ rest))) ≡ string_in item
string_run item rest is = subst (λ n. run_ahead (behind_step (behind_step (walk n ++ rest))) ≡ string_in n) (sym is.4) refl

-- where a walk stands that has passed over so many members, and over so many items of the next
abbrev pub inside : ℕ → ℕ → List Met → List Met
inside k entry ahead = behind_first entry (behind_step (behind_first k (behind_step ahead)))

row_entry : (k entry : ℕ) (members items : Members) (item : Node) → member_at members k ≡ Some (Row items) → member_at items entry ≡ Some item
    → (rest : List Met) × (inside k entry (walk (Group members)) ≡ walk item ++ rest)
row_entry k entry members items item row e =
    let behind = walk_in (from (suc k) members) ++ Ends ∷ [] in
    let start : behind_step (behind_first k (walk_in members ++ Ends ∷ [])) ≡ walk_in items ++ Ends ∷ behind =
    ap behind_step (begins k members (Row items) (Ends ∷ []) row) ∙ append_assoc (walk_in items) (Ends ∷ []) behind in
    (walk_in (from (suc entry) items) ++ Ends ∷ behind, ap (behind_first entry) start ∙ begins entry items item (Ends ∷ behind) e)

entry_name : (k entry : ℕ) (members : Members) (value : Node) → IsStringRow value → member_at members k ≡ Some value → (name : List ℕ) → slice_get (row_in (Some value)) entry ≡ Some name
    → run_ahead (behind_step (behind_step (inside k entry (walk (Group members))))) ≡ name
entry_name k entry members value is at name e =
    let listed : slice_get (strings_in is.0) entry ≡ Some name = ap (λ v. slice_get (row_in (Some v)) entry) (sym is.1) ∙ e in
    let found = string_at is.0 entry name is.2 listed in
    let ahead = row_entry k entry members is.0 found.item (at ∙ ap (λ v. Some v) is.1) found.at in
    ap (λ a. run_ahead (behind_step (behind_step a))) ahead.1 ∙ string_run found.item ahead.0 found.is ∙ found.named

-- the name is the run of bytes that a walk comes to
pub named_entry : (places : RolePlaces) (entry : ℕ) (header : Node) → IsNameOf places entry header (run_ahead (behind_step (behind_step (inside (unwrap_or places.types 0) entry (walk header)))))
named_entry places entry header S is roles at h = by places.types refl
  where
    members : Members
    members = h.members

    run : Node → Option ℕ → List ℕ
    run node place = run_ahead (behind_step (behind_step (inside (unwrap_or place 0) entry (walk node))))

    Says : Option (List ℕ) → Type 0
    Says o = IfSome o (λ named. run header places.types ≡ named)

    names_are : (place : Option ℕ) → places.types ≡ place → type_names (head_of S (members_of header)) ≡ row_in (option_and_then (member_at members) place)
    names_are place e =
        ap (λ n. type_names (head_of S (members_of n))) h.group
        ∙ ap row_in (place_member S members (codes "Block Types") places.types at.types ∙ ap (option_and_then (member_at members)) e)

    in_header : (place : Option ℕ) → places.types ≡ place → run header places.types ≡ run (Group members) place
    in_header place e = ap (λ p. run header p) e ∙ ap (λ n. run n place) h.group

    said : (o : Option (List ℕ)) → ((name : List ℕ) → o ≡ Some name → run header places.types ≡ name) → Says o
    said None f = tt
    said (Some name) f = f name refl

    none_in : (got : Option Node) → got ≡ None → (name : List ℕ) → slice_get (row_in got) entry ≡ Some name → ⊥
    none_in None e name f = absurd (cc)
    none_in (Some value) e name f = absurd (cc)

    of_member : (k : ℕ) → places.types ≡ Some k → (got : Option Node) → member_at members k ≡ got → (name : List ℕ) → slice_get (row_in got) entry ≡ Some name → run (Group members) (Some k) ≡ name
    of_member k e None got name f = absurd (none_in None refl name f)
    of_member k e (Some value) got name f =
        let found : member (codes "Block Types") (head_of S members) ≡ Some value =
        place_member S members (codes "Block Types") places.types at.types ∙ ap (option_and_then (member_at members)) e ∙ got in
        entry_name k entry members value (types_shape S is roles members h.each value found) got name f

    by : (place : Option ℕ) → places.types ≡ place → Says (slice_get (type_names (head_of S (members_of header))) entry)
    by None e = said _ (λ name f. absurd (none_in None refl name (ap (λ names. slice_get names entry) (sym (names_are None e)) ∙ f)))
    by (Some k) e = said _ (λ name f. in_header (Some k) e ∙ of_member k e (member_at members k) refl name (ap (λ names. slice_get names entry) (sym (names_are (Some k) e)) ∙ f))

-- the name in the tree that was found
pub name_in : {E : Type 0} (places : RolePlaces) (entry : ℕ) (found : Option Node) (result : Result (List ℕ) E) (first last : List Met) → IfSome found (λ node. first ≡ walk node)
    → last ≡ behind_step (behind_step (inside (unwrap_or places.types 0) entry first)) → IfOk result (λ word. word ≡ run_ahead last)
    → IfOk result (λ word. IfSome found (λ node. IsNameOf places entry node word))
name_in places entry None result first last is ahead run = IfOk-weaker result _ _ (λ word k. tt) run
name_in places entry (Some node) result first last is ahead run =
    IfOk-weaker result (λ word. word ≡ run_ahead last) _
    (λ word k. subst (IsNameOf places entry node)
    (sym (k ∙ ap run_ahead (ahead ∙ ap (λ a. behind_step (behind_step (inside (unwrap_or places.types 0) entry a))) is))) (named_entry places entry node)) run
