-- What is kept of members leads to the same members as their nodes.
use Rattle.std.proofs.Common.{◌≡◌, Bool, true, false, List, [], ◌∷◌, ◌++◌, length, map, take, drop, Option, Some, None, refl, sym, ap, subst, bytes_eq, if◌then◌else◌, ◌&&◌, ◌||◌, ◌∙◌}
use Rattle.std.proofs.Math.Seq.{take-append_seam, drop-append_seam}
use Rattle.std.proofs.lemmas.List.{length-map}
use Rattle.std.specs.Option.{option_map}
use Rattle.nif_base.specs.Node.{Node, Members, Num, Line, Ref, Text, Bytes, Group, Row, End, Here, Absent}
use Rattle.nif_schema.specs.Declaration.{Name, Field}
use Rattle.nif_layout.specs.PathValue.{extended}
use Rattle.nif_layout.specs.Earlier.{Env, behind, has_name, last_present, passed}
use Rattle.nif_scope.specs.declared.entries.Entry.{Entry}
use Rattle.nif_scope.specs.declared.entries.Entry.TheVariants as entry
use Rattle.nif_scope.specs.Told.{told_in, items_told, member_told, line_told}
use Rattle.nif_scope.specs.Lookup.{Member, inside, is_here, last_told, name_told}

-- the entry of a member by itself
abbrev pub entry_of : Bool → Node → Entry
entry_of b (Num width little bits) = entry.Number bits (extended true width bits)
entry_of b (Line bytes) = entry.Nothing
entry_of b (Ref strong wanted target) = entry.Nothing
entry_of b (Text index) = entry.Nothing
entry_of true (Bytes bytes) = entry.Items (length bytes)
entry_of false (Bytes bytes) = entry.Nothing
entry_of b (Group members) = entry.Group (length (told_in members))
entry_of true (Row items) = entry.Items (length (items_told items))
entry_of false (Row items) = entry.Nothing

-- its own entries
abbrev pub own_of : Bool → Node → List Entry
own_of b (Num width little bits) = []
own_of b (Line bytes) = []
own_of b (Ref strong wanted target) = []
own_of b (Text index) = []
own_of true (Bytes bytes) = map (λ x. entry.Number x (extended true 1 x)) bytes
own_of false (Bytes bytes) = []
own_of b (Group members) = told_in members
own_of true (Row items) = items_told items
own_of false (Row items) = []

pub kept_is : (b : Bool) (node : Node) → member_told b node ≡ entry_of b node ∷ own_of b node
kept_is true (Num width little bits) = refl
kept_is true (Line bytes) = refl
kept_is true (Ref strong wanted target) = refl
kept_is true (Text index) = refl
kept_is true (Bytes bytes) = refl
kept_is true (Group members) = refl
kept_is true (Row items) = refl
kept_is false (Num width little bits) = refl
kept_is false (Line bytes) = refl
kept_is false (Ref strong wanted target) = refl
kept_is false (Text index) = refl
kept_is false (Bytes bytes) = refl
kept_is false (Group members) = refl
kept_is false (Row items) = refl

pub inside_is : (b : Bool) (node : Node) → inside (entry_of b node) ≡ length (own_of b node)
inside_is true (Num width little bits) = refl
inside_is true (Line bytes) = refl
inside_is true (Ref strong wanted target) = refl
inside_is true (Text index) = refl
inside_is true (Bytes bytes) = sym (length-map bytes (λ x. entry.Number x (extended true 1 x)))
inside_is true (Group members) = refl
inside_is true (Row items) = refl
inside_is false (Num width little bits) = refl
inside_is false (Line bytes) = refl
inside_is false (Ref strong wanted target) = refl
inside_is false (Text index) = refl
inside_is false (Bytes bytes) = refl
inside_is false (Group members) = refl
inside_is false (Row items) = refl

here_is : (b : Bool) (node : Node) → is_here (entry_of b node) ≡ true
here_is true (Num width little bits) = refl
here_is true (Line bytes) = refl
here_is true (Ref strong wanted target) = refl
here_is true (Text index) = refl
here_is true (Bytes bytes) = refl
here_is true (Group members) = refl
here_is true (Row items) = refl
here_is false (Num width little bits) = refl
here_is false (Line bytes) = refl
here_is false (Ref strong wanted target) = refl
here_is false (Text index) = refl
here_is false (Bytes bytes) = refl
here_is false (Group members) = refl
here_is false (Row items) = refl

-- a field with its node as what is kept of it
abbrev pub member_at : (Field → Bool) → Field × Node → Member
member_at asks at = record { field = at.0; entry = entry_of (asks at.0) at.1; own = own_of (asks at.0) at.1 }

abbrev pub kept_member : (Field → Bool) → Option (Field × Node) → Option Member
kept_member asks at = option_map (member_at asks) at

-- one member further
last_next : (name : Name) (got : Option Member) (f : Field) (fields : List Field) (e : Entry) (own more : List Entry) → inside e ≡ length own → is_here e ≡ true
    → last_told name got (f ∷ fields) (e ∷ own ++ more) ≡ last_told name (if bytes_eq name f.name then Some (record { field = f; entry = e; own = own }) else got) fields more
last_next name got f fields e own more size here =
    subst (λ n. last_told name (if bytes_eq name f.name && is_here e then Some (record { field = f; entry = e; own = take n (own ++ more) }) else got) fields (drop n (own ++ more)) ≡ last_told name (if bytes_eq name f.name then Some (record { field = f; entry = e; own = own }) else got) fields more) (sym size)
    (subst (λ h. last_told name (if bytes_eq name f.name && h then Some (record { field = f; entry = e; own = take (length own) (own ++ more) }) else got) fields (drop (length own) (own ++ more)) ≡ last_told name (if bytes_eq name f.name then Some (record { field = f; entry = e; own = own }) else got) fields more) (sym here)
    (subst (λ t. last_told name (if bytes_eq name f.name && true then Some (record { field = f; entry = e; own = t }) else got) fields (drop (length own) (own ++ more)) ≡ last_told name (if bytes_eq name f.name then Some (record { field = f; entry = e; own = own }) else got) fields more) (sym (take-append_seam own more))
    (subst (λ d. last_told name (if bytes_eq name f.name && true then Some (record { field = f; entry = e; own = own }) else got) fields d ≡ last_told name (if bytes_eq name f.name then Some (record { field = f; entry = e; own = own }) else got) fields more) (sym (drop-append_seam own more))
    (same (bytes_eq name f.name)))))
  where
    same : (b : Bool) → last_told name (if b && true then Some (record { field = f; entry = e; own = own }) else got) fields more ≡ last_told name (if b then Some (record { field = f; entry = e; own = own }) else got) fields more
    same true = refl
    same false = refl

-- behind a member that is present
behind_here : (asks : Field → Bool) (b : Bool) (f : Field) (node : Node) (before : Option (Field × Node))
    → (if b then Some (member_at asks (f, node)) else kept_member asks before) ≡ kept_member asks (if b then Some (f, node) else before)
behind_here asks true f node before = refl
behind_here asks false f node before = refl

-- behind one that is absent
behind_absent : (asks : Field → Bool) (b : Bool) (f : Field) (before : Option (Field × Node)) (some : Member)
    → (if b && false then Some some else kept_member asks before) ≡ kept_member asks (if b then before else before)
behind_absent asks true f before some = refl
behind_absent asks false f before some = refl

-- The last member of a name that is kept is that of the last node.
pub last_is : (asks : Field → Bool) (name : Name) (fields : List Field) (members : Members) (E : Env)
    → last_told name (kept_member asks (last_present name E)) fields (line_told asks fields members) ≡ kept_member asks (last_present name (passed fields members E))
last_is asks name [] members E = refl
last_is asks name (f ∷ fields) End E = refl
last_is asks name (f ∷ fields) (Here node rest) E =
    subst (λ t. last_told name (kept_member asks (last_present name E)) (f ∷ fields) (t ++ line_told asks fields rest) ≡ kept_member asks (last_present name (passed fields rest (behind f (Some node) E)))) (sym (kept_is (asks f) node))
    (last_next name (kept_member asks (last_present name E)) f fields (entry_of (asks f) node) (own_of (asks f) node) (line_told asks fields rest) (inside_is (asks f) node) (here_is (asks f) node)
    ∙ subst (λ got. last_told name got fields (line_told asks fields rest) ≡ kept_member asks (last_present name (passed fields rest (behind f (Some node) E)))) (sym (behind_here asks (bytes_eq name f.name) f node (last_present name E)))
    (last_is asks name fields rest (behind f (Some node) E)))
last_is asks name (f ∷ fields) (Absent rest) E =
    subst (λ got. last_told name got fields (line_told asks fields rest) ≡ kept_member asks (last_present name (passed fields rest (behind f None E)))) (sym (behind_absent asks (bytes_eq name f.name) f (last_present name E) (record { field = f; entry = entry.Absent; own = take 0 (line_told asks fields rest) })))
    (last_is asks name fields rest (behind f None E))

-- of a group no item is asked for
abbrev pub never : Field → Bool
never f = false

-- what is kept of the members of a group leads to the same
last_inside : (name : Name) (got : Option Member) (fields : List Field) (members : Members)
    → last_told name got fields (told_in members) ≡ last_told name got fields (line_told never fields members)
last_inside name got [] members = refl
last_inside name got (f ∷ fields) End = refl
last_inside name got (f ∷ fields) (Here node rest) =
    subst (λ t. last_told name got (f ∷ fields) (t ++ told_in rest) ≡ last_told name got (f ∷ fields) (t ++ line_told never fields rest)) (sym (kept_is false node))
    (last_next name got f fields (entry_of false node) (own_of false node) (told_in rest) (inside_is false node) (here_is false node)
    ∙ last_inside name (if bytes_eq name f.name then Some (record { field = f; entry = entry_of false node; own = own_of false node }) else got) fields rest
    ∙ sym (last_next name got f fields (entry_of false node) (own_of false node) (line_told never fields rest) (inside_is false node) (here_is false node)))
last_inside name got (f ∷ fields) (Absent rest) =
    same (bytes_eq name f.name) (last_inside name got fields rest)
  where
    same : (b : Bool) → last_told name got fields (told_in rest) ≡ last_told name got fields (line_told never fields rest)
        → last_told name (if b && false then Some (record { field = f; entry = entry.Absent; own = take 0 (told_in rest) }) else got) fields (told_in rest)
        ≡ last_told name (if b && false then Some (record { field = f; entry = entry.Absent; own = take 0 (line_told never fields rest) }) else got) fields (line_told never fields rest)
    same true h = h
    same false h = h

-- The last member of a name in a group is that of its last node.
pub last_in_group : (name : Name) (fields : List Field) (members : Members)
    → last_told name None fields (told_in members) ≡ kept_member never (last_present name (passed fields members []))
last_in_group name fields members = last_inside name None fields members ∙ last_is never name fields members []

or_first : (b c d : Bool) → ((b || c) || d) ≡ (c || (b || d))
or_first true true d = refl
or_first true false d = refl
or_first false true d = refl
or_first false false d = refl

name_next : (name : Name) (f : Field) (fields : List Field) (e : Entry) (own more : List Entry) → inside e ≡ length own
    → name_told name (f ∷ fields) (e ∷ own ++ more) ≡ (bytes_eq name f.name || name_told name fields more)
name_next name f fields e own more size =
    subst (λ n. (bytes_eq name f.name || name_told name fields (drop n (own ++ more))) ≡ (bytes_eq name f.name || name_told name fields more)) (sym size)
    (ap (λ d. bytes_eq name f.name || name_told name fields d) (drop-append_seam own more))

-- A member has a name where an earlier field has it.
pub name_is : (asks : Field → Bool) (name : Name) (fields : List Field) (members : Members) (E : Env)
    → (name_told name fields (line_told asks fields members) || has_name name E) ≡ has_name name (passed fields members E)
name_is asks name [] members E = refl
name_is asks name (f ∷ fields) End E = refl
name_is asks name (f ∷ fields) (Here node rest) E =
    subst (λ t. (name_told name (f ∷ fields) (t ++ line_told asks fields rest) || has_name name E) ≡ has_name name (passed fields rest (behind f (Some node) E))) (sym (kept_is (asks f) node))
    (ap (λ b. b || has_name name E) (name_next name f fields (entry_of (asks f) node) (own_of (asks f) node) (line_told asks fields rest) (inside_is (asks f) node))
    ∙ or_first (bytes_eq name f.name) (name_told name fields (line_told asks fields rest)) (has_name name E)
    ∙ name_is asks name fields rest (behind f (Some node) E))
name_is asks name (f ∷ fields) (Absent rest) E =
    or_first (bytes_eq name f.name) (name_told name fields (line_told asks fields rest)) (has_name name E)
    ∙ name_is asks name fields rest (behind f None E)
