-- What is kept grows by what is kept of each member.
use Rattle.std.proofs.Common.{◌≡◌, ℕ, zero, suc, ◌+◌, ◌-◌, ◌<◌, ◌≤◌, Bool, true, false, List, [], ◌∷◌, ◌++◌, length, map, drop, slice_index_or, Option, Some, None, refl, sym, ap, subst, ◌∙◌, append_assoc, append-nil, arith}
use Rattle.nif_scope.proofs.Places.{drop_next}
use Rattle.nif_base.specs.Node.{Node, Members, Num, Line, Ref, Text, Bytes, Group, Row, End, Here, Absent}
use Rattle.nif_schema.specs.Declaration.{Field}
use Rattle.nif_schema.specs.Schema.{line}
use Rattle.nif_layout.specs.PathValue.{extended}
use Rattle.nif_layout.specs.Earlier.{Env, behind, passed}
use Rattle.nif_scope.specs.declared.settings.Setting.{Setting}
use Rattle.nif_scope.specs.declared.entries.Entry.{Entry}
use Rattle.nif_scope.specs.declared.entries.Entry.TheVariants as entry
use Rattle.nif_scope.specs.Told.{told, told_in, items_told, member_told, line_told}
use Rattle.nif_scope.specs.Scope.{Tells, asks, earlier}
use Rattle.nif_scope.specs.Keeping.{plain, items_behind, without_items, AreFor, added, got_told, IsSingle}

-- ---- one member more

told_end : (asked : Field → Bool) (fields : List Field) → line_told asked fields End ≡ []
told_end asked [] = refl
told_end asked (f ∷ fields) = refl

told_more : (asked : Field → Bool) (before : List Field) (f : Field) (after : List Field) (members : Members) (got : Option Node) → AreFor before members
    → line_told asked (before ++ f ∷ after) members ++ got_told (asked f) got ≡ line_told asked (before ++ f ∷ after) (added members got)
told_more asked [] f after End (Some node) h = sym (append-nil (member_told (asked f) node)) ∙ ap (λ rest. member_told (asked f) node ++ rest) (sym (told_end asked after))
told_more asked [] f after End None h = ap (λ rest. entry.Absent ∷ rest) (sym (told_end asked after))
told_more asked [] f after (Here node rest) got h = absurd h
told_more asked [] f after (Absent rest) got h = absurd h
told_more asked (g ∷ before) f after End got h = absurd h
told_more asked (g ∷ before) f after (Here node rest) got h =
    append_assoc (member_told (asked g) node) (line_told asked (before ++ f ∷ after) rest) (got_told (asked f) got)
    ∙ ap (λ more. member_told (asked g) node ++ more) (told_more asked before f after rest got h)
told_more asked (g ∷ before) f after (Absent rest) got h = ap (λ more. entry.Absent ∷ more) (told_more asked before f after rest got h)

pub tells_none : (at : Setting) → Tells at [] End
tells_none at = sym (told_end (asks at.schema.now at.number) (line at.schema.now at.number))

pub tells_more : (at : Setting) (entries : List Entry) (members : Members) (before : List Field) (f : Field) (after : List Field) (got : Option Node)
    → line at.schema.now at.number ≡ before ++ f ∷ after → AreFor before members → Tells at entries members
    → Tells at (entries ++ got_told (asks at.schema.now at.number f) got) (added members got)
tells_more at entries members before f after got e h tells =
    let asked = asks at.schema.now at.number in
    let P : List Field → Type 0 = λ fields. entries ≡ line_told asked fields members → entries ++ got_told (asked f) got ≡ line_told asked fields (added members got) in
    subst P (sym e) (λ t. ap (λ es. es ++ got_told (asked f) got) t ∙ told_more asked before f after members got h) tells

passed_more : (before : List Field) (f : Field) (after : List Field) (members : Members) (got : Option Node) (E : Env) → AreFor before members
    → passed (before ++ f ∷ after) (added members got) E ≡ behind f got (passed (before ++ f ∷ after) members E)
passed_more [] f after End (Some node) E h = passed_end after (behind f (Some node) E)
  where
    passed_end : (fields : List Field) (E : Env) → passed fields End E ≡ E
    passed_end [] E = refl
    passed_end (g ∷ fields) E = refl
passed_more [] f after End None E h = passed_end after (behind f None E)
  where
    passed_end : (fields : List Field) (E : Env) → passed fields End E ≡ E
    passed_end [] E = refl
    passed_end (g ∷ fields) E = refl
passed_more [] f after (Here node rest) got E h = absurd h
passed_more [] f after (Absent rest) got E h = absurd h
passed_more (g ∷ before) f after End got E h = absurd h
passed_more (g ∷ before) f after (Here node rest) got E h = passed_more before f after rest got (behind g (Some node) E) h
passed_more (g ∷ before) f after (Absent rest) got E h = passed_more before f after rest got (behind g None E) h

pub earlier_more : (at : Setting) (members : Members) (before : List Field) (f : Field) (after : List Field) (got : Option Node)
    → line at.schema.now at.number ≡ before ++ f ∷ after → AreFor before members → earlier at (added members got) ≡ behind f got (earlier at members)
earlier_more at members before f after got e h =
    let P : List Field → Type 0 = λ fields. passed fields (added members got) [] ≡ behind f got (passed fields members []) in
    subst P (sym e) (passed_more before f after members got [] h)

pub for_more : (before : List Field) (f : Field) (members : Members) (got : Option Node) → AreFor before members → AreFor (before ++ f ∷ []) (added members got)
for_more [] f End (Some node) h = tt
for_more [] f End None h = tt
for_more [] f (Here node rest) got h = absurd h
for_more [] f (Absent rest) got h = absurd h
for_more (g ∷ before) f End got h = absurd h
for_more (g ∷ before) f (Here node rest) got h = for_more before f rest got h
for_more (g ∷ before) f (Absent rest) got h = for_more before f rest got h

pub single_told : (asked : Bool) (node : Node) → IsSingle node → member_told asked node ≡ told node
single_told false node h = refl
single_told true (Num width little bits) h = refl
single_told true (Line bytes) h = refl
single_told true (Ref strong wanted target) h = refl
single_told true (Text index) h = refl
single_told true (Bytes bytes) h = absurd h
single_told true (Group members) h = refl
single_told true (Row items) h = absurd h

-- ---- a group without the items of its arrays

mutual
  keep_told : (node : Node) (more : List Entry) → without_items 0 (told node ++ more) ≡ told node ++ without_items 0 more
  keep_told (Num width little bits) more = refl
  keep_told (Line bytes) more = refl
  keep_told (Ref strong wanted target) more = refl
  keep_told (Text index) more = refl
  keep_told (Bytes bytes) more = refl
  keep_told (Group members) more = ap (λ rest. entry.Group (length (told_in members)) ∷ rest) (keep_in members more)
  keep_told (Row items) more = refl

  keep_in : (members : Members) (more : List Entry) → without_items 0 (told_in members ++ more) ≡ told_in members ++ without_items 0 more
  keep_in End more = refl
  keep_in (Here node rest) more =
      ap (λ es. without_items 0 es) (append_assoc (told node) (told_in rest) more)
      ∙ keep_told node (told_in rest ++ more)
      ∙ ap (λ es. told node ++ es) (keep_in rest more)
      ∙ sym (append_assoc (told node) (told_in rest) (without_items 0 more))
  keep_in (Absent rest) more = ap (λ es. entry.Absent ∷ es) (keep_in rest more)

pass_items : (items more : List Entry) → without_items (length items) (items ++ more) ≡ without_items 0 more
pass_items [] more = refl
pass_items (e ∷ items) more = pass_items items more

pass_bytes : (bytes : List ℕ) (more : List Entry) → without_items (length bytes) (map (λ b. entry.Number b (extended true 1 b)) bytes ++ more) ≡ without_items 0 more
pass_bytes [] more = refl
pass_bytes (b ∷ bytes) more = pass_bytes bytes more

keep_member : (asked : Bool) (node : Node) (more : List Entry) → without_items 0 (member_told asked node ++ more) ≡ told node ++ without_items 0 more
keep_member false node more = keep_told node more
keep_member true (Num width little bits) more = refl
keep_member true (Line bytes) more = refl
keep_member true (Ref strong wanted target) more = refl
keep_member true (Text index) more = refl
keep_member true (Bytes bytes) more = ap (λ rest. entry.Nothing ∷ rest) (pass_bytes bytes more)
keep_member true (Group members) more = keep_told (Group members) more
keep_member true (Row items) more = ap (λ rest. entry.Nothing ∷ rest) (pass_items (items_told items) more)

keep_line : (asked : Field → Bool) (fields : List Field) (members : Members) → AreFor fields members → without_items 0 (line_told asked fields members) ≡ told_in members
keep_line asked [] End h = refl
keep_line asked [] (Here node rest) h = absurd h
keep_line asked [] (Absent rest) h = absurd h
keep_line asked (f ∷ fields) End h = absurd h
keep_line asked (f ∷ fields) (Here node rest) h =
    keep_member (asked f) node (line_told asked fields rest) ∙ ap (λ es. told node ++ es) (keep_line asked fields rest h)
keep_line asked (f ∷ fields) (Absent rest) h = ap (λ es. entry.Absent ∷ es) (keep_line asked fields rest h)

-- What is kept of a group is what was kept of its members, without items.
pub group_told : (at : Setting) (entries : List Entry) (members : Members) → AreFor (line at.schema.now at.number) members → Tells at entries members
    → entry.Group (length (without_items 0 entries)) ∷ without_items 0 entries ≡ told (Group members)
group_told at entries members h tells =
    ap (λ es. entry.Group (length es) ∷ es) (ap (λ es. without_items 0 es) tells ∙ keep_line (asks at.schema.now at.number) (line at.schema.now at.number) members h)

-- ---- entry by entry

pub pass_step : (skip left i : ℕ) (entries : List Entry) → 0 < skip → left ≡ skip - 1 → i < length entries → without_items left (drop (i + 1) entries) ≡ without_items skip (drop i entries)
pass_step zero left i entries p e l = absurd (omega (arith, p))
pass_step (suc skip) left i entries p e l =
    let same : left ≡ skip = omega (arith, e) in
    ap (λ n. without_items n (drop (i + 1) entries)) same ∙ sym (ap (λ es. without_items (suc skip) es) (drop_next entries i entry.Absent l))

pub keep_step : (skip left i : ℕ) (entries : List Entry) (d : Entry) → skip ≤ 0 → left ≡ items_behind (slice_index_or entries i d) → i < length entries
    → plain (slice_index_or entries i d) ∷ without_items left (drop (i + 1) entries) ≡ without_items skip (drop i entries)
keep_step (suc skip) left i entries d none at l = absurd (omega (arith, none))
keep_step zero left i entries d none at l =
    ap (λ n. plain (slice_index_or entries i d) ∷ without_items n (drop (i + 1) entries)) at
    ∙ sym (ap (λ es. without_items 0 es) (drop_next entries i d l))
