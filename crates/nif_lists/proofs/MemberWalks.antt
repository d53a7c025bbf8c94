-- A walk through the members of a group, one after another.
use Rattle.std.proofs.Common.{ℕ, zero, suc, ◌<◌, ◌≤◌, ◌≡◌, true, false, List, [], ◌∷◌, ◌++◌, Option, None, Some, refl, ◌∙◌, ap, arith, append_assoc}
use Rattle.nif_base.specs.Node.{Node, Members, Num, Line, Ref, Text, Bytes, Group, Row, End, Here, Absent}
use Rattle.nif_cells.specs.Walks.{Met, Leaf, Opens, LeftOut, Ends, count, walk, walk_in}
use Rattle.nif_decode.specs.Scopes.{member_at}
use Rattle.nif_encode.specs.Texts.{where_open, behind_one}
use Rattle.nif_encode.specs.TextLaws.{lowered, node_behind}
use Rattle.nif_lists.specs.Passing.{behind_first, Keeps, kept_one}
use Rattle.nif_lists.proofs.PassLaws.{step_kept}

-- ---- what is kept of a node

abbrev mutual
  pub kept_node : {A : Type 0} → Keeps A → Node → A → A
  kept_node keep (Num width little bits) kept = step_kept keep (Leaf (Num width little bits)) kept
  kept_node keep (Line bytes) kept = step_kept keep (Leaf (Line bytes)) kept
  kept_node keep (Ref strong wanted target) kept = step_kept keep (Leaf (Ref strong wanted target)) kept
  kept_node keep (Text index) kept = step_kept keep (Leaf (Text index)) kept
  kept_node keep (Bytes bytes) kept = step_kept keep (Leaf (Bytes bytes)) kept
  kept_node keep (Group members) kept = step_kept keep Ends (kept_in keep members (step_kept keep (Opens false (count members)) kept))
  kept_node keep (Row items) kept = step_kept keep Ends (kept_in keep items (step_kept keep (Opens true (count items)) kept))

  pub kept_in : {A : Type 0} → Keeps A → Members → A → A
  kept_in keep End kept = kept
  kept_in keep (Here n rest) kept = kept_in keep rest (kept_node keep n kept)
  kept_in keep (Absent rest) kept = kept_in keep rest (step_kept keep LeftOut kept)

-- what is kept of a member
abbrev pub kept_member : {A : Type 0} → Keeps A → Option Node → A → A
kept_member keep None kept = step_kept keep LeftOut kept
kept_member keep (Some n) kept = kept_node keep n kept

-- what is kept behind a node, where so many groups and rows are open
abbrev kept_behind : {A : Type 0} → Keeps A → ℕ → List Met → A → A
kept_behind keep depth rest kept = where_open depth (kept_one keep depth rest kept) kept

mutual
  node_kept : {A : Type 0} (keep : Keeps A) (depth : ℕ) (n : Node) (rest : List Met) (kept : A) → kept_one keep depth (walk n ++ rest) kept ≡ kept_behind keep depth rest (kept_node keep n kept)
  node_kept keep depth (Num width little bits) rest kept = refl
  node_kept keep depth (Line bytes) rest kept = refl
  node_kept keep depth (Ref strong wanted target) rest kept = refl
  node_kept keep depth (Text index) rest kept = refl
  node_kept keep depth (Bytes bytes) rest kept = refl
  node_kept keep depth (Group members) rest kept =
      ap (λ m. kept_one keep (suc depth) m (step_kept keep (Opens false (count members)) kept)) (append_assoc (walk_in members) (Ends ∷ []) rest)
      ∙ members_kept keep depth members (Ends ∷ rest) (step_kept keep (Opens false (count members)) kept)
      ∙ ap (λ d. kept_behind keep d rest (kept_node keep (Group members) kept)) (lowered depth)
  node_kept keep depth (Row items) rest kept =
      ap (λ m. kept_one keep (suc depth) m (step_kept keep (Opens true (count items)) kept)) (append_assoc (walk_in items) (Ends ∷ []) rest)
      ∙ members_kept keep depth items (Ends ∷ rest) (step_kept keep (Opens true (count items)) kept)
      ∙ ap (λ d. kept_behind keep d rest (kept_node keep (Row items) kept)) (lowered depth)

  members_kept : {A : Type 0} (keep : Keeps A) (depth : ℕ) (members : Members) (rest : List Met) (kept : A)
      → kept_one keep (suc depth) (walk_in members ++ rest) kept ≡ kept_one keep (suc depth) rest (kept_in keep members kept)
  members_kept keep depth End rest kept = refl
  members_kept keep depth (Here n more) rest kept =
      ap (λ m. kept_one keep (suc depth) m kept) (append_assoc (walk n) (walk_in more) rest)
      ∙ node_kept keep (suc depth) n (walk_in more ++ rest) kept
      ∙ members_kept keep depth more rest (kept_node keep n kept)
  members_kept keep depth (Absent more) rest kept = members_kept keep depth more rest (step_kept keep LeftOut kept)

-- ---- members by their places

-- the members from a place on
abbrev pub from : ℕ → Members → Members
from zero members = members
from (suc k) End = End
from (suc k) (Here n rest) = from k rest
from (suc k) (Absent rest) = from k rest

abbrev pub with_member : Option Node → Members → Members
with_member None rest = Absent rest
with_member (Some n) rest = Here n rest

pub at_place : (k : ℕ) (members : Members) → k < count members → from k members ≡ with_member (member_at members k) (from (suc k) members)
at_place k End h = absurd (omega arith)
at_place zero (Here n rest) h = refl
at_place zero (Absent rest) h = refl
at_place (suc k) (Here n rest) h = at_place k rest (omega arith)
at_place (suc k) (Absent rest) h = at_place k rest (omega arith)

pub place_within : (members : Members) (k : ℕ) (n : Node) → member_at members k ≡ Some n → k < count members
place_within End k n e = absurd (cc)
place_within (Here m rest) zero n e = omega arith
place_within (Absent rest) zero n e = absurd (cc)
place_within (Here m rest) (suc k) n e = let h = place_within rest k n e in omega arith
place_within (Absent rest) (suc k) n e = let h = place_within rest k n e in omega arith

pub past_members : (members : Members) (k : ℕ) → count members ≤ k → member_at members k ≡ None
past_members End k h = refl
past_members (Here m rest) zero h = absurd (omega arith)
past_members (Absent rest) zero h = refl
past_members (Here m rest) (suc k) h = past_members rest k (omega arith)
past_members (Absent rest) (suc k) h = past_members rest k (omega arith)

pub one_behind : (got : Option Node) (more : Members) (rest : List Met) → behind_one 0 (walk_in (with_member got more) ++ rest) ≡ walk_in more ++ rest
one_behind None more rest = refl
one_behind (Some n) more rest = ap (behind_one 0) (append_assoc (walk n) (walk_in more) rest) ∙ node_behind 0 n (walk_in more ++ rest)

-- what is behind so many members
pub first_behind : (k : ℕ) (members : Members) (rest : List Met) → k ≤ count members → behind_first k (walk_in members ++ rest) ≡ walk_in (from k members) ++ rest
first_behind zero members rest h = refl
first_behind (suc k) members rest h =
    ap (behind_one 0) (first_behind k members rest (omega arith))
    ∙ ap (λ m. behind_one 0 (walk_in m ++ rest)) (at_place k members (omega arith))
    ∙ one_behind (member_at members k) (from (suc k) members) rest

one_kept : {A : Type 0} (keep : Keeps A) (got : Option Node) (more : Members) (rest : List Met) (kept : A) → kept_one keep 0 (walk_in (with_member got more) ++ rest) kept ≡ kept_member keep got kept
one_kept keep None more rest kept = refl
one_kept keep (Some n) more rest kept = ap (λ m. kept_one keep 0 m kept) (append_assoc (walk n) (walk_in more) rest) ∙ node_kept keep 0 n (walk_in more ++ rest) kept

-- what is kept of the member at a place
pub kept_at : {A : Type 0} (keep : Keeps A) (k : ℕ) (members : Members) (rest : List Met) (kept : A) → k < count members
    → kept_one keep 0 (behind_first k (walk_in members ++ rest)) kept ≡ kept_member keep (member_at members k) kept
kept_at keep k members rest kept h =
    ap (λ m. kept_one keep 0 m kept) (first_behind k members rest (omega arith))
    ∙ ap (λ m. kept_one keep 0 (walk_in m ++ rest) kept) (at_place k members h)
    ∙ one_kept keep (member_at members k) (from (suc k) members) rest kept
