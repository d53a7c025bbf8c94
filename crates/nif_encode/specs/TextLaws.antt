-- What is put of a walk spells the tree, or the member.
use Rattle.std.proofs.Common.{ℕ, zero, suc, ◌-◌, ◌<◌, ◌≡◌, true, false, List, [], ◌∷◌, ◌++◌, Some, refl, sym, ◌∙◌, ap, arith, append_assoc, append-nil}
use Rattle.std.specs.Option.{option_map}
use Rattle.nif_base.specs.Node.{Node, Members, Num, Line, Ref, Text, Bytes, Group, Row, End, Here, Absent}
use Rattle.nif_encode.specs.declared.steps.Targets.{Targets}
use Rattle.nif_cells.specs.Walks.{Met, Leaf, Opens, LeftOut, Ends, count, walk, walk_in}
use Rattle.nif_cells.specs.declared.steps.Step.{Step}
use Rattle.nif_value.specs.Walking.{step_of, bytes_met, walked, next_step}
use Rattle.nif_encode.specs.Texts.{HasGiven, where_open, spelled, spelled_in, one_text, behind_one, behind_many, text_at, first_met, met_at}

-- the bytes behind those of a node, where so many groups and rows are open
abbrev pub after : Targets → ℕ → List Met → List ℕ
after to depth rest = where_open depth (one_text to depth rest) []

abbrev pub behind : ℕ → List Met → List Met
behind depth rest = where_open depth (behind_one depth rest) rest

pub lowered : (depth : ℕ) → suc depth - 1 ≡ depth
lowered depth = omega arith

mutual
  node_text : (to : Targets) (depth : ℕ) (n : Node) (rest : List Met)
      → one_text to depth (walk n ++ rest) ≡ spelled to n ++ after to depth rest
  node_text to depth (Num width little bits) rest = refl
  node_text to depth (Line bytes) rest = refl
  node_text to depth (Ref strong wanted target) rest = refl
  node_text to depth (Text index) rest = refl
  node_text to depth (Bytes bytes) rest = refl
  node_text to depth (Group members) rest =
      ap (λ m. one_text to (suc depth) m) (append_assoc (walk_in members) (Ends ∷ []) rest)
      ∙ members_text to depth members (Ends ∷ rest)
      ∙ ap (λ d. spelled_in to members ++ after to d rest) (lowered depth)
  node_text to depth (Row items) rest =
      ap (λ m. one_text to (suc depth) m) (append_assoc (walk_in items) (Ends ∷ []) rest)
      ∙ members_text to depth items (Ends ∷ rest)
      ∙ ap (λ d. spelled_in to items ++ after to d rest) (lowered depth)

  members_text : (to : Targets) (depth : ℕ) (members : Members) (rest : List Met)
      → one_text to (suc depth) (walk_in members ++ rest) ≡ spelled_in to members ++ one_text to (suc depth) rest
  members_text to depth End rest = refl
  members_text to depth (Here n more) rest =
      ap (λ m. one_text to (suc depth) m) (append_assoc (walk n) (walk_in more) rest)
      ∙ node_text to (suc depth) n (walk_in more ++ rest)
      ∙ ap (λ l. spelled to n ++ l) (members_text to depth more rest)
      ∙ sym (append_assoc (spelled to n) (spelled_in to more) (one_text to (suc depth) rest))
  members_text to depth (Absent more) rest = members_text to depth more rest

mutual
  pub node_behind : (depth : ℕ) (n : Node) (rest : List Met) → behind_one depth (walk n ++ rest) ≡ behind depth rest
  node_behind depth (Num width little bits) rest = refl
  node_behind depth (Line bytes) rest = refl
  node_behind depth (Ref strong wanted target) rest = refl
  node_behind depth (Text index) rest = refl
  node_behind depth (Bytes bytes) rest = refl
  node_behind depth (Group members) rest =
      ap (λ m. behind_one (suc depth) m) (append_assoc (walk_in members) (Ends ∷ []) rest)
      ∙ members_behind depth members (Ends ∷ rest) ∙ ap (λ d. behind d rest) (lowered depth)
  node_behind depth (Row items) rest =
      ap (λ m. behind_one (suc depth) m) (append_assoc (walk_in items) (Ends ∷ []) rest)
      ∙ members_behind depth items (Ends ∷ rest) ∙ ap (λ d. behind d rest) (lowered depth)

  pub members_behind : (depth : ℕ) (members : Members) (rest : List Met)
      → behind_one (suc depth) (walk_in members ++ rest) ≡ behind_one (suc depth) rest
  members_behind depth End rest = refl
  members_behind depth (Here n more) rest =
      ap (λ m. behind_one (suc depth) m) (append_assoc (walk n) (walk_in more) rest)
      ∙ node_behind (suc depth) n (walk_in more ++ rest) ∙ members_behind depth more rest
  members_behind depth (Absent more) rest = members_behind depth more rest

-- what is put of a tree
pub tree_text : (to : Targets) (n : Node) → one_text to 0 (walk n) ≡ spelled to n
tree_text to n =
    ap (λ m. one_text to 0 m) (sym (append-nil (walk n))) ∙ node_text to 0 n [] ∙ append-nil (spelled to n)

-- what is put of a member
pub members_at : (to : Targets) (k : ℕ) (members : Members) (rest : List Met) → k < count members
    → one_text to 0 (behind_many k (walk_in members ++ rest)) ≡ text_at to k members
members_at to k End rest h = absurd (omega arith)
members_at to zero (Here n more) rest h =
    ap (λ m. one_text to 0 m) (append_assoc (walk n) (walk_in more) rest)
    ∙ node_text to 0 n (walk_in more ++ rest) ∙ append-nil (spelled to n)
members_at to zero (Absent more) rest h = refl
members_at to (suc k) (Here n more) rest h =
    ap (λ m. one_text to 0 (behind_many k m)) (ap (λ m. behind_one 0 m) (append_assoc (walk n) (walk_in more) rest)
    ∙ node_behind 0 n (walk_in more ++ rest))
    ∙ members_at to k more rest (omega (arith, h))
members_at to (suc k) (Absent more) rest h = members_at to k more rest (omega (arith, h))

-- what a walk gives has its bytes
pub has_given : (met : Met) → HasGiven (step_of met) (bytes_met met)
has_given (Leaf (Num width little bits)) = tt
has_given (Leaf (Line bytes)) = refl
has_given (Leaf (Ref strong wanted target)) = tt
has_given (Leaf (Text index)) = tt
has_given (Leaf (Bytes bytes)) = refl
has_given (Leaf (Group members)) = tt
has_given (Leaf (Row items)) = tt
has_given (Opens false count) = tt
has_given (Opens true count) = tt
has_given LeftOut = tt
has_given Ends = tt

-- what is met where there is a step
pub record Meets (ahead : List Met) (given_step : Step) : Type 0 where
  pub met : Met
  pub rest : List Met
  pub is : ahead ≡ met ∷ rest
  pub step : given_step ≡ step_of met

pub meets : (ahead : List Met) (given_step : Step) → Some given_step ≡ next_step ahead → Meets ahead given_step
meets [] given_step e = absurd (cc)
meets (met ∷ rest) given_step e = record { met = met; rest = rest; is = refl; step = cc }

-- passing one more at the end is passing it first
pub many_more : (k : ℕ) (ahead : List Met) → behind_one 0 (behind_many k ahead) ≡ behind_many (suc k) ahead
many_more zero ahead = refl
many_more (suc k) ahead = many_more k (behind_one 0 ahead)

-- the member at a place, behind those before it
pub member_ahead : (to : Targets) (k : ℕ) (members : Members) → k < count members
    → one_text to 0 (behind_many k (walked (walk (Group members))).ahead) ≡ text_at to k members
member_ahead to k members h = members_at to k members (Ends ∷ []) h

first_behind : (n : Node) (rest : List Met) → next_step (walk n ++ rest) ≡ Some (step_of (first_met n))
first_behind (Num width little bits) rest = refl
first_behind (Line bytes) rest = refl
first_behind (Ref strong wanted target) rest = refl
first_behind (Text index) rest = refl
first_behind (Bytes bytes) rest = refl
first_behind (Group members) rest = refl
first_behind (Row items) rest = refl

met_behind : (k : ℕ) (members : Members) (rest : List Met) → k < count members
    → next_step (behind_many k (walk_in members ++ rest)) ≡ option_map step_of (met_at k members)
met_behind k End rest h = absurd (omega arith)
met_behind zero (Here n more) rest h =
    ap next_step (append_assoc (walk n) (walk_in more) rest) ∙ first_behind n (walk_in more ++ rest)
met_behind zero (Absent more) rest h = refl
met_behind (suc k) (Here n more) rest h =
    ap (λ m. next_step (behind_many k m)) (ap (λ m. behind_one 0 m) (append_assoc (walk n) (walk_in more) rest)
    ∙ node_behind 0 n (walk_in more ++ rest))
    ∙ met_behind k more rest (omega (arith, h))
met_behind (suc k) (Absent more) rest h = met_behind k more rest (omega (arith, h))

-- and what is met first of it
pub step_ahead : (k : ℕ) (members : Members) → k < count members
    → next_step (behind_many k (walked (walk (Group members))).ahead) ≡ option_map step_of (met_at k members)
step_ahead k members h = met_behind k members (Ends ∷ []) h
