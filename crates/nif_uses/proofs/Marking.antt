-- Marking the users of a declaration.
use Rattle.std.proofs.Common.{◌≡◌, ℕ, zero, suc, ◌+◌, ◌≤◌, ◌⊎◌, Bool, true, false, List, [], ◌∷◌, ◌++◌, length, set, Option, Some, None, slice_get, All, Contains, inl, inr, sym, ap, subst, ◌∙◌, ⊎_elim, arith}
use Rattle.std.proofs.lemmas.List.{length-append}
use Rattle.std.proofs.lemmas.List.Elements.{Contains-append_left, Contains-push, All-push, All-weaker}
use Rattle.std.proofs.lemmas.Bool.{cases_lt, cases_eq}
use Rattle.std.proofs.lemmas.Option.{slice_get_within}
use Rattle.nif_uses.specs.declared.users.Link.{Link}
use Rattle.nif_uses.specs.Marks.{IsMarked, unmarked}
use Rattle.nif_uses.specs.Users.{Use, pairs, IsLatest, IsLinked, IsMarking, Again, Anew, AreUsersMarked}
use Rattle.nif_uses.proofs.Lists.{get-set_same, get-set_other, contains, contains-map, contained-map, place_of}

-- ---- one mark

pub unmarked-set : (marks : List Bool) (k : ℕ) → slice_get marks k ≡ Some false → unmarked (set marks k true) + 1 ≡ unmarked marks
unmarked-set [] k e = absurd (cc)
unmarked-set (false ∷ marks) zero e = omega arith
unmarked-set (true ∷ marks) zero e = absurd (cc)
unmarked-set (true ∷ marks) (suc k) e = unmarked-set marks k e
unmarked-set (false ∷ marks) (suc k) e = let h = unmarked-set marks k e in omega arith

pub kept_by : (n : ℕ) (marks : List Bool) (waiting : List ℕ) (marked : List Bool) (queue : List ℕ) → IsMarking n marks waiting marked queue
    → (k : ℕ) → IsMarked marks k → IsMarked marked k
kept_by n marks waiting marked queue (Again is same still) k e = subst (λ (ms : List Bool). IsMarked ms k) (sym same) e
kept_by n marks waiting marked queue (Anew was same more) k e = subst (λ (ms : List Bool). IsMarked ms k) (sym same) (elim (cases_eq k n) [
  | inl is ↦ absurd (differ (subst (λ (j : ℕ). IsMarked marks j) is e) was)
  | inr other ↦ get-set_other marks n k true other ∙ e
])
  where
    differ : {o : Option Bool} → o ≡ Some true → o ≡ Some false → ⊥
    differ p q = absurd (cc)

pub marked_by : (n : ℕ) (marks : List Bool) (waiting : List ℕ) (marked : List Bool) (queue : List ℕ) → IsMarking n marks waiting marked queue → IsMarked marked n
marked_by n marks waiting marked queue (Again is same still) = subst (λ (ms : List Bool). IsMarked ms n) (sym same) is
marked_by n marks waiting marked queue (Anew was same more) = subst (λ (ms : List Bool). IsMarked ms n) (sym same) (get-set_same marks n true (slice_get_within marks n false was))

-- nothing else is marked, and it waits where it wasn't marked before
pub only_by : (n : ℕ) (marks : List Bool) (waiting : List ℕ) (marked : List Bool) (queue : List ℕ) → IsMarking n marks waiting marked queue
    → (k : ℕ) → IsMarked marked k → IsMarked marks k ⊎ ((k ≡ n) × Contains queue k)
only_by n marks waiting marked queue (Again is same still) k e = inl (subst (λ (ms : List Bool). IsMarked ms k) same e)
only_by n marks waiting marked queue (Anew was same more) k e = elim (cases_eq k n) [
  | inl is ↦ inr (is, subst (λ (q : List ℕ). Contains q k) (sym more) (subst (λ (j : ℕ). Contains (waiting ++ n ∷ []) j) (sym is) (Contains-push waiting n)))
  | inr other ↦ inl (sym (get-set_other marks n k true other) ∙ subst (λ (ms : List Bool). IsMarked ms k) same e)
]

pub still_by : (n : ℕ) (marks : List Bool) (waiting : List ℕ) (marked : List Bool) (queue : List ℕ) → IsMarking n marks waiting marked queue
    → (k : ℕ) → Contains waiting k → Contains queue k
still_by n marks waiting marked queue (Again is same still) k c = subst (λ (q : List ℕ). Contains q k) (sym still) c
still_by n marks waiting marked queue (Anew was same more) k c = subst (λ (q : List ℕ). Contains q k) (sym more) (Contains-append_left waiting (n ∷ []) k c)

pub waits_by : (n : ℕ) (marks : List Bool) (waiting : List ℕ) (marked : List Bool) (queue : List ℕ) → (m : IsMarking n marks waiting marked queue)
    → All (IsMarked marks) waiting → All (IsMarked marked) queue
waits_by n marks waiting marked queue (Again is same still) all = subst (λ (q : List ℕ). All (IsMarked marked) q) (sym still) (subst (λ (ms : List Bool). All (IsMarked ms) waiting) (sym same) all)
waits_by n marks waiting marked queue (Anew was same more) all =
    let it : IsMarking n marks waiting marked queue = Anew was same more in
    let old = All-weaker (IsMarked marks) (IsMarked marked) (kept_by n marks waiting marked queue it) waiting all in
    subst (λ (q : List ℕ). All (IsMarked marked) q) (sym more) (All-push (IsMarked marked) waiting n old (marked_by n marks waiting marked queue it))

pub fewer_by : (n : ℕ) (marks : List Bool) (waiting : List ℕ) (marked : List Bool) (queue : List ℕ) → IsMarking n marks waiting marked queue
    → unmarked marked + length queue ≡ unmarked marks + length waiting
fewer_by n marks waiting marked queue (Again is same still) = ap (λ (ms : List Bool). unmarked ms + length queue) same ∙ ap (λ (q : List ℕ). unmarked marks + length q) still
fewer_by n marks waiting marked queue (Anew was same more) =
    let less = unmarked-set marks n was in
    let a : unmarked marked ≡ unmarked (set marks n true) = ap unmarked same in
    let b : length queue ≡ length waiting + 1 = ap length more ∙ length-append waiting (n ∷ []) in
    omega arith

-- ---- the users of a declaration, from its last link on

-- so far: the users from a place on are marked, and this is the last link before it
pub record AreMarking (links : List Link) (used : ℕ) (at : Option ℕ) (marks : List Bool) (waiting : List ℕ) (marked : List Bool) (queue : List ℕ) : Type 0 where
  pub from : ℕ
  pub latest : IsLatest links used from at
  pub within : from ≤ length links
  pub done : (k : ℕ) (l : Link) → from ≤ k → slice_get links k ≡ Some l → l.used ≡ used → IsMarked marked l.user
  pub kept : (k : ℕ) → IsMarked marks k → IsMarked marked k
  pub sound : (k : ℕ) → IsMarked marked k → IsMarked marks k ⊎ Contains (pairs links) (used, k)
  pub queued : (k : ℕ) → IsMarked marked k → IsMarked marks k ⊎ Contains queue k
  pub still : (k : ℕ) → Contains waiting k → Contains queue k
  pub waits : All (IsMarked marks) waiting → All (IsMarked marked) queue

pub marking-begin : (latest : List (Option ℕ)) (links : List Link) (used : ℕ) (at : Option ℕ) (marks : List Bool) (waiting : List ℕ) → IsLinked latest links
    → slice_get latest used ≡ Some at → AreMarking links used at marks waiting marks waiting
marking-begin latest links used at marks waiting is here = record {
  from = length links;
  latest = is.last used at here;
  within = omega arith;
  done = λ k l past e same. let lt = slice_get_within links k l e in absurd (omega arith);
  kept = λ k e. e;
  sound = λ k e. inl e;
  queued = λ k e. inl e;
  still = λ k c. c;
  waits = λ all. all;
}

pub marking-next : (latest : List (Option ℕ)) (links : List Link) (used place : ℕ) (l : Link) (marks : List Bool) (waiting : List ℕ) (ms : List Bool) (q : List ℕ) (marked : List Bool) (queue : List ℕ)
    → IsLinked latest links → slice_get links place ≡ Some l → AreMarking links used (Some place) marks waiting ms q → IsMarking l.user ms q marked queue
    → AreMarking links used l.before marks waiting marked queue
marking-next latest links used place l marks waiting ms q marked queue is here so m = record {
  from = place;
  latest = subst (λ (u : ℕ). IsLatest links u place l.before) its (is.before place l here);
  within = let lt = slice_get_within links place l here in omega arith;
  done = done;
  kept = λ k e. kept_by l.user ms q marked queue m k (so.kept k e);
  sound = λ k e. elim (only_by l.user ms q marked queue m k e) [
    | inl old ↦ so.sound k old
    | inr new ↦
        let it : Contains (pairs links) (l.used, l.user) = contains-map (λ (x : Link). let p : Use = (x.used, x.user) in p) links l (contains links place l here) in
        let u : l.user ≡ k = sym (new.0) in
        inr (subst (λ (n : ℕ). Contains (pairs links) (n, k)) its (subst (λ (n : ℕ). Contains (pairs links) (l.used, n)) u it))
  ];
  queued = λ k e. elim (only_by l.user ms q marked queue m k e) [
    | inl old ↦ ⊎_elim (λ w. inl w) (λ c. inr (still_by l.user ms q marked queue m k c)) (so.queued k old)
    | inr new ↦ inr (new.1)
  ];
  still = λ k c. still_by l.user ms q marked queue m k (so.still k c);
  waits = λ all. waits_by l.user ms q marked queue m (so.waits all);
}
  where
    its : l.used ≡ used
    its = so.latest.1 l here

    done : (k : ℕ) (x : Link) → place ≤ k → slice_get links k ≡ Some x → x.used ≡ used → IsMarked marked x.user
    done k x past e same = elim (cases_eq k place) [
      | inl at ↦
          let there : slice_get links place ≡ Some x = ap (slice_get links) (sym at) ∙ e in
          let one : l ≡ x = cc in
          subst (λ (y : Link). IsMarked marked y.user) one (marked_by l.user ms q marked queue m)
      | inr other ↦ elim (cases_lt k so.from) [
        | inl before ↦ absurd (so.latest.2 k x (omega arith) before e same)
        | inr behind ↦ kept_by l.user ms q marked queue m x.user (so.done k x behind e same)
      ]
    ]

pub marking-end : (links : List Link) (used : ℕ) (marks : List Bool) (waiting : List ℕ) (marked : List Bool) (queue : List ℕ)
    → AreMarking links used None marks waiting marked queue → AreUsersMarked links used marks waiting marked queue
marking-end links used marks waiting marked queue so = record {
  kept = so.kept;
  users = users;
  sound = so.sound;
  queued = so.queued;
  still = so.still;
  waits = so.waits;
}
  where
    users : (k : ℕ) → Contains (pairs links) (used, k) → IsMarked marked k
    users k c =
        let m = contained-map (λ (x : Link). let p : Use = (x.used, x.user) in p) links (used, k) c in
        let l = m.0 in
        let its : l.used ≡ used = ap (λ (p : Use). p.0) m.2 in
        let user : l.user ≡ k = ap (λ (p : Use). p.1) m.2 in
        let at = place_of links l m.1 in
        subst (λ (n : ℕ). IsMarked marked n) user (elim (cases_lt at.0 so.from) [
          | inl before ↦ absurd (so.latest at.0 l before at.1 its)
          | inr behind ↦ so.done at.0 l behind at.1 its
        ])
