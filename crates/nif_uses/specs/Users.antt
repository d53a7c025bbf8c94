-- Uses of declarations in the order in which they were met, each linked to the one before it of the same used
-- declaration. Nothing of this is seen from outside.
use Rattle.std.specs.Prelude.{ℕ, zero, suc, ◌≡◌, ◌≢◌, ◌<◌, ◌⊎◌, Bool, true, false, List, [], ◌∷◌, ◌++◌, length, map, set, Contains, All, Some, None, slice_get}
use Rattle.std.specs.declared.option.Option.{Option}
use Rattle.nif_schema.specs.Schema.{Schema}
use Rattle.nif_schema.specs.Uses.{uses}
use Rattle.nif_uses.specs.Marks.{IsMarked, ReachesMarked}
use Rattle.nif_uses.specs.declared.users.Link.{Link}

-- A use: the number of what is used, and that of its user.
abbrev pub Use : Type 0
Use = ℕ × ℕ

abbrev pub pairs : List Link → List Use
pairs links = map (λ l. (l.used, l.user)) links

abbrev pub uses_by : ℕ → List ℕ → List Use
uses_by user numbers = map (λ used. (used, user)) numbers

-- the uses of the declarations below a number
abbrev pub uses_below : Schema → ℕ → List Use
uses_below schema zero = []
uses_below schema (suc number) = uses_below schema number ++ uses_by number (uses schema number)

-- Among the first links, so many, this is the last one of a declaration that is used.
abbrev pub IsLatest : List Link → ℕ → ℕ → Option ℕ → Type 0
IsLatest links used count None = (k : ℕ) (l : Link) → k < count → slice_get links k ≡ Some l → l.used ≢ used
IsLatest links used count (Some at) =
    (at < count)
    × ((l : Link) → slice_get links at ≡ Some l → l.used ≡ used)
    × ((k : ℕ) (l : Link) → at < k → k < count → slice_get links k ≡ Some l → l.used ≢ used)

-- Each link names the one before it of its declaration, and the last one of each declaration is known.
pub record IsLinked (latest : List (Option ℕ)) (links : List Link) : Type 0 where
  pub before : (k : ℕ) (l : Link) → slice_get links k ≡ Some l → IsLatest links l.used k l.before
  pub last : (used : ℕ) (at : Option ℕ) → slice_get latest used ≡ Some at → IsLatest links used (length links) at

-- What marking one declaration changes: where it wasn't marked before it is now, and waits.
pub data IsMarking (number : ℕ) (marks : List Bool) (waiting : List ℕ) (marked : List Bool)
    (queue : List ℕ) : Type 0 where
  Again : IsMarked marks number → marked ≡ marks → queue ≡ waiting → IsMarking number marks waiting marked queue
  Anew : slice_get marks number ≡ Some false → marked ≡ set marks number true → queue ≡ waiting ++ number ∷ []
      → IsMarking number marks waiting marked queue

-- What marking the users of a declaration changes: they are marked, and those that were not marked before wait.
pub record AreUsersMarked (links : List Link) (used : ℕ) (marks : List Bool) (waiting : List ℕ) (marked : List Bool)
    (queue : List ℕ) : Type 0 where
  pub kept : (k : ℕ) → IsMarked marks k → IsMarked marked k
  pub users : (k : ℕ) → Contains (pairs links) (used, k) → IsMarked marked k
  pub sound : (k : ℕ) → IsMarked marked k → IsMarked marks k ⊎ Contains (pairs links) (used, k)
  pub queued : (k : ℕ) → IsMarked marked k → IsMarked marks k ⊎ Contains queue k
  pub still : (k : ℕ) → Contains waiting k → Contains queue k
  pub waits : All (IsMarked marks) waiting → All (IsMarked marked) queue

-- Where the spread stands: what is marked reaches a mark, and the users of what is marked are marked, or it waits.
pub record IsSpreading (schema : Schema) (from : List Bool) (marks : List Bool) (waiting : List ℕ) : Type 0 where
  pub count : length marks ≡ length schema
  pub waits : All (IsMarked marks) waiting
  pub sound : (k : ℕ) → IsMarked marks k → ReachesMarked schema from k
  pub begun : (k : ℕ) → IsMarked from k → IsMarked marks k
  pub closed : (k : ℕ) → IsMarked marks k
      → Contains waiting k ⊎ ((user : ℕ) → Contains (uses schema user) k → IsMarked marks user)
