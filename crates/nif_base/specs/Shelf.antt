-- Files by their names, and what opening, creating and writing do to them.
use Rattle.std.specs.Prelude.{◌≡◌, ℕ, List, [], ◌++◌, None, Some, refl, IsSome, IfSome, MatchResult}
use Rattle.std.specs.declared.result.Result.{Result}
use Rattle.std.proofs.Common.{sym, ◌∙◌, ap, append-nil, append_assoc, cond, Bool, true, false}
use Rattle.std.specs.declared.option.Option.{Option}
use Rattle.std.specs.Option.{option_map_or}
use Rattle.std.specs.Ordering.{nat_cmp, eq_by_cmp, is_eq}
use Rattle.std.specs.Cmp.{eq_by_cmp_equiv}
use Rattle.std.specs.declared.cmp.Ordering.{Ordering}
use Rattle.std.specs.declared.cmp.Ordering.TheVariants.{Less, Equal, Greater}
use Rattle.std.specs.Cmp.Lexicographic.{slice_cmp, nat_list_cmp_total}
use Rattle.std.specs.FinMap.{FinMap, get, insert, get-insert, same_map, slice_cmp-IsAntisymmetric, nat_cmp-IsAntisymmetric}
use Rattle.nif_base.specs.declared.shelves.Kind.{Kind}

-- names in order, byte by byte
abbrev pub name_cmp : List ℕ → List ℕ → Ordering
name_cmp = slice_cmp nat_cmp

-- the bytes of each file, by its name
abbrev pub Files : Type 0
Files = FinMap name_cmp (List ℕ)

-- the files of a shelf, and the names of the current input and of the current output
pub record Desk : Type 0 where
  pub files : Files
  pub input : Option (List ℕ)
  pub output : Option (List ℕ)

-- which open or create failed
pub record Refusal : Type 0 where
  pub kind : Kind
  pub name : List ℕ

-- a file that is there grows by bs
unfoldable pub grown : Files → List ℕ → List ℕ → Files
grown files name bs = option_map_or (λ old. insert files name (old ++ bs)) (get files name) files

-- the files after a write of bs to the current output
unfoldable pub files_written : Files → Option (List ℕ) → List ℕ → Files
files_written files None bs = files
files_written files (Some name) bs = grown files name bs

-- after a write of bs
abbrev pub written : List ℕ → Desk → Desk
written bs desk = record desk { files = files_written desk.files desk.output bs }

-- after this input was opened
abbrev pub opened : List ℕ → Desk → Desk
opened name desk = record desk { input = Some name }

-- after this output was created
abbrev pub created : List ℕ → Desk → Desk
created name desk = record { files = insert desk.files name []; input = None; output = Some name }

-- after a file was put there
abbrev pub put : List ℕ → List ℕ → Desk → Desk
put name bytes desk = record desk { files = insert desk.files name bytes }

-- the file of this name is there, and its bytes are those to come
pub record Opens (name : List ℕ) (left : Option (List ℕ)) (desk : Desk) : Type 0 where
  pub there : IsSome (get desk.files name)
  pub bytes : left ≡ get desk.files name

-- where the call failed it is the last refusal, if one is told; else that stays
abbrev pub Refuses : {T E : Type 0} → Kind → List ℕ → Option Refusal → Option Refusal → Result T E → Type 0
Refuses kind name old new result =
    MatchResult result (λ _. new ≡ old) (λ _. IfSome new (λ r. (r.kind ≡ kind) × (r.name ≡ name)))

-- ---- laws

pub names_alike : (m n : Files) → ((q : List ℕ) → get m q ≡ get n q) → m ≡ n
names_alike m n h = same_map nat_list_cmp_total (slice_cmp-IsAntisymmetric nat_cmp-IsAntisymmetric) m n h

pub get-put : (m : Files) (k v q : List ℕ) → get (insert m k v) q ≡ cond (eq_by_cmp name_cmp q k) (Some v) (get m q)
get-put m k v q = get-insert nat_list_cmp_total m k v q

cond_twice : {A : Type 0} (b : Bool) (x y z : A) → cond b x (cond b y z) ≡ cond b x z
cond_twice true x y z = refl
cond_twice false x y z = refl

-- the later of two writes of one file counts
pub insert_twice : (m : Files) (k v w : List ℕ) → insert (insert m k v) k w ≡ insert m k w
insert_twice m k v w = names_alike _ _ (λ q. get-put (insert m k v) k w q
    ∙ ap (cond (eq_by_cmp name_cmp q k) (Some w)) (get-put m k v q)
    ∙ cond_twice (eq_by_cmp name_cmp q k) (Some w) (Some v) (get m q) ∙ sym (get-put m k w q))

equal_of : (r : Ordering) → is_eq r ≡ true → r ≡ Equal
equal_of Less e = cc
equal_of Equal e = refl
equal_of Greater e = cc

-- names that compare alike are one
pub one_name : (p q : List ℕ) → eq_by_cmp name_cmp p q ≡ true → p ≡ q
one_name p q e = slice_cmp-IsAntisymmetric nat_cmp-IsAntisymmetric p q (equal_of _ e)

pub itself : (k : List ℕ) → eq_by_cmp name_cmp k k ≡ true
itself k = (eq_by_cmp_equiv nat_list_cmp_total).refl k

pub get-put_same : (m : Files) (k v : List ℕ) → get (insert m k v) k ≡ Some v
get-put_same m k v = get-put m k v k ∙ ap (λ b. cond b (Some v) (get m k)) (itself k)

-- to write what a file has changes nothing
pub insert_same : (m : Files) (k v : List ℕ) → get m k ≡ Some v → insert m k v ≡ m
insert_same m k v is = names_alike _ _ (λ q. get-put m k v q ∙
    elim (eq_by_cmp name_cmp q k) as (λ b. eq_by_cmp name_cmp q k ≡ b → cond b (Some v) (get m q) ≡ get m q) [
      | true ↦ λ e. sym is ∙ ap (get m) (sym (one_name q k e))
      | false ↦ λ e. refl
    ] refl)

grown_at : (m : Files) (k bs : List ℕ) (o : Option (List ℕ)) → get m k ≡ o
    → grown m k bs ≡ option_map_or (λ old. insert m k (old ++ bs)) o m
unfolding grown
grown_at m k bs o e = ap (λ o. option_map_or (λ old. insert m k (old ++ bs)) o m) e

grown_none : (m : Files) (k : List ℕ) (o : Option (List ℕ)) → get m k ≡ o → grown m k [] ≡ m
grown_none m k None e = grown_at m k [] None e
grown_none m k (Some old) e = grown_at m k [] (Some old) e ∙ ap (insert m k) (append-nil old) ∙ insert_same m k old e

grown_joined : (m : Files) (k x y : List ℕ) (o : Option (List ℕ)) → get m k ≡ o
    → grown (grown m k x) k y ≡ grown m k (x ++ y)
grown_joined m k x y None e =
    ap (λ n. grown n k y) (grown_at m k x None e) ∙ grown_at m k y None e ∙ sym (grown_at m k (x ++ y) None e)
grown_joined m k x y (Some old) e =
    ap (λ n. grown n k y) (grown_at m k x (Some old) e)
    ∙ grown_at (insert m k (old ++ x)) k y (Some (old ++ x)) (get-put_same m k (old ++ x))
    ∙ insert_twice m k (old ++ x) ((old ++ x) ++ y)
    ∙ ap (insert m k) (append_assoc old x y)
    ∙ sym (grown_at m k (x ++ y) (Some old) e)

pub files_written-nil : (m : Files) (output : Option (List ℕ)) → files_written m output [] ≡ m
unfolding files_written
files_written-nil m None = refl
files_written-nil m (Some k) = grown_none m k _ refl

pub files_written-joined : (m : Files) (output : Option (List ℕ)) (x y : List ℕ)
    → files_written (files_written m output x) output y ≡ files_written m output (x ++ y)
unfolding files_written
files_written-joined m None x y = refl
files_written-joined m (Some k) x y = grown_joined m k x y _ refl

-- a file that was created and written
pub files_written-created : (m : Files) (k bs : List ℕ) → files_written (insert m k []) (Some k) bs ≡ insert m k bs
unfolding files_written
files_written-created m k bs = grown_at (insert m k []) k bs (Some []) (get-put_same m k []) ∙ insert_twice m k [] bs

-- more bytes for the file that is the output
pub written_more : (m : Files) (k old bs : List ℕ) → files_written (insert m k old) (Some k) bs ≡ insert m k (old ++ bs)
unfolding files_written
written_more m k old bs =
    grown_at (insert m k old) k bs (Some old) (get-put_same m k old) ∙ insert_twice m k old (old ++ bs)

pub written_nowhere : (m : Files) (bs : List ℕ) → files_written m None bs ≡ m
unfolding files_written
written_nowhere m bs = refl

-- two files of different names, in either order
pub insert_swap : (m : Files) (k v l w : List ℕ) → eq_by_cmp name_cmp k l ≡ false
    → insert (insert m k v) l w ≡ insert (insert m l w) k v
insert_swap m k v l w d = names_alike _ _ (λ q.
    get-put (insert m k v) l w q ∙ ap (cond (eq_by_cmp name_cmp q l) (Some w)) (get-put m k v q)
    ∙ elim (eq_by_cmp name_cmp q k) as (λ b. eq_by_cmp name_cmp q k ≡ b
    → cond (eq_by_cmp name_cmp q l) (Some w) (cond b (Some v) (get m q))
    ≡ cond b (Some v) (cond (eq_by_cmp name_cmp q l) (Some w) (get m q))) [
      | true ↦ λ e. ap (λ b. cond b (Some w) (Some v)) (ap (λ p. eq_by_cmp name_cmp p l) (one_name q k e) ∙ d)
      | false ↦ λ e. refl
    ] refl
    ∙ ap (cond (eq_by_cmp name_cmp q k) (Some v)) (sym (get-put m l w q)) ∙ sym (get-put (insert m l w) k v q))

-- desks of the same files and output
pub desk_with : {m n : Files} {p q : Option (List ℕ)} (input : Option (List ℕ)) → m ≡ n → p ≡ q
    → ◌≡◌ {A = Option Desk} (Some (record { files = m; input = input; output = p }))
    (Some (record { files = n; input = input; output = q }))
desk_with input e f = λ i. Some (record { files = e i; input = input; output = f i })
