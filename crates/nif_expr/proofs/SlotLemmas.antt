-- Slots that have the values of their paths give a tree the value that these pairs give it.
use Rattle.std.proofs.Common.{◌≡◌, ℕ, zero, suc, ◌<◌, ◌⊎◌, inl, inr, Bool, true, false, if◌then◌else◌, List, [], ◌∷◌, ◌++◌, length, map, refl, sym, ◌∙◌, ap, subst, arith, ⊎_elim, true≢false}
use Rattle.std.specs.Prelude.{reverse, slice_index, slice_index_or, drop, Contains, not}
use Rattle.std.proofs.lemmas.List.{reverse-append, map-append}
use Rattle.std.proofs.lemmas.List.Elements.{Contains-append_left, Contains-append_right}
use Rattle.nif_schema.specs.Expression.{Tree, Number, Arg, Path, Not, Two}
use Rattle.nif_schema.specs.Paths.{paths_of}
use Rattle.nif_expr.specs.Value.{Names, is_same, first_value, look, bound, bit, is_true, apply, value}
use Rattle.nif_expr.proofs.PlaceLemmas.{slot_after}
use lib.Pointwise.{pointwise_decides, bytes_decides}

abbrev pair_of : (Names → ℕ) → Names → Names × ℕ
pair_of of path = (path, of path)

bound_pairs : (of : Names → ℕ) (paths : List Names) (slots : List ℕ)
    → ((i : ℕ) → i < length paths → slice_index slots i ≡ of (slice_index_or paths i [])) → bound paths slots ≡ map (pair_of of) paths
bound_pairs of [] slots told = refl
bound_pairs of (path ∷ paths) slots told =
    let first : slice_index slots 0 ≡ of path = told 0 (omega arith) in
    let rest = bound_pairs of paths (drop 1 slots) (λ i lt. slot_after slots i ∙ told (suc i) (omega (arith, lt))) in
    ap (λ n. (path, n) ∷ bound paths (drop 1 slots)) first ∙ ap (λ pairs. (path, of path) ∷ pairs) rest

reverse_one : {X : Type 0} (x : X) (xs : List X) → reverse (x ∷ xs) ≡ reverse xs ++ x ∷ []
reverse_one x xs = reverse-append (x ∷ []) xs

pairs_reverse : (of : Names → ℕ) (paths : List Names) → reverse (map (pair_of of) paths) ≡ map (pair_of of) (reverse paths)
pairs_reverse of [] = refl
pairs_reverse of (path ∷ paths) =
    reverse_one (pair_of of path) (map (pair_of of) paths)
    ∙ ap (λ xs. xs ++ pair_of of path ∷ []) (pairs_reverse of paths)
    ∙ sym (map-append (pair_of of) (reverse paths) (path ∷ []))
    ∙ ap (λ xs. map (pair_of of) xs) (sym (reverse_one path paths))

here_or_later : (first : Names) (paths : List Names) (path : Names) → Contains (first ∷ paths) path → (first ≡ path) ⊎ Contains paths path
here_or_later first paths path (zero, lt, e) = inl e
here_or_later first paths path (suc k, lt, e) = inr (k, omega (arith, lt), e)

in_reverse : (paths : List Names) (path : Names) → Contains paths path → Contains (reverse paths) path
in_reverse [] path h = h
in_reverse (first ∷ paths) path h =
    subst (λ xs. Contains xs path) (sym (reverse_one first paths)) (⊎_elim
    (λ e. Contains-append_right (reverse paths) (first ∷ []) path (0, omega arith, e))
    (λ later. Contains-append_left (reverse paths) (first ∷ []) path (in_reverse paths path later)) (here_or_later first paths path h))

first_in : (of : Names → ℕ) (paths : List Names) (path : Names) → Contains paths path → first_value (map (pair_of of) paths) path ≡ of path
first_in of [] path h = absurd (omega (arith, h.1))
first_in of (first ∷ paths) path h = by (is_same first path) refl (here_or_later first paths path h) (λ later. first_in of paths path later)
  where
    by : (b : Bool) → is_same first path ≡ b → (first ≡ path) ⊎ Contains paths path
        → (Contains paths path → first_value (map (pair_of of) paths) path ≡ of path)
        → (if b then of first else first_value (map (pair_of of) paths) path) ≡ of path
    by true same h ih = ap of ((pointwise_decides bytes_decides first path).0 same)
    by false same (inl e) ih = absurd (true≢false (sym ((pointwise_decides bytes_decides first path).1 e) ∙ same))
    by false same (inr later) ih = ih later

look_in : (of : Names → ℕ) (paths : List Names) (path : Names) → Contains paths path → look (map (pair_of of) paths) path ≡ of path
look_in of paths path h = ap (λ xs. first_value xs path) (pairs_reverse of paths) ∙ first_in of (reverse paths) path (in_reverse paths path h)

same_value : (of : Names → ℕ) (arg : ℕ) (t : Tree) (paths others : List Names)
    → ((path : Names) → Contains (paths_of t) path → Contains paths path) → ((path : Names) → Contains (paths_of t) path → Contains others path)
    → value t (map (pair_of of) paths) arg ≡ value t (map (pair_of of) others) arg
same_value of arg (Number n) paths others one other = refl
same_value of arg Arg paths others one other = refl
same_value of arg (Path names) paths others one other =
    let here : Contains (names ∷ []) names = (0, omega arith, refl) in
    look_in of paths names (one names here) ∙ sym (look_in of others names (other names here))
same_value of arg (Not t) paths others one other = ap (λ n. bit (not (is_true n))) (same_value of arg t paths others one other)
same_value of arg (Two op left right) paths others one other =
    let a = same_value of arg left paths others (λ path h. one path (Contains-append_left (paths_of left) (paths_of right) path h))
    (λ path h. other path (Contains-append_left (paths_of left) (paths_of right) path h)) in
    let b = same_value of arg right paths others (λ path h. one path (Contains-append_right (paths_of left) (paths_of right) path h))
    (λ path h. other path (Contains-append_right (paths_of left) (paths_of right) path h)) in
    ap (λ n. apply op n (value right (map (pair_of of) paths) arg)) a ∙ ap (λ n. apply op (value left (map (pair_of of) others) arg) n) b

pub value_by_slots : (t : Tree) (of : Names → ℕ) (paths : List Names) (slots : List ℕ) (arg : ℕ)
    → ((i : ℕ) → i < length paths → slice_index slots i ≡ of (slice_index_or paths i []))
    → ((path : Names) → Contains (paths_of t) path → Contains paths path)
    → value t (bound paths slots) arg ≡ value t (map (pair_of of) (paths_of t)) arg
value_by_slots t of paths slots arg told have =
    ap (λ pairs. value t pairs arg) (bound_pairs of paths slots told) ∙ same_value of arg t paths (paths_of t) have (λ path h. h)
