-- Words that stand behind others.
use Rattle.std.proofs.Common.{◌≡◌, ℕ, ◌+◌, ◌-◌, ◌^◌, ◌<◌, ◌≤◌, List, [], ◌∷◌, ◌++◌, length, take, drop, refl, sym, ◌∙◌, ap, subst, arith, append_assoc, length-append}
use Rattle.std.proofs.lemmas.List.{take_at, drop_at}
use Rattle.std.specs.Prelude.{Result, Ok, Err, IfOk, OnOk}
use Rattle.nif_expr.specs.declared.codes.CodeWord.{CodeWord}
use Rattle.nif_expr.specs.declared.codes.CodeWord.TheVariants as word
use Rattle.nif_schema.specs.declared.exprs.Op.{Op}
use Rattle.nif_schema.specs.Expression.{Tree, Not, Two}
use Rattle.nif_expr.specs.Value.{Names, value, bound}
use Rattle.nif_expr.specs.Compiled.{Computes, Adds}
use Rattle.nif_expr.proofs.CodeLemmas.{need_small, computes_not, computes_turned, computes_same, computes_more}

-- the last word is put behind them
pub put_adds : {E : Type 0} (old before new : List CodeWord) (last : CodeWord) (k : ℕ) (of : List ℕ → ℕ → ℕ) (added : List CodeWord) (r : Result ℕ E)
    → OnOk r (new ≡ before ++ last ∷ []) → IfOk r (λ n. n ≡ k) → before ++ last ∷ [] ≡ old ++ added → Computes added k of
    → IfOk r (λ need. Adds old new need of)
put_adds old before new last k of added (Ok n) put e same all =
    subst (λ need. Adds old new need of) (sym e) (record { added = added; behind = put ∙ same; computes = all })
put_adds old before new last k of added (Err e) put same' same all = record {}

pub one_behind : (old a before : List CodeWord) (last : CodeWord) → before ≡ old ++ a → before ++ last ∷ [] ≡ old ++ (a ++ last ∷ [])
one_behind old a before last e = ap (λ words. words ++ last ∷ []) e ∙ append_assoc old a (last ∷ [])

pub two_behind : (old a b middle before : List CodeWord) (last : CodeWord) → middle ≡ old ++ a → before ≡ middle ++ b
    → before ++ last ∷ [] ≡ old ++ (a ++ (b ++ last ∷ []))
two_behind old a b middle before last ea eb =
    ap (λ words. words ++ last ∷ []) (eb ∙ ap (λ words. words ++ b) ea) ∙ simp append_assoc

-- two pieces are turned
both_turned : (old a b : List CodeWord) (start middle : ℕ) → length old ≡ start → length (old ++ a) ≡ middle
    → take start ((old ++ a) ++ b) ++ (drop middle ((old ++ a) ++ b) ++ take (middle - start) (drop start ((old ++ a) ++ b))) ≡ old ++ (b ++ a)
both_turned old a b start middle es em =
    let joined : (old ++ a) ++ b ≡ old ++ (a ++ b) = append_assoc old a b in
    let first = ap (take start) joined ∙ take_at old (a ++ b) start es in
    let second = drop_at (old ++ a) b middle em in
    let rest = ap (drop start) joined ∙ drop_at old (a ++ b) start es in
    let long : length a ≡ middle - start = omega (arith, es, em, length-append old a) in
    rw (first, second, rest, take_at a b (middle - start) long) refl

pub turned_behind : (old a b middle before turned : List CodeWord) (start mid : ℕ) (last : CodeWord) → middle ≡ old ++ a → before ≡ middle ++ b
    → start ≡ length old → mid ≡ length middle
    → turned ≡ take start before ++ (drop mid before ++ take (mid - start) (drop start before))
    → turned ++ last ∷ [] ≡ old ++ (b ++ (a ++ last ∷ []))
turned_behind old a b middle before turned start mid last ea eb es em et =
    let whole : before ≡ (old ++ a) ++ b = eb ∙ ap (λ words. words ++ b) ea in
    let all = et ∙ ap (λ words. take start words ++ (drop mid words ++ take (mid - start) (drop start words))) whole
    ∙ both_turned old a b start mid (sym es) (sym (em ∙ ap length ea)) in
    ap (λ words. words ++ last ∷ []) all ∙ simp append_assoc

-- the value of a tree over slots
abbrev pub over : List Names → Tree → List ℕ → ℕ → ℕ
over paths t slots arg = value t (bound paths slots) arg

as_tree : {E : Type 0} (paths : List Names) (t u : Tree) (old new : List CodeWord) (r : Result ℕ E) → t ≡ u
    → IfOk r (λ need. Adds old new need (over paths u)) → IfOk r (λ need. Adds old new need (over paths t))
as_tree paths t u old new r e adds = subst (λ x. IfOk r (λ need. Adds old new need (over paths x))) (sym e) adds

pub not_adds : {E : Type 0} (paths : List Names) (t of : Tree) (old before new : List CodeWord) (k : ℕ) (r : Result ℕ E) → t ≡ Not of
    → Adds old before k (over paths of)
    → OnOk r (new ≡ before ++ word.Not ∷ []) → IfOk r (λ n. n ≡ k)
    → IfOk r (λ need. Adds old new need (over paths t))
not_adds paths t of old before new k r e adds put same =
    as_tree paths t (Not of) old new r e
    (put_adds old before new word.Not k (over paths (Not of)) (adds.added ++ word.Not ∷ []) r put same
    (one_behind old adds.added before word.Not adds.behind) (computes_not adds.added k (over paths of) adds.computes))

pub same_adds : {E : Type 0} (paths : List Names) (t : Tree) (op : Op) (left right : Tree) (old middle before new : List CodeWord) (m n : ℕ)
    (r : Result ℕ E) → t ≡ Two op left right
    → Adds old middle m (over paths left) → Adds middle before n (over paths right) → m ≡ n
    → OnOk r (new ≡ before ++ word.Two op ∷ []) → IfOk r (λ k. k ≡ m + 1)
    → IfOk r (λ need. Adds old new need (over paths t))
same_adds paths t op left right old middle before new m n r e a b equal put same =
    as_tree paths t (Two op left right) old new r e
    (put_adds old before new (word.Two op) (m + 1) (over paths (Two op left right)) (a.added ++ (b.added ++ word.Two op ∷ [])) r put same
    (two_behind old a.added b.added middle before (word.Two op) a.behind b.behind)
    (computes_same op a.added b.added m n (over paths left) (over paths right) a.computes b.computes equal))

pub more_adds : {E : Type 0} (paths : List Names) (t : Tree) (op : Op) (left right : Tree) (old middle before new : List CodeWord) (m n : ℕ)
    (r : Result ℕ E) → t ≡ Two op left right
    → Adds old middle m (over paths left) → Adds middle before n (over paths right) → n < m
    → OnOk r (new ≡ before ++ word.Two op ∷ []) → IfOk r (λ k. k ≡ m)
    → IfOk r (λ need. Adds old new need (over paths t))
more_adds paths t op left right old middle before new m n r e a b lt put same =
    as_tree paths t (Two op left right) old new r e
    (put_adds old before new (word.Two op) m (over paths (Two op left right)) (a.added ++ (b.added ++ word.Two op ∷ [])) r put same
    (two_behind old a.added b.added middle before (word.Two op) a.behind b.behind)
    (computes_more op a.added b.added m n (over paths left) (over paths right) a.computes b.computes lt))

pub turned_adds : {E : Type 0} (paths : List Names) (t : Tree) (op : Op) (left right : Tree) (old middle before turned new : List CodeWord) (m n start mid : ℕ)
    (r : Result ℕ E) → t ≡ Two op left right
    → Adds old middle m (over paths left) → Adds middle before n (over paths right) → m < n
    → start ≡ length old → mid ≡ length middle
    → turned ≡ take start before ++ (drop mid before ++ take (mid - start) (drop start before))
    → OnOk r (new ≡ turned ++ word.Swapped op ∷ []) → IfOk r (λ k. k ≡ n)
    → IfOk r (λ need. Adds old new need (over paths t))
turned_adds paths t op left right old middle before turned new m n start mid r e a b lt es em et put same =
    as_tree paths t (Two op left right) old new r e
    (put_adds old turned new (word.Swapped op) n (over paths (Two op left right)) (b.added ++ (a.added ++ word.Swapped op ∷ [])) r put same
    (turned_behind old a.added b.added middle before turned start mid (word.Swapped op) a.behind b.behind es em et)
    (computes_turned op a.added b.added m n (over paths left) (over paths right) a.computes b.computes lt))

-- a need of words in memory
pub need_of_added : (old new : List CodeWord) (need : ℕ) (of : List ℕ → ℕ → ℕ) → Adds old new need of → length new < 2 ^ 64 → need ≤ 64
need_of_added old new need of adds few =
    let less : length adds.added < 2 ^ 64 = omega (arith, few, ap length adds.behind, length-append old adds.added) in
    need_small _ _ adds.computes.few less

-- words of a first piece are what was added
pub only_added : (new old : List CodeWord) (need : ℕ) (of : List ℕ → ℕ → ℕ) → old ≡ [] → Adds old new need of → Computes new need of
only_added new old need of none adds = subst (λ words. Computes words need of) (sym (adds.behind ∙ ap (λ xs. xs ++ adds.added) none)) adds.computes
