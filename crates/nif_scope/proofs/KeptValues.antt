-- What is kept of members gives an expression the value that it has by their nodes.
use Rattle.std.proofs.Common.{◌≡◌, ℕ, ◌⊎◌, inl, inr, Bool, true, false, ◌||◌, not, List, [], ◌∷◌, ◌++◌, map, refl, sym, ap, subst, if◌then◌else◌, ◌∙◌, true≢false}
use Rattle.std.specs.Prelude.{reverse}
use Rattle.std.specs.Option.{unwrap_or}
use Rattle.std.specs.List.{list_any}
use Rattle.std.proofs.lemmas.List.{reverse-append, map-append}
use Rattle.std.proofs.lemmas.List.Folds.{list_any-append}
use Rattle.nif_base.specs.Node.{Members}
use Rattle.nif_schema.specs.Declaration.{Name, Formula, Read, Bad}
use Rattle.nif_schema.specs.Expression.{Tree, Number, Arg, Path, Not, Two}
use Rattle.nif_schema.specs.Schema.{line}
use Rattle.nif_schema.specs.Paths.{paths_of}
use Rattle.nif_expr.specs.Value.{is_same, first_value, look, bit, is_true, apply, value}
use lib.Pointwise.{pointwise_decides, bytes_decides}
use Rattle.nif_layout.specs.PathValue.{path_value}
use Rattle.nif_layout.specs.Present.{formula_value}
use Rattle.nif_layout.specs.OpenTypeLaws.{or_left, or_right, or_cases}
use Rattle.nif_scope.specs.declared.settings.Setting.{Setting}
use Rattle.nif_scope.specs.declared.entries.Entry.{Entry}
use Rattle.nif_scope.specs.Lookup.{path_told}
use Rattle.nif_scope.specs.Scope.{Tells, asks, context_in, earlier}
use Rattle.nif_scope.specs.Values.{path_at, number_at, value_by, formula_at}
use Rattle.nif_scope.proofs.KeptPaths.{path_kept}

-- ---- pairs of paths and their values

abbrev pub pair_of : (List Name → ℕ) → List Name → List Name × ℕ
pair_of v path = (path, v path)

abbrev is_among : List (List Name) → List Name → Bool
is_among paths path = list_any (λ p. is_same p path) paths

reverse_one : {X : Type 0} (x : X) (xs : List X) → reverse (x ∷ xs) ≡ reverse xs ++ x ∷ []
reverse_one x xs = reverse-append (x ∷ []) xs

pairs_reverse : (v : List Name → ℕ) (paths : List (List Name)) → reverse (map (pair_of v) paths) ≡ map (pair_of v) (reverse paths)
pairs_reverse v [] = refl
pairs_reverse v (p ∷ paths) =
    reverse_one (pair_of v p) (map (pair_of v) paths)
    ∙ ap (λ xs. xs ++ pair_of v p ∷ []) (pairs_reverse v paths)
    ∙ sym (map-append (pair_of v) (reverse paths) (p ∷ []))
    ∙ ap (λ xs. map (pair_of v) xs) (sym (reverse_one p paths))

among_reverse : (paths : List (List Name)) (path : List Name) → is_among paths path ≡ true → is_among (reverse paths) path ≡ true
among_reverse [] path e = e
among_reverse (p ∷ paths) path e =
    subst (λ ps. is_among ps path ≡ true) (sym (reverse_one p paths))
    (list_any-append (λ q. is_same q path) (reverse paths) (p ∷ []) ∙ by (or_cases (is_same p path) (is_among paths path) e) (λ h. among_reverse paths path h))
  where
    by : (is_same p path ≡ true) ⊎ (is_among paths path ≡ true) → (is_among paths path ≡ true → is_among (reverse paths) path ≡ true)
        → (is_among (reverse paths) path || is_among (p ∷ []) path) ≡ true
    by (inl h) ih = or_right (is_among (reverse paths) path) (is_same p path || false) (or_left (is_same p path) false h)
    by (inr h) ih = or_left (is_among (reverse paths) path) (is_same p path || false) (ih h)

first_among : (v : List Name → ℕ) (paths : List (List Name)) (path : List Name) → is_among paths path ≡ true → first_value (map (pair_of v) paths) path ≡ v path
first_among v [] path e = absurd (true≢false (sym e))
first_among v (p ∷ paths) path e = by (is_same p path) refl e (λ h. first_among v paths path h)
  where
    by : (b : Bool) → is_same p path ≡ b → (b || is_among paths path) ≡ true → (is_among paths path ≡ true → first_value (map (pair_of v) paths) path ≡ v path)
        → (if b then v p else first_value (map (pair_of v) paths) path) ≡ v path
    by true s h ih = ap v ((pointwise_decides bytes_decides p path).0 s)
    by false s h ih = ih h

look_among : (v : List Name → ℕ) (paths : List (List Name)) (path : List Name) → is_among paths path ≡ true → look (map (pair_of v) paths) path ≡ v path
look_among v paths path e =
    ap (λ xs. first_value xs path) (pairs_reverse v paths) ∙ first_among v (reverse paths) path (among_reverse paths path e)

-- each of some paths is among others
abbrev AreAmong : List (List Name) → List (List Name) → Type 0
AreAmong paths [] = Unit {0}
AreAmong paths (p ∷ some) = (is_among paths p ≡ true) × AreAmong paths some

among_left : (paths a b : List (List Name)) → AreAmong paths (a ++ b) → AreAmong paths a
among_left paths [] b h = tt
among_left paths (p ∷ a) b h = (h.0, among_left paths a b h.1)

among_right : (paths a b : List (List Name)) → AreAmong paths (a ++ b) → AreAmong paths b
among_right paths [] b h = h
among_right paths (p ∷ a) b h = among_right paths a b h.1

among_more : (q : List Name) (paths some : List (List Name)) → AreAmong paths some → AreAmong (q ∷ paths) some
among_more q paths [] h = tt
among_more q paths (p ∷ some) h = (or_right (is_same q p) (is_among paths p) h.0, among_more q paths some h.1)

among_self : (paths : List (List Name)) → AreAmong paths paths
among_self [] = tt
among_self (p ∷ paths) = (or_left (is_same p p) (is_among paths p) ((pointwise_decides bytes_decides p p).1 refl), among_more p paths paths (among_self paths))

value_among : (v : List Name → ℕ) (arg : ℕ) (of : Tree) (paths : List (List Name)) → AreAmong paths (paths_of of) → value_by v arg of ≡ value of (map (pair_of v) paths) arg
value_among v arg (Number n) paths h = refl
value_among v arg Arg paths h = refl
value_among v arg (Path names) paths h = sym (look_among v paths names h.0)
value_among v arg (Not of) paths h = ap (λ n. bit (not (is_true n))) (value_among v arg of paths h)
value_among v arg (Two op left right) paths h =
    ap (λ n. apply op n (value_by v arg right)) (value_among v arg left paths (among_left paths (paths_of left) (paths_of right) h))
    ∙ ap (λ n. apply op (value left (map (pair_of v) paths) arg) n) (value_among v arg right paths (among_right paths (paths_of left) (paths_of right) h))

-- ---- values by the nodes

abbrev pub path_number : Setting → Members → List Name → ℕ
path_number at members names = unwrap_or (path_value at.schema.now (context_in at) (earlier at members) names) 0

pub path_same : (at : Setting) (entries : List Entry) (members : Members) → Tells at entries members → (names : List Name)
    → path_at at entries names ≡ path_value at.schema.now (context_in at) (earlier at members) names
path_same at entries members tells names =
    subst (λ (es : List Entry). path_told at.schema.now (context_in at) (line at.schema.now at.number) es names ≡ path_value at.schema.now (context_in at) (earlier at members) names) (sym tells)
    (path_kept at.schema.now (context_in at) (asks at.schema.now at.number) (line at.schema.now at.number) members names)

numbers_same : (at : Setting) (entries : List Entry) (members : Members) → Tells at entries members → number_at at entries ≡ path_number at members
numbers_same at entries members tells = λ i names. unwrap_or (path_same at entries members tells names i) 0

pub formula_same : (at : Setting) (entries : List Entry) (members : Members) → Tells at entries members → (f : Formula)
    → formula_at at entries f ≡ formula_value at.schema.now (context_in at) (earlier at members) at.arg f
formula_same at entries members tells (Read of) =
    ap (λ (v : List Name → ℕ). value_by v at.arg of) (numbers_same at entries members tells)
    ∙ value_among (path_number at members) at.arg of (paths_of of) (among_self (paths_of of))
formula_same at entries members tells Bad = refl

-- The value of an attribute is the one by the nodes.
pub formulas_same : (at : Setting) (entries : List Entry) (members : Members) → Tells at entries members
    → formula_at at entries ≡ formula_value at.schema.now (context_in at) (earlier at members) at.arg
formulas_same at entries members tells = λ i f. formula_same at entries members tells f i
