-- Attributes, children and groups as the code meets them.
use Rattle.std.proofs.Common.{◌≡◌, ℕ, ◌+◌, ◌<◌, ◌≤◌, Bool, true, false, ◌||◌, ◌&&◌, List, [], ◌∷◌, ◌++◌, map, Option, Some, None, length, get_or, take, drop, refl, sym, ap, ◌∙◌, append_assoc, ⊎_elim, add-one, cond, drop-cons, codes}
use Rattle.std.proofs.lemmas.Bool.{cases_Bool, cond-true, cond-false, false≢true}
use Rattle.std.proofs.lemmas.List.{take_all, take_more, append-nil, map-append}
use Rattle.std.proofs.lemmas.List.Elements.{filter-append, filter_map-append}
use Rattle.std.proofs.lemmas.List.Sums.{fold-append}
use Rattle.std.proofs.lemmas.Slice.Eq.{bytes_eq-Decides}
use Rattle.std.proofs.lemmas.List.Folds.{list_any_at}
use Rattle.nif_attributes.specs.Listing.{ListAlike, GroupsAlike, Listed, listed_as, lone}
use Rattle.std.specs.List.{filter, filter_map, cons_option, fold, list_any}
use Rattle.std.specs.Option.{is_none, is_some, option_map}
use Rattle.std.specs.Str.{bytes_eq}
use Rattle.nif_text.specs.Tree.{Tree, Node, trees, listed, name_of, children_of}
use Rattle.nif_attributes.specs.declared.tokens.Attribute.{Attribute}
use Rattle.nif_attributes.specs.declared.tokens.Attribute.TheVariants as the
use Rattle.nif_attributes.specs.declared.tokens.Expanded.{Expanded}
use Rattle.nif_attributes.specs.Tokens.{Group, Token, value_of, token_of, has_refused, pass, pass_group, group_of, groups_of, expanded, ExpandAlike, name_of_attribute}

pub listed_trees : (children : List Tree) → listed (trees children) ≡ children
listed_trees [] = refl
listed_trees (child ∷ children) = ap (λ x. child ∷ x) (listed_trees children)

pub value_at : (attrs : List (List ℕ × List ℕ)) (place : ℕ) (name : List ℕ) (d : List ℕ × List ℕ) → place < length attrs
    → value_of (drop place attrs) name ≡ cond (bytes_eq (get_or attrs place d).0 name) (Some (get_or attrs place d).1) (value_of (drop (place + 1) attrs) name)
value_at attrs place name d h = rw (add-one, drop-cons attrs place d h) refl

and-false : (b : Bool) → (b && false) ≡ false
and-false true = refl
and-false false = refl

and-true : (b : Bool) → (b && true) ≡ b
and-true true = refl
and-true false = refl

joined : (p e r : Bool) → (e ≡ true → p ≡ true) → (e || (p && r)) ≡ (p && (e || r))
joined true e r h = refl
joined false true r h = sym (h refl)
joined false false r h = refl

left_out : (p e r : Bool) → (e ≡ true → p ≡ false) → (p && r) ≡ (p && (e || r))
left_out false e r h = refl
left_out true false r h = refl
left_out true true r h = absurd (false≢true (sym (h refl)))

list_any-map : (test : List ℕ → Bool) (attributes : List Attribute) → list_any test (map name_of_attribute attributes) ≡ list_any (λ a. test (name_of_attribute a)) attributes
list_any-map test [] = refl
list_any-map test (a ∷ attributes) = ap (λ b. test (name_of_attribute a) || b) (list_any-map test attributes)

-- names of attributes that pass a test of names
listed_names : (passes : List ℕ → Bool) (name : List ℕ) (attributes : List Attribute)
    → list_any (bytes_eq name) (map name_of_attribute (filter (λ a. passes (name_of_attribute a)) attributes)) ≡ (passes name && list_any (bytes_eq name) (map name_of_attribute attributes))
listed_names passes name [] = sym (and-false (passes name))
listed_names passes name (a ∷ attributes) =
    ⊎_elim
    (λ passed. ap (λ l. list_any (bytes_eq name) (map name_of_attribute l)) (cond-true _ _ _ passed) ∙ ap (λ b. bytes_eq name (name_of_attribute a) || b) (listed_names passes name attributes)
    ∙ joined (passes name) (bytes_eq name (name_of_attribute a)) _ (λ e. ap passes ((bytes_eq-Decides name (name_of_attribute a)).0 e) ∙ passed))
    (λ none. ap (λ l. list_any (bytes_eq name) (map name_of_attribute l)) (cond-false _ _ _ none) ∙ listed_names passes name attributes
    ∙ left_out (passes name) (bytes_eq name (name_of_attribute a)) _ (λ e. ap passes ((bytes_eq-Decides name (name_of_attribute a)).0 e) ∙ none))
    (cases_Bool (passes (name_of_attribute a)))

abbrev pub all_attributes : List Attribute
all_attributes = the.Name ∷ the.Type ∷ the.Template ∷ the.Arg ∷ the.Length ∷ the.Width ∷ the.Cond ∷ the.Vercond ∷ the.Since ∷ the.Until ∷ the.OnlyT ∷ the.ExcludeT ∷ the.Userver ∷ the.Userver2 ∷ []

is_listed : (a : Attribute) → list_any (bytes_eq (name_of_attribute a)) (map name_of_attribute all_attributes) ≡ true
is_listed the.Name = refl
is_listed the.Type = refl
is_listed the.Template = refl
is_listed the.Arg = refl
is_listed the.Length = refl
is_listed the.Width = refl
is_listed the.Cond = refl
is_listed the.Vercond = refl
is_listed the.Since = refl
is_listed the.Until = refl
is_listed the.OnlyT = refl
is_listed the.ExcludeT = refl
is_listed the.Userver = refl
is_listed the.Userver2 = refl

-- of the names in a list, those of attributes of fields
pub listed_alike : (names : List (List ℕ)) (attributes : List Attribute)
    → attributes ≡ filter (λ a. list_any (bytes_eq (name_of_attribute a)) names) all_attributes → ListAlike (map name_of_attribute attributes) names
listed_alike names attributes e a =
    ap (λ l. list_any (bytes_eq (name_of_attribute a)) (map name_of_attribute l)) e
    ∙ listed_names (λ name. list_any (bytes_eq name) names) (name_of_attribute a) all_attributes
    ∙ ap (λ b. list_any (bytes_eq (name_of_attribute a)) names && b) (is_listed a)
    ∙ and-true (list_any (bytes_eq (name_of_attribute a)) names)

pub listed_here : (name : List ℕ) (attributes : List Attribute) (i : ℕ) (d : Attribute) → i < length attributes
    → bytes_eq name (name_of_attribute (get_or attributes i d)) ≡ true → list_any (bytes_eq name) (map name_of_attribute attributes) ≡ true
listed_here name attributes i d h e = list_any-map (bytes_eq name) attributes ∙ list_any_at (λ a. bytes_eq name (name_of_attribute a)) attributes i d h e

pub lists_found : (name : List ℕ) (names : List (List ℕ)) (kept items : List Attribute) (i : ℕ) (d : Attribute)
    → map name_of_attribute kept ≡ names → items ≡ kept → i < length items → bytes_eq name (name_of_attribute (get_or items i d)) ≡ true → true ≡ list_any (bytes_eq name) names
lists_found name names kept items i d is same h e =
    sym (ap (list_any (bytes_eq name)) (sym is ∙ ap (map name_of_attribute) (sym same)) ∙ listed_here name items i d h e)

pub children_is : (tree : Tree) (name : List ℕ) (attrs : List (List ℕ × List ℕ)) (children : List Tree) → Node name attrs (trees children) ≡ tree → children_of tree ≡ children
children_is tree name attrs children e = ap children_of (sym e) ∙ listed_trees children

pub refused_here : {A : Type 0} (f : A → Token) (parts : Option A) (child : Tree) → option_map f parts ≡ token_of child → is_some parts ≡ false → is_none (token_of child) ≡ true
refused_here f None child e none = ap is_none (sym e)
refused_here f (Some x) child e none = absurd (false≢true (sym none))

pub refused_found : (group : Tree) (name : List ℕ) (attrs : List (List ℕ × List ℕ)) (kept items : List Tree) (i : ℕ) (child : Tree)
    → Node name attrs (trees kept) ≡ group → items ≡ kept → i < length items → child ≡ get_or items i child → is_none (token_of child) ≡ true → true ≡ has_refused group
refused_found group name attrs kept items i child e same h is none =
    sym (ap (list_any (λ child. is_none (token_of child))) (children_is group name attrs kept e ∙ sym same)
    ∙ list_any_at (λ child. is_none (token_of child)) items i child h (ap (λ t. is_none (token_of t)) (sym is) ∙ none))

pub refused_nowhere : (group : Tree) (name : List ℕ) (attrs : List (List ℕ × List ℕ)) (kept items : List Tree) (i : ℕ)
    → Node name attrs (trees kept) ≡ group → items ≡ kept → length items ≤ i → list_any (λ child. is_none (token_of child)) (take i items) ≡ false → false ≡ has_refused group
refused_nowhere group name attrs kept items i e same h none =
    sym (ap (list_any (λ child. is_none (token_of child))) (children_is group name attrs kept e ∙ sym same ∙ sym (take_all i items h)) ∙ none)

pub tokens_is : (tree : Tree) (name : List ℕ) (attrs : List (List ℕ × List ℕ)) (children : List Tree) (tokens : List Token) → Node name attrs (trees children) ≡ tree
    → tokens ≡ filter_map token_of children → tokens ≡ (group_of tree).tokens
tokens_is tree name attrs children tokens e is = is ∙ ap (filter_map token_of) (sym (children_is tree name attrs children e))

-- the attributes that pass, with one more
pub filter_yes : (test : Attribute → Bool) (items : List Attribute) (i : ℕ) (d : Attribute) (before now : List Attribute) → i < length items
    → before ≡ filter test (take i items) → test (get_or items i d) ≡ true → now ≡ before ++ get_or items i d ∷ [] → now ≡ filter test (take (i + 1) items)
filter_yes test items i d before now h e passes more =
    more ∙ ap (λ l. l ++ get_or items i d ∷ []) e ∙ ap (λ l. filter test (take i items) ++ l) (sym (cond-true _ _ _ passes))
    ∙ sym (filter-append test (take i items) (get_or items i d ∷ [])) ∙ ap (filter test) (sym (take_more items i d h))

pub filter_no : (test : Attribute → Bool) (items : List Attribute) (i : ℕ) (d : Attribute) (before : List Attribute) → i < length items
    → before ≡ filter test (take i items) → test (get_or items i d) ≡ false → before ≡ filter test (take (i + 1) items)
filter_no test items i d before h e none =
    e ∙ sym (append-nil _) ∙ ap (λ l. filter test (take i items) ++ l) (sym (cond-false _ _ _ none))
    ∙ sym (filter-append test (take i items) (get_or items i d ∷ [])) ∙ ap (filter test) (sym (take_more items i d h))

-- groups that list the same attributes of fields and have the same tokens pass alike
pass_alike : (g h : Group) → ListAlike g.names h.names → g.tokens ≡ h.tokens → (a : Attribute) (text : Expanded) → pass_group (name_of_attribute a) text g ≡ pass_group (name_of_attribute a) text h
pass_alike g h names tokens a text = λ i. cond (names a i) (fold pass text (tokens i)) text

one_group : (child : Tree) → bytes_eq (name_of child) (codes "token") ≡ true → groups_of (child ∷ []) ≡ group_of child ∷ []
one_group child e = ap (map group_of) (cond-true _ _ _ e)

fold_last : (name : List ℕ) (text : Expanded) (groups : List Group) (g : Group) → fold (pass_group name) text (groups ++ g ∷ []) ≡ pass_group name (fold (pass_group name) text groups) g
fold_last name text groups g = fold-append (pass_group name) text groups (g ∷ [])

pub alike_pushed : (child : Tree) (g : Group) (one now others : List Group) → bytes_eq (name_of child) (codes "token") ≡ true
    → ListAlike g.names (group_of child).names → g.tokens ≡ (group_of child).tokens → now ≡ one ++ g ∷ []
    → GroupsAlike one others → GroupsAlike now (others ++ groups_of (child ∷ []))
alike_pushed child g one now others is names tokens more alike a text =
    let n = name_of_attribute a in
    ap (fold (pass_group n) text) more ∙ fold_last n text one g ∙ pass_alike g (group_of child) names tokens a _
    ∙ ap (λ t. pass_group n t (group_of child)) (alike a text) ∙ sym (fold_last n text others (group_of child))
    ∙ ap (λ l. fold (pass_group n) text (others ++ l)) (sym (one_group child is))

pub alike_no_group : (child : Tree) (one others : List Group) → bytes_eq (name_of child) (codes "token") ≡ false
    → GroupsAlike one others → GroupsAlike one (others ++ groups_of (child ∷ []))
alike_no_group child one others is alike a text =
    alike a text ∙ ap (fold (pass_group (name_of_attribute a)) text) (sym (append-nil others) ∙ ap (λ l. others ++ map group_of l) (sym (cond-false _ _ _ is)))

pub groups_more : (items : List Tree) (i : ℕ) (child : Tree) → i < length items → child ≡ get_or items i child
    → groups_of (take i items) ++ groups_of (child ∷ []) ≡ groups_of (take (i + 1) items)
groups_more items i child h is =
    ap (λ t. groups_of (take i items) ++ groups_of (t ∷ [])) is ∙ sym (map-append group_of _ _)
    ∙ ap (map group_of) (sym (filter-append (λ t. bytes_eq (name_of t) (codes "token")) (take i items) (get_or items i child ∷ [])))
    ∙ ap groups_of (sym (take_more items i child h))

pub alike_all : (root : Tree) (name : List ℕ) (attrs : List (List ℕ × List ℕ)) (kept items : List Tree) (i : ℕ) (groups : List Group)
    → Node name attrs (trees kept) ≡ root → items ≡ kept → length items ≤ i → GroupsAlike groups (groups_of (take i items)) → ExpandAlike groups (groups_of (children_of root))
alike_all root name attrs kept items i groups e same h alike a text =
    alike a (record { text = text; too_long = false })
    ∙ ap (λ l. expanded (groups_of l) (name_of_attribute a) text) (take_all i items h ∙ same ∙ sym (children_is root name attrs kept e))

-- the tokens of one more child
tokens_more : (items : List Tree) (i : ℕ) (child : Tree) → i < length items → child ≡ get_or items i child
    → filter_map token_of (take (i + 1) items) ≡ filter_map token_of (take i items) ++ cons_option (token_of child) []
tokens_more items i child h is =
    ap (filter_map token_of) (take_more items i child h) ∙ filter_map-append token_of (take i items) (get_or items i child ∷ [])
    ∙ ap (λ t. filter_map token_of (take i items) ++ cons_option (token_of t) []) (sym is)

pub listed_more : (names : List (List ℕ)) (items : List Tree) (i : ℕ) (child : Tree) (start before now : List Listed) (by : Listed) → i < length items → child ≡ get_or items i child
    → before ≡ start ++ map (listed_as names) (filter_map token_of (take i items)) → Some by ≡ option_map (listed_as names) (token_of child) → now ≡ before ++ by ∷ []
    → now ≡ start ++ map (listed_as names) (filter_map token_of (take (i + 1) items))
listed_more names items i child start before now by h is e some more =
    more ∙ ap (λ l. l ++ by ∷ []) e ∙ append_assoc start (map (listed_as names) (filter_map token_of (take i items))) (by ∷ [])
    ∙ ap (λ l. start ++ l) (one_more (token_of child) some ∙ ap (map (listed_as names)) (sym (tokens_more items i child h is)))
  where
    one_more : (o : Option Token) → Some by ≡ option_map (listed_as names) o
        → map (listed_as names) (filter_map token_of (take i items)) ++ by ∷ [] ≡ map (listed_as names) (filter_map token_of (take i items) ++ cons_option o [])
    one_more None q = absurd (cc)
    one_more (Some t) q =
        let same : by ≡ listed_as names t = cc in
        ap (λ b. map (listed_as names) (filter_map token_of (take i items)) ++ b ∷ []) same ∙ sym (map-append (listed_as names) (filter_map token_of (take i items)) (t ∷ []))

pub listed_same : (names : List (List ℕ)) (items : List Tree) (i : ℕ) (child : Tree) (start before : List Listed) → i < length items → child ≡ get_or items i child
    → before ≡ start ++ map (listed_as names) (filter_map token_of (take i items)) → None ≡ option_map (listed_as names) (token_of child)
    → before ≡ start ++ map (listed_as names) (filter_map token_of (take (i + 1) items))
listed_same names items i child start before h is e none =
    e ∙ ap (λ l. start ++ map (listed_as names) l) (no_more (token_of child) none ∙ sym (tokens_more items i child h is))
  where
    no_more : (o : Option Token) → None ≡ option_map (listed_as names) o → filter_map token_of (take i items) ≡ filter_map token_of (take i items) ++ cons_option o []
    no_more None q = sym (append-nil _)
    no_more (Some t) q = absurd (cc)

-- groups of one token each do what the group of them all does
lone_in : (name : List ℕ) (names : List (List ℕ)) (tokens : List Token) (text : Expanded) → list_any (bytes_eq name) names ≡ true
    → fold (pass_group name) text (map lone (map (listed_as names) tokens)) ≡ fold pass text tokens
lone_in name names [] text e = refl
lone_in name names (t ∷ tokens) text e =
    ap (λ x. fold (pass_group name) x (map lone (map (listed_as names) tokens))) (cond-true _ (pass text t) text e) ∙ lone_in name names tokens (pass text t) e

lone_out : (name : List ℕ) (names : List (List ℕ)) (tokens : List Token) (text : Expanded) → list_any (bytes_eq name) names ≡ false
    → fold (pass_group name) text (map lone (map (listed_as names) tokens)) ≡ text
lone_out name names [] text e = refl
lone_out name names (t ∷ tokens) text e =
    ap (λ x. fold (pass_group name) x (map lone (map (listed_as names) tokens))) (cond-false _ (pass text t) text e) ∙ lone_out name names tokens text e

lone_all : (name : List ℕ) (names : List (List ℕ)) (tokens : List Token) (text : Expanded)
    → fold (pass_group name) text (map lone (map (listed_as names) tokens)) ≡ pass_group name text (record { names = names; tokens = tokens })
lone_all name names tokens text =
    ⊎_elim
    (λ e. lone_in name names tokens text e ∙ sym (cond-true _ (fold pass text tokens) text e))
    (λ e. lone_out name names tokens text e ∙ sym (cond-false _ (fold pass text tokens) text e))
    (cases_Bool (list_any (bytes_eq name) names))

pub alike_tokens : (child : Tree) (names : List (List ℕ)) (tokens : List Token) (old now : List Listed) (others : List Group) → bytes_eq (name_of child) (codes "token") ≡ true
    → ListAlike names (group_of child).names → tokens ≡ (group_of child).tokens → now ≡ old ++ map (listed_as names) tokens
    → GroupsAlike (map lone old) others → GroupsAlike (map lone now) (others ++ groups_of (child ∷ []))
alike_tokens child names tokens old now others is same all more alike a text =
    let n = name_of_attribute a in
    let g : Group = record { names = names; tokens = tokens } in
    ap (λ l. fold (pass_group n) text (map lone l)) more
    ∙ ap (fold (pass_group n) text) (map-append lone old (map (listed_as names) tokens))
    ∙ fold-append (pass_group n) text (map lone old) (map lone (map (listed_as names) tokens))
    ∙ lone_all n names tokens (fold (pass_group n) text (map lone old))
    ∙ sym (fold_last n text (map lone old) g)
    ∙ alike_pushed child g (map lone old) (map lone old ++ g ∷ []) others is same all refl alike a text
