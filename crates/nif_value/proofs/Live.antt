-- Live trees, each read from the cells of a run.
use Rattle.std.proofs.Common.{ℕ, zero, suc, ◌≡◌, ◌≢◌, ◌+◌, ◌-◌, ◌*◌, ◌/◌, ◌^◌, ◌<◌, ◌≤◌, List, [], ◌∷◌, ◌++◌, length, Option, None, Some, true, false, if◌then◌else◌, nat_eq, sym, ◌∙◌, ap, refl, arith, inl, inr, subst, slice_get, slice_set}
use Rattle.std.specs.Prelude.{IsSome, IfSome}
use Rattle.std.specs.Option.{option_map, IsSomeAnd}
use Rattle.std.proofs.lemmas.List.{length-map, map-append, map-set}
use Rattle.std.proofs.lemmas.Option.{slice_get-map}
use Rattle.std.proofs.lemmas.Bool.Decides.{eqb_tells}
use Rattle.nif_base.specs.Node.{Node, refs, nodes, Reference}
use Rattle.nif_region.specs.Contents.{find, without, put}
use Rattle.nif_region.specs.declared.cells.Cell.{Cell}
use Rattle.nif_cells.specs.Building.{bytes_of, with_target}
use Rattle.nif_cells.specs.Codes.{content_of}
use Rattle.nif_cells.specs.Encoding.{contents, tree_contents, places_from, index_from}
use Rattle.nif_cells.specs.Reading.{said, tree_in}
use Rattle.nif_cells.specs.Sizes.{own_cells}
use Rattle.nif_cells.specs.declared.contents.Content.{Content}
use Rattle.nif_cells.specs.declared.contents.Content.TheVariants.{Place}
use Rattle.nif_cells.specs.declared.contents.Content.TheVariants as content
use Rattle.nif_cells.specs.declared.steps.RefView.{RefView}
use Rattle.nif_cells.specs.CellLaws.{tree-cells, cells-bound, tree-length, some-cell, last-place, no-place, no-index, place-there, tree-index, view_of, tree_known, target-tree, target-small, target-nodes, target-bytes_of}
use Rattle.nif_cells.specs.Small.{HasBytes}
use Rattle.nif_value.specs.Trees.{reference_of}
use Rattle.nif_value.specs.Kept.{IsTree, AreTrees, trees_in}

-- the trees of runs after a change

pub find-trees : (runs : List (ℕ × List Cell)) (key : ℕ) → find (trees_in runs) key ≡ option_map tree_in (find runs key)
find-trees [] key = refl
find-trees (run ∷ rest) key =
    elim (nat_eq run.0 key) as (λ t. (if t then Some (tree_in run.1) else find (trees_in rest) key) ≡ option_map tree_in (if t then Some run.1 else find rest key)) [
      | true ↦ refl
      | false ↦ find-trees rest key
    ]

pub trees-without : (runs : List (ℕ × List Cell)) (key : ℕ) → trees_in (without key runs) ≡ without key (trees_in runs)
trees-without [] key = refl
trees-without (run ∷ rest) key =
    elim (nat_eq run.0 key) as (λ t. trees_in (if t then without key rest else run ∷ without key rest) ≡ (if t then without key (trees_in rest) else (run.0, tree_in run.1) ∷ without key (trees_in rest))) [
      | true ↦ trees-without rest key
      | false ↦ ap (λ l. (run.0, tree_in run.1) ∷ l) (trees-without rest key)
    ]

pub trees-put : (runs : List (ℕ × List Cell)) (key : ℕ) (cells : List Cell) → trees_in (put key cells runs) ≡ put key (tree_in cells) (trees_in runs)
trees-put [] key cells = refl
trees-put (run ∷ rest) key cells =
    elim (nat_eq run.0 key) as (λ t. (run.0, tree_in (if t then cells else run.1)) ∷ trees_in (put key cells rest) ≡ (run.0, if t then tree_in cells else tree_in run.1) ∷ put key (tree_in cells) (trees_in rest)) [
      | true ↦ ap (λ l. (run.0, tree_in cells) ∷ l) (trees-put rest key cells)
      | false ↦ ap (λ l. (run.0, tree_in run.1) ∷ l) (trees-put rest key cells)
    ]

pub trees-behind : (runs : List (ℕ × List Cell)) (key : ℕ) (cells : List Cell) → trees_in (runs ++ (key, cells) ∷ []) ≡ trees_in runs ++ (key, tree_in cells) ∷ []
trees-behind runs key cells = map-append (λ (run : ℕ × List Cell). (run.0, tree_in run.1)) runs ((key, cells) ∷ [])

pub some_live : (runs : List (ℕ × List Cell)) (key : ℕ) → IsSome (find (trees_in runs) key) → IsSome (find runs key)
some_live runs key live = some (find runs key) (rw find-trees at live) where
  some : (o : Option (List Cell)) → IsSome (option_map tree_in o) → IsSome o
  some None h = h
  some (Some cells) h = refl

pub same_live : (a b : List (ℕ × List Cell)) (key : ℕ) → find a key ≡ find b key → find (trees_in a) key ≡ find (trees_in b) key
same_live a b key e = find-trees a key ∙ ap (option_map tree_in) e ∙ sym (find-trees b key)

-- A tree that is live, with its cells.
pub record IsThere (runs : List (ℕ × List Cell)) (key : ℕ) : Type 0 where
  pub cells : List Cell
  pub found : find runs key ≡ Some cells
  pub tree : IsTree cells
  pub node_found : find (trees_in runs) key ≡ Some (tree_in cells)

pub there : (runs : List (ℕ × List Cell)) (key : ℕ) → AreTrees runs → IsSome (find (trees_in runs) key) → IsThere runs key
there runs key are live = here (find runs key) refl (are key) (some_live runs key live) where
  here : (o : Option (List Cell)) → find runs key ≡ o → IfSome o IsTree → IsSome o → IsThere runs key
  here None e tree some = absurd (let f : false ≡ true = some in cc)
  here (Some cells) e tree some = record { cells = cells; found = e; tree = tree; node_found = find-trees runs key ∙ ap (option_map tree_in) e }

pub some_of : {A : Type 0} (P : A → Type 0) (o : Option A) → IsSomeAnd o P → IsSome o
some_of P None h = absurd h
some_of P (Some a) h = refl

-- a change of one run leaves the others trees
pub trees-others : (old new : List (ℕ × List Cell)) (key : ℕ) → AreTrees old → IfSome (find new key) IsTree → ((other : ℕ) → other ≢ key → find new other ≡ find old other) → AreTrees new
trees-others old new key are here others other = elim (eqb_tells other key) [
  | inl e ↦ subst (λ k. IfSome (find new k) IsTree) (sym e.1) here
  | inr e ↦ subst (λ o. IfSome o IsTree) (sym (others other e.1)) (are other)
]

-- how many cells there are

pub said-count : (cells : List Cell) → length (said cells) ≡ length cells
said-count cells = length-map cells content_of

pub cells-count : (cells : List Cell) → IsTree cells → length cells ≡ own_cells (tree_in cells)
cells-count cells t = sym (said-count cells) ∙ ap length t.says ∙ tree-cells (tree_in cells)

pub cells-within : (cells : List Cell) → IsTree cells → length cells ≤ 2 * nodes (tree_in cells) + bytes_of (tree_in cells) / 8
cells-within cells t = let e = cells-count cells t in let b = cells-bound (tree_in cells) in omega arith

pub cells-few : (cells : List Cell) → IsTree cells → length cells ≤ 2 ^ 26
cells-few cells t = let b = cells-within cells t in omega (arith, t.nodes_within, t.bytes_within)

pub cells-parts : (cells : List Cell) → IsTree cells → length cells ≡ length (contents (tree_in cells)) + length (refs (tree_in cells))
cells-parts cells t = sym (said-count cells) ∙ ap length t.says ∙ tree-length (tree_in cells)

pub cells-some : (cells : List Cell) → IsTree cells → 1 ≤ length cells
cells-some cells t = let p = cells-parts cells t in let s = some-cell (tree_in cells) in omega arith

-- what a cell says

pub says-at : (cells : List Cell) (k : ℕ) (cell : Cell) → IsTree cells → slice_get cells k ≡ Some cell → slice_get (tree_contents (tree_in cells)) k ≡ Some (content_of cell)
says-at cells k cell t at = ap (λ l. slice_get l k) (sym t.says) ∙ slice_get-map content_of cells k ∙ ap (option_map content_of) at

pub last-says : (cells : List Cell) (len : ℕ) (cell : Cell) → IsTree cells → len ≡ length cells → slice_get cells (len - 1) ≡ Some cell → slice_get (tree_contents (tree_in cells)) (length (tree_contents (tree_in cells)) - 1) ≡ Some (content_of cell)
last-says cells len cell t is at =
    subst
    (λ n. slice_get (tree_contents (tree_in cells)) (n - 1) ≡ Some (content_of cell))
    (is ∙ sym (said-count cells) ∙ ap length t.says)
    (says-at cells (len - 1) cell t at)

some_same : {A : Type 0} (a b : A) (o : Option A) → o ≡ Some a → o ≡ Some b → a ≡ b
some_same a b o e f = cc

place_number : (a b p q : ℕ) (o : Option Content) → o ≡ Some (Place a p) → o ≡ Some (Place b q) → a ≡ b
place_number a b p q o e f = cc

-- the last cell of a tree says how many references it has

pub number-is : (n : Node) (number place : ℕ) → slice_get (tree_contents n) (length (tree_contents n) - 1) ≡ Some (Place number place) → number ≡ length (refs n)
number-is n number place at = by (length (refs n)) refl where
  by : (many : ℕ) → length (refs n) ≡ many → number ≡ many
  by zero none =
      let e = no-index n none in
      let hit : slice_get (contents n) (length (contents n) - 1) ≡ Some (Place number place) = subst (λ l. slice_get l (length l - 1) ≡ Some (Place number place)) e at in
      absurd (no-place n (length (contents n) - 1) number place hit)
  by (suc more) some =
      let l = last-place n (omega arith) in
      place_number number (suc more) place l.0 _ at (subst (λ m. slice_get (tree_contents n) (length (tree_contents n) - 1) ≡ Some (Place m l.0)) some l.1)

pub none-is : (n : Node) (c : Content) → slice_get (tree_contents n) (length (tree_contents n) - 1) ≡ Some c → ((number place : ℕ) → c ≢ Place number place) → 0 ≡ length (refs n)
none-is n c at not = by (length (refs n)) refl where
  by : (many : ℕ) → length (refs n) ≡ many → 0 ≡ many
  by zero none = refl
  by (suc more) some =
      let l = last-place n (omega arith) in
      absurd (not (length (refs n)) l.0 (some_same _ _ _ at l.1))

-- The cell of a reference, and the one with its place.
pub record IsReferred (cells : List Cell) (k : ℕ) : Type 0 where
  pub place : ℕ
  pub reference : Reference
  pub placed : slice_get (places_from 0 (contents (tree_in cells))) k ≡ Some place
  pub is : slice_get (refs (tree_in cells)) k ≡ Some reference
  pub less : place < length cells
  pub says_own : slice_get (contents (tree_in cells)) place ≡ Some (content.Reference (view_of reference))
  pub says : slice_get (tree_contents (tree_in cells)) place ≡ Some (content.Reference (view_of reference))
  pub indexed : slice_get (tree_contents (tree_in cells)) (length (contents (tree_in cells)) + k) ≡ Some (Place (k + 1) place)

get-left : {A : Type 0} (a b : List A) (k : ℕ) (x : A) → slice_get a k ≡ Some x → slice_get (a ++ b) k ≡ Some x
get-left [] b k x at = absurd (cc)
get-left (y ∷ rest) b zero x at = at
get-left (y ∷ rest) b (suc k) x at = get-left rest b k x at

pub referred : (cells : List Cell) (k : ℕ) → IsTree cells → k < length (refs (tree_in cells)) → IsReferred cells k
referred cells k t l =
    let p = place-there (tree_in cells) k l in
    let parts = cells-parts cells t in
    let less = p.4 in
    record {
      place = p.0;
      reference = p.1;
      placed = p.2;
      is = p.3;
      less = omega arith;
      says_own = p.5;
      says = get-left (contents (tree_in cells)) (index_from 0 (places_from 0 (contents (tree_in cells)))) p.0 (content.Reference (view_of p.1)) p.5;
      indexed = tree-index (tree_in cells) k p.0 p.2;
    }

pub tree-known : (runs : List (ℕ × List Cell)) (key : ℕ) (cells : List Cell) → find runs key ≡ Some cells → find (trees_in runs) key ≡ Some (tree_in cells)
tree-known runs key cells e = find-trees runs key ∙ ap (option_map tree_in) e

-- A live tree with so many references that one is the k-th.
pub record IsWithReference (runs : List (ℕ × List Cell)) (key k : ℕ) : Type 0 where
  pub there : IsThere runs key
  pub less : k < length (refs (tree_in there.cells))
  pub parts : length there.cells ≡ length (contents (tree_in there.cells)) + length (refs (tree_in there.cells))
  pub few : length there.cells ≤ 2 ^ 26
  pub referred : IsReferred there.cells k

pub with_references : (runs : List (ℕ × List Cell)) (key k : ℕ) → AreTrees runs → IsSomeAnd (find (trees_in runs) key) (λ n. k < length (refs n)) → IsWithReference runs key k
with_references runs key k are some =
    let t = there runs key are (some_of (λ n. k < length (refs n)) (find (trees_in runs) key) some) in
    let l : k < length (refs (tree_in t.cells)) = rw t.node_found at some in
    record { there = t; less = l; parts = cells-parts t.cells t.tree; few = cells-few t.cells t.tree; referred = referred t.cells k t.tree l }

module _ {runs : List (ℕ × List Cell)} {key k : ℕ} where
  pub same-place : (t : IsWithReference runs key k) (place : ℕ) → slice_get (places_from 0 (contents (tree_in t.there.cells))) k ≡ Some place → place ≡ t.referred.place
  same-place t place at = some_same _ _ _ at t.referred.placed

  -- what the index says at the reference
  indexed : (t : IsWithReference runs key k) (len count : ℕ) (cell : Cell) → len ≡ length t.there.cells → count ≡ length (refs (tree_in t.there.cells)) → slice_get t.there.cells (len - count + k) ≡ Some cell
      → content_of cell ≡ Place (k + 1) t.referred.place
  indexed t len count cell e f at =
      let n : len - count + k ≡ length (contents (tree_in t.there.cells)) + k = omega (arith, t.parts) in
      some_same _ _ _ (says-at t.there.cells (length (contents (tree_in t.there.cells)) + k) cell t.there.tree (subst (λ m. slice_get t.there.cells m ≡ Some cell) n at)) t.referred.indexed

  pub index-says : (t : IsWithReference runs key k) (len count number place : ℕ) (cell : Cell) → len ≡ length t.there.cells → count ≡ length (refs (tree_in t.there.cells)) → slice_get t.there.cells (len - count + k) ≡ Some cell
      → content_of cell ≡ Place number place → slice_get (places_from 0 (contents (tree_in t.there.cells))) k ≡ Some place
  index-says t len count number place cell e f at is = t.referred.placed ∙ ap Some (place_place _ _ _ _ _ (indexed t len count cell e f at) is) where
    place_place : (a p b q : ℕ) (c : Content) → c ≡ Place a p → c ≡ Place b q → p ≡ q
    place_place a p b q c x y = cc

  pub not-place : (t : IsWithReference runs key k) (len count : ℕ) (cell : Cell) (c : Content) → len ≡ length t.there.cells → count ≡ length (refs (tree_in t.there.cells)) → slice_get t.there.cells (len - count + k) ≡ Some cell
      → c ≡ content_of cell → ((number place : ℕ) → c ≢ Place number place) → ⊥
  not-place t len count cell c e f at is not = not (k + 1) t.referred.place (is ∙ indexed t len count cell e f at)

  -- what the cell of the reference says
  refers : (t : IsWithReference runs key k) (place : ℕ) (cell : Cell) → slice_get (places_from 0 (contents (tree_in t.there.cells))) k ≡ Some place → slice_get t.there.cells place ≡ Some cell
      → content_of cell ≡ content.Reference (view_of t.referred.reference)
  refers t place cell p at =
      let e = same-place t place p in
      some_same _ _ _ (says-at t.there.cells t.referred.place cell t.there.tree (subst (λ m. slice_get t.there.cells m ≡ Some cell) e at)) t.referred.says

  pub reference-says : (t : IsWithReference runs key k) (place : ℕ) (cell : Cell) (view : RefView) → slice_get (places_from 0 (contents (tree_in t.there.cells))) k ≡ Some place → slice_get t.there.cells place ≡ Some cell
      → content_of cell ≡ content.Reference view → slice_get (refs (tree_in t.there.cells)) k ≡ Some (reference_of view)
  reference-says t place cell view p at is = t.referred.is ∙ ap Some (ap reference_of (view_view _ _ _ (refers t place cell p at) is)) where
    view_view : (a b : RefView) (c : Content) → c ≡ content.Reference a → c ≡ content.Reference b → a ≡ b
    view_view a b c x y = cc

  pub not-reference : (t : IsWithReference runs key k) (place : ℕ) (cell : Cell) (c : Content) → slice_get (places_from 0 (contents (tree_in t.there.cells))) k ≡ Some place → slice_get t.there.cells place ≡ Some cell
      → c ≡ content_of cell → ((view : RefView) → c ≢ content.Reference view) → ⊥
  not-reference t place cell c p at is not = not (view_of t.referred.reference) (is ∙ refers t place cell p at)

  -- with another target
  pub targets : (t : IsWithReference runs key k) (place : ℕ) (target : Option ℕ) (view : RefView) (cell : Cell) → slice_get (places_from 0 (contents (tree_in t.there.cells))) k ≡ Some place
      → slice_get (refs (tree_in t.there.cells)) k ≡ Some (reference_of view)
      → content_of cell ≡ content.Reference (record { strong = view.strong; wanted = view.wanted; target = target })
      → IsTree (slice_set t.there.cells place cell) × (tree_in (slice_set t.there.cells place cell) ≡ with_target k target (tree_in t.there.cells))
  targets t place target view cell p r is =
      let n = tree_in t.there.cells in
      let e = same-place t place p in
      let at : slice_get (contents n) place ≡ Some (content.Reference view) =
      rw e (t.referred.says_own ∙ ap (λ v. Some (content.Reference v)) (ap view_of (some_same _ _ _ t.referred.is r))) in
      let says : said (slice_set t.there.cells place cell) ≡ tree_contents (with_target k target n) =
      map-set content_of t.there.cells place cell ∙ ap (λ l. slice_set l place (content_of cell)) t.there.tree.says ∙ ap (slice_set (tree_contents n) place) is ∙ target-tree n k place target view p at in
      let known = tree_known (slice_set t.there.cells place cell) (with_target k target n) says (target-small n k target t.there.tree.has_bytes) in (
        record {
          says = says ∙ ap tree_contents (sym known);
          has_bytes = subst HasBytes (sym known) (target-small n k target t.there.tree.has_bytes);
          nodes_within = subst (λ m. nodes m ≤ 2 ^ 24) (sym known) (rw (target-nodes n k target) t.there.tree.nodes_within);
          bytes_within = subst (λ m. bytes_of m ≤ 2 ^ 26) (sym known) (rw (target-bytes_of n k target) t.there.tree.bytes_within);
        },
        known,
      )
