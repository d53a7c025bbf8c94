-- References among cells, and their index.
use Rattle.std.proofs.Common.{ℕ, zero, suc, ◌<◌, ◌+◌, ◌-◌, ◌≡◌, ◌≢◌, List, [], ◌∷◌, ◌++◌, length, map, slice_get, true, false, if◌then◌else◌, Some, option_map, refl, sym, ◌∙◌, ap, arith, append-nil, length-append, suc-add}
use Rattle.std.proofs.lemmas.Option.{slice_get-map, slice_get_within}
use Rattle.std.proofs.lemmas.List.{map-append, length-map, nil_from_length}
use Rattle.nif_base.specs.Node.{Node, Members, End, Here, Absent, Num, Line, Ref, Text, Bytes, Group, Row, Reference, refs, refs_in}
use Rattle.nif_cells.specs.Encoding.{contents, contents_in, tree_contents, words, byte_cells, packed, index_from, places_from, is_reference, view_of}
use Rattle.nif_cells.specs.Laws.{IsIndexed}
use Rattle.nif_cells.specs.declared.contents.Content.{Content}
use Rattle.nif_cells.specs.declared.contents.Content.TheVariants.{Place, Tail, Word}
use Rattle.nif_cells.specs.declared.contents.Content.TheVariants as content
use Rattle.nif_cells.specs.declared.steps.RefView.{RefView}

-- the references among cells
abbrev pub views : List Content → List RefView
views [] = []
views (content.Reference view ∷ rest) = view ∷ views rest
views (_ ∷ rest) = views rest

pub places-more : (at : ℕ) (a b : List Content)
    → places_from at (a ++ b) ≡ places_from at a ++ places_from (at + length a) b
places-more at [] b = ap (λ n. places_from n b) (omega arith)
places-more at (c ∷ rest) b =
    let tail : places_from (suc at) (rest ++ b) ≡ places_from (suc at) rest ++ places_from (at + suc (length rest)) b =
    places-more (suc at) rest b ∙ ap (λ n. places_from (suc at) rest ++ places_from n b) (omega arith) in
    elim (is_reference c) as (λ t. (if t then at ∷ places_from (suc at) (rest ++ b)
    else places_from (suc at) (rest ++ b)) ≡ (if t then at ∷ places_from (suc at) rest
    else places_from (suc at) rest) ++ places_from (at + suc (length rest)) b) [
      | true ↦ ap (λ l. at ∷ l) tail
      | false ↦ tail
    ]

pub views-append : (a b : List Content) → views (a ++ b) ≡ views a ++ views b
views-append [] b = refl
views-append (content.Reference view ∷ rest) b = ap (λ l. view ∷ l) (views-append rest b)
views-append (_ ∷ rest) b = views-append rest b

pub views-words : (ws : List ℕ) → views (words ws) ≡ []
views-words [] = refl
views-words (w ∷ ws) = views-words ws

pub views-bytes : (bytes : List ℕ) → views (byte_cells bytes) ≡ []
views-bytes bytes =
    views-append (words (packed bytes).words) (Tail (packed bytes).left (packed bytes).bits ∷ [])
    ∙ ap (λ l. l ++ []) (views-words (packed bytes).words)

pub views-index : (number : ℕ) (places : List ℕ) → views (index_from number places) ≡ []
views-index number [] = refl
views-index number (place ∷ rest) = views-index (suc number) rest

-- the references among the cells of a node are its own
mutual
  pub views-node : (n : Node) → views (contents n) ≡ map view_of (refs n)
  views-node (Num width little bits) = refl
  views-node (Line bytes) = views-bytes bytes
  views-node (Ref strong wanted target) = refl
  views-node (Text index) = refl
  views-node (Bytes bytes) = views-bytes bytes
  views-node (Group members) =
      views-append (contents_in members) (content.End ∷ []) ∙ append-nil (views (contents_in members))
      ∙ views-members members
  views-node (Row items) =
      views-append (contents_in items) (content.End ∷ []) ∙ append-nil (views (contents_in items)) ∙ views-members items

  pub views-members : (members : Members) → views (contents_in members) ≡ map view_of (refs_in members)
  views-members End = refl
  views-members (Here n rest) =
      views-append (contents n) (contents_in rest) ∙ ap (λ l. l ++ views (contents_in rest)) (views-node n)
      ∙ ap (λ l. map view_of (refs n) ++ l) (views-members rest) ∙ sym (map-append view_of (refs n) (refs_in rest))
  views-members (Absent rest) = views-members rest

-- there are as many places as references
pub places-views : (at : ℕ) (cs : List Content) → length (places_from at cs) ≡ length (views cs)
places-views at [] = refl
places-views at (content.Reference view ∷ rest) = ap suc (places-views (suc at) rest)
places-views at (_ ∷ rest) = places-views (suc at) rest

pub places-none : (at : ℕ) (cs : List Content) → views cs ≡ [] → places_from at cs ≡ []
places-none at cs none = nil_from_length (places_from at cs) (places-views at cs ∙ ap length none)

pub places-count : (at : ℕ) (n : Node) → length (places_from at (contents n)) ≡ length (refs n)
places-count at n = places-views at (contents n) ∙ ap length (views-node n) ∙ length-map (refs n) view_of

-- the cells of an index are no references
pub places-index : (at number : ℕ) (places : List ℕ) → places_from at (index_from number places) ≡ []
places-index at number places = places-none at (index_from number places) (views-index number places)

pub places-tree : (n : Node) → places_from 0 (tree_contents n) ≡ places_from 0 (contents n)
places-tree n =
    places-more 0 (contents n) (index_from 0 (places_from 0 (contents n)))
    ∙ ap (λ l. places_from 0 (contents n) ++ l) (places-index (0 + length (contents n)) 0 (places_from 0 (contents n)))
    ∙ append-nil (places_from 0 (contents n))

-- the reference at one of the places
pub record IsThere (at : ℕ) (cs : List Content) (k p : ℕ) : Type 0 where
  pub steps : ℕ
  pub view : RefView
  pub place : p ≡ at + steps
  pub cell : slice_get cs steps ≡ Some (content.Reference view)
  pub kth : slice_get (views cs) k ≡ Some view

further : (at : ℕ) (c : Content) (rest : List Content) (k m p : ℕ) → IsThere (suc at) rest k p
    → (slice_get (views rest) k ≡ slice_get (views (c ∷ rest)) m) → IsThere at (c ∷ rest) m p
further at c rest k m p there same = record {
  steps = suc there.steps;
  view = there.view;
  place = there.place
      ∙ omega arith;
  cell = there.cell;
  kth = sym same ∙ there.kth;
}

pub there : (at : ℕ) (cs : List Content) (k p : ℕ) → slice_get (places_from at cs) k ≡ Some p → IsThere at cs k p
there at [] k p is = absurd (cc)
there at (content.Reference view ∷ rest) zero p is = let same : at
    ≡ p = cc in record { steps = 0; view = view; place = omega arith; cell = refl; kth = refl }
there at (content.Reference view ∷ rest) (suc k) p is =
    further at (content.Reference view) rest k (suc k) p (there (suc at) rest k p is) refl
there at (c ∷ rest) k p is = further at c rest k k p (there (suc at) rest k p is) refl

some : {A : Type 0} → (xs : List A) (k : ℕ) → k < length xs → (x : A) × (slice_get xs k ≡ Some x)
some [] k l = absurd (omega arith)
some (x ∷ xs) zero l = (x, refl)
some (x ∷ xs) (suc k) l = some xs k (omega arith)

-- at the place of a reference stands that reference
pub place-is : (n : Node) (k p : ℕ) (r : Reference) → slice_get (refs n) k ≡ Some r
    → slice_get (places_from 0 (contents n)) k ≡ Some p
    → (p < length (contents n)) × (slice_get (contents n) p ≡ Some (content.Reference (view_of r)))
place-is n k p r is at =
    let t = there 0 (contents n) k p at in
    let here : t.steps ≡ p = let e = t.place in omega arith in
    let want : slice_get (views (contents n)) k ≡ Some (view_of r) = ap (λ l. slice_get l k) (views-node n) ∙ slice_get-map view_of (refs n) k ∙ ap (λ o. option_map view_of o) is in
    let same_some : Some t.view ≡ Some (view_of r) = sym t.kth ∙ want in
    let same : t.view ≡ view_of r = cc in
    let cell : slice_get (contents n) p ≡ Some (content.Reference (view_of r)) = ap (λ j. slice_get (contents n) j) (sym here) ∙ t.cell ∙ ap (λ v. Some (content.Reference v)) same in
    (slice_get_within (contents n) p (content.Reference (view_of r)) cell, cell)

pub place-there : (n : Node) (k : ℕ) → k < length (refs n)
    → (p : ℕ) × (r : Reference) × (slice_get (places_from 0 (contents n)) k ≡ Some p)
    × (slice_get (refs n) k ≡ Some r) × (p < length (contents n))
    × (slice_get (contents n) p ≡ Some (content.Reference (view_of r)))
place-there n k l =
    let r = some (refs n) k l in
    let p = some (places_from 0 (contents n)) k (let e = places-count 0 n in omega arith) in
    let is = place-is n k p.0 r.0 r.1 p.1 in
    (p.0, r.0, p.1, r.1, is.0, is.1)

pub index-length : (number : ℕ) (places : List ℕ) → length (index_from number places) ≡ length places
index-length number [] = refl
index-length number (place ∷ rest) = ap suc (index-length (suc number) rest)

pub index-at : (number : ℕ) (places : List ℕ) (k p : ℕ) → slice_get places k ≡ Some p
    → slice_get (index_from number places) k ≡ Some (Place (number + k + 1) p)
index-at number [] k p at = absurd (cc)
index-at number (place ∷ rest) zero p at =
    let same : place ≡ p = cc in
    ap (λ q. Some (Place (suc number) q)) same ∙ ap (λ m. Some (Place m p)) (omega arith)
index-at number (place ∷ rest) (suc k) p at =
    index-at (suc number) rest k p at ∙ ap (λ m. Some (Place m p)) (omega arith)

-- what stands behind others
pub get-behind : {A : Type 0} → (a b : List A) (k : ℕ) → slice_get (a ++ b) (length a + k) ≡ slice_get b k
get-behind [] b k = ap (λ n. slice_get b n) (omega arith)
get-behind (x ∷ a) b k = ap (λ n. slice_get (x ∷ (a ++ b)) n) (suc-add (length a) k) ∙ get-behind a b k

-- what stands among the first
pub get-before : {A : Type 0} → (a b : List A) (k : ℕ) → k < length a → slice_get (a ++ b) k ≡ slice_get a k
get-before [] b k l = absurd (omega arith)
get-before (x ∷ a) b zero l = refl
get-before (x ∷ a) b (suc k) l = get-before a b k (omega arith)

-- the index of a tree
pub tree-index : (n : Node) (k p : ℕ) → slice_get (places_from 0 (contents n)) k ≡ Some p
    → slice_get (tree_contents n) (length (contents n) + k) ≡ Some (Place (k + 1) p)
tree-index n k p at =
    get-behind (contents n) (index_from 0 (places_from 0 (contents n))) k
    ∙ index-at 0 (places_from 0 (contents n)) k p at
    ∙ ap (λ m. Some (Place m p)) (omega arith)

pub tree-length : (n : Node) → length (tree_contents n) ≡ length (contents n) + length (refs n)
tree-length n =
    length-append (contents n) (index_from 0 (places_from 0 (contents n)))
    ∙ ap (λ k. length (contents n) + k) (index-length 0 (places_from 0 (contents n)) ∙ places-count 0 n)

-- no cell of an index is among these
abbrev IsPlaceless : List Content → Type 0
IsPlaceless [] = Unit {0}
IsPlaceless (Place number place ∷ rest) = ⊥
IsPlaceless (_ ∷ rest) = IsPlaceless rest

placeless-append : (a b : List Content) → IsPlaceless a → IsPlaceless b → IsPlaceless (a ++ b)
placeless-append [] b ha hb = hb
placeless-append (Place number place ∷ rest) b ha hb = absurd ha
placeless-append (_ ∷ rest) b ha hb = placeless-append rest b ha hb

placeless-words : (ws : List ℕ) → IsPlaceless (words ws)
placeless-words [] = tt
placeless-words (w ∷ ws) = placeless-words ws

placeless-bytes : (bytes : List ℕ) → IsPlaceless (byte_cells bytes)
placeless-bytes bytes = placeless-append (words (packed bytes).words)
    (Tail (packed bytes).left (packed bytes).bits ∷ []) (placeless-words (packed bytes).words) tt

mutual
  placeless-node : (n : Node) → IsPlaceless (contents n)
  placeless-node (Num width little bits) = tt
  placeless-node (Line bytes) = placeless-bytes bytes
  placeless-node (Ref strong wanted target) = tt
  placeless-node (Text index) = tt
  placeless-node (Bytes bytes) = placeless-bytes bytes
  placeless-node (Group members) =
      placeless-append (contents_in members) (content.End ∷ []) (placeless-members members) tt
  placeless-node (Row items) = placeless-append (contents_in items) (content.End ∷ []) (placeless-members items) tt

  placeless-members : (members : Members) → IsPlaceless (contents_in members)
  placeless-members End = tt
  placeless-members (Here n rest) =
      placeless-append (contents n) (contents_in rest) (placeless-node n) (placeless-members rest)
  placeless-members (Absent rest) = placeless-members rest

placeless-at : (cs : List Content) (k number place : ℕ) → IsPlaceless cs → slice_get cs k ≢ Some (Place number place)
placeless-at [] k number place h = λ e. absurd (cc)
placeless-at (Place n p ∷ rest) k number place h = absurd h
placeless-at (c ∷ rest) zero number place h = λ e. absurd (cc)
placeless-at (c ∷ rest) (suc k) number place h = placeless-at rest k number place h

-- none of the cells of a node itself is of an index
pub no-place : (n : Node) (k number place : ℕ) → slice_get (contents n) k ≢ Some (Place number place)
no-place n k number place = placeless-at (contents n) k number place (placeless-node n)

pub last-place : (n : Node) → 0 < length (refs n)
    → (p : ℕ) × (slice_get (tree_contents n) (length (tree_contents n) - 1) ≡ Some (Place (length (refs n)) p))
last-place n has =
    let p = some (places_from 0 (contents n)) (length (refs n) - 1) (let e = places-count 0 n in omega arith) in
    let long = tree-length n in
    let where_ : length (tree_contents n) - 1 ≡ length (contents n) + (length (refs n) - 1) = omega arith in
    let number : length (refs n) - 1 + 1 ≡ length (refs n) = omega arith in (
      p.0,
      ap (λ k. slice_get (tree_contents n) k) where_ ∙ tree-index n (length (refs n) - 1) p.0 p.1
          ∙ ap (λ m. Some (Place m p.0)) number,
    )

pub no-index : (n : Node) → length (refs n) ≡ 0 → tree_contents n ≡ contents n
no-index n none =
    ap (λ l. contents n ++ index_from 0 l) (nil_from_length (places_from 0 (contents n)) (places-count 0 n ∙ none))
    ∙ append-nil (contents n)

pub some-cell : (n : Node) → 0 < length (contents n)
some-cell (Num width little bits) = omega arith
some-cell (Line bytes) = omega arith
some-cell (Ref strong wanted target) = omega arith
some-cell (Text index) = omega arith
some-cell (Bytes bytes) = omega arith
some-cell (Group members) = omega arith
some-cell (Row items) = omega arith

pub indexed : (n : Node) (k : ℕ) → k < length (refs n) → IsIndexed n k
indexed n k l =
    let t = place-there n k l in
    record {
      reference = t.1;
      place = t.0;
      kth = t.3;
      index = tree-index n k t.0 t.2;
      cell = get-before (contents n) (index_from 0 (places_from 0 (contents n))) t.0 t.4 ∙ t.5;
    }
