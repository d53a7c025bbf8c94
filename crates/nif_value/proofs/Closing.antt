-- The end of a level, and of a tree.
use Rattle.std.proofs.Common.{ℕ, ◌≡◌, ◌≢◌, ◌+◌, ◌^◌, ◌<◌, ◌≤◌, List, [], ◌∷◌, ◌++◌, length, Option, None, Some, sym, ◌∙◌, ap, refl, arith, subst, length-append, append-nil, slice_set}
use Rattle.std.specs.Prelude.{IsSome, IsSomeAnd}
use Rattle.std.specs.Option.{option_map}
use Rattle.std.proofs.lemmas.List.{map-set, length-set}
use Rattle.nif_base.specs.Node.{Node, nodes}
use Rattle.nif_region.specs.Contents.{Contents, patched}
use Rattle.nif_region.specs.declared.cells.Cell.{Cell}
use Rattle.nif_cells.specs.Building.{Building, Level, InBytes, InGroup, InRow, placed, closed, node_of, bytes_of, nodes_open, bytes_open, TakesNode}
use Rattle.nif_cells.specs.Codes.{content_of}
use Rattle.nif_cells.specs.Encoding.{contents, tree_contents, places_from, packed, index_from}
use Rattle.nif_cells.specs.Reading.{said, tree_in}
use Rattle.nif_cells.specs.Small.{HasBytes}
use Rattle.nif_cells.specs.Progress.{building_contents, closed_head, end_of, AreHolding}
use Rattle.nif_cells.specs.declared.contents.Content.{Content}
use Rattle.nif_cells.specs.CellLaws.{closes, closed-cells, closed-inside, places-close, places-more, nodes-behind, bytes-behind, tree_known}
use Rattle.nif_value.specs.Trees.{IsWithin, IsOpen, after}
use Rattle.nif_value.specs.Kept.{IsTree, building_of}
use Rattle.nif_value.specs.Built.{IsBuilt, Stands, StandsAlone, marks, counted, bytes_inside, kind_of, size_of, head_said, end_said}
use Rattle.nif_value.specs.declared.builders.Open.{Open}
use Rattle.nif_value.proofs.Standing.{reads, said-count}
use Rattle.nif_value.proofs.Steps.{marks-placed, alone-placed, small-placed, inside-placed, said-more}

pub last-same : {A : Type 0} (a b : List A) (x y : A) → a ++ x ∷ [] ≡ b ++ y ∷ [] → (a ≡ b) × (x ≡ y)
last-same [] [] x y e = (refl, cc)
last-same [] (v ∷ []) x y e = absurd (cc)
last-same [] (v ∷ (w ∷ rest)) x y e = absurd (cc)
last-same (u ∷ []) [] x y e = absurd (cc)
last-same (u ∷ (w ∷ rest)) [] x y e = absurd (cc)
last-same (u ∷ a) (v ∷ b) x y e = let t : a ++ x ∷ [] ≡ b ++ y ∷ [] = cc in let h : u ≡ v = cc in let l = last-same a b x y t in (ap (λ z. z ∷ a) h ∙ ap (λ z. v ∷ z) l.0, l.1)

-- A level is innermost, with what is kept of it.
pub record IsInnermost (tree : Building) (levels : List Open) : Type 0 where
  pub level : Level
  pub outer : List Level
  pub is : tree ≡ record { top = None; levels = level ∷ outer }
  pub levels_are : levels ≡ marks outer ++ record { kind = kind_of level; head = length (building_contents outer); count = size_of level } ∷ []

pub innermost : {tree : Building} {cells : List Cell} {levels : List Open} {references : List ℕ} {pushed left bits spare places : ℕ} → IsBuilt tree cells levels references pushed left bits spare places → IsOpen tree → IsInnermost tree levels
innermost {tree} {levels = levels} h some = by tree.top tree.levels h.alone h.levels_are some where
  by : (top : Option Node) (ls : List Level) → StandsAlone top ls → levels ≡ marks ls → (ls ≢ []) → IsInnermost (record { top = top; levels = ls }) levels
  by top [] a e n = absurd (n refl)
  by None (level ∷ outer) a e n = record { level = level; outer = outer; is = refl; levels_are = e }
  by (Some t) (level ∷ outer) a e n = absurd (let z = a.1 in cc)

-- the level that was taken, and those that are left
pub taken : {tree : Building} {levels : List Open} (i : IsInnermost tree levels) (rest : List Open) (o : Open) → levels ≡ rest ++ o ∷ []
    → (rest ≡ marks i.outer) × (o ≡ record { kind = kind_of i.level; head = length (building_contents i.outer); count = size_of i.level })
taken i rest o e = last-same rest (marks i.outer) o _ (sym e ∙ i.levels_are)

head-same : (level : Level) → closed_head level ≡ head_said (kind_of level) (size_of level)
head-same (InBytes bytes) = refl
head-same (InGroup members) = refl
head-same (InRow items) = refl

end-same : (level : Level) (outer : List Level) (left bits : ℕ) → left ≡ (packed (bytes_inside (level ∷ outer))).left → bits ≡ (packed (bytes_inside (level ∷ outer))).bits → end_said (kind_of level) left bits ≡ end_of level
end-same (InBytes bytes) outer left bits l b = rw (l, b) refl
end-same (InGroup members) outer left bits l b = refl
end-same (InRow items) outer left bits l b = refl

end-places : (level : Level) (at : ℕ) → places_from at (end_of level ∷ []) ≡ []
end-places (InBytes bytes) at = refl
end-places (InGroup members) at = refl
end-places (InRow items) at = refl

takes : (outer : List Level) → AreHolding outer → TakesNode (record { top = None; levels = outer })
takes [] h = refl
takes (InBytes bytes ∷ outer) h = absurd h.0
takes (InGroup members ∷ outer) h = tt
takes (InRow items ∷ outer) h = tt

no-bytes : (outer : List Level) → AreHolding outer → bytes_inside outer ≡ []
no-bytes [] h = refl
no-bytes (InBytes bytes ∷ outer) h = absurd h.0
no-bytes (InGroup members ∷ outer) h = refl
no-bytes (InRow items ∷ outer) h = refl

-- no node and no byte is lost
within-closed : (n : Node) (outer : List Level) → AreHolding outer → nodes n + nodes_open outer ≤ 2 ^ 24 → bytes_of n + bytes_open outer ≤ 2 ^ 26 → length outer ≤ 255 → IsWithin (placed n outer)
within-closed n [] h a b l = record { nodes_within = omega arith; bytes_within = omega arith; levels_within = omega arith }
within-closed n (InBytes bytes ∷ outer) h a b l = absurd h.0
within-closed n (InGroup members ∷ outer) h a b l =
    let e = nodes-behind members n in
    let f = bytes-behind members n in
    record { nodes_within = omega arith; bytes_within = omega arith; levels_within = omega arith }
within-closed n (InRow items ∷ outer) h a b l =
    let e = nodes-behind items n in
    let f = bytes-behind items n in
    record { nodes_within = omega arith; bytes_within = omega arith; levels_within = omega arith }

module _ {level : Level} {outer : List Level} {cells : List Cell} {levels : List Open} {references : List ℕ} {pushed left bits spare places : ℕ} where
  pub built-closed : IsBuilt (record { top = None; levels = level ∷ outer }) cells levels references pushed left bits spare places → (more : List Cell) (cell : Cell) (o : Open) (levels' : List Open) (pushed' left' bits' spare' places' : ℕ)
      → o ≡ record { kind = kind_of level; head = length (building_contents outer); count = size_of level } → said more ≡ end_said o.kind left bits ∷ [] → content_of cell ≡ head_said o.kind o.count → levels' ≡ counted 1 (marks outer) → pushed' ≡ pushed + 1 → left' ≡ 0 → bits' ≡ 0
      → length references + length levels' ≤ spare' → 256 ≤ places' → IsBuilt (closed (level ∷ outer)) (slice_set (cells ++ more) o.head cell) levels' references pushed' left' bits' spare' places'
  built-closed h more cell o levels' pushed' left' bits' spare' places' is says head le pe l b room wide =
      let ended : said more ≡ end_of level ∷ [] = says ∙ ap (λ (x : Open). end_said x.kind left bits ∷ []) is ∙ ap (λ x. x ∷ []) (end-same level outer left bits h.left_is h.bits_are) in
      let headed : content_of cell ≡ closed_head level = head ∙ ap (λ (x : Open). head_said x.kind x.count) is ∙ sym (head-same level) in
      let at : o.head ≡ length (building_contents outer) = ap (λ (x : Open). x.head) is in
      let whole : said (cells ++ more) ≡ building_contents (level ∷ outer) ++ end_of level ∷ [] = said-more cells more ∙ ap (λ x. x ++ said more) h.says ∙ ap (λ x. building_contents (level ∷ outer) ++ x) ended in
      let set : said (slice_set (cells ++ more) o.head cell) ≡ building_contents outer ++ contents (node_of level) =
      map-set content_of (cells ++ more) o.head cell ∙ ap (λ x. slice_set x o.head (content_of cell)) whole ∙ ap (λ x. slice_set (building_contents (level ∷ outer) ++ end_of level ∷ []) x (content_of cell)) at
      ∙ ap (slice_set (building_contents (level ∷ outer) ++ end_of level ∷ []) (length (building_contents outer))) headed ∙ closes level outer in
      let one : length more ≡ 1 = sym (said-count more) ∙ ap length ended in
      let n = length-append cells more in
      let s = length-set (cells ++ more) o.head cell in
      record {
        says = set ∙ sym (closed-cells level outer h.inside);
        levels_are = le ∙ marks-placed (node_of level) (record { top = None; levels = outer }) (takes outer h.inside);
        references_are = h.references_are ∙ ap (places_from 0) h.says ∙ sym (
            ap (places_from 0) set ∙ places-close 0 level outer ∙ places-more 0 (building_contents (level ∷ outer)) (end_of level ∷ [])
            ∙ ap (λ x. places_from 0 (building_contents (level ∷ outer)) ++ x) (end-places level (0 + length (building_contents (level ∷ outer)))) ∙ append-nil (places_from 0 (building_contents (level ∷ outer))));
        pushed_are = omega (arith, h.pushed_are);
        left_is = l ∙ ap (λ x. (packed x).left) (sym (inside-placed (node_of level) outer ∙ no-bytes outer h.inside));
        bits_are = b ∙ ap (λ x. (packed x).bits) (sym (inside-placed (node_of level) outer ∙ no-bytes outer h.inside));
        inside = closed-inside level outer h.inside;
        alone = alone-placed (node_of level) outer h.has_bytes.0;
        has_bytes = small-placed (node_of level) outer h.has_bytes.0 h.has_bytes.1;
        within = within-closed (node_of level) outer h.inside (omega (arith, h.within.nodes_within)) (omega (arith, h.within.bytes_within)) (omega (arith, h.within.levels_within));
        room = room;
        room_levels = wide;
      }

  -- the head stands among the cells
  pub head-there : IsBuilt (record { top = None; levels = level ∷ outer }) cells levels references pushed left bits spare places → length (building_contents outer) < length cells
  head-there h =
      let n = sym (said-count cells) ∙ ap length h.says ∙ length-append (building_contents outer) (head_first level) in
      let s = some level in
      omega arith
    where
      head_first : Level → List Content
      head_first l = building_contents (l ∷ [])

      some : (l : Level) → 1 ≤ length (building_contents (l ∷ []))
      some l = omega arith

-- a tree that has ended

-- A node stands at the top, and nothing is open.
pub record IsEnded (region : Contents) (levels : List Open) (references : List ℕ) (pushed left bits places : ℕ) : Type 0 where
  pub cells : List Cell
  pub was : region.building ≡ Some cells
  pub tree : Node
  pub built : IsBuilt (record { top = Some tree; levels = [] }) cells levels references pushed left bits region.spare_cells places
  pub seen : option_map (building_of left bits) region.building ≡ Some (record { top = Some tree; levels = [] })

pub ended-of : (region : Contents) (levels : List Open) (references : List ℕ) (pushed left bits places : ℕ) → Stands region.building levels references pushed left bits region.spare_cells places
    → IsSomeAnd (option_map (building_of left bits) region.building) (λ b. IsSome b.top × (b.levels ≡ [])) → IsEnded region levels references pushed left bits places
ended-of region levels references pushed left bits places stands whole = here region.building refl stands whole where
  there : (cells : List Cell) → region.building ≡ Some cells → (top : Option Node) (ls : List Level) → IsBuilt (record { top = top; levels = ls }) cells levels references pushed left bits region.spare_cells places → IsSome top → ls ≡ []
      → IsEnded region levels references pushed left bits places
  there cells is None ls b some none = absurd (cc)
  there cells is (Some n) ls b some none =
      let b' = subst (λ x. IsBuilt (record { top = Some n; levels = x }) cells levels references pushed left bits region.spare_cells places) none b in
      record { cells = cells; was = is; tree = n; built = b'; seen = ap (option_map (building_of left bits)) is ∙ ap Some (reads b') }

  here : (o : Option (List Cell)) → region.building ≡ o → Stands o levels references pushed left bits region.spare_cells places → IsSomeAnd (option_map (building_of left bits) o) (λ b. IsSome b.top × (b.levels ≡ []))
      → IsEnded region levels references pushed left bits places
  here None is stands whole = absurd whole
  here (Some cells) is stands whole =
      let w = subst (λ (b : Building). IsSome b.top × (b.levels ≡ [])) (reads stands.1) whole in
      there cells is stands.0.top stands.0.levels stands.1 w.0 w.1

module _ {tree : Node} {cells : List Cell} {levels : List Open} {references : List ℕ} {pushed left bits spare places : ℕ} where
  -- the cells of a tree, with its index
  pub ended-tree : IsBuilt (record { top = Some tree; levels = [] }) cells levels references pushed left bits spare places → (more : List Cell) → said more ≡ index_from 0 references → IsTree (cells ++ more) × (tree_in (cells ++ more) ≡ tree)
  ended-tree h more index =
      let own : said cells ≡ contents tree = h.says ∙ append-nil (contents tree) in
      let says : said (cells ++ more) ≡ tree_contents tree = said-more cells more ∙ ap (λ x. x ++ said more) own ∙ ap (λ x. contents tree ++ x) (index ∙ ap (index_from 0) (h.references_are ∙ ap (places_from 0) own)) in
      let known = tree_known (cells ++ more) tree says h.alone.0 in (
        record {
          says = says ∙ ap tree_contents (sym known);
          has_bytes = subst HasBytes (sym known) h.alone.0;
          nodes_within = subst (λ n. nodes n ≤ 2 ^ 24) (sym known) (omega (arith, h.within.nodes_within));
          bytes_within = subst (λ n. bytes_of n ≤ 2 ^ 26) (sym known) (omega (arith, h.within.bytes_within));
        },
        known,
      )

  pub ended-small : IsBuilt (record { top = Some tree; levels = [] }) cells levels references pushed left bits spare places → (length levels ≡ 0) × (left ≡ 0) × (bits ≡ 0)
  ended-small h = (ap length h.levels_are, h.left_is, h.bits_are)

-- a level that is to end

pub record IsClosing (region : Contents) (levels : List Open) (references : List ℕ) (pushed left bits places : ℕ) : Type 0 where
  pub cells : List Cell
  pub was : region.building ≡ Some cells
  pub level : Level
  pub outer : List Level
  pub built : IsBuilt (record { top = None; levels = level ∷ outer }) cells levels references pushed left bits region.spare_cells places
  pub levels_are : levels ≡ marks outer ++ record { kind = kind_of level; head = length (building_contents outer); count = size_of level } ∷ []
  pub some : 1 ≤ length levels
  pub after_is : after (option_map (building_of left bits) region.building) closed ≡ Some (closed (level ∷ outer))

pub closing-of : (region : Contents) (levels : List Open) (references : List ℕ) (pushed left bits places : ℕ) → Stands region.building levels references pushed left bits region.spare_cells places
    → IsSomeAnd (option_map (building_of left bits) region.building) IsOpen → IsClosing region levels references pushed left bits places
closing-of region levels references pushed left bits places stands some = here region.building refl stands some where
  here : (o : Option (List Cell)) → region.building ≡ o → Stands o levels references pushed left bits region.spare_cells places → IsSomeAnd (option_map (building_of left bits) o) IsOpen → IsClosing region levels references pushed left bits places
  here None is stands some = absurd some
  here (Some cells) is stands some =
      let i = innermost stands.1 (subst IsOpen (reads stands.1) some) in
      let b = subst (λ (x : Building). IsBuilt x cells levels references pushed left bits region.spare_cells places) i.is stands.1 in
      let n = ap length i.levels_are ∙ length-append (marks i.outer) (record { kind = kind_of i.level; head = length (building_contents i.outer); count = size_of i.level } ∷ []) in
      record {
        cells = cells;
        was = is;
        level = i.level;
        outer = i.outer;
        built = b;
        levels_are = i.levels_are;
        some = omega arith;
        after_is = ap (λ o. after (option_map (building_of left bits) o) closed) is ∙ ap (λ (x : Building). Some (closed x.levels)) (reads b);
      }

pub patched-is : (o new : Option (List Cell)) (cells : List Cell) (place : ℕ) (cell : Cell) → o ≡ Some cells → new ≡ patched o place cell → new ≡ Some (slice_set cells place cell)
patched-is o new cells place cell e f = f ∙ ap (λ x. patched x place cell) e
