-- A tree that is being built, and what is kept of it.
use Rattle.std.proofs.Common.{ℕ, ◌≡◌, ◌+◌, ◌*◌, ◌/◌, ◌^◌, ◌≤◌, List, [], ◌∷◌, ◌++◌, length, Option, None, Some, Bool, true, false, if◌then◌else◌, sym, ◌∙◌, ap, refl, arith, subst, length-append, append_assoc, append-nil, min, nat_lt}
use Rattle.std.specs.Prelude.{IsSomeAnd}
use Rattle.std.specs.Option.{option_map}
use Rattle.std.proofs.lemmas.List.{length-map, map-append}
use Rattle.nif_base.specs.Node.{Node, low_first, nodes}
use Rattle.nif_region.specs.Contents.{Contents}
use Rattle.nif_region.specs.declared.cells.Cell.{Cell}
use Rattle.nif_cells.specs.Building.{Building, Level, InBytes, InGroup, InRow, lengthened, bytes_of, nodes_open, bytes_open}
use Rattle.nif_cells.specs.Codes.{content_of}
use Rattle.nif_cells.specs.Encoding.{contents, places_from, packed}
use Rattle.nif_cells.specs.Reading.{Reading, nothing_read, said, building_in}
use Rattle.nif_cells.specs.Progress.{building_contents, contents_of, IsOpenInside, HasBytesOpen, in_cells, unpacked}
use Rattle.nif_cells.specs.declared.contents.Content.{Content}
use Rattle.nif_cells.specs.CellLaws.{read_node, read-open, in_cells-bytes, places-count, tree-cells, tree-length, cells-bound, open-cells}
use Rattle.nif_value.specs.Trees.{IsWithin, nodes_built, bytes_built, most_cells_built, of_top, Takes, after}
use Rattle.nif_value.specs.Kept.{with_last, building_of, spare_in}
use Rattle.nif_value.specs.Built.{IsBuilt, Stands, StandsAlone, marks, bytes_inside, Puts, MayPut}
use Rattle.nif_value.specs.declared.builders.Open.{Open}

-- more room, and places for more levels
pub more-room : (o : Option (List Cell)) (levels : List Open) (references : List ℕ) (pushed left bits spare more places wide : ℕ) → spare ≤ more → places ≤ wide → Stands o levels references pushed left bits spare places → Stands o levels references pushed left bits more wide
more-room None levels references pushed left bits spare more places wide l w h = h
more-room (Some cells) levels references pushed left bits spare more places wide l w h = (
  h.0,
  record {
    says = h.1.says;
    levels_are = h.1.levels_are;
    references_are = h.1.references_are;
    pushed_are = h.1.pushed_are;
    left_is = h.1.left_is;
    bits_are = h.1.bits_are;
    inside = h.1.inside;
    alone = h.1.alone;
    has_bytes = h.1.has_bytes;
    within = h.1.within;
    room = omega (arith, h.1.room);
    room_levels = omega (arith, h.1.room_levels);
  },
)

-- what is being built stands, and room is not lost
pub stands-on : (old new : Contents) (levels : List Open) (references : List ℕ) (pushed left bits places wide : ℕ) → Stands old.building levels references pushed left bits old.spare_cells places → new.building ≡ old.building
    → old.spare_cells ≤ new.spare_cells + 0 → places ≤ wide → Stands new.building levels references pushed left bits new.spare_cells wide
stands-on old new levels references pushed left bits places wide h same l w =
    subst (λ o. Stands o levels references pushed left bits new.spare_cells wide) (sym same) (more-room old.building levels references pushed left bits old.spare_cells new.spare_cells places wide (omega arith) w h)

-- what is read from the cells, with the bytes that are in none, is the tree

with_last-bytes : (xs u : List ℕ) (outer : List Level) → with_last xs (record { top = None; levels = InBytes u ∷ outer }) ≡ lengthened xs (InBytes u ∷ outer)
with_last-bytes [] u outer = ap (λ l. record { top = None; levels = InBytes l ∷ outer }) (sym (append-nil u))
with_last-bytes (x ∷ rest) u outer = refl

open-read : (left bits : ℕ) (levels : List Level) → HasBytesOpen levels → left ≡ (packed (bytes_inside levels)).left → bits ≡ (packed (bytes_inside levels)).bits
    → with_last (low_first left bits) (record { top = None; levels = in_cells levels }) ≡ record { top = None; levels = levels }
open-read left bits [] small l b = subst (λ n. with_last (low_first n bits) (record { top = None; levels = [] }) ≡ record { top = None; levels = [] }) (sym l) refl
open-read left bits (InBytes bytes ∷ outer) small l b =
    rw (l, b) (with_last-bytes (low_first (packed bytes).left (packed bytes).bits) (unpacked (packed bytes).words) outer ∙ in_cells-bytes bytes outer small.0)
open-read left bits (InGroup members ∷ outer) small l b = subst (λ n. with_last (low_first n bits) (record { top = None; levels = InGroup members ∷ outer }) ≡ record { top = None; levels = InGroup members ∷ outer }) (sym l) refl
open-read left bits (InRow items ∷ outer) small l b = subst (λ n. with_last (low_first n bits) (record { top = None; levels = InRow items ∷ outer }) ≡ record { top = None; levels = InRow items ∷ outer }) (sym l) refl

tree-read : (left bits : ℕ) (top : Option Node) (levels : List Level) → StandsAlone top levels → IsOpenInside levels → HasBytesOpen levels → left ≡ (packed (bytes_inside levels)).left → bits ≡ (packed (bytes_inside levels)).bits
    → with_last (low_first left bits) (building_in (contents_of (record { top = top; levels = levels }))) ≡ record { top = top; levels = levels }
tree-read left bits None levels alone inside small l b = ap (λ (r : Reading). with_last (low_first left bits) r.building) (read-open levels inside small) ∙ open-read left bits levels small l b
tree-read left bits (Some n) levels alone inside small l b =
    let none : left ≡ 0 = l ∙ ap (λ x. (packed (bytes_inside x)).left) alone.1 in
    let says : contents n ++ building_contents levels ≡ contents n = ap (λ x. contents n ++ building_contents x) alone.1 ∙ append-nil (contents n) in
    ap (λ x. with_last (low_first x bits) (building_in (contents n ++ building_contents levels))) none
    ∙ ap (λ x. building_in x) says
    ∙ ap (λ (r : Reading). r.building) (read_node n nothing_read alone.0 refl)
    ∙ ap (λ x. record { top = Some n; levels = x }) (sym alone.1)

module _ {tree : Building} {cells : List Cell} {levels : List Open} {references : List ℕ} {pushed left bits spare places : ℕ} where
  pub reads : IsBuilt tree cells levels references pushed left bits spare places → building_of left bits cells ≡ tree
  reads h = rw h.says (tree-read left bits tree.top tree.levels h.alone h.inside h.has_bytes h.left_is h.bits_are)

-- how many cells there are

pub same_places : (at : ℕ) (n : Node) → length (places_from at (contents n)) ≡ length (places_from 0 (contents n))
same_places at n = places-count at n ∙ sym (places-count 0 n)

pub tree-size : (top : Option Node) (levels : List Level) → StandsAlone top levels
    → length (contents_of (record { top = top; levels = levels })) + length (places_from 0 (contents_of (record { top = top; levels = levels }))) + length levels ≤ 2 * (of_top nodes top + nodes_open levels) + (of_top bytes_of top + bytes_open levels) / 8
tree-size None levels alone = let s = open-cells levels in omega arith
tree-size (Some n) levels alone =
    let says : contents n ++ building_contents levels ≡ contents n = ap (λ x. contents n ++ building_contents x) alone.1 ∙ append-nil (contents n) in
    let none : length levels ≡ 0 = ap length alone.1 in
    let no_nodes : nodes_open levels ≡ 0 = ap nodes_open alone.1 in
    let no_bytes : bytes_open levels ≡ 0 = ap bytes_open alone.1 in
    let own = tree-cells n in
    let bound = cells-bound n in
    let parts = tree-length n in
    let many = places-count 0 n in
    rw (says, none, no_nodes, no_bytes) (omega arith)

said-more : (a b : List Cell) → said (a ++ b) ≡ said a ++ said b
said-more a b = map-append content_of a b

pub said-count : (cells : List Cell) → length (said cells) ≡ length cells
said-count cells = length-map cells content_of

pub marks-count : (levels : List Level) → length (marks levels) ≡ length levels
marks-count [] = refl
marks-count (level ∷ outer) = let m = marks-count outer in rw length-append (omega arith)

module _ {tree : Building} {cells : List Cell} {levels : List Open} {references : List ℕ} {pushed left bits spare places : ℕ} where
  pub built-size : IsBuilt tree cells levels references pushed left bits spare places → length cells + length references + length levels ≤ 2 * nodes_built tree + bytes_built tree / 8
  built-size h =
      let s = tree-size tree.top tree.levels h.alone in
      let c = sym (said-count cells) ∙ ap length h.says in
      let r = ap length (h.references_are ∙ ap (places_from 0) h.says) in
      let m = ap length h.levels_are ∙ marks-count tree.levels in
      omega arith

  pub built-few : IsBuilt tree cells levels references pushed left bits spare places → length cells + length references + length levels ≤ 2 ^ 26
  built-few h = let s = built-size h in omega (arith, h.within.nodes_within, h.within.bytes_within)

-- the room that is seen
pub room-seen : (region : Contents) (cells : List Cell) (open_places reference_places most : ℕ) → region.building ≡ Some cells → most + 1 ≤ spare_in region open_places reference_places
    → (most + 1 ≤ region.spare_cells + (length cells + 1)) × (most ≤ 2 * reference_places)
room-seen region cells open_places reference_places most is less = by (nat_lt open_places 256) (rw is at less) where
  by : (t : Bool) → most + 1 ≤ (if t then 0 else min (region.spare_cells + (length cells + 1)) (2 * reference_places + 1)) → (most + 1 ≤ region.spare_cells + (length cells + 1)) × (most ≤ 2 * reference_places)
  by true l = absurd (omega arith)
  by false l = (omega arith, omega arith)

-- a step that a tree takes

-- A tree that is being built takes a step.
pub record IsStep (region : Contents) (levels : List Open) (references : List ℕ) (pushed left bits places : ℕ) (HasPlace : Building → Type 0) (step : List Level → Building) : Type 0 where
  pub cells : List Cell
  pub was : region.building ≡ Some cells
  pub tree : Building
  pub built : IsBuilt tree cells levels references pushed left bits region.spare_cells places
  pub place : HasPlace tree
  pub within : IsWithin (step tree.levels)
  pub after_is : after (option_map (building_of left bits) region.building) step ≡ Some (step tree.levels)

pub step-of : (region : Contents) (levels : List Open) (references : List ℕ) (pushed left bits places : ℕ) (HasPlace : Building → Type 0) (step : List Level → Building) → Stands region.building levels references pushed left bits region.spare_cells places
    → Takes (option_map (building_of left bits) region.building) HasPlace step → IsStep region levels references pushed left bits places HasPlace step
step-of region levels references pushed left bits places HasPlace step stands takes = here region.building refl stands takes.place takes.limits where
  here : (o : Option (List Cell)) → region.building ≡ o → Stands o levels references pushed left bits region.spare_cells places → IsSomeAnd (option_map (building_of left bits) o) HasPlace
      → IsSomeAnd (after (option_map (building_of left bits) o) step) IsWithin → IsStep region levels references pushed left bits places HasPlace step
  here None is stands place limits = absurd place
  here (Some cells) is stands place limits = record {
    cells = cells;
    was = is;
    tree = stands.0;
    built = stands.1;
    place = subst HasPlace (reads stands.1) place;
    within = subst (λ b. IsWithin (step b.levels)) (reads stands.1) limits;
    after_is = rw is (ap (λ b. Some (step b.levels)) (reads stands.1));
  }

-- the room that a step has, where all that the tree may take then is there
pub enough : {region : Contents} {levels : List Open} {references : List ℕ} {pushed left bits places : ℕ} {HasPlace : Building → Type 0} {step : List Level → Building} → (t : IsStep region levels references pushed left bits places HasPlace step) → (reference_places : ℕ)
    → most_cells_built (after (option_map (building_of left bits) region.building) step) ≤ spare_in region places reference_places
    → (2 * nodes_built (step t.tree.levels) + bytes_built (step t.tree.levels) / 8 + 1 ≤ region.spare_cells + (length t.cells + 1)) × (2 * nodes_built (step t.tree.levels) + bytes_built (step t.tree.levels) / 8 ≤ 2 * reference_places)
enough {region} {places = places} {step = step} t reference_places less =
    room-seen region t.cells places reference_places (2 * nodes_built (step t.tree.levels) + bytes_built (step t.tree.levels) / 8) t.was (subst (λ b. most_cells_built b ≤ spare_in region places reference_places) t.after_is less)

-- after cells were put, with a tree that they are of
pub record IsDone (region : Contents) (levels : List Open) (references : List ℕ) (pushed left bits places : ℕ) (tree : Building) : Type 0 where
  pub cells : List Cell
  pub is : region.building ≡ Some cells
  pub built : IsBuilt tree cells levels references pushed left bits region.spare_cells places

module _ {region : Contents} {levels : List Open} {references : List ℕ} {pushed left bits places : ℕ} {tree : Building} where
  pub done-stands : IsDone region levels references pushed left bits places tree → Stands region.building levels references pushed left bits region.spare_cells places
  done-stands d = subst (λ o. Stands o levels references pushed left bits region.spare_cells places) (sym d.is) (tree, d.built)

  pub done-reads : IsDone region levels references pushed left bits places tree → option_map (building_of left bits) region.building ≡ Some tree
  done-reads d = rw d.is (ap Some (reads d.built))

-- what was put stands behind the cells
pub puts-is : {old new : Contents} {more : List Content} (cells : List Cell) → (p : Puts old new more) → old.building ≡ Some cells → new.building ≡ Some (cells ++ p.cells)
puts-is cells p was = p.is ∙ ap (λ b. Some (b ++ p.cells)) (same _ _ _ p.was was) where
  same : (a b : List Cell) (o : Option (List Cell)) → o ≡ Some a → o ≡ Some b → a ≡ b
  same a b o x y = cc

pub puts-count : {old new : Contents} {more : List Content} (p : Puts old new more) → length p.cells ≡ length more
puts-count p = sym (said-count p.cells) ∙ ap length p.says

pub puts-none : (region : Contents) (before : List Cell) → region.building ≡ Some before → Puts region region []
puts-none region before was = record { before = before; cells = []; was = was; is = was ∙ ap Some (sym (append-nil before)); says = refl; same_runs = refl; spare_cells = omega arith; spare_runs = omega arith }

pub puts-more : {old mid new : Contents} {first last : List Content} → Puts old mid first → Puts mid new last → Puts old new (first ++ last)
puts-more {old} {mid} {new} {first} {last} p q = record {
  before = p.before;
  cells = p.cells ++ q.cells;
  was = p.was;
  is = puts-is (p.before ++ p.cells) q p.is ∙ ap Some (append_assoc p.before p.cells q.cells);
  says = map-append content_of p.cells q.cells ∙ ap (λ l. l ++ said q.cells) p.says ∙ ap (λ l. first ++ l) q.says;
  same_runs = q.same_runs ∙ p.same_runs;
  spare_cells = let n = length-append first last in omega (arith, p.spare_cells, q.spare_cells);
  spare_runs = omega (arith, p.spare_runs, q.spare_runs);
}

pub may-put : {old new : Contents} {more : List Content} {all : ℕ} (k : ℕ) → MayPut old all → (p : Puts old new more) → length more + k ≤ all → MayPut new k
may-put k m p l =
    let n = puts-count p in
    let s = length-append m.before p.cells in
    record {
      before = m.before ++ p.cells;
      is = puts-is m.before p m.is;
      few = omega (arith, m.few);
      room = omega (arith, m.room, p.spare_cells);
    }

pub may-less : {region : Contents} {all : ℕ} (k : ℕ) → MayPut region all → k ≤ all → MayPut region k
may-less k m l = record { before = m.before; is = m.is; few = omega (arith, m.few); room = omega (arith, m.room) }
