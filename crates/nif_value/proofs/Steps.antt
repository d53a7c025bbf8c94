-- What each call of a builder makes of what is kept.
use Rattle.std.proofs.Common.{ℕ, suc, ◌≡◌, ◌+◌, ◌*◌, ◌/◌, ◌^◌, ◌<◌, ◌≤◌, List, [], ◌∷◌, ◌++◌, length, Option, None, Some, true, false, if◌then◌else◌, sym, ◌∙◌, ap, refl, arith, subst, length-append, append_assoc, append-nil, All}
use Rattle.std.proofs.lemmas.List.{length-map, map-append}
use Rattle.std.proofs.lemmas.List.Elements.{All-nil, All-push, All-weaker, All-append}
use Rattle.nif_base.specs.Node.{Node, Members, nodes, nodes_in, refs, Num, Line, Ref, Text, Bytes, Group, Row}
use Rattle.nif_base.specs.Node as node
use Rattle.nif_region.specs.declared.cells.Cell.{Cell}
use Rattle.nif_cells.specs.Walks.{count}
use Rattle.nif_cells.specs.Building.{Building, Level, InBytes, InGroup, InRow, begun, placed, opened, left_out, node_of, bytes_of, nodes_open, bytes_open, TakesNode, TakesAbsent, TakesBytes}
use Rattle.nif_cells.specs.Codes.{content_of}
use Rattle.nif_cells.specs.Encoding.{Packed, contents, places_from, is_reference, packed, packed_from, words}
use Rattle.nif_cells.specs.Reading.{said}
use Rattle.nif_cells.specs.Small.{HasBytes}
use Rattle.nif_cells.specs.Progress.{building_contents, contents_of, head_of, held_contents, top_contents, IsOpenInside, HasBytesOpen}
use Rattle.nif_cells.specs.declared.contents.Content.{Content}
use Rattle.nif_cells.specs.declared.contents.Content.TheVariants.{Number, Word, Tail, Place}
use Rattle.nif_cells.specs.declared.contents.Content.TheVariants as content
use Rattle.nif_cells.specs.CellLaws.{byte_cells-length, packed_left, packed_left_is, packed_bits, packed_words, placed-cells, left_out-cells, placed-inside, opened-inside, places-more, places-count, count-behind, count-absent_behind, small-behind, small-absent_behind}
use Rattle.nif_value.specs.Trees.{IsWithin, nodes_built, bytes_built}
use Rattle.nif_value.specs.Built.{IsBuilt, StandsAlone, marks, counted, bytes_inside, kind_of, size_of, empty, head_said, added, TakesContent}
use Rattle.nif_value.specs.declared.builders.Open.{Open}
use Rattle.nif_value.specs.declared.builders.Kind.{Kind}
use Rattle.nif_value.specs.declared.builders.Kind.TheVariants as kind
use Rattle.nif_value.specs.Packing.{started}
use Rattle.nif_value.proofs.Packs.{packed-behind}
use Rattle.nif_value.proofs.Standing.{tree-size, said-count, marks-count}

-- the last mark

mark : Kind → ℕ → ℕ → Open
mark k head n = record { kind = k; head = head; count = n }

pub counted-last : (more : ℕ) (marks_ : List Open) (o : Open) → counted more (marks_ ++ o ∷ []) ≡ marks_ ++ record { kind = o.kind; head = o.head; count = o.count + more } ∷ []
counted-last more [] o = refl
counted-last more (x ∷ []) o = refl
counted-last more (x ∷ (y ∷ rest)) o = ap (λ l. x ∷ l) (counted-last more (y ∷ rest) o)

pub counted-count : (more : ℕ) (marks_ : List Open) → length (counted more marks_) ≡ length marks_
counted-count more [] = refl
counted-count more (x ∷ []) = refl
counted-count more (x ∷ (y ∷ rest)) = ap suc (counted-count more (y ∷ rest))

count-last : (k : Kind) (head a b more : ℕ) (outer : List Open) → b ≡ a + more → counted more (outer ++ record { kind = k; head = head; count = a } ∷ []) ≡ outer ++ record { kind = k; head = head; count = b } ∷ []
count-last k head a b more outer e = counted-last more outer (record { kind = k; head = head; count = a }) ∙ ap (λ n. outer ++ record { kind = k; head = head; count = n } ∷ []) (sym e)

-- what is at the top, where a node or an absent member has its place

pub none-above : (tree : Building) → TakesNode tree → StandsAlone tree.top tree.levels → tree.top ≡ None
none-above tree takes alone = by tree.top tree.levels takes alone where
  by : (top : Option Node) (levels : List Level) → TakesNode (record { top = top; levels = levels }) → StandsAlone top levels → top ≡ None
  by None levels takes alone = refl
  by (Some n) levels takes alone = absurd (let e : TakesNode (record { top = Some n; levels = [] }) = subst (λ l. TakesNode (record { top = Some n; levels = l })) alone.1 takes in cc)

pub none-over : (top : Option Node) (level : Level) (outer : List Level) → StandsAlone top (level ∷ outer) → top ≡ None
none-over None level outer alone = refl
none-over (Some n) level outer alone = absurd (let e = alone.1 in cc)

pub all-open : (tree : Building) → tree.top ≡ None → contents_of tree ≡ building_contents tree.levels
all-open tree none = ap (λ t. top_contents t ++ building_contents tree.levels) none

-- a node behind the others

pub marks-placed : (n : Node) (b : Building) → TakesNode b → counted 1 (marks b.levels) ≡ marks (placed n b.levels).levels
marks-placed n b takes = by b.levels takes where
  by : (levels : List Level) → TakesNode (record { top = b.top; levels = levels }) → counted 1 (marks levels) ≡ marks (placed n levels).levels
  by [] t = refl
  by (InBytes bytes ∷ outer) t = absurd t
  by (InGroup members ∷ outer) t = let e = count-behind members n in count-last kind.Group _ _ _ 1 (marks outer) (omega arith)
  by (InRow items ∷ outer) t = let e = count-behind items n in count-last kind.Row _ _ _ 1 (marks outer) (omega arith)

pub inside-placed : (n : Node) (levels : List Level) → bytes_inside (placed n levels).levels ≡ bytes_inside levels
inside-placed n [] = refl
inside-placed n (InBytes bytes ∷ outer) = refl
inside-placed n (InGroup members ∷ outer) = refl
inside-placed n (InRow items ∷ outer) = refl

pub alone-placed : (n : Node) (levels : List Level) → HasBytes n → StandsAlone (placed n levels).top (placed n levels).levels
alone-placed n [] small = (small, refl)
alone-placed n (InBytes bytes ∷ outer) small = tt
alone-placed n (InGroup members ∷ outer) small = tt
alone-placed n (InRow items ∷ outer) small = tt

pub small-placed : (n : Node) (levels : List Level) → HasBytes n → HasBytesOpen levels → HasBytesOpen (placed n levels).levels
small-placed n [] small h = h
small-placed n (InBytes bytes ∷ outer) small h = h
small-placed n (InGroup members ∷ outer) small h = (small-behind members n h.0 small, h.1)
small-placed n (InRow items ∷ outer) small h = (small-behind items n h.0 small, h.1)

pub count-placed : (n : Node) (levels : List Level) → length (placed n levels).levels ≡ length levels
count-placed n [] = refl
count-placed n (InBytes bytes ∷ outer) = refl
count-placed n (InGroup members ∷ outer) = refl
count-placed n (InRow items ∷ outer) = refl

pub said-more : (a b : List Cell) → said (a ++ b) ≡ said a ++ said b
said-more a b = map-append content_of a b

places-said : (cells more : List Cell) → places_from 0 (said (cells ++ more)) ≡ places_from 0 (said cells) ++ places_from (length cells) (said more)
places-said cells more = ap (places_from 0) (said-more cells more) ∙ places-more 0 (said cells) (said more) ∙ ap (λ n. places_from 0 (said cells) ++ places_from n (said more)) (let e = said-count cells in omega arith)

module _ {tree : Building} {cells : List Cell} {levels : List Open} {references : List ℕ} {pushed left bits spare places : ℕ} where
  pub built-placed : IsBuilt tree cells levels references pushed left bits spare places → (n : Node) (more : List Cell) (levels' : List Open) (references' : List ℕ) (pushed' spare' places' : ℕ) → TakesNode tree → HasBytes n
      → IsWithin (placed n tree.levels) → said more ≡ contents n → levels' ≡ counted 1 levels → references' ≡ references ++ places_from (length cells) (contents n) → pushed' ≡ pushed + length more
      → length references' + length levels' ≤ spare' → 256 ≤ places' → IsBuilt (placed n tree.levels) (cells ++ more) levels' references' pushed' left bits spare' places'
  built-placed h n more levels' references' pushed' spare' places' takes small within says le re pe room wide = record {
    says = said-more cells more ∙ ap (λ l. l ++ said more) (h.says ∙ all-open tree (none-above tree takes h.alone)) ∙ ap (λ l. building_contents tree.levels ++ l) says ∙ sym (placed-cells n tree takes);
    levels_are = le ∙ ap (counted 1) h.levels_are ∙ marks-placed n tree takes;
    references_are = re ∙ ap (λ l. l ++ places_from (length cells) (contents n)) h.references_are ∙ ap (λ l. places_from 0 (said cells) ++ places_from (length cells) l) (sym says) ∙ sym (places-said cells more);
    pushed_are = simp length-append (omega (arith, h.pushed_are));
    left_is = h.left_is ∙ ap (λ l. (packed l).left) (sym (inside-placed n tree.levels));
    bits_are = h.bits_are ∙ ap (λ l. (packed l).bits) (sym (inside-placed n tree.levels));
    inside = placed-inside n tree.levels h.inside;
    alone = alone-placed n tree.levels small;
    has_bytes = small-placed n tree.levels small h.has_bytes;
    within = within;
    room = room;
    room_levels = wide;
  }

  -- the cells that there are then
  pub grown-placed : IsBuilt tree cells levels references pushed left bits spare places → (n : Node) → TakesNode tree → HasBytes n
      → length cells + length (contents n) + (length references + length (refs n)) + length levels ≤ 2 * nodes_built (placed n tree.levels) + bytes_built (placed n tree.levels) / 8
  grown-placed h n takes small =
      let s = tree-size (placed n tree.levels).top (placed n tree.levels).levels (alone-placed n tree.levels small) in
      let is = placed-cells n tree takes in
      let c = ap length is ∙ length-append (building_contents tree.levels) (contents n) in
      let own = sym (said-count cells) ∙ ap length (h.says ∙ all-open tree (none-above tree takes h.alone)) in
      let p = ap length (ap (places_from 0) is ∙ places-more 0 (building_contents tree.levels) (contents n)) ∙ length-append (places_from 0 (building_contents tree.levels)) (places_from (0 + length (building_contents tree.levels)) (contents n)) in
      let q = places-count (0 + length (building_contents tree.levels)) n in
      let r = ap length (h.references_are ∙ ap (places_from 0) (h.says ∙ all-open tree (none-above tree takes h.alone))) in
      let m = ap length h.levels_are ∙ marks-count tree.levels in
      let l = count-placed n tree.levels in
      omega arith

  -- a level that is empty yet
  pub built-opened : IsBuilt tree cells levels references pushed left bits spare places → (k : Kind) (more : List Cell) (levels' : List Open) (pushed' spare' places' : ℕ) → TakesNode tree → IsWithin (opened (empty k) tree.levels)
      → said more ≡ head_said k 0 ∷ [] → levels' ≡ levels ++ record { kind = k; head = pushed; count = 0 } ∷ [] → pushed' ≡ pushed + length more → length references + length levels' ≤ spare' → 256 ≤ places'
      → IsBuilt (opened (empty k) tree.levels) (cells ++ more) levels' references pushed' left bits spare' places'
  built-opened h k more levels' pushed' spare' places' takes within says le pe room wide =
      let own = h.says ∙ all-open tree (none-above tree takes h.alone) in
      let none = takes-no_bytes tree takes in
      let at = h.pushed_are ∙ sym (said-count cells) ∙ ap length own in
      record {
        says = said-more cells more ∙ ap (λ l. l ++ said more) own ∙ ap (λ l. building_contents tree.levels ++ l) (says ∙ empty-cells k);
        levels_are = le ∙ ap (λ l. l ++ record { kind = k; head = pushed; count = 0 } ∷ []) h.levels_are ∙ ap (λ n. marks tree.levels ++ record { kind = k; head = n; count = 0 } ∷ []) at ∙ ap (λ o. marks tree.levels ++ o ∷ []) (empty-mark k (length (building_contents tree.levels)));
        references_are = h.references_are ∙ sym (places-said cells more ∙ ap (λ l. places_from 0 (said cells) ++ places_from (length cells) l) says ∙ ap (λ l. places_from 0 (said cells) ++ l) (empty-places k (length cells)) ∙ append-nil (places_from 0 (said cells)));
        pushed_are = simp length-append (omega (arith, h.pushed_are));
        left_is = h.left_is ∙ ap (λ l. (packed l).left) (none ∙ sym (empty-inside k tree.levels));
        bits_are = h.bits_are ∙ ap (λ l. (packed l).bits) (none ∙ sym (empty-inside k tree.levels));
        inside = opened-inside (empty k) tree takes h.inside;
        alone = tt;
        has_bytes = (empty-small k, h.has_bytes);
        within = within;
        room = room;
        room_levels = wide;
      }
    where
      takes-no_bytes : (b : Building) → TakesNode b → bytes_inside b.levels ≡ []
      takes-no_bytes b t = by b.levels t where
        by : (ls : List Level) → TakesNode (record { top = b.top; levels = ls }) → bytes_inside ls ≡ []
        by [] t = refl
        by (InBytes bytes ∷ outer) t = absurd t
        by (InGroup members ∷ outer) t = refl
        by (InRow items ∷ outer) t = refl

      empty-cells : (k : Kind) → head_said k 0 ∷ [] ≡ head_of (empty k) ∷ held_contents (empty k)
      empty-cells kind.Bytes = refl
      empty-cells kind.Group = refl
      empty-cells kind.Row = refl

      empty-mark : (k : Kind) (head : ℕ) → ◌≡◌ {A = Open} (record { kind = k; head = head; count = 0 }) (record { kind = kind_of (empty k); head = head; count = size_of (empty k) })
      empty-mark kind.Bytes head = refl
      empty-mark kind.Group head = refl
      empty-mark kind.Row head = refl

      empty-places : (k : Kind) (at : ℕ) → places_from at (head_said k 0 ∷ []) ≡ []
      empty-places kind.Bytes at = refl
      empty-places kind.Group at = refl
      empty-places kind.Row at = refl

      empty-inside : (k : Kind) (ls : List Level) → bytes_inside (empty k ∷ ls) ≡ []
      empty-inside kind.Bytes ls = refl
      empty-inside kind.Group ls = refl
      empty-inside kind.Row ls = refl

      empty-small : (k : Kind) → HasBytes (node_of (empty k))
      empty-small kind.Bytes = All-nil (λ b. b < 256)
      empty-small kind.Group = tt
      empty-small kind.Row = tt

  -- an absent member behind the others
  pub built-left_out : IsBuilt tree cells levels references pushed left bits spare places → (more : List Cell) (levels' : List Open) (references' : List ℕ) (pushed' spare' places' : ℕ) → TakesAbsent tree.levels → IsWithin (left_out tree.levels)
      → said more ≡ content.Absent ∷ [] → levels' ≡ counted 1 levels → references' ≡ references ++ [] → pushed' ≡ pushed + length more → length references' + length levels' ≤ spare' → 256 ≤ places'
      → IsBuilt (left_out tree.levels) (cells ++ more) levels' references' pushed' left bits spare' places'
  built-left_out h more levels' references' pushed' spare' places' takes within says le re pe room wide =
      let own = h.says ∙ all-open tree (absent-above tree.top tree.levels takes h.alone) in
      record {
        says = said-more cells more ∙ ap (λ l. l ++ said more) own ∙ ap (λ l. building_contents tree.levels ++ l) says ∙ sym (left_out-cells tree.levels takes);
        levels_are = le ∙ ap (counted 1) h.levels_are ∙ marks-left_out tree.levels takes;
        references_are = re ∙ append-nil references ∙ h.references_are ∙ sym (places-said cells more ∙ ap (λ l. places_from 0 (said cells) ++ places_from (length cells) l) says ∙ append-nil (places_from 0 (said cells)));
        pushed_are = simp length-append (omega (arith, h.pushed_are));
        left_is = h.left_is ∙ ap (λ l. (packed l).left) (inside-left_out tree.levels takes);
        bits_are = h.bits_are ∙ ap (λ l. (packed l).bits) (inside-left_out tree.levels takes);
        inside = open-left_out tree.levels takes h.inside;
        alone = alone-left_out tree.levels takes;
        has_bytes = small-left_out tree.levels takes h.has_bytes;
        within = within;
        room = room;
        room_levels = wide;
      }
    where
      absent-above : (top : Option Node) (ls : List Level) → TakesAbsent ls → StandsAlone top ls → top ≡ None
      absent-above None ls t alone = refl
      absent-above (Some n) ls t alone = absurd (let e : TakesAbsent [] = subst TakesAbsent alone.1 t in e)

      marks-left_out : (ls : List Level) → TakesAbsent ls → counted 1 (marks ls) ≡ marks (left_out ls).levels
      marks-left_out [] t = absurd t
      marks-left_out (InBytes bytes ∷ outer) t = absurd t
      marks-left_out (InGroup members ∷ outer) t = let e = count-absent_behind members in count-last kind.Group _ _ _ 1 (marks outer) (omega arith)
      marks-left_out (InRow items ∷ outer) t = absurd t

      inside-left_out : (ls : List Level) → TakesAbsent ls → bytes_inside ls ≡ bytes_inside (left_out ls).levels
      inside-left_out [] t = absurd t
      inside-left_out (InBytes bytes ∷ outer) t = absurd t
      inside-left_out (InGroup members ∷ outer) t = refl
      inside-left_out (InRow items ∷ outer) t = absurd t

      open-left_out : (ls : List Level) → TakesAbsent ls → IsOpenInside ls → IsOpenInside (left_out ls).levels
      open-left_out [] t i = absurd t
      open-left_out (InBytes bytes ∷ outer) t i = absurd t
      open-left_out (InGroup members ∷ outer) t i = i
      open-left_out (InRow items ∷ outer) t i = absurd t

      alone-left_out : (ls : List Level) → TakesAbsent ls → StandsAlone (left_out ls).top (left_out ls).levels
      alone-left_out [] t = absurd t
      alone-left_out (InBytes bytes ∷ outer) t = absurd t
      alone-left_out (InGroup members ∷ outer) t = tt
      alone-left_out (InRow items ∷ outer) t = absurd t

      small-left_out : (ls : List Level) → TakesAbsent ls → HasBytesOpen ls → HasBytesOpen (left_out ls).levels
      small-left_out [] t i = absurd t
      small-left_out (InBytes bytes ∷ outer) t i = absurd t
      small-left_out (InGroup members ∷ outer) t i = (small-absent_behind members i.0, i.1)
      small-left_out (InRow items ∷ outer) t i = absurd t

  pub grown-left_out : IsBuilt tree cells levels references pushed left bits spare places → TakesAbsent tree.levels
      → length cells + 1 + length references + length levels ≤ 2 * nodes_built (left_out tree.levels) + bytes_built (left_out tree.levels) / 8
  grown-left_out h takes =
      let s = tree-size (left_out tree.levels).top (left_out tree.levels).levels (alone tree.levels takes) in
      let own = h.says ∙ all-open tree (above tree.top tree.levels takes h.alone) in
      let is = left_out-cells tree.levels takes in
      let c = ap length is ∙ length-append (building_contents tree.levels) (content.Absent ∷ []) in
      let n = sym (said-count cells) ∙ ap length own in
      let p = ap length (ap (places_from 0) is ∙ places-more 0 (building_contents tree.levels) (content.Absent ∷ []) ∙ append-nil (places_from 0 (building_contents tree.levels))) in
      let r = ap length (h.references_are ∙ ap (places_from 0) own) in
      let m = ap length h.levels_are ∙ marks-count tree.levels in
      let l = same tree.levels takes in
      omega arith
    where
      above : (top : Option Node) (ls : List Level) → TakesAbsent ls → StandsAlone top ls → top ≡ None
      above None ls t a = refl
      above (Some n) ls t a = absurd (let e : TakesAbsent [] = subst TakesAbsent a.1 t in e)

      alone : (ls : List Level) → TakesAbsent ls → StandsAlone (left_out ls).top (left_out ls).levels
      alone [] t = absurd t
      alone (InBytes bytes ∷ outer) t = absurd t
      alone (InGroup members ∷ outer) t = tt
      alone (InRow items ∷ outer) t = absurd t

      same : (ls : List Level) → TakesAbsent ls → length (left_out ls).levels ≡ length ls
      same [] t = absurd t
      same (InBytes bytes ∷ outer) t = absurd t
      same (InGroup members ∷ outer) t = refl
      same (InRow items ∷ outer) t = absurd t

  -- a cell by itself
  pub built-added : IsBuilt tree cells levels references pushed left bits spare places → (c : Content) (more : List Cell) (levels' : List Open) (references' : List ℕ) (pushed' spare' places' : ℕ) → TakesContent c tree → IsWithin (added c tree.levels)
      → said more ≡ c ∷ [] → levels' ≡ counted 1 levels → references' ≡ references ++ places_from (length cells) (c ∷ []) → pushed' ≡ pushed + length more → length references' + length levels' ≤ spare' → 256 ≤ places'
      → IsBuilt (added c tree.levels) (cells ++ more) levels' references' pushed' left bits spare' places'
  built-added h (Number width little b) more levels' references' pushed' spare' places' takes within says le re pe room wide = built-placed h (Num width little b) more levels' references' pushed' spare' places' takes tt within says le re pe room wide
  built-added h (content.Line len) more levels' references' pushed' spare' places' takes within says le re pe room wide = absurd takes
  built-added h (content.Reference view) more levels' references' pushed' spare' places' takes within says le re pe room wide = built-placed h (Ref view.strong view.wanted view.target) more levels' references' pushed' spare' places' takes tt within says le re pe room wide
  built-added h (content.Text index) more levels' references' pushed' spare' places' takes within says le re pe room wide = built-placed h (Text index) more levels' references' pushed' spare' places' takes tt within says le re pe room wide
  built-added h (content.Bytes len) more levels' references' pushed' spare' places' takes within says le re pe room wide = absurd takes
  built-added h (Word b) more levels' references' pushed' spare' places' takes within says le re pe room wide = absurd takes
  built-added h (Tail l b) more levels' references' pushed' spare' places' takes within says le re pe room wide = absurd takes
  built-added h (content.Group members) more levels' references' pushed' spare' places' takes within says le re pe room wide = absurd takes
  built-added h (content.Row items) more levels' references' pushed' spare' places' takes within says le re pe room wide = absurd takes
  built-added h content.Absent more levels' references' pushed' spare' places' takes within says le re pe room wide = built-left_out h more levels' references' pushed' spare' places' takes within says le re pe room wide
  built-added h content.End more levels' references' pushed' spare' places' takes within says le re pe room wide = absurd takes
  built-added h (Place number place) more levels' references' pushed' spare' places' takes within says le re pe room wide = absurd takes

  pub grown-added : IsBuilt tree cells levels references pushed left bits spare places → (c : Content) → TakesContent c tree
      → length cells + 1 + length (references ++ places_from 0 (c ∷ [])) + length levels ≤ 2 * nodes_built (added c tree.levels) + bytes_built (added c tree.levels) / 8
  grown-added h (Number width little b) takes = let g = grown-placed h (Num width little b) takes tt in rw append-nil (omega arith)
  grown-added h (content.Line len) takes = absurd takes
  grown-added h (content.Reference view) takes = let g = grown-placed h (Ref view.strong view.wanted view.target) takes tt in rw length-append (omega arith)
  grown-added h (content.Text index) takes = let g = grown-placed h (Text index) takes tt in rw append-nil (omega arith)
  grown-added h (content.Bytes len) takes = absurd takes
  grown-added h (Word b) takes = absurd takes
  grown-added h (Tail l b) takes = absurd takes
  grown-added h (content.Group members) takes = absurd takes
  grown-added h (content.Row items) takes = absurd takes
  grown-added h content.Absent takes = let g = grown-left_out h takes in rw append-nil (omega arith)
  grown-added h content.End takes = absurd takes
  grown-added h (Place number place) takes = absurd takes

  pub built-fit : IsBuilt tree cells levels references pushed left bits spare places → (more : ℕ) → more ≤ 2 ^ 26 → All (λ o. o.count + more < 4294967296) levels
  built-fit h more l =
      subst (All (λ o. o.count + more < 4294967296)) (sym h.levels_are) (
      All-weaker (λ o. o.count ≤ 2 ^ 27) (λ o. o.count + more < 4294967296) (λ o k. omega arith) (marks tree.levels) (fit tree.levels (2 ^ 27) (omega (arith, h.within.nodes_within, h.within.bytes_within))))
    where
      some : (n : Node) → 1 ≤ nodes n
      some (Num width little b) = omega arith
      some (Line bytes) = omega arith
      some (Ref strong wanted target) = omega arith
      some (Text index) = omega arith
      some (Bytes bytes) = omega arith
      some (Group members) = omega arith
      some (Row items) = omega arith

      counts : (m : Members) → count m ≤ nodes_in m
      counts node.End = omega arith
      counts (node.Here n rest) = let s = some n in let c = counts rest in omega arith
      counts (node.Absent rest) = let c = counts rest in omega arith

      size : (level : Level) → size_of level ≤ nodes (node_of level) + bytes_of (node_of level)
      size (InBytes bytes) = omega arith
      size (InGroup members) = let c = counts members in omega arith
      size (InRow items) = let c = counts items in omega arith

      fit : (ls : List Level) (most : ℕ) → nodes_open ls + bytes_open ls ≤ most → All (λ o. o.count ≤ most) (marks ls)
      fit [] most l = All-nil (λ o. o.count ≤ most)
      fit (level ∷ outer) most l =
          let s = size level in
          All-push (λ o. o.count ≤ most) (marks outer) (record { kind = kind_of level; head = length (building_contents outer); count = size_of level }) (fit outer most (omega arith)) (omega arith)

  pub grown-opened : IsBuilt tree cells levels references pushed left bits spare places → (k : Kind) → TakesNode tree
      → length cells + 1 + length references + (length levels + 1) ≤ 2 * nodes_built (opened (empty k) tree.levels) + bytes_built (opened (empty k) tree.levels) / 8
  grown-opened h k takes =
      let s = tree-size None (empty k ∷ tree.levels) tt in
      let own = h.says ∙ all-open tree (none-above tree takes h.alone) in
      let n = sym (said-count cells) ∙ ap length own in
      let c = length-append (building_contents tree.levels) (head_of (empty k) ∷ held_contents (empty k)) in
      let p = ap length (places-more 0 (building_contents tree.levels) (head_of (empty k) ∷ held_contents (empty k))) ∙ length-append (places_from 0 (building_contents tree.levels)) (places_from (0 + length (building_contents tree.levels)) (head_of (empty k) ∷ held_contents (empty k))) in
      let r = ap length (h.references_are ∙ ap (places_from 0) own) in
      let m = ap length h.levels_are ∙ marks-count tree.levels in
      omega (arith, some k)
    where
      some : (k : Kind) → 1 ≤ length (head_of (empty k) ∷ held_contents (empty k))
      some k = omega arith

  -- how many references there are then
  pub references-few : IsBuilt tree cells levels references pushed left bits spare places → (n : Node) → TakesNode tree → HasBytes n → 2 * (length references + length (refs n)) ≤ 2 * nodes_built (placed n tree.levels) + bytes_built (placed n tree.levels) / 8
  references-few h n takes small =
      let g = grown-placed h n takes small in
      let r = ap length h.references_are in
      let a = places-less 0 (said cells) in
      let b = said-count cells in
      let d = places-less 0 (contents n) in
      let e = places-count 0 n in
      omega arith
    where
      places-less : (at : ℕ) (cs : List Content) → length (places_from at cs) ≤ length cs
      places-less at [] = omega arith
      places-less at (c ∷ rest) =
          let l = places-less (suc at) rest in
          elim (is_reference c) as (λ t. length (if t then at ∷ places_from (suc at) rest else places_from (suc at) rest) ≤ suc (length rest)) [
            | true ↦ omega arith
            | false ↦ omega arith
          ]

-- a tree that begins
pub built-begun : (pushed left bits spare places : ℕ) → pushed ≡ 0 → left ≡ 0 → bits ≡ 0 → 256 ≤ places → IsBuilt begun [] [] [] pushed left bits spare places
built-begun pushed left bits spare places p l b wide = record {
  says = refl;
  levels_are = refl;
  references_are = refl;
  pushed_are = p;
  left_is = l;
  bits_are = b;
  inside = tt;
  alone = tt;
  has_bytes = tt;
  within = record { nodes_within = omega arith; bytes_within = omega arith; levels_within = omega arith };
  room = omega arith;
  room_levels = wide;
}

nil-of : {A : Type 0} (xs : List A) → length xs ≡ 0 → xs ≡ []
nil-of [] e = refl
nil-of (x ∷ rest) e = absurd (omega arith)

-- no reference stands among the cells of a line
pub line-places : (at : ℕ) (bytes : List ℕ) → places_from at (contents (Line bytes)) ≡ []
line-places at bytes = nil-of (places_from at (contents (Line bytes))) (places-count at (Line bytes))

pub words-places : (at : ℕ) (ws : List ℕ) → places_from at (words ws) ≡ []
words-places at [] = refl
words-places at (w ∷ rest) = words-places (suc at) rest

pub words-length : (ws : List ℕ) → length (words ws) ≡ length ws
words-length ws = length-map ws (λ b. Word b)

pub line-says : (bytes : List ℕ) (left bits left' bits' : ℕ) → left ≡ 0 → bits ≡ 0 → left' ≡ (packed_from (started left bits) bytes).left → bits' ≡ (packed_from (started left bits) bytes).bits
    → (content.Line (length bytes) ∷ []) ++ (words (packed_from (started left bits) bytes).words ++ Tail left' bits' ∷ []) ≡ contents (Line bytes)
line-says bytes left bits left' bits' l b l' b' =
    ap (λ x. content.Line (length bytes) ∷ (words (packed_from (started left bits) bytes).words ++ Tail x bits' ∷ [])) l'
    ∙ ap (λ x. content.Line (length bytes) ∷ (words (packed_from (started left bits) bytes).words ++ Tail (packed_from (started left bits) bytes).left x ∷ [])) b'
    ∙ ap (λ x. content.Line (length bytes) ∷ (words (packed_from (started x bits) bytes).words ++ Tail (packed_from (started x bits) bytes).left (packed_from (started x bits) bytes).bits ∷ [])) l
    ∙ ap (λ x. content.Line (length bytes) ∷ (words (packed_from (started 0 x) bytes).words ++ Tail (packed_from (started 0 x) bytes).left (packed_from (started 0 x) bytes).bits ∷ [])) b

pub line-length : (bytes : List ℕ) → length (contents (Line bytes)) ≡ length bytes / 8 + 2
line-length bytes = let l = byte_cells-length bytes in omega arith

-- more bytes in a run of bytes

-- A run of bytes is innermost.
pub record IsInBytes (tree : Building) : Type 0 where
  pub bytes : List ℕ
  pub outer : List Level
  pub is : tree ≡ record { top = None; levels = InBytes bytes ∷ outer }

pub in_bytes : (tree : Building) → StandsAlone tree.top tree.levels → TakesBytes tree.levels → IsInBytes tree
in_bytes tree alone takes = by tree.top tree.levels alone takes where
  by : (top : Option Node) (ls : List Level) → StandsAlone top ls → TakesBytes ls → IsInBytes (record { top = top; levels = ls })
  by top [] a t = absurd t
  by None (InBytes bytes ∷ outer) a t = record { bytes = bytes; outer = outer; is = refl }
  by (Some n) (InBytes bytes ∷ outer) a t = absurd (let e = a.1 in cc)
  by top (InGroup members ∷ outer) a t = absurd t
  by top (InRow items ∷ outer) a t = absurd t

module _ {before : List ℕ} {outer : List Level} {cells : List Cell} {levels : List Open} {references : List ℕ} {pushed left bits spare places : ℕ} where
  pub built-more : IsBuilt (record { top = None; levels = InBytes before ∷ outer }) cells levels references pushed left bits spare places → (bytes : List ℕ) (more : List Cell) (levels' : List Open) (pushed' left' bits' spare' places' : ℕ) → All (λ b. b < 256) bytes
      → IsWithin (record { top = None; levels = InBytes (before ++ bytes) ∷ outer }) → said more ≡ words (packed_from (started left bits) bytes).words → levels' ≡ counted (length bytes) levels → left' ≡ (packed_from (started left bits) bytes).left → bits' ≡ (packed_from (started left bits) bytes).bits
      → pushed' ≡ pushed + length more → length references + length levels' ≤ spare' → 256 ≤ places'
      → IsBuilt (record { top = None; levels = InBytes (before ++ bytes) ∷ outer }) (cells ++ more) levels' references pushed' left' bits' spare' places'
  built-more h bytes more levels' pushed' left' bits' spare' places' small within says le l' b' pe room wide =
      let from = ap (λ n. packed_from (started n bits) bytes) h.left_is ∙ ap (λ n. packed_from (started (packed before).left n) bytes) h.bits_are in
      let whole = packed-behind before bytes in
      let ws = (packed_from (started left bits) bytes).words in
      let added_words : words (packed before).words ++ words ws ≡ words (packed (before ++ bytes)).words =
      sym (map-append (λ w. Word w) (packed before).words ws) ∙ ap (λ (q : Packed). words ((packed before).words ++ q.words)) from ∙ sym (ap (λ (q : Packed). words q.words) whole) in
      record {
        says = said-more cells more ∙ ap (λ l. l ++ said more) h.says ∙ ap (λ l. (building_contents outer ++ content.Bytes 0 ∷ words (packed before).words) ++ l) says
            ∙ append_assoc (building_contents outer) (content.Bytes 0 ∷ words (packed before).words) (words ws) ∙ ap (λ l. building_contents outer ++ content.Bytes 0 ∷ l) added_words;
        levels_are = le ∙ ap (counted (length bytes)) h.levels_are ∙ count-last kind.Bytes (length (building_contents outer)) (length before) (length (before ++ bytes)) (length bytes) (marks outer) (length-append before bytes);
        references_are = h.references_are ∙ sym (places-said cells more ∙ ap (λ l. places_from 0 (said cells) ++ places_from (length cells) l) says ∙ ap (λ l. places_from 0 (said cells) ++ l) (words-places (length cells) ws) ∙ append-nil (places_from 0 (said cells)));
        pushed_are = simp length-append (omega (arith, h.pushed_are));
        left_is = l' ∙ ap (λ (q : Packed). q.left) from ∙ sym (ap (λ (q : Packed). q.left) whole);
        bits_are = b' ∙ ap (λ (q : Packed). q.bits) from ∙ sym (ap (λ (q : Packed). q.bits) whole);
        inside = h.inside;
        alone = tt;
        has_bytes = (All-append (λ b. b < 256) before bytes h.has_bytes.0 small, h.has_bytes.1);
        within = within;
        room = room;
        room_levels = wide;
      }

  pub left-low : IsBuilt (record { top = None; levels = InBytes before ∷ outer }) cells levels references pushed left bits spare places → (left < 8) × (bits < 256 ^ left)
  left-low h = (subst (λ n. n < 8) (sym h.left_is) (packed_left before), subst (λ n. bits < 256 ^ n) (sym h.left_is) (subst (λ n. n < 256 ^ (packed before).left) (sym h.bits_are) (packed_bits before h.has_bytes.0)))

  pub grown-more : IsBuilt (record { top = None; levels = InBytes before ∷ outer }) cells levels references pushed left bits spare places → (bytes : List ℕ)
      → length cells + (left + length bytes) / 8 + length references + length levels ≤ 2 * nodes_built (record { top = None; levels = InBytes (before ++ bytes) ∷ outer }) + bytes_built (record { top = None; levels = InBytes (before ++ bytes) ∷ outer }) / 8
  grown-more h bytes =
      let s = tree-size None (InBytes (before ++ bytes) ∷ outer) tt in
      let n = sym (said-count cells) ∙ ap length h.says ∙ length-append (building_contents outer) (content.Bytes 0 ∷ words (packed before).words) in
      let w = words-length (packed before).words ∙ packed_words before in
      let w' = words-length (packed (before ++ bytes)).words ∙ packed_words (before ++ bytes) in
      let c = length-append (building_contents outer) (content.Bytes 0 ∷ words (packed (before ++ bytes)).words) in
      let low = h.left_is ∙ packed_left_is before in
      let many = length-append before bytes in
      let r = ap length (h.references_are ∙ ap (places_from 0) h.says ∙ no_more outer (packed before).words) in
      let p = ap length (no_more outer (packed (before ++ bytes)).words) in
      let m = ap length h.levels_are ∙ marks-count (InBytes before ∷ outer) in
      omega arith
    where
      no_more : (outer : List Level) (ws : List ℕ) → places_from 0 (building_contents outer ++ content.Bytes 0 ∷ words ws) ≡ places_from 0 (building_contents outer)
      no_more outer ws =
          places-more 0 (building_contents outer) (content.Bytes 0 ∷ words ws) ∙ ap (λ l. places_from 0 (building_contents outer) ++ l) (words-places (suc (0 + length (building_contents outer))) ws) ∙ append-nil (places_from 0 (building_contents outer))
