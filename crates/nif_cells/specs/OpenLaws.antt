-- The cells of a tree that is being built, after each call of a builder.
use Rattle.std.proofs.Common.{ℕ, ◌<◌, ◌+◌, ◌≡◌, List, [], ◌∷◌, ◌++◌, length, slice_set, Option, None, All, refl, sym, ◌∙◌, ap, append_assoc, append-nil}
use Rattle.std.proofs.lemmas.List.{set_at}
use Rattle.nif_base.specs.Node.{Node, Members, End, Here, Absent, low_first}
use Rattle.nif_cells.specs.Building.{Building, Level, InBytes, InGroup, InRow, placed, opened, closed, left_out, lengthened, behind, absent_behind, node_of, TakesNode, TakesAbsent}
use Rattle.nif_cells.specs.Encoding.{contents, contents_in, packed, places_from}
use Rattle.nif_cells.specs.Reading.{Reading, nothing_read, read_on}
use Rattle.nif_cells.specs.Small.{HasBytes, HasBytesIn}
use Rattle.nif_cells.specs.Progress.{head_of, closed_head, held_contents, end_of, building_contents, contents_of, AreHolding, IsOpenInside, HasBytesOpen, in_cells}
use Rattle.nif_cells.specs.declared.contents.Content.{Content}
use Rattle.nif_cells.specs.declared.contents.Content.TheVariants as content
use Rattle.nif_cells.specs.ReadLaws.{read_more, read_words, read_group, read_row, joined_whole}
use Rattle.nif_cells.specs.PackLaws.{unpacked_whole}
use Rattle.nif_cells.specs.PlaceLaws.{places-more}

pub contents-behind : (first : Members) (n : Node) → contents_in (behind first n) ≡ contents_in first ++ contents n
contents-behind End n = append-nil (contents n)
contents-behind (Here m rest) n =
    ap (λ c. contents m ++ c) (contents-behind rest n) ∙ sym (append_assoc (contents m) (contents_in rest) (contents n))
contents-behind (Absent rest) n = ap (λ c. content.Absent ∷ c) (contents-behind rest n)

pub contents-absent_behind : (first : Members)
    → contents_in (absent_behind first) ≡ contents_in first ++ content.Absent ∷ []
contents-absent_behind End = refl
contents-absent_behind (Here m rest) =
    ap (λ c. contents m ++ c) (contents-absent_behind rest)
    ∙ sym (append_assoc (contents m) (contents_in rest) (content.Absent ∷ []))
contents-absent_behind (Absent rest) = ap (λ c. content.Absent ∷ c) (contents-absent_behind rest)

pub small-behind : (first : Members) (n : Node) → HasBytesIn first → HasBytes n → HasBytesIn (behind first n)
small-behind End n hf hn = (hn, tt)
small-behind (Here m rest) n hf hn = (hf.0, small-behind rest n hf.1 hn)
small-behind (Absent rest) n hf hn = small-behind rest n hf hn

pub small-absent_behind : (first : Members) → HasBytesIn first → HasBytesIn (absent_behind first)
small-absent_behind End hf = tt
small-absent_behind (Here m rest) hf = (hf.0, small-absent_behind rest hf.1)
small-absent_behind (Absent rest) hf = small-absent_behind rest hf

-- what was read where these are open
abbrev within : List Level → Reading
within levels = record { building = record { top = None; levels = levels }; line = None }

read-level : (level : Level) (outer : List Level) → HasBytes (node_of level)
    → read_on (within outer) (head_of level ∷ held_contents level) ≡ within (in_cells (level ∷ outer))
read-level (InBytes bytes) outer small = read_words [] outer (packed bytes).words
read-level (InGroup members) outer small =
    read_group End members outer small ∙ ap (λ m. within (InGroup m ∷ outer)) (joined_whole members)
read-level (InRow items) outer small =
    read_row End items outer small ∙ ap (λ m. within (InRow m ∷ outer)) (joined_whole items)

pub in_cells-holding : (levels : List Level) → AreHolding levels → in_cells levels ≡ levels
in_cells-holding [] holding = refl
in_cells-holding (InBytes bytes ∷ outer) holding = absurd holding.0
in_cells-holding (InGroup members ∷ outer) holding = refl
in_cells-holding (InRow items ∷ outer) holding = refl

read-holding : (levels : List Level) → AreHolding levels → HasBytesOpen levels
    → read_on nothing_read (building_contents levels) ≡ within levels
read-holding [] holding small = refl
read-holding (level ∷ outer) holding small =
    read_more nothing_read (building_contents outer) (head_of level ∷ held_contents level)
    ∙ ap (λ r. read_on r (head_of level ∷ held_contents level)) (read-holding outer holding.1 small.1)
    ∙ read-level level outer small.0 ∙ ap within (in_cells-holding (level ∷ outer) holding)

-- what is open is read from its cells; of a run of bytes, what stands in full cells
pub read-open : (levels : List Level) → IsOpenInside levels → HasBytesOpen levels
    → read_on nothing_read (building_contents levels) ≡ record
    { building = record { top = None; levels = in_cells levels }; line = None }
read-open [] inside small = refl
read-open (level ∷ outer) inside small =
    read_more nothing_read (building_contents outer) (head_of level ∷ held_contents level)
    ∙ ap (λ r. read_on r (head_of level ∷ held_contents level)) (read-holding outer inside small.1)
    ∙ read-level level outer small.0

-- with those that stand in no cell
pub in_cells-bytes : (bytes : List ℕ) (outer : List Level) → All (λ b. b < 256) bytes
    → lengthened (low_first (packed bytes).left (packed bytes).bits) (in_cells (InBytes bytes ∷ outer)) ≡ record
    { top = None; levels = InBytes bytes ∷ outer }
in_cells-bytes bytes outer small =
    ap (λ b. record { top = None; levels = InBytes b ∷ outer }) (unpacked_whole bytes small)

-- more cells behind those of a level
deeper : (outer held more : List Content) (head : Content)
    → outer ++ head ∷ (held ++ more) ≡ (outer ++ head ∷ held) ++ more
deeper outer held more head = sym (append_assoc outer (head ∷ held) more)

placed-levels : (n : Node) (levels : List Level) (top : Option Node)
    → TakesNode (record { top = top; levels = levels })
    → contents_of (placed n levels) ≡ building_contents levels ++ contents n
placed-levels n [] top takes = append-nil (contents n)
placed-levels n (InBytes bytes ∷ outer) top takes = absurd takes
placed-levels n (InGroup members ∷ outer) top takes =
    ap (λ c. building_contents outer ++ content.Group 0 ∷ c) (contents-behind members n)
    ∙ deeper (building_contents outer) (contents_in members) (contents n) (content.Group 0)
placed-levels n (InRow items ∷ outer) top takes =
    ap (λ c. building_contents outer ++ content.Row 0 ∷ c) (contents-behind items n)
    ∙ deeper (building_contents outer) (contents_in items) (contents n) (content.Row 0)

pub placed-cells : (n : Node) (b : Building) → TakesNode b
    → contents_of (placed n b.levels) ≡ building_contents b.levels ++ contents n
placed-cells n b takes = placed-levels n b.levels b.top takes

pub opened-cells : (level : Level) (levels : List Level)
    → contents_of (opened level levels) ≡ building_contents levels ++ head_of level ∷ held_contents level
opened-cells level levels = refl

pub left_out-cells : (levels : List Level) → TakesAbsent levels
    → contents_of (left_out levels) ≡ building_contents levels ++ content.Absent ∷ []
left_out-cells [] takes = absurd takes
left_out-cells (InBytes bytes ∷ outer) takes = absurd takes
left_out-cells (InGroup members ∷ outer) takes =
    ap (λ c. building_contents outer ++ content.Group 0 ∷ c) (contents-absent_behind members)
    ∙ deeper (building_contents outer) (contents_in members) (content.Absent ∷ []) (content.Group 0)
left_out-cells (InRow items ∷ outer) takes = absurd takes

-- the cells of the node that a level becomes
pub node-whole : (level : Level)
    → closed_head level ∷ held_contents level ++ end_of level ∷ [] ≡ contents (node_of level)
node-whole (InBytes bytes) = refl
node-whole (InGroup members) = refl
node-whole (InRow items) = refl

-- the cells of what is open, with its number at its head and its end behind it, are those of the node
pub closes : (level : Level) (outer : List Level)
    → slice_set (building_contents (level ∷ outer) ++ end_of level ∷ []) (length (building_contents outer))
    (closed_head level) ≡ building_contents outer ++ contents (node_of level)
closes level outer =
    ap (λ c. slice_set c (length (building_contents outer)) (closed_head level))
    (append_assoc (building_contents outer) (head_of level ∷ held_contents level) (end_of level ∷ []))
    ∙ set_at (building_contents outer) (head_of level) (held_contents level ++ end_of level ∷ []) (closed_head level)
    (length (building_contents outer)) refl
    ∙ ap (λ c. building_contents outer ++ c) (node-whole level)

pub closed-cells : (level : Level) (outer : List Level) → AreHolding outer
    → contents_of (closed (level ∷ outer)) ≡ building_contents outer ++ contents (node_of level)
closed-cells level [] holding = placed-levels (node_of level) [] None refl
closed-cells level (InBytes bytes ∷ outer) holding = absurd holding.0
closed-cells level (InGroup members ∷ outer) holding = placed-levels (node_of level) (InGroup members ∷ outer) None tt
closed-cells level (InRow items ∷ outer) holding = placed-levels (node_of level) (InRow items ∷ outer) None tt

heads-alike : (level : Level) (at : ℕ) (rest : List Content)
    → places_from at (closed_head level ∷ rest) ≡ places_from at (head_of level ∷ rest)
heads-alike (InBytes bytes) at rest = refl
heads-alike (InGroup members) at rest = refl
heads-alike (InRow items) at rest = refl

pub places-close : (at : ℕ) (level : Level) (outer : List Level)
    → places_from at (building_contents outer ++ contents (node_of level)) ≡ places_from at
    (building_contents (level ∷ outer) ++ end_of level ∷ [])
places-close at level outer =
    let rest = held_contents level ++ end_of level ∷ [] in
    places-more at (building_contents outer) (contents (node_of level))
    ∙ ap (λ c. places_from at (building_contents outer) ++ places_from (at + length (building_contents outer)) c)
    (sym (node-whole level))
    ∙ ap (λ p. places_from at (building_contents outer) ++ p)
    (heads-alike level (at + length (building_contents outer)) rest)
    ∙ sym (places-more at (building_contents outer) (head_of level ∷ rest))
    ∙ ap (places_from at) (sym (append_assoc (building_contents outer) (head_of level ∷ held_contents level)
    (end_of level ∷ [])))

-- a run of bytes goes on only inside of groups and rows
pub placed-inside : (n : Node) (levels : List Level) → IsOpenInside levels → IsOpenInside (placed n levels).levels
placed-inside n [] inside = tt
placed-inside n (InBytes bytes ∷ outer) inside = inside
placed-inside n (InGroup members ∷ outer) inside = inside
placed-inside n (InRow items ∷ outer) inside = inside

free-holding : (levels : List Level) (top : Option Node) → TakesNode (record { top = top; levels = levels })
    → IsOpenInside levels → AreHolding levels
free-holding [] top takes inside = tt
free-holding (InBytes bytes ∷ outer) top takes inside = absurd takes
free-holding (InGroup members ∷ outer) top takes inside = (tt, inside)
free-holding (InRow items ∷ outer) top takes inside = (tt, inside)

pub opened-inside : (level : Level) (b : Building) → TakesNode b → IsOpenInside b.levels
    → IsOpenInside (opened level b.levels).levels
opened-inside level b takes inside = free-holding b.levels b.top takes inside

holding-inside : (levels : List Level) → AreHolding levels → IsOpenInside levels
holding-inside [] holding = tt
holding-inside (level ∷ outer) holding = holding.1

pub closed-inside : (level : Level) (outer : List Level) → IsOpenInside (level ∷ outer)
    → IsOpenInside (closed (level ∷ outer)).levels
closed-inside level outer inside = placed-inside (node_of level) outer (holding-inside outer inside)
