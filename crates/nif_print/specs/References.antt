-- What is printed of the references of a graph: a line for each, of the blocks in order, and then of the footer.
use Rattle.std.specs.Prelude.{ℕ, suc, Bool, if◌then◌else◌, List, [], ◌∷◌, ◌++◌, codes, decimal, None, Some, option_and_then, slice_get}
use Rattle.std.specs.declared.option.Option.{Option}
use Rattle.std.specs.Option.{option_map_or}
use Rattle.nif_base.specs.Node.{Reference, refs}
use Rattle.nif_base.specs.Graph.{Named, Graph}
use Rattle.nif_schema.specs.Schema.{Schema}
use Rattle.nif_graph.specs.Graph.{place}
use Rattle.nif_graph.specs.Reach.{well_typed}

-- words with a blank between two of them, and a line end behind the last
abbrev pub line_of : List (List ℕ) → List ℕ
line_of [] = codes "\n"
line_of (word ∷ []) = word ++ codes "\n"
line_of (word ∷ next ∷ words) = word ++ (codes " " ++ line_of (next ∷ words))

-- the texts of items one behind another, each by the number of its item; that of the first is n
abbrev pub by_number : {X : Type 0} → (ℕ → X → List ℕ) → ℕ → List X → List ℕ
by_number text n [] = []
by_number text n (item ∷ items) = text n item ++ by_number text (suc n) items

-- where a reference stands: in the block of a place, or in the footer
abbrev pub from_text : Option ℕ → List ℕ
from_text None = codes "roots"
from_text (Some place) = decimal place

abbrev pub strength_text : Bool → List ℕ
strength_text strong = if strong then codes "strong" else codes "weak"

-- the name of the type that is wanted
abbrev pub wanted_text : Schema → Option ℕ → List ℕ
wanted_text S None = codes "any"
wanted_text S (Some wanted) = option_map_or (λ d. d.name) (slice_get S wanted) []

abbrev pub place_text : Option ℕ → List ℕ
place_text None = codes "none"
place_text (Some place) = decimal place

-- the place of the target
abbrev pub target_text : List Named → Option ℕ → List ℕ
target_text blocks target = place_text (option_and_then (λ name. place name blocks) target)

abbrev pub verdict_text : Bool → List ℕ
verdict_text ok = if ok then codes "ok" else codes "wrong"

-- what a reference is: how strong, of which type its target should be, where its target stands, and whether that is of
-- the type
abbrev pub reference_words : Schema → Graph → Reference → List (List ℕ)
reference_words S G r =
    strength_text r.strong ∷ wanted_text S r.wanted ∷ target_text G.blocks r.target
    ∷ verdict_text (well_typed S G r) ∷ []

-- the line of reference k of the block of a place, or of the footer
abbrev pub reference_line : Schema → Graph → Option ℕ → ℕ → Reference → List ℕ
reference_line S G from k r = line_of (from_text from ∷ decimal k ∷ reference_words S G r)

-- the lines of such references in order
abbrev pub reference_lines : Schema → Graph → Option ℕ → List Reference → List ℕ
reference_lines S G from references = by_number (reference_line S G from) 0 references

abbrev pub block_lines : Schema → Graph → ℕ → Named → List ℕ
block_lines S G place b = reference_lines S G (Some place) (refs b.block.node)

-- the text that is printed of the references of a graph
abbrev pub refs_text : Schema → Graph → List ℕ
refs_text S G = by_number (block_lines S G) 0 G.blocks ++ reference_lines S G None (refs G.footer)
