-- What a graph says of its blocks and references. A name is a block's for good; its place is where the block stands.
use Rattle.std.specs.Prelude.{ℕ, suc, ◌≡◌, ◌<◌, Bool, true, ◌==◌, None, Some, List, [], ◌∷◌, if◌then◌else◌, is_some, slice_get, option_and_then}
use Rattle.std.specs.declared.option.Option.{Option}
use Rattle.std.specs.Option.{option_map}
use Rattle.nif_base.specs.Node.{Node, Reference, refs}
use Rattle.nif_base.specs.File.{Block}
use Rattle.nif_base.specs.Graph.{Named, Graph}

-- the block of a name
abbrev pub find : ℕ → List Named → Option Block
find name [] = None
find name (b ∷ blocks) = if name == b.name then Some b.block else find name blocks

abbrev pub is_live : ℕ → List Named → Bool
is_live name blocks = is_some (find name blocks)

-- the place of a name
abbrev pub place : ℕ → List Named → Option ℕ
place name [] = None
place name (b ∷ blocks) = if name == b.name then Some 0 else option_map suc (place name blocks)

-- the node of a block, or of the footer for no name
abbrev pub node_of : Graph → Option ℕ → Option Node
node_of G None = Some G.footer
node_of G (Some name) = option_map (λ b. b.node) (find name G.blocks)

-- reference k of a block, or of the footer for no name
abbrev pub reference : Graph → Option ℕ → ℕ → Option Reference
reference G from k = option_and_then (λ node. slice_get (refs node) k) (node_of G from)

-- the type of a block
abbrev pub kind_of : Graph → ℕ → Option ℕ
kind_of G name = option_map (λ b. b.kind) (find name G.blocks)

-- no two blocks have one name
abbrev pub Different : List Named → Type 0
Different [] = Unit {0}
Different (b ∷ blocks) = (find b.name blocks ≡ None) × Different blocks

-- Names differ and are below the next one, and each target is the name of a block.
pub record IsGraph (G : Graph) : Type 0 where
  pub different : Different G.blocks
  pub below : (name : ℕ) → is_live name G.blocks ≡ true → name < G.next
  pub aimed : (from : Option ℕ) (k : ℕ) (r : Reference) (target : ℕ) → reference G from k ≡ Some r
      → r.target ≡ Some target → is_live target G.blocks ≡ true
