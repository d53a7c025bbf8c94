-- What leads where in a graph, and which references are of the wanted type.
use Rattle.std.specs.Prelude.{ℕ, ◌≡◌, ◌<◌, Bool, true, List, length, None, Some, slice_get, option_and_then}
use Rattle.std.specs.declared.option.Option.{Option}
use Rattle.nif_base.specs.Node.{Reference, refs}
use Rattle.nif_base.specs.File.{Block}
use Rattle.nif_base.specs.Graph.{Named, Graph}
use Rattle.nif_schema.specs.Schema.{Schema, is_a}
use Rattle.nif_graph.specs.Graph.{find, kind_of, reference}

-- a walk of zero or more steps
pub data Walk (Step : ℕ → ℕ → Type 0) : ℕ → ℕ → Type 0 where
  Here : {a : ℕ} → Walk Step a a
  Then : {a b c : ℕ} → Step a b → Walk Step b c → Walk Step a c

-- a strong reference of block a is to block b
abbrev pub Leads : List Named → ℕ → ℕ → Type 0
Leads blocks a b =
    (block : Block) × (k : ℕ) × (r : Reference) × (find a blocks ≡ Some block)
    × (slice_get (refs block.node) k ≡ Some r) × (r.strong ≡ true) × (r.target ≡ Some b)

-- A walk of one or more strong references of blocks leads from a to b.
abbrev pub Reaches : List Named → ℕ → ℕ → Type 0
Reaches blocks a b = (c : ℕ) × Leads blocks a c × Walk (Leads blocks) c b

-- what is found, if any, is of the type that is wanted, if any
abbrev pub is_wanted : Schema → Option ℕ → Option ℕ → Bool
is_wanted S None found = true
is_wanted S (Some wanted) None = true
is_wanted S (Some wanted) (Some found) = is_a S found wanted

-- A reference is well typed where it is empty, wants any type, or its target is of the type that it wants.
abbrev pub well_typed : Schema → Graph → Reference → Bool
well_typed S G r = is_wanted S r.wanted (option_and_then (kind_of G) r.target)

-- A schema declares the types of the blocks, and those that references want.
pub record DeclaresTypes (S : Schema) (G : Graph) : Type 0 where
  pub kinds : (name kind : ℕ) → kind_of G name ≡ Some kind → kind < length S
  pub wanted : (from : Option ℕ) (k : ℕ) (r : Reference) (wanted : ℕ) → reference G from k ≡ Some r
      → r.wanted ≡ Some wanted → wanted < length S
