-- When a graph fits a schema: its blocks are values of their types, and what is written of it is within the limits.
use Rattle.std.specs.Prelude.{ℕ, ◌≡◌, ◌%◌, ◌^◌, ◌<◌, ◌≤◌, Bool, true, false, codes, None, Some, List, [], ◌∷◌, length, slice_get}
use Rattle.std.specs.Option.{option_map_or}
use Rattle.nif_base.specs.Limits.{most_blocks, most_types, most_nodes, most_file_bytes, most_depth}
use Rattle.nif_base.specs.Node.{Node, retargeted}
use Rattle.nif_base.specs.File.{Block, nodes_of}
use Rattle.nif_base.specs.Graph.{Graph}
use Rattle.nif_schema.specs.Declaration.{Name}
use Rattle.nif_schema.specs.Schema.{Schema, find, find_block}
use Rattle.nif_schema.specs.Reasons.{IsOpen}
use Rattle.nif_layout.specs.Kind.{Kind, Unknown, kind_of}
use Rattle.nif_layout.specs.Leaf.{AreBytes}
use Rattle.nif_layout.specs.Shape.{Shape}
use Rattle.nif_graph.specs.Graph as graph
use Rattle.nif_graph.specs.Graph.{place, IsGraph}
use Rattle.nif_graph.specs.Reach.{DeclaresTypes}
use Rattle.nif_graph.specs.Written.{numbered, is_indexed}
use Rattle.nif_graph.specs.declared.places.RolePlaces.{RolePlaces}
use Rattle.nif_edit.specs.Inserted.{context_of}
use Rattle.nif_edit.specs.declared.edits.Edit.{Edit}
use Rattle.nif_edit.specs.declared.edits.Edit.TheVariants.{Insert}
use Rattle.nif_edit.specs.After.{after, after_all}
use Rattle.nif_edit.specs.Refused.{IsAbstract, Accepted, AllAccepted}
use Rattle.nif_edit.specs.Size.{name_of, bytes_of}

-- an open block type that isn't abstract, and is the type of its name
pub record IsBlockType (S : Schema) (number : ℕ) : Type 0 where
  pub named : find_block S (name_of S number) ≡ Some number
  pub concrete : IsAbstract S number → ⊥
  pub opens : IsOpen S number

-- In a file that is indexed the index word has 16 bits, of which the low 15 number an entry of the name of the type; in
-- another file there is no index word.
abbrev pub IsEntry : Bool → Schema → List Name → Block → Type 0
IsEntry true S types block =
    (word : ℕ) × (block.index ≡ Some word) × (word < 2 ^ 16)
    × (slice_get types (word % 2 ^ 15) ≡ Some (name_of S block.kind))
IsEntry false S types block = block.index ≡ None

-- names are of bytes
abbrev pub AreNames : List Name → Type 0
AreNames [] = Unit {0}
AreNames (name ∷ names) = AreBytes name × AreNames names

-- the node with the places of its targets for their names
abbrev pub placed : Graph → Node → Node
placed G = retargeted (λ name. place name G.blocks)

abbrev pub footer_kind : Schema → Graph → Kind
footer_kind S G =
    option_map_or (λ footer. kind_of S (context_of G None) footer None 0) (find S (codes "Footer")) Unknown

-- The block is a value of its type.
pub record IsValue (S : Schema) (places : RolePlaces) (G : Graph) (block : Block) : Type 0 where
  pub type : IsBlockType S block.kind
  pub entry : IsEntry (is_indexed places G.header) S G.types block
  pub value : Shape S (context_of G (Some block.kind)) most_depth
      (kind_of S (context_of G (Some block.kind)) block.kind None 0) (placed G block.node)

-- Blocks and footer are values of their types. A file that isn't indexed has no names of types; names are of bytes.
pub record AreValues (S : Schema) (places : RolePlaces) (G : Graph) : Type 0 where
  pub blocks : (name : ℕ) (block : Block) → graph.find name G.blocks ≡ Some block → IsValue S places G block
  pub footer : Shape S (context_of G None) most_depth (footer_kind S G) (placed G G.footer)
  pub plain : is_indexed places G.header ≡ false → G.types ≡ []
  pub few_types : length G.types ≤ most_types
  pub names : AreNames G.types

-- What is written is within the limits.
pub record IsWithin (S : Schema) (places : RolePlaces) (G : Graph) : Type 0 where
  pub few_blocks : length G.blocks ≤ most_blocks
  pub few_nodes : nodes_of (numbered places G) ≤ most_nodes
  pub short : bytes_of S places G ≤ most_file_bytes

pub record Fits (S : Schema) (places : RolePlaces) (G : Graph) : Type 0 where
  pub values : AreValues S places G
  pub within : IsWithin S places G

-- Where blocks and footer are values of their types, the schema declares the types of the blocks, and those that
-- references want.
abbrev pub ValuesDeclare : Type 0
ValuesDeclare = (S : Schema) (places : RolePlaces) (G : Graph) → AreValues S places G → DeclaresTypes S G

-- the name of a type in an edit is of bytes
abbrev pub IsSpelled : Edit → Type 0
IsSpelled (Insert kind at) = AreBytes kind
IsSpelled _ = Unit {0}

abbrev pub AreSpelled : List Edit → Type 0
AreSpelled [] = Unit {0}
AreSpelled (e ∷ edits) = IsSpelled e × AreSpelled edits

-- After an accepted edit, blocks and footer are values of their types.
abbrev pub KeepsValues : Type 0
KeepsValues = (S : Schema) (places : RolePlaces) (G : Graph) (e : Edit) → IsSpelled e → IsGraph G → AreValues S places G
    → Accepted S places G e → AreValues S places (after S places G e)

-- After an accepted edit, a graph that fitted the schema does.
abbrev pub KeepsFits : Type 0
KeepsFits = (S : Schema) (places : RolePlaces) (G : Graph) (e : Edit) → IsSpelled e → IsGraph G → Fits S places G
    → Accepted S places G e → Fits S places (after S places G e)

-- After a list of accepted edits, it is a graph and fits the schema.
abbrev pub AllKeepFits : Type 0
AllKeepFits = (S : Schema) (places : RolePlaces) (G : Graph) (edits : List Edit) → AreSpelled edits → IsGraph G
    → Fits S places G → AllAccepted S places G edits
    → IsGraph (after_all S places G edits) × Fits S places (after_all S places G edits)
