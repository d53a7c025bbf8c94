-- How many bytes the file of a graph has.
use Rattle.std.specs.Prelude.{ℕ, ◌+◌, nat_le, ◌&&◌, Bool, if◌then◌else◌, List, [], ◌∷◌, length, slice_get}
use Rattle.std.specs.Option.{option_map_or}
use Rattle.nif_base.specs.Node.{size}
use Rattle.nif_base.specs.File.{Block, File}
use Rattle.nif_base.specs.Graph.{Graph}
use Rattle.nif_schema.specs.Declaration.{Name}
use Rattle.nif_schema.specs.Schema.{Schema}
use Rattle.nif_graph.specs.Written.{numbered}
use Rattle.nif_graph.specs.declared.places.RolePlaces.{RolePlaces}

abbrev pub name_of : Schema → ℕ → Name
name_of S number = option_map_or (λ d. d.name) (slice_get S number) []

-- From version 5.0.0.1 to 10.1.0.106 a zero word stands before the value of each block.
abbrev pub has_zero_word : ℕ → Bool
has_zero_word version = nat_le 0x05000001 version && nat_le version 0x0A01006A

-- what stands before the value of a block: in a file that isn't indexed the name of its type, with its length
abbrev pub framing : Schema → ℕ → Block → ℕ
framing S version block =
    option_map_or (λ word. 0) block.index (4 + length (name_of S block.kind)) + (if has_zero_word version then 4 else 0)

abbrev pub blocks_size : Schema → ℕ → List Block → ℕ
blocks_size S version [] = 0
blocks_size S version (block ∷ blocks) = framing S version block + size block.node + blocks_size S version blocks

-- the bytes of a file of this version
abbrev pub size_of : Schema → ℕ → File → ℕ
size_of S version F = size F.header + blocks_size S version F.blocks + size F.footer

abbrev pub bytes_of : Schema → RolePlaces → Graph → ℕ
bytes_of S places G = size_of S G.origin.version (numbered places G)
