-- How many bytes spell the members that were read of a line.
use Rattle.std.specs.Prelude.{ℕ, ◌+◌, [], ◌∷◌}
use Rattle.std.specs.Option.{option_map_or}
use Rattle.nif_base.specs.Node.{size}
use Rattle.nif_layout.specs.Earlier.{Env}

-- the bytes of all these fields, whatever the order of the file
abbrev pub size_of_fields : Env → ℕ
size_of_fields [] = 0
size_of_fields (earlier ∷ before) = size_of_fields before + option_map_or size earlier.node 0
