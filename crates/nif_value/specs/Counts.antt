-- How many nodes and bytes a cell stands for.
use Rattle.std.specs.Prelude.{ℕ, ◌+◌}
use Rattle.nif_cells.specs.declared.contents.Content.{Content}
use Rattle.nif_cells.specs.declared.contents.Content.TheVariants.{Number, Word, Tail, Place}
use Rattle.nif_cells.specs.declared.contents.Content.TheVariants as content

-- how many nodes begin with a cell that says this, an absent member among them
abbrev pub nodes_said : Content → ℕ
nodes_said (Number width little bits) = 1
nodes_said (content.Line len) = 1
nodes_said (content.Reference view) = 1
nodes_said (content.Text index) = 1
nodes_said (content.Bytes len) = 1
nodes_said (Word bits) = 0
nodes_said (Tail left bits) = 0
nodes_said (content.Group members) = 1
nodes_said (content.Row items) = 1
nodes_said content.Absent = 1
nodes_said content.End = 0
nodes_said (Place number place) = 0

-- how many bytes spell what begins with it, without those of its members
abbrev pub bytes_said : Content → ℕ
bytes_said (Number width little bits) = width
bytes_said (content.Line len) = len + 1
bytes_said (content.Reference view) = 4
bytes_said (content.Text index) = 4
bytes_said (content.Bytes len) = len
bytes_said (Word bits) = 0
bytes_said (Tail left bits) = 0
bytes_said (content.Group members) = 0
bytes_said (content.Row items) = 0
bytes_said content.Absent = 0
bytes_said content.End = 0
bytes_said (Place number place) = 0
