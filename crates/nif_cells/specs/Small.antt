-- What cells have room for: bytes below 256, and numbers below those of their parts.
use Rattle.std.specs.Prelude.{◌<◌, ◌≤◌, All}
use Rattle.nif_base.specs.Limits.{most_file_bytes, most_nodes}
use Rattle.nif_base.specs.Node.{Node, Members, Num, Line, Ref, Text, Bytes, Group, Row, End, Here, Absent, nodes}
use Rattle.nif_cells.specs.Building.{bytes_of}

abbrev mutual
  -- each byte of lines and of runs of bytes is below 256
  pub HasBytes : Node → Type 0
  HasBytes (Num width little bits) = Unit {0}
  HasBytes (Line bytes) = All (λ b. b < 256) bytes
  HasBytes (Ref strong wanted target) = Unit {0}
  HasBytes (Text index) = Unit {0}
  HasBytes (Bytes bytes) = All (λ b. b < 256) bytes
  HasBytes (Group members) = HasBytesIn members
  HasBytes (Row items) = HasBytesIn items

  pub HasBytesIn : Members → Type 0
  HasBytesIn End = Unit {0}
  HasBytesIn (Here node rest) = HasBytes node × HasBytesIn rest
  HasBytesIn (Absent rest) = HasBytesIn rest

-- so many nodes and bytes at most
abbrev pub IsWithin : Node → Type 0
IsWithin node = (nodes node ≤ most_nodes) × (bytes_of node ≤ most_file_bytes)
