-- The limits of the product: the greatest that is allowed of each, and the lowest and highest versions.
use Rattle.std.specs.Prelude.{ℕ, ◌+◌, ◌*◌, ◌^◌}

-- the bytes of a schema text
abbrev pub most_schema_bytes : ℕ
most_schema_bytes = 2 ^ 22

-- how deep the elements of a schema text nest
abbrev pub most_element_depth : ℕ
most_element_depth = 64

-- the bytes of an expression, with its tokens replaced
abbrev pub most_expression_bytes : ℕ
most_expression_bytes = 4096

-- the bytes of a file
abbrev pub most_file_bytes : ℕ
most_file_bytes = 2 ^ 26

-- the nodes of a file
abbrev pub most_nodes : ℕ
most_nodes = 2 ^ 24

-- the depth of a header, a block or a footer
abbrev pub most_depth : ℕ
most_depth = 64

-- the blocks of a file
abbrev pub most_blocks : ℕ
most_blocks = 2 ^ 20

-- the entries of the list of types of a file
abbrev pub most_types : ℕ
most_types = 2 ^ 15

-- the lowest version of a file: 4.0.0.2
abbrev pub lowest_version : ℕ
lowest_version = 4 * 2 ^ 24 + 2

-- the highest version of a file: 20.2.0.7
abbrev pub highest_version : ℕ
highest_version = 20 * 2 ^ 24 + 2 * 2 ^ 16 + 7

-- the highest BS version of a file
abbrev pub highest_bs : ℕ
highest_bs = 154
