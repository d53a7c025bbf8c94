-- The laws of cells, for the crates above.
pub use Rattle.nif_cells.specs.Encoding.{view_of, aimed}
pub use Rattle.nif_cells.specs.PackLaws.{packed_next, packed_left, packed_left_is, packed_words, packed_bits, packed_fits, unpacked_whole, bytes_at-words, bytes_at-cells, byte_cells-length}
pub use Rattle.nif_cells.specs.ReadLaws.{read_more, read_index, read_words, line_words, read_node, joined, joined_whole, read_group, read_row, read_tree, tree_known}
pub use Rattle.nif_cells.specs.WalkLaws.{met-words, met-bytes, met-index, met-node, met-members, met-tree, behind-bytes, headed-append, headed-bytes, headed-node, headed-tree, headed-drop}
pub use Rattle.nif_cells.specs.PlaceLaws.{places-more, places-count, places-index, places-tree, place-is, place-there, get-behind, get-before, views, views-append, views-node, places-views, index-length, index-at, tree-index, tree-length, no-place, last-place, no-index, some-cell}
pub use Rattle.nif_cells.specs.TargetLaws.{target-contents, target-tree, target-places, target-small, target-nodes, target-bytes_of, target-strong, target-wanted, target-refs}
pub use Rattle.nif_cells.specs.SizeLaws.{tree-cells, cells-bound, tree-bound, members-cells, members-bound, nodes-behind, nodes-absent_behind, bytes-behind, bytes-absent_behind, count-behind, count-absent_behind, open-cells}
pub use Rattle.nif_cells.specs.OpenLaws.{contents-behind, contents-absent_behind, small-behind, small-absent_behind, read-open, in_cells-holding, in_cells-bytes, placed-cells, opened-cells, left_out-cells, node-whole, closes, closed-cells, places-close, placed-inside, opened-inside, closed-inside}
