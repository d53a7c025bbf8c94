use Rattle.std.proofs.Common.{◌≡◌, ◌+◌, ◌*◌, ◌++◌, map}
use Rattle.nif_schema.specs.Declaration.{field}
use Rattle.nif_layout.specs.Shape.{Shape}
use Rattle.nif_scope.specs.Scope.{context_in, kind_of}
use Rattle.nif_decode.specs.Answers.{IsReady, stand}
use Rattle.nif_decode.specs.SoFar.{RowSoFar, GroupSoFar}
use Rattle.nif_decode.proofs.RowsOfRows.{IsRowOf}
use Rattle.nif_schema.specs.Schema.{line}
use Rattle.nif_decode.proofs.values.+values.Given as goal

abbrev pub decreases-read_one : goal.decreases-read_one
decreases-read_one g l = 7 * l.depth

abbrev pub decreases-read_row : goal.decreases-read_row
decreases-read_row g l = 7 * l.depth + 1

abbrev pub decreases-read_array : goal.decreases-read_array
decreases-read_array g l = 7 * l.depth + 2

abbrev pub decreases-read_rows : goal.decreases-read_rows
decreases-read_rows g l = 7 * l.depth + 3

abbrev pub decreases-read_value : goal.decreases-read_value
decreases-read_value g l = 7 * l.depth + 4

abbrev pub decreases-read_member : goal.decreases-read_member
decreases-read_member g l = 7 * l.depth + 5

abbrev pub decreases-read_group : goal.decreases-read_group
decreases-read_group g l = 7 * l.depth + 6

abbrev pub invariant-read_row-loop-item : goal.invariant-read_row-loop-item
invariant-read_row-loop-item g l = record {
  trees : l.store.trees ≡ l.fn.store.trees;
  ready : IsReady (stand l.fn.taker l.fn.nodes l.fn.store l.fn.told.items) (3 * l.depth + 1);
  so_far : RowSoFar g.S.Source.left g.S.Source.still g.S.Source.read_faults (context_in l.at).order
      (λ i. Shape l.at.schema.now (context_in l.at) l.depth (kind_of l.at.schema.now l.of)) l.asked l._item ready.room.tree.levels
      (stand l.fn.taker l.fn.nodes l.fn.store l.fn.told.items) (stand l.taker l.nodes l.store l.told.items);
}

abbrev pub invariant-read_rows-loop-row : goal.invariant-read_rows-loop-row
invariant-read_rows-loop-row g l = record {
  trees : l.store.trees ≡ l.fn.store.trees;
  ready : IsReady (stand l.fn.taker l.fn.nodes l.fn.store l.fn.told.items) (3 * l.depth + 1 + 1);
  so_far : RowSoFar g.S.Source.left g.S.Source.still g.S.Source.read_faults (context_in l.at).order
      (IsRowOf l.at (field l.of) l.kind l.run l.depth l.fn.told.items) l.asked l.row ready.room.tree.levels
      (stand l.fn.taker l.fn.nodes l.fn.store l.fn.told.items) (stand l.taker l.nodes l.store l.told.items);
}

-- the members of the fields that were passed were read and are kept, and the other fields of the line are left
abbrev pub invariant-read_group-loop-of : goal.invariant-read_group-loop-of
invariant-read_group-loop-of g l = record {
  trees : l.store.trees ≡ l.fn.store.trees;
  fields : line l.at.schema.now l.at.number ≡ map (λ f. field f.now) l.yielded ++ l.of-iterator;
  so_far : (r : IsReady (stand l.fn.taker l.fn.nodes l.fn.store l.fn.told.items) (3 * l.depth + 3))
      → GroupSoFar g.S.Source.left g.S.Source.still g.S.Source.read_faults l.at l.depth (map (λ f. field f.now) l.yielded) r.room.tree.levels
      (stand l.fn.taker l.fn.nodes l.fn.store l.fn.told.items) (stand l.taker l.nodes l.store l.entries.items);
}
