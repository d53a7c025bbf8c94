-- The graph after an edit. Where a block or a type isn't there, nothing changes; such an edit is refused.
use Rattle.std.specs.Prelude.{Some, List, [], ◌∷◌}
use Rattle.std.specs.Option.{option_map_or}
use Rattle.nif_base.specs.Graph.{Graph}
use Rattle.nif_schema.specs.Schema.{Schema, find_block}
use Rattle.nif_layout.specs.Zero.{zero_of}
use Rattle.nif_graph.specs.Changes.{taken_out, copied, moved, replaced_by, reordered, targeted}
use Rattle.nif_graph.specs.declared.places.RolePlaces.{RolePlaces}
use Rattle.nif_edit.specs.declared.edits.Edit.{Edit}
use Rattle.nif_edit.specs.declared.edits.Edit.TheVariants.{Remove, Copy, Insert, Replace, Move, Reorder, Point}
use Rattle.nif_edit.specs.Inserted.{context_of, inserted}

abbrev pub after : Schema → RolePlaces → Graph → Edit → Graph
after S places G (Remove name) = taken_out G name
after S places G (Copy name at) = copied G name at
after S places G (Insert kind at) =
    option_map_or (λ number. inserted places G kind at number (zero_of S (context_of G (Some number)) number))
    (find_block S kind) G
after S places G (Replace name by) = replaced_by G name by
after S places G (Move name at) = moved G name at
after S places G (Reorder names) = reordered G names
after S places G (Point from k to) = targeted G from k to

-- the graph after edits, the first of them first
abbrev pub after_all : Schema → RolePlaces → Graph → List Edit → Graph
after_all S places G [] = G
after_all S places G (e ∷ edits) = after_all S places (after S places G e) edits
