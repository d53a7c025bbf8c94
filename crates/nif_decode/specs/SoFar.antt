-- What a group or a row that is being read holds so far.
use Rattle.std.specs.Prelude.{ℕ, ◌≡◌, ◌+◌, Bool, List, [], ◌∷◌, ◌++◌, None, Some}
use Rattle.std.specs.declared.option.Option.{Option}
use Rattle.nif_base.specs.declared.orders.Order.{Order}
use Rattle.nif_base.specs.Node.{Node, Members, End, Here, Absent, texts, nodes_in}
use Rattle.nif_schema.specs.Declaration.{Field}
use Rattle.nif_layout.specs.Fault.{Fault}
use Rattle.nif_layout.specs.Members.{Fields, Items, no_check}
use Rattle.nif_cells.specs.Building.{Level, InGroup, InRow}
use Rattle.nif_scope.specs.declared.settings.Setting.{Setting}
use Rattle.nif_scope.specs.declared.entries.Entry.{Entry}
use Rattle.nif_scope.specs.declared.entries.Entry.TheVariants as entry
use Rattle.nif_scope.specs.Scope.{Tells, context_in}
use Rattle.nif_decode.specs.Answers.{Stand, Goes}
use Rattle.nif_decode.specs.Kept.{item_kept}
use Rattle.nif_decode.specs.Groups.{IsHere, ValueShape}

-- what is kept of items, where they are asked for
abbrev pub items_kept : Bool → Members → List Entry
items_kept asked End = []
items_kept asked (Here node rest) = item_kept asked node ++ items_kept asked rest
items_kept asked (Absent rest) = []

-- So many items of a row were read since it was begun.
pub record RowSoFar {S : Type 0} (left : S → Option (List ℕ)) (still : S → S → Type 0) (faults : S → ℕ) (order : Order)
    (IsItem : ℕ → Node → Type 0) (asked : Bool) (count : ℕ) (outer : List Level) (old now : Stand S) : Type 0 where
  pub held : Members
  pub done : Items IsItem 0 count held
  pub goes : Goes left still faults (texts order held) (1 + nodes_in held) old now
  pub built : now.building ≡ Some (record { top = None; levels = InRow held ∷ outer })
  pub told : now.told ≡ old.told ++ entry.Nothing ∷ items_kept asked held

-- The members of the first fields of a group were read since it was begun, and are kept.
pub record GroupSoFar {S : Type 0} (left : S → Option (List ℕ)) (still : S → S → Type 0) (faults : S → ℕ) (at : Setting)
    (d : ℕ) (front : List Field) (outer : List Level) (old now : Stand S) : Type 0 where
  pub held : Members
  pub done : Fields (IsHere at) (ValueShape at d) (no_check {Why = Fault}) front [] held
  pub goes : Goes left still faults (texts (context_in at).order held) (1 + nodes_in held) old now
  pub built : now.building ≡ Some (record { top = None; levels = InGroup held ∷ outer })
  pub tells : Tells at now.told held
