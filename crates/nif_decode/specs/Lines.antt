-- What the reading of a line as the first member of a group answers.
use Rattle.std.specs.Prelude.{ℕ, ◌≡◌, ◌+◌, ◌≤◌, List, [], ◌∷◌, ◌++◌, take, Some, None, Ok, Err}
use Rattle.std.specs.declared.option.Option.{Option}
use Rattle.std.specs.declared.result.Result.{Result}
use Rattle.nif_base.specs.Node.{Line, End, Here}
use Rattle.nif_stream.specs.declared.takers.Taker.{Taker}
use Rattle.nif_stream.specs.Taking.{Takes}
use Rattle.nif_layout.specs.Context.{Context}
use Rattle.nif_layout.specs.Kind as kind
use Rattle.nif_layout.specs.Leaf.{AreInLine}
use Rattle.nif_base.specs.Limits.{most_nodes}
use Rattle.nif_layout.specs.Fault.{Fault, Point}
use Rattle.nif_layout.specs.Fails.{Counted, LeafFails}
use Rattle.nif_cells.specs.Building.{Building, InGroup}
use Rattle.nif_value.specs.Trees.{Trees}
use Rattle.nif_scope.specs.declared.entries.Entry.{Entry}
use Rattle.nif_scope.specs.declared.entries.Entry.TheVariants as entry
use Rattle.nif_decode.specs.declared.faults.ValueFault.{ValueFault}
use Rattle.nif_decode.specs.Faults.{cause}
use Rattle.nif_decode.specs.Answers.{Stand, Went, Stops, Ceases, line_ends}

-- The first bytes of a buffer are a line that was read as the first member of a group, and counted.
pub record LineRead {S : Type 0} (left : S → Option (List ℕ)) (still : S → S → Type 0) (faults : S → ℕ)
    (old new : Taker S) (counted now : ℕ) (into : List ℕ) (entries : List Entry) (building : Option Building)
    (length : ℕ) : Type 0 where
  pub bound : length ≤ 255
  pub in_line : AreInLine (take length into)
  pub takes : Takes left still faults old (take length into ++ 0x0A ∷ []) new
  pub nodes : now ≡ counted + 1
  pub within : now ≤ most_nodes
  pub kept : entries ≡ entry.Nothing ∷ []
  pub is : building ≡ Some (record { top = None; levels = InGroup (Here (Line (take length into)) End) ∷ [] })

-- The line failed, in whatever context it stands, or it was not read for another cause; the tree that was begun is
-- gone.
pub record LineRefused {S : Type 0} (left : S → Option (List ℕ)) (still : S → S → Type 0) (faults : S → ℕ)
    (old new : Taker S) (counted : ℕ) (building : Option Building) (fault : ValueFault) : Type 0 where
  pub went : Went still faults old new
  pub stops : (C : Context)
      → Stops left faults (LeafFails C kind.Line)
      (record { taker = old; nodes = counted; building = None; told = [] }) new (cause fault)
  pub gone : building ≡ None

abbrev pub DecodesLine : {S : Type 0} → (S → Option (List ℕ)) → (S → S → Type 0) → (S → ℕ) → Taker S → Taker S → ℕ → ℕ
    → List ℕ → List Entry → Trees → Result ℕ ValueFault → Type 0
DecodesLine left still faults old new counted now into entries after (Ok length) =
    LineRead left still faults old new counted now into entries after.building length
DecodesLine left still faults old new counted now into entries after (Err fault) =
    LineRefused left still faults old new counted after.building fault

-- a line is counted, and then its bytes are missing or it is too long
abbrev pub LineStops : Point → Fault → Type 0
LineStops at fault = Counted (λ f. f) (λ next f. line_ends next ≡ Some f) at fault

-- The same while the tree that was begun still stands.
abbrev pub AddsLine : {S : Type 0} → (S → Option (List ℕ)) → (S → S → Type 0) → (S → ℕ) → List ℕ → Stand S → Stand S
    → Result ℕ ValueFault → Type 0
AddsLine left still faults into old new (Ok length) =
    LineRead left still faults old.taker new.taker old.nodes new.nodes into new.told new.building length
AddsLine left still faults into old new (Err fault) = Ceases left still faults LineStops old new (cause fault)
