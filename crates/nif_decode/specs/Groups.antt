-- Members of a group, one after another.
use Rattle.std.specs.Prelude.{ℕ, ◌≡◌, Bool, true, false, List, [], ◌∷◌, ◌++◌, None, Some, Ok, Err}
use Rattle.std.specs.declared.option.Option.{Option}
use Rattle.std.specs.declared.result.Result.{Result}
use Rattle.nif_base.specs.declared.orders.Order.{Order}
use Rattle.nif_base.specs.Node.{Node, text, nodes}
use Rattle.nif_schema.specs.Declaration.{Field}
use Rattle.nif_schema.specs.Schema.{line}
use Rattle.nif_layout.specs.Earlier.{Env}
use Rattle.nif_layout.specs.Present.{present}
use Rattle.nif_layout.specs.Form.{form_of}
use Rattle.nif_layout.specs.Fault.{Fault, Point}
use Rattle.nif_layout.specs.Fails.{Counted, MemberFails, GroupFails, FormShapeFails, Fails}
use Rattle.nif_layout.specs.Shape.{Shape, FormShape, IsGroup}
use Rattle.nif_cells.specs.Building.{Building, placed, left_out}
use Rattle.nif_value.specs.Trees.{after}
use Rattle.nif_scope.specs.declared.settings.Setting.{Setting}
use Rattle.nif_scope.specs.declared.entries.Entry.{Entry}
use Rattle.nif_scope.specs.declared.entries.Entry.TheVariants as entry
use Rattle.nif_scope.specs.Scope.{asks, context_in}
use Rattle.nif_scope.specs.Told.{member_told}
use Rattle.nif_decode.specs.declared.faults.ValueFault.{ValueFault}
use Rattle.nif_decode.specs.Faults.{cause}
use Rattle.nif_decode.specs.Answers.{Stand, Goes, Ceases}

-- one value of a group, in which groups lie at most d deep
abbrev pub GroupShape : Setting → ℕ → Node → Type 0
GroupShape at d node = IsGroup at.schema.now (context_in at) (Shape at.schema.now (context_in at) d)
    (line at.schema.now at.number) at.template at.arg node

abbrev pub GroupStops : Setting → ℕ → Point → Fault → Type 0
GroupStops at d p fault =
    Counted (λ f. f) (GroupFails at.schema.now (context_in at) (Shape at.schema.now (context_in at) d)
    (Fails at.schema.now (context_in at) d) (line at.schema.now at.number) at.template at.arg) p fault

-- the value of a field behind these earlier fields
abbrev pub ValueShape : Setting → ℕ → Env → Field → Node → Type 0
ValueShape at d E f node =
    FormShape at.schema.now (context_in at) d (form_of at.schema.now (context_in at) at.template at.arg E f) node

abbrev pub ValueStops : Setting → ℕ → Env → Field → Point → Fault → Type 0
ValueStops at d E f p fault = FormShapeFails at.schema.now (context_in at) d
    (form_of at.schema.now (context_in at) at.template at.arg E f) p fault

abbrev pub IsHere : Setting → Env → Field → Bool
IsHere at E f = present at.schema.now (context_in at) at.arg E f

-- the next member is its value, or it is left out where it isn't present
abbrev pub MemberIs : Setting → ℕ → Env → Field → Option Node → Type 0
MemberIs at d E f None = IsHere at E f ≡ false
MemberIs at d E f (Some node) = (IsHere at E f ≡ true) × ValueShape at d E f node

abbrev pub member_bytes : Order → Option Node → List ℕ
member_bytes order None = []
member_bytes order (Some node) = text order node

abbrev pub member_nodes : Option Node → ℕ
member_nodes None = 1
member_nodes (Some node) = nodes node

abbrev pub member_kept : Bool → Option Node → List Entry
member_kept asked None = entry.Absent ∷ []
member_kept asked (Some node) = member_told asked node

abbrev pub built_by : Option Node → Option Building → Option Building
built_by None building = after building left_out
built_by (Some node) building = after building (placed node)

-- the next member fails by itself
abbrev pub MemberStops : Setting → ℕ → Env → Field → Point → Fault → Type 0
MemberStops at d E f p fault =
    MemberFails (λ w. w) (context_in at).order (IsHere at E f) (ValueShape at d E f) (ValueStops at d E f)
    (λ got next w. ⊥) p fault

-- The next member of a group was read or left out.
pub record ReadsMember {S : Type 0} (left : S → Option (List ℕ)) (still : S → S → Type 0) (faults : S → ℕ)
    (at : Setting) (d : ℕ) (E : Env) (f : Field) (old new : Stand S) : Type 0 where
  pub got : Option Node
  pub is : MemberIs at d E f got
  pub goes : Goes left still faults (member_bytes (context_in at).order got) (member_nodes got) old new
  pub built : new.building ≡ built_by got old.building
  pub told : new.told ≡ old.told ++ member_kept (asks at.schema.now at.number f) got

abbrev pub MemberAnswers : {S : Type 0} → (S → Option (List ℕ)) → (S → S → Type 0) → (S → ℕ) → Setting → ℕ → Env
    → Field → Stand S → Stand S → Result (Unit {0}) ValueFault → Type 0
MemberAnswers left still faults at d E f old new (Ok _) = ReadsMember left still faults at d E f old new
MemberAnswers left still faults at d E f old new (Err fault) =
    Ceases left still faults (MemberStops at d E f) old new (cause fault)
