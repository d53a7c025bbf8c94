-- The members of a line that were read so far, behind those that were held.
use Rattle.std.specs.Prelude.{ℕ, ◌≡◌, List, [], ◌∷◌, Some, None, Ok, Err}
use Rattle.std.specs.declared.option.Option.{Option}
use Rattle.std.specs.declared.result.Result.{Result}
use Rattle.nif_base.specs.Node.{Members, texts, nodes_in}
use Rattle.nif_stream.specs.Taking.{place_of}
use Rattle.nif_layout.specs.Fault.{Fault, Point}
use Rattle.nif_layout.specs.Members.{Fields, no_check}
use Rattle.nif_layout.specs.Fails.{FieldsFail}
use Rattle.nif_cells.specs.Building.{InGroup}
use Rattle.nif_scope.specs.declared.settings.Setting.{Setting}
use Rattle.nif_scope.specs.Scope.{context_in}
use Rattle.nif_decode.specs.declared.faults.ValueFault.{ValueFault}
use Rattle.nif_decode.specs.Faults.{cause}
use Rattle.nif_decode.specs.Answers.{Stand, Goes, Ceases}
use Rattle.nif_decode.specs.Groups.{IsHere, ValueShape, ValueStops}
use Rattle.nif_decode.specs.Scopes.{AreKept, HoldsMembers, joined}
use Rattle.nif_decode.specs.Decodes.{fields_between, env_of}

-- These members are held where a reader stands.
abbrev pub HoldsAt : {S : Type 0} → Setting → ℕ → Stand S → Members → Type 0
HoldsAt at from old held =
    HoldsMembers at.schema.now at.number from old.told old.building old.nodes (place_of old.taker) held

-- The members of the fields from one place to another were read, and are kept behind those that were held.
pub record MembersSoFar {S : Type 0} (left : S → Option (List ℕ)) (still : S → S → Type 0) (faults : S → ℕ)
    (at : Setting) (from to : ℕ) (held : Members) (old now : Stand S) : Type 0 where
  pub more : Members
  pub done : Fields (IsHere at) (ValueShape at 63) (no_check {Why = Fault})
      (fields_between at.schema.now at.number from to) (env_of at.schema.now at.number held) more
  pub goes : Goes left still faults (texts (context_in at).order more) (nodes_in more) old now
  pub built : now.building ≡ Some (record { top = None; levels = InGroup (joined held more) ∷ [] })
  pub kept : AreKept at.schema.now at.number to now.told (joined held more)

-- one of these members fails
abbrev pub MembersStop : Setting → ℕ → ℕ → Members → Point → Fault → Type 0
MembersStop at from to held p fault =
    FieldsFail (λ w. w) (λ E. (context_in at).order) (IsHere at) (ValueShape at 63) (ValueStops at 63) no_check
    (fields_between at.schema.now at.number from to) (env_of at.schema.now at.number held) p fault

abbrev pub MembersAnswers : {S : Type 0} → (S → Option (List ℕ)) → (S → S → Type 0) → (S → ℕ) → Setting → ℕ → ℕ
    → Members → Stand S → Stand S → Result (Unit {0}) ValueFault → Type 0
MembersAnswers left still faults at from to held old new (Ok _) = MembersSoFar left still faults at from to held old new
MembersAnswers left still faults at from to held old new (Err fault) =
    Ceases left still faults (MembersStop at from to held) old new (cause fault)
