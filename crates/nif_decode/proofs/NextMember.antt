-- The next member of a group: left out, or its value.
use Rattle.std.proofs.Common.{◌≡◌, ℕ, inl, Bool, true, false, List, [], Option, Some, None, Ok, Err, refl, sym, subst, arith}
use Rattle.std.specs.declared.result.Result.{Result}
use Rattle.nif_stream.specs.Taking.{Takes}
use Rattle.nif_schema.specs.Declaration.{Field}
use Rattle.nif_layout.specs.Earlier.{Env}
use Rattle.nif_layout.specs.Fault.{Fault, Point}
use Rattle.nif_layout.specs.Fails.{MemberFails}
use Rattle.nif_scope.specs.declared.settings.Setting.{Setting}
use Rattle.nif_scope.specs.Scope.{asks, context_in}
use Rattle.nif_scope.specs.Told.{member_told}
use Rattle.nif_decode.specs.declared.faults.ValueFault.{ValueFault}
use Rattle.nif_decode.specs.Faults.{Cause, cause}
use Rattle.nif_decode.specs.Answers.{Stand, IsReady, Ceases, Answers}
use Rattle.nif_decode.specs.Begins.{LeavesOut}
use Rattle.nif_decode.specs.Groups.{IsHere, ValueShape, ValueStops, MemberAnswers}
use Rattle.nif_decode.proofs.Leaving.{stops_map}
use Rattle.nif_decode.proofs.Rows.{takes_nothing, begin_ceases}

-- the next member fails by itself, where it is said whether it is present
abbrev StopsAt : Bool → Setting → ℕ → Env → Field → Point → Fault → Type 0
StopsAt here at d E f p fault = MemberFails (λ w. w) (context_in at).order here (ValueShape at d E f) (ValueStops at d E f) (λ got next w. ⊥) p fault

pub left_out_answers : {S : Type 0} (left : S → Option (List ℕ)) (still : S → S → Type 0) (faults : S → ℕ) (at : Setting) (d : ℕ) (E : Env) (f : Field) (k : ℕ) (old new : Stand S) (result : Result (Unit {0}) ValueFault)
    → IsReady old k → new.taker ≡ old.taker → IsHere at E f ≡ false → LeavesOut old new result → MemberAnswers left still faults at d E f old new result
left_out_answers left still faults at d E f k old new (Ok u) r same absent o = record {
  got = None;
  is = absent;
  goes = record {
    takes = subst (λ t. Takes left still faults old.taker [] t) (sym same) (takes_nothing left still faults old.taker r.taker);
    nodes = o.nodes;
    counted = omega (arith, o.nodes, o.room);
  };
  built = o.building;
  told = o.told;
}
left_out_answers left still faults at d E f k old new (Err fault) r same absent o =
    subst (λ here. Ceases left still faults (StopsAt here at d E f) old new (cause fault)) (sym absent)
    (begin_ceases left still faults (λ next w. ⊥) k old new (cause fault) r same o.0 o.1)

value_ceases : {S : Type 0} (left : S → Option (List ℕ)) (still : S → S → Type 0) (faults : S → ℕ) (at : Setting) (d : ℕ) (E : Env) (f : Field) (old new : Stand S) (why : Cause)
    → Ceases left still faults (ValueStops at d E f) old new why → Ceases left still faults (StopsAt true at d E f) old new why
value_ceases left still faults at d E f old new why c = record {
  went = c.went;
  building = c.building;
  stops = stops_map left faults (ValueStops at d E f) (StopsAt true at d E f) old new.taker why (λ bytes w bad. inl (w, refl, bad)) c.stops;
}

pub value_answers : {S : Type 0} (left : S → Option (List ℕ)) (still : S → S → Type 0) (faults : S → ℕ) (at : Setting) (d : ℕ) (E : Env) (f : Field) (old new : Stand S) (result : Result (Unit {0}) ValueFault)
    → IsHere at E f ≡ true → Answers left still faults (context_in at).order (ValueShape at d E f) (ValueStops at d E f) (member_told (asks at.schema.now at.number f)) old new result
    → MemberAnswers left still faults at d E f old new result
value_answers left still faults at d E f old new (Ok u) here v = record {
  got = Some v.node;
  is = (here, v.is);
  goes = v.goes;
  built = v.built;
  told = v.told;
}
value_answers left still faults at d E f old new (Err fault) here v =
    subst (λ here. Ceases left still faults (StopsAt here at d E f) old new (cause fault)) (sym here) (value_ceases left still faults at d E f old new (cause fault) v)
