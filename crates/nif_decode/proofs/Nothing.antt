-- Nothing is taken where a reader begins.
use Rattle.std.proofs.Common.{◌≡◌, ◌≢◌, ℕ, ◌+◌, ◌^◌, ◌≤◌, false, List, [], ◌∷◌, length, Option, Some, None, refl, sym, ◌∙◌, arith, ltb, le-ltb}
use Rattle.std.specs.Prelude.{IfSome}
use Rattle.nif_base.specs.Outside.{Rose}
use Rattle.nif_stream.specs.declared.takers.Taker.{Taker}
use Rattle.nif_stream.specs.declared.takers.TakeFault.{TakeFault}
use Rattle.nif_stream.specs.declared.takers.TakeFault.TheVariants as take
use Rattle.nif_stream.specs.Taking.{source_of, place_of, left_of, IsSound, Misses, need_fault, asked_at}
use Rattle.nif_layout.specs.Fault as plain
use Rattle.nif_layout.specs.Fault.{Fault, Point}
use Rattle.nif_cells.specs.Building.{Building}
use Rattle.nif_scope.specs.declared.entries.Entry.{Entry}
use Rattle.nif_decode.specs.Faults.{Cause, take_cause}
use Rattle.nif_decode.specs.Answers.{Stand, Ends, Stops, FailsThere, point}
use Rattle.nif_decode.proofs.Leaving.{stops_map}

pub no_bytes : (bytes : List ℕ) → length bytes ≡ 0 → bytes ≡ []
no_bytes [] e = refl
no_bytes (b ∷ bytes) e = absurd (omega arith)

no_need : (place : ℕ) (bytes : List ℕ) → place ≤ 2 ^ 26 → need_fault place 0 bytes ≡ None
unfolding need_fault
no_need place bytes within =
    let a : ltb (2 ^ 26) (place + 0) ≡ false = le-ltb (2 ^ 26) (place + 0) (omega arith) in
    let b : ltb (length bytes) 0 ≡ false = le-ltb (length bytes) 0 (omega arith) in
    rw (a, b) refl

-- no fault of a value comes of it
pub nothing_ends : {S : Type 0} (left : S → Option (List ℕ)) (still : S → S → Type 0) (faults : S → ℕ) (old new : Taker S) (fault : TakeFault) → IsSound old → place_of old ≤ 2 ^ 26
    → Misses left still faults old (need_fault (place_of old) 0) (asked_at (place_of old) 0) new fault
    → Ends left still faults (λ p. None) old new (take_cause (place_of old) fault)
nothing_ends {S = S} left still faults old new fault sound within m = record {
  went = record { same_reference = m.same_reference; keeps = m.keeps; later = m.later };
  stops = λ n b t. by n b t fault (m.rose sound) (m.told sound);
}
  where
    told : (at : Stand S) (f : TakeFault) (w : Fault) (o : Option (List ℕ)) → IfSome o (λ bytes. need_fault (place_of old) 0 bytes ≡ Some f)
        → IfSome o (λ bytes. FailsThere (λ p v. None ≡ Some v) w (left (source_of new)) (point at bytes))
    told at f w None h = tt
    told at f w (Some bytes) h = let none : None ≡ Some f = sym (no_need (place_of old) bytes within) ∙ h in absurd (cc)

    by : (n : ℕ) (b : Option Building) (t : List Entry) (f : TakeFault)
        → (f ≡ take.ReadFault → Rose (faults (source_of old)) (faults (source_of new)))
        → (f ≢ take.ReadFault → IfSome (left_of left old) (λ bytes. need_fault (place_of old) 0 bytes ≡ Some f))
        → Stops left faults (λ p w. None ≡ Some w) (record { taker = old; nodes = n; building = b; told = t }) new (take_cause (place_of old) f)
    by n b t take.ReadFault r h = r refl
    by n b t take.Ended r h = told (record { taker = old; nodes = n; building = b; told = t }) take.Ended (plain.Ended (place_of old)) (left_of left old) (h (λ e. absurd (cc)))
    by n b t take.TooLong r h = told (record { taker = old; nodes = n; building = b; told = t }) take.TooLong plain.TooLong (left_of left old) (h (λ e. absurd (cc)))
    by n b t take.LineTooLong r h = told (record { taker = old; nodes = n; building = b; told = t }) take.LineTooLong (plain.LineTooLong (place_of old)) (left_of left old) (h (λ e. absurd (cc)))

pub nothing_stops : {S : Type 0} (left : S → Option (List ℕ)) (still : S → S → Type 0) (faults : S → ℕ) (F : Point → Fault → Type 0) (old : Stand S) (new : Taker S) (why : Cause)
    → Ends left still faults (λ p. None) old.taker new why → Stops left faults F old new why
nothing_stops left still faults F old new why e =
    stops_map left faults (λ p f. None ≡ Some f) F old new why (λ bytes f h. absurd (cc)) (e.stops old.nodes old.building old.told)
