-- Takers that go on from what was read.
use Rattle.std.proofs.Common.{ℕ, List, [], Option, refl, arith}
use Rattle.nif_stream.specs.declared.takers.Taker.{Taker}
use Rattle.nif_stream.specs.Taking.{Takes, left_of}
use Rattle.nif_stream.specs.TakerLaws.{keeps_same, prepended_none}
use Rattle.nif_decode.specs.Answers.{IsReadyTaker}

module _ {S : Type 0} (left : S → Option (List ℕ)) (still : S → S → Type 0) (faults : S → ℕ) where
  -- nothing was taken
  pub takes_none : (taker : Taker S) → IsReadyTaker taker → Takes left still faults taker [] taker
  takes_none taker r = record {
    same_reference = refl;
    keeps = keeps_same still taker taker refl;
    later = omega arith;
    sound = r.sound;
    ahead = r.ahead;
    place = omega arith;
    within = r.within;
    given = prepended_none (left_of left taker);
  }

  -- more may be taken behind what was taken
  pub ready : (old new : Taker S) (bytes : List ℕ) → Takes left still faults old bytes new → IsReadyTaker new
  ready old new bytes t = record { sound = t.sound; ahead = t.ahead; within = t.within }
