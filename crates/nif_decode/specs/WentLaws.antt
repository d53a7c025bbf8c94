-- Laws of what calls that read did to the source, one behind another.
use Rattle.std.proofs.Common.{ℕ, Option, List, refl, ◌∙◌, arith}
use Rattle.nif_stream.specs.declared.takers.Taker.{Taker}
use Rattle.nif_stream.specs.Taking.{Takes}
use Rattle.nif_stream.specs.TakerLaws.{keeps_same, keeps_joined}
use Rattle.nif_decode.specs.Answers.{Went}

module _ {S : Type 0} (left : S → Option (List ℕ)) (still : S → S → Type 0) (faults : S → ℕ) where
  -- calls went, and then more
  pub went_on : (start old new : Taker S) → Went still faults start old → Went still faults old new
      → Went still faults start new
  went_on start old new t w = record {
    same_reference = w.same_reference ∙ t.same_reference;
    keeps = keeps_joined still start old new t.keeps w.keeps;
    later = omega (arith, t.later, w.later);
  }

  -- no call went
  pub went_same : (taker : Taker S) → Went still faults taker taker
  went_same taker = record { same_reference = refl; keeps = keeps_same still taker taker refl; later = omega arith }

  -- calls took bytes
  pub went_whole : (start new : Taker S) (bytes : List ℕ) → Takes left still faults start bytes new
      → Went still faults start new
  went_whole start new bytes t = record { same_reference = t.same_reference; keeps = t.keeps; later = t.later }
