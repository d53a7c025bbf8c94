-- Pieces of a run of bytes.
use Rattle.std.proofs.Common.{◌≡◌, ℕ, ◌+◌, ◌^◌, ◌≤◌, Bool, true, false, List, [], ◌∷◌, ◌++◌, length, Option, Some, None, refl, sym, ap, ◌∙◌, subst, arith, length-append, append_assoc, append-nil}
use Rattle.std.proofs.lemmas.List.{map-append}
use Rattle.std.specs.Prelude.{IsSome}
use Rattle.nif_stream.specs.declared.takers.Taker.{Taker}
use Rattle.nif_stream.specs.Taking.{place_of, left_of, Takes}
use Rattle.nif_stream.specs.TakerLaws.{keeps_same, keeps_joined, prepended_none, takes_joined}
use Rattle.nif_cells.specs.Building.{InBytes, lengthened, TakesBytes}
use Rattle.nif_value.specs.Trees as trees
use Rattle.nif_value.specs.Trees.{after}
use Rattle.nif_layout.specs.Leaf.{AreBytes}
use Rattle.nif_layout.specs.PathValue.{extended}
use Rattle.nif_layout.specs.ByteLaws.{bytes_append}
use Rattle.nif_scope.specs.declared.entries.Entry.TheVariants as entry
use Rattle.nif_decode.specs.Runs.{bytes_kept, HasRun, RunSoFar}
use Rattle.nif_decode.specs.Answers.{Stand, Went}

-- ---- the run, piece by piece

bytes_more : (asked : Bool) (x y : List ℕ) → bytes_kept asked (x ++ y) ≡ bytes_kept asked x ++ bytes_kept asked y
bytes_more true x y = map-append (λ b. entry.Number b (extended true 1 b)) x y
bytes_more false x y = refl

pub run_first : {S : Type 0} (left : S → Option (List ℕ)) (still : S → S → Type 0) (faults : S → ℕ) (asked : Bool) (at : Stand S) → HasRun at → RunSoFar left still faults asked 0 at at
run_first left still faults asked at h = record {
  bytes = [];
  long = refl;
  are = tt;
  takes = record {
    same_reference = refl;
    keeps = keeps_same still at.taker at.taker refl;
    later = omega arith;
    sound = h.taker.sound;
    ahead = h.taker.ahead;
    place = omega arith;
    within = h.taker.within;
    given = prepended_none (left_of left at.taker);
  };
  built = subst (λ o. o ≡ after o (lengthened [])) (sym h.is) refl;
  told = sym (append-nil at.told) ∙ ap (λ x. at.told ++ x) (none asked);
}
  where
    none : (asked : Bool) → [] ≡ bytes_kept asked []
    none true = refl
    none false = refl

pub run_more : {S : Type 0} (left : S → Option (List ℕ)) (still : S → S → Type 0) (faults : S → ℕ) (asked : Bool) (count next : ℕ) (old mid new : Stand S) (piece : List ℕ) → HasRun old
    → RunSoFar left still faults asked count old mid → Takes left still faults mid.taker piece new.taker → AreBytes piece → new.building ≡ after mid.building (lengthened piece)
    → new.told ≡ mid.told ++ bytes_kept asked piece → next ≡ count + length piece → RunSoFar left still faults asked next old new
run_more left still faults asked count next old mid new piece h r t b e k n = record {
  bytes = r.bytes ++ piece;
  long = length-append r.bytes piece ∙ ap (λ x. x + length piece) r.long ∙ sym n;
  are = bytes_append r.bytes piece r.are b;
  takes = takes_joined left still faults old.taker mid.taker new.taker r.bytes piece (r.bytes ++ piece) r.takes t refl;
  built = e ∙ ap (λ o. after o (lengthened piece)) r.built ∙ subst (λ o. after (after o (lengthened r.bytes)) (lengthened piece) ≡ after o (lengthened (r.bytes ++ piece))) (sym h.is) refl;
  told = k ∙ ap (λ x. x ++ bytes_kept asked piece) r.told ∙ append_assoc old.told (bytes_kept asked r.bytes) (bytes_kept asked piece) ∙ ap (λ x. old.told ++ x) (sym (bytes_more asked r.bytes piece));
}

-- a piece has its place in the run
pub run_takes : {S : Type 0} (left : S → Option (List ℕ)) (still : S → S → Type 0) (faults : S → ℕ) (asked : Bool) (count : ℕ) (old mid : Stand S) (piece : List ℕ) → HasRun old
    → RunSoFar left still faults asked count old mid → place_of mid.taker + length piece ≤ 2 ^ 26 → trees.Takes mid.building (λ b. TakesBytes b.levels) (lengthened piece)
run_takes left still faults asked count old mid piece h r within =
    let is : mid.building ≡ Some (record { top = None; levels = InBytes r.bytes ∷ h.outer }) = r.built ∙ ap (λ o. after o (lengthened r.bytes)) h.is in
    subst (λ o. trees.Takes o (λ b. TakesBytes b.levels) (lengthened piece)) (sym is) (record {
      place = tt;
      limits = record {
        nodes_within = omega (arith, h.nodes);
        bytes_within = omega (arith, length-append r.bytes piece, r.takes.place, h.bytes, within);
        levels_within = omega (arith, h.levels);
      };
    })

pub run_went : {S : Type 0} (left : S → Option (List ℕ)) (still : S → S → Type 0) (faults : S → ℕ) (asked : Bool) (count : ℕ) (old mid : Stand S) (new : Taker S) (piece : List ℕ)
    → RunSoFar left still faults asked count old mid → Takes left still faults mid.taker piece new → Went still faults old.taker new
run_went left still faults asked count old mid new piece r t = record {
  same_reference = t.same_reference ∙ r.takes.same_reference;
  keeps = keeps_joined still old.taker mid.taker new r.takes.keeps t.keeps;
  later = omega (arith, r.takes.later, t.later);
}

pub run_building : {S : Type 0} (left : S → Option (List ℕ)) (still : S → S → Type 0) (faults : S → ℕ) (asked : Bool) (count : ℕ) (old mid : Stand S) → HasRun old
    → RunSoFar left still faults asked count old mid → IsSome mid.building
run_building left still faults asked count old mid h r = subst (λ o. IsSome o) (sym (r.built ∙ ap (λ o. after o (lengthened r.bytes)) h.is)) refl
