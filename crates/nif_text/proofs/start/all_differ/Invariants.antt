use Rattle.std.proofs.Common.{take, map}
use Rattle.nif_text.specs.Elements.{AllDiffer}
use Rattle.nif_text.proofs.Differing.{Holds}
use Rattle.nif_text.proofs.start.all_differ.Given as goal

abbrev pub invariant-loop-place : goal.invariant-loop-place
invariant-loop-place l = record {
  holds : Holds l.names.keys (map (λ pair. pair.0) (take l.place l.attrs));
  differ : AllDiffer (map (λ pair. pair.0) (take l.place l.attrs));
}
