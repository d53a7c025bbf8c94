use Rattle.std.proofs.Common.{◌≡◌, ◌≤◌, false, length}
use Rattle.nif_base.specs.Ascii.{is_blank}
use Rattle.nif_expr.specs.Bytes.{begins}
use Rattle.nif_expr.specs.Kept.{state_of}
use Rattle.nif_expr.proofs.GoingLemmas.{IsGoing}
use Rattle.nif_expr.proofs.parts.tree_of.Given as goal

abbrev pub invariant-loop-rest : goal.invariant-loop-rest
invariant-loop-rest l = record {
  going : IsGoing l.text (state_of l.state) l.rest;
  unblank : begins is_blank l.rest ≡ false;
  short : length l.rest ≤ 4096;
}

abbrev pub decreases-loop-rest : goal.decreases-loop-rest
decreases-loop-rest l = length l.rest
