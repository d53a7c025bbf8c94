use Rattle.nif_scope.proofs.Powers.{sign_added, sign_fits, wide_same, none_same}
use Rattle.nif_scope.proofs.numbers.extended.Goals as goal
use Rattle.nif_scope.proofs.numbers.extended.Goals.{then-width-eq0-via-then-width-eq0, then-width-eq0-via-else-width-eq0+then-width-ge8}

pub returns-then-width-eq0 : goal.returns-then-width-eq0
returns-then-width-eq0 c = elim c.then-width-eq0.branch [
  | then-width-eq0-via-then-width-eq0 w ↦ none_same c.args.width c.args.bits w.if-width-eq0.true c.requires
  | then-width-eq0-via-else-width-eq0+then-width-ge8 w ↦ wide_same c.args.width c.args.bits w.if-width-ge8.true c.ranges.bits.fits
]

pub overflow_add-result-2 : goal.overflow_add-result-2
overflow_add-result-2 c = record { fits = sign_fits c.args.width c.args.bits c.if-width-eq0.false c.if-width-ge8.false c.requires }

pub returns : goal.returns
returns c = sign_added c.args.width c.args.bits c.if-width-eq0.false c.if-width-ge8.false c.if-bits-half.false
