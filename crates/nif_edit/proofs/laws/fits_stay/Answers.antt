use Rattle.nif_edit.proofs.Values.{keeps_values}
use Rattle.nif_edit.proofs.Within.{keeps_fits, all_keep_fits}
use Rattle.nif_edit.proofs.laws.fits_stay.Goals as goal

pub returns : goal.returns
returns c = record { values = keeps_values; one = keeps_fits; all = all_keep_fits }
