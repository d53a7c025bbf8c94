-- How the logic tells contents of regions apart. Nothing else goes by these codes.
use Rattle.std.specs.Prelude.{ℕ, List, Option, refl}
use Rattle.std.specs.Coded.{Coded, code_by, coded×, coded_ℕ, coded_list, coded_option}
use Rattle.nif_region.specs.Contents.{Contents}
use Rattle.nif_region.specs.declared.cells.Cell.{Cell}
use Rattle.nif_region.specs.contracts.cells.Cell as cell

abbrev coded_cells : Coded (List Cell)
coded_cells = coded_list cell.the_row.coded

abbrev pub coded_contents : Coded Contents
coded_contents =
    code_by
    (List (ℕ × List Cell) × (Option (List Cell) × (ℕ × (ℕ × ℕ))))
    (coded× (coded_list (coded× coded_ℕ coded_cells))
    (coded× (coded_option coded_cells) (coded× coded_ℕ (coded× coded_ℕ coded_ℕ))))
    (λ r. (r.runs, (r.building, (r.used, (r.spare_cells, r.spare_runs)))))
    (λ p. record { runs = p.0; building = p.1.0; used = p.1.1.0; spare_cells = p.1.1.1.0; spare_runs = p.1.1.1.1 })
    (λ _. refl)
