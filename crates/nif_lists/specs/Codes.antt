-- How the logic tells lists apart. Nothing else goes by these codes.
use Rattle.std.proofs.Common.{ℕ, List, Option, refl}
use Rattle.std.specs.Coded.{Coded, code_by, coded×, coded_ℕ, coded_list, coded_option}
use Rattle.nif_lists.specs.Lists.{Listed}

abbrev pub coded_listed : Coded Listed
coded_listed =
    code_by
    (List (List ℕ) × (List (Option ℕ) × (Option (List ℕ) × Option (List ℕ))))
    (coded× (coded_list (coded_list coded_ℕ)) (coded× (coded_list (coded_option coded_ℕ))
    (coded× (coded_option (coded_list coded_ℕ)) (coded_option (coded_list coded_ℕ)))))
    (λ l. (l.names, (l.types, (l.index, l.sizes))))
    (λ p. record { names = p.0; types = p.1.0; index = p.1.1.0; sizes = p.1.1.1 })
    (λ _. refl)
