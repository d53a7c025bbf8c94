-- Paths, name by name.
use Rattle.std.proofs.Common.{◌≡◌, ◌≢◌, false, ◌&&◌, ◌||◌, List, [], ◌∷◌, length, get_or, codes, bytes_eq, refl, ap, ◌∙◌, arith}
use Rattle.nif_schema.specs.Declaration.{Name}
use Rattle.nif_schema.specs.Paths.{is_header_path}

pub header-one : (p : List Name) (first : Name) → length p ≡ 1 → first ≡ get_or p 0 []
    → (bytes_eq first (codes "Version") || (bytes_eq first (codes "User Version") || bytes_eq first (codes "User Version 2"))) ≡ is_header_path p
unfolding is_header_path
header-one [] first one is = absurd (omega (arith, one))
header-one (x ∷ []) first one is = ap (λ n. bytes_eq n (codes "Version") || (bytes_eq n (codes "User Version") || bytes_eq n (codes "User Version 2"))) is
header-one (x ∷ y ∷ p) first one is = absurd (omega (arith, one))

pub header-two : (p : List Name) (first second : Name) → length p ≡ 2 → first ≡ get_or p 0 [] → second ≡ get_or p 1 []
    → (bytes_eq first (codes "BS Header") && bytes_eq second (codes "BS Version")) ≡ is_header_path p
unfolding is_header_path
header-two [] first second two a b = absurd (omega (arith, two))
header-two (x ∷ []) first second two a b = absurd (omega (arith, two))
header-two (x ∷ y ∷ []) first second two a b = ap (λ n. bytes_eq n (codes "BS Header") && bytes_eq second (codes "BS Version")) a ∙ ap (λ n. bytes_eq x (codes "BS Header") && bytes_eq n (codes "BS Version")) b
header-two (x ∷ y ∷ z ∷ p) first second two a b = absurd (omega (arith, two))

pub header-other : (p : List Name) → length p ≢ 1 → length p ≢ 2 → false ≡ is_header_path p
unfolding is_header_path
header-other [] one two = refl
header-other (x ∷ []) one two = absurd (one refl)
header-other (x ∷ y ∷ []) one two = absurd (two refl)
header-other (x ∷ y ∷ z ∷ p) one two = refl
