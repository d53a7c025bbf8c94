use Rattle.std.proofs.Common.{ℕ, Vec, Global, map, ap}
use Rattle.nif_names.proofs.PlaceLemmas.{ArePlaced-none}
use Rattle.nif_names.proofs.places.Places.new.Goals as goal

pub invariant_of-result : goal.invariant_of-result
invariant_of-result c =
    ArePlaced-none (map (λ (n : Vec ℕ Global). n.items) c.new.result.items) c.new-2.result
    (ap (map (λ (n : Vec ℕ Global). n.items)) c.new.ensures.items) c.new-2.ensures.empty
