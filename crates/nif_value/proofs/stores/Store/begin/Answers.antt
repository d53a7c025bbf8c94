use Rattle.std.proofs.Common.{ℕ, ◌≡◌, ◌≤◌, List, [], refl, sym, ◌∙◌, subst, arith, Some, None, Ok, Err, Option, vec_capacity}
use Rattle.std.specs.Prelude.{OnOk, OnErr, Result}
use Rattle.std.specs.Option.{option_map}
use Rattle.nif_region.specs.declared.cells.Cell.{Cell}
use Rattle.nif_cells.specs.Building.{begun}
use Rattle.nif_value.specs.Kept.{AreTrees, building_of}
use Rattle.nif_value.specs.Built.{Stands, IsBuilt}
use Rattle.nif_value.specs.declared.builders.Open.{Open}
use Rattle.nif_value.proofs.Steps.{built-begun}
use Rattle.nif_value.proofs.stores.Store.begin.Goals as goal

none_there : (left bits : ℕ) (o : Option (List Cell)) → option_map (building_of left bits) o ≡ None → o ≡ None
none_there left bits None e = refl
none_there left bits (Some cells) e = absurd (cc)

begun-stands : {E : Type 0} (result : Result (Unit {0}) E) (old new : Option (List Cell)) (used : Type 0) (used' : Type 0) (levels levels' : List Open) (references : List ℕ) (pushed left bits old_spare spare old_places places : ℕ)
    → Stands old levels references pushed left bits old_spare old_places → old ≡ None → levels' ≡ levels → OnOk result ((new ≡ Some []) × used) → OnErr result ((new ≡ None) × used') → 256 ≤ places → Stands new levels' references pushed left bits spare places
begun-stands (Ok x) old new used used' levels levels' references pushed left bits old_spare spare old_places places stands none same ok err wide =
    let s : Stands None levels references pushed left bits old_spare old_places = subst (λ o. Stands o levels references pushed left bits old_spare old_places) none stands in
    subst (λ o. Stands o levels' references pushed left bits spare places) (sym ok.0) (
      begun,
      subst (λ l. IsBuilt begun [] l references pushed left bits spare places) (sym (same ∙ s.0)) (subst (λ r. IsBuilt begun [] [] r pushed left bits spare places) (sym s.1) (built-begun pushed left bits spare places s.2 s.3 s.4 wide)),
    )
begun-stands (Err x) old new used used' levels levels' references pushed left bits old_spare spare old_places places stands none same ok err wide =
    let s : Stands None levels references pushed left bits old_spare old_places = subst (λ o. Stands o levels references pushed left bits old_spare old_places) none stands in
    subst (λ o. Stands o levels' references pushed left bits spare places) (sym err.0) (same ∙ s.0, s.1, s.2, s.3, s.4)

pub invariant_of-self-2 : goal.invariant_of-self-2
invariant_of-self-2 c = record {
  trees = subst AreTrees (sym c.open_run.ensures.runs) c.self.invariant.trees;
  built = begun-stands c.open_run.result c.self.inside.region.building c.open_run.new.self.building _ _ c.self.inside.open.items c.reserve.new.self.items c.self.inside.references.items _ _ _ c.self.inside.region.spare_cells _ (vec_capacity c.self.inside.open) _
      c.self.invariant.built (none_there c.self.inside.packing.left c.self.inside.packing.bits c.self.inside.region.building (rw (← c.self.view_is) at c.requires)) c.reserve.ensures.items c.open_run.ensures.ok c.open_run.ensures.err (omega (arith, c.in-Ok.ensures.ok));
}
