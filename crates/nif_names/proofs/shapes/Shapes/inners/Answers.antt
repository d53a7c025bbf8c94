use Rattle.std.proofs.Common.{◌≡◌, [], Contains, sym, subst, ◌∙◌, flat_map}
use Rattle.nif_names.specs.Shapes.{inners}
use Rattle.nif_names.specs.Kept.{new_inner}
use Rattle.nif_names.proofs.ShapeLemmas.{inners-new, new-inners}
use Rattle.nif_names.proofs.shapes.Shapes.inners.Goals as goal

pub returns-clause-same : goal.returns-clause-same
returns-clause-same c =
    let entries = c.self.inside.entries.items in
    let given : c.types.result.now ≡ flat_map new_inner entries = c.types.ensures ∙ c.self.invariant.new in
    λ k. (
      (λ h. subst (λ s. Contains (inners s.shapes) k) c.self.view_is (new-inners k entries (subst (λ l. Contains l k) given h))),
      (λ h. subst (λ l. Contains l k) (sym given) (inners-new k [] entries c.self.invariant.covered (subst (λ s. Contains (inners s.shapes) k) (sym c.self.view_is) h))),
    )
