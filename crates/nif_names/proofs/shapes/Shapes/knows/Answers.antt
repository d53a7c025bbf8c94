use Rattle.std.proofs.Common.{◌≡◌, Contains, get_or, sym, subst, ◌∙◌, arith}
use Rattle.nif_names.specs.Shapes.{inners}
use Rattle.nif_names.proofs.ShapeLemmas.{new-inners}
use Rattle.nif_names.proofs.shapes.Shapes.knows.Goals as goal

pub returns-in-Some-get : goal.returns-in-Some-get
returns-in-Some-get c = λ same.
    let found = c.in-Some-get.found.now in
    let place = c.in-Some.place.now in
    let one : found ≡ c.args.inner = grind (arith, same) in
    let there : get_or c.types.result.now place c.args.inner ≡ c.args.inner = sym (c.in-Some-get.ensures.lookup.3.1 c.args.inner) ∙ one in
    let kept = c.types.ensures ∙ c.self.invariant.new in
    subst (λ s. Contains (inners s.shapes) c.args.inner) c.self.view_is
    (new-inners c.args.inner c.self.inside.entries.items (subst (λ l. Contains l c.args.inner) kept (place, c.in-Some-get.ensures.lookup.3.0, there)))
