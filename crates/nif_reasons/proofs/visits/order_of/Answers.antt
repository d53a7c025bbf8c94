use Rattle.std.proofs.Common.{◌≡◌, ◌<◌, ◌-◌, ◌∷◌, ◌++◌, [], ℕ, List, length, Contains, Some, refl, sym, ap, subst, ◌∙◌, arith}
use Rattle.std.proofs.lemmas.List.Elements.{Contains-push}
use Rattle.std.proofs.lemmas.Option.{slice_get-get_or}
use Rattle.nif_reasons.proofs.VisitLemmas.{AreVisited, none-visited, visited, all-visited, fewer}
use Rattle.nif_reasons.proofs.visits.order_of.Goals as goal

pub down-init : goal.down-init
down-init c =
    subst (λ l. AreVisited c.args.schema.now l c.args.waiting.now.items) (sym c.new-order.ensures.items) (none-visited c.args.schema.now c.args.waiting.now.items c.requires.roots)

pub bounds-below-number : goal.bounds-below-number
bounds-below-number c =
    let n = c.in-Some.number in
    let there : Contains c.down.waiting.items n = subst (λ l. Contains l n) (sym c.in-Some.ensures.items) (Contains-push c.pop.new.self.items n) in
    let lt = c.down.invariant.waits n there in
    let e = c.requires.below.count in
    omega (arith, lt, e)

step : (c : goal.In-Ok-extend_from_slice) → AreVisited c.args.schema.now c.push.new.self.items c.extend_from_slice.new.self.items
step c =
    let S = c.args.schema.now in
    let n = c.in-Some.number in
    let rest = c.pop.new.self.items in
    let children = c.index-below-number.result in
    let here = subst (AreVisited S c.down.order.items) c.in-Some.ensures.items c.down.invariant in
    let lt : n < length c.args.below.now =
    (let e = c.requires.below.count in let w = here.waits n (Contains-push rest n) in omega (arith, w, e)) in
    let at = slice_get-get_or c.args.below.now n children lt ∙ ap Some (sym c.index-below-number.is) in
    let new = c.in-Ok-extend_from_slice.ensures.items ∙ ap (λ l. rest ++ l) c.deref.ensures.value in
    subst (λ l. AreVisited S l c.extend_from_slice.new.self.items) (sym c.in-Ok.ensures.items)
    (subst (AreVisited S (c.down.order.items ++ n ∷ [])) (sym new)
    (visited S c.down.order.items rest children.items n here (c.requires.below.each n children at)))

pub down-preserved : goal.down-preserved
down-preserved c = step c

pub down-smaller : goal.down-smaller
down-smaller c =
    let S = c.args.schema.now in
    let n = c.in-Some.number in
    let order = c.down.order.items in
    subst (λ l. length S - length l < length S - length order) (sym c.in-Ok.ensures.items)
    (fewer S order n c.extend_from_slice.new.self.items (subst (λ l. AreVisited S l c.extend_from_slice.new.self.items) c.in-Ok.ensures.items (step c)))

nil : (l : List ℕ) → length l ≡ 0 → l ≡ []
nil [] e = refl
nil (x ∷ xs) e = absurd (omega (arith, e))

pub returns : goal.returns
returns c = all-visited c.args.schema.now c.down.order.items (subst (AreVisited c.args.schema.now c.down.order.items) (nil c.down.waiting.items (let z = c.in_default.ensures.cases.0 in omega (arith, z))) c.down.invariant)
