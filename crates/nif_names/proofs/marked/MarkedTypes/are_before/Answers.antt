use Rattle.std.proofs.Common.{◌≡◌, ◌<◌, ◌-◌, Some, length, slice_get, ap, subst, ◌∙◌, arith}
use Rattle.nif_names.specs.Marks.{Marked}
use Rattle.nif_names.specs.Kept.{AreOrdered}
use Rattle.nif_names.proofs.MarkLemmas.{all-before}
use Rattle.nif_names.proofs.marked.MarkedTypes.are_before.Goals as goal

pub returns-else-count-eq0 : goal.returns-else-count-eq0
returns-else-count-eq0 c = λ yes.
    let i = c.self.inside in
    let count = c.args.count in
    let top = c.is_before.ensures yes in
    let since : i.since.items ≡ c.args.self.now.since = ap (λ (m : Marked). m.since) c.self.view_is in
    let types : i.types.items ≡ c.args.self.now.types = ap (λ (m : Marked). m.types) c.self.view_is in
    let there : slice_get c.args.self.now.since (count - 1) ≡ Some top.0 = subst (λ l. slice_get l (count - 1) ≡ Some top.0) (c.as_slice.ensures.value ∙ since) top.1 in
    let some : 0 < count = let n = c.if-count-eq0.false in omega (arith, n) in
    all-before c.args.self.now (length i.marks.items)
    (subst (λ l. AreOrdered l (length c.args.self.now.types) (length i.marks.items)) since
    (subst (λ l. AreOrdered i.since.items (length l) (length i.marks.items)) types c.self.invariant))
    count c.args.at top.0 some there top.2
