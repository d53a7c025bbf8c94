use Rattle.std.proofs.Common.{length, map, take, subst, sym}
use Rattle.nif_names.specs.Marks.{IsFound}
use Rattle.nif_names.specs.Kept.{AreOrdered, plain_mark}
use Rattle.nif_names.proofs.MarkLemmas.{AreOrdered-cut, found-cut}
use Rattle.nif_names.proofs.marked.MarkedTypes.cut.Goals as goal

pub invariant_of-self : goal.invariant_of-self
invariant_of-self c =
    let i = c.self.inside in
    subst (λ s. AreOrdered s (length c.truncate.new.self.items) (length i.marks.items)) (sym c.truncate-2.ensures.items)
    (subst (λ t. AreOrdered (take c.args.count i.since.items) (length t) (length i.marks.items)) (sym c.truncate.ensures.items)
    (AreOrdered-cut c.args.count i.since.items i.types.items (length i.marks.items) c.self.invariant))

pub returns-clause-marks : goal.returns-clause-marks
returns-clause-marks c = λ key ts stop is.
    let i = c.self.inside in
    subst (λ v. IsFound v key ts stop) c.self.view_is
    (found-cut i.types.items i.since.items (map plain_mark i.marks.items) c.args.count c.truncate.new.self.items c.truncate-2.new.self.items c.truncate.ensures.items c.truncate-2.ensures.items key ts stop is)
