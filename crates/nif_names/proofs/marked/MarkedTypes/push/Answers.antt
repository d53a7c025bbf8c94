use Rattle.std.proofs.Common.{◌≡◌, [], ◌∷◌, ◌++◌, length, map, ap, subst, sym, ◌∙◌}
use Rattle.std.proofs.lemmas.List.{length-map}
use Rattle.nif_names.specs.Marks.{IsFound}
use Rattle.nif_names.specs.Kept.{plain_mark}
use Rattle.nif_names.proofs.MarkLemmas.{found-push}
use Rattle.nif_names.proofs.marked.MarkedTypes.push.Goals as goal

pub returns-clause-marks : goal.returns-clause-marks
returns-clause-marks c = λ key ts stop is.
    let i = c.self.inside in
    let count : c.len.result ≡ length (map plain_mark i.marks.items) = c.len.ensures ∙ i.marks.ok.0 ∙ sym (length-map i.marks.items plain_mark) in
    subst (λ v. IsFound v key ts stop) c.self.view_is
    (found-push i.types.items i.since.items (map plain_mark i.marks.items) c.args.kind c.push-2.new.self.items c.push.new.self.items c.in-Ok-push.ensures.items
    (c.in-Ok.ensures.items ∙ ap (λ n. i.since.items ++ n ∷ []) count) c.self.invariant.count key ts stop is)
