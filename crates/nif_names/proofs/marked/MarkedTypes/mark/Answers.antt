use Rattle.std.proofs.Common.{◌≡◌, [], ◌∷◌, ◌++◌, map, take, inl, inr, ap, subst, ◌∙◌}
use Rattle.std.proofs.lemmas.List.{map-append}
use Rattle.nif_names.specs.Marks.{IsFound}
use Rattle.nif_names.specs.Kept.{plain_mark}
use Rattle.nif_names.specs.declared.marked.Mark as kept
use Rattle.nif_names.proofs.MarkLemmas.{found-mark}
use Rattle.nif_names.proofs.marked.MarkedTypes.mark.Goals as goal

pub returns-clause-marks : goal.returns-clause-marks
returns-clause-marks c = λ other ts stop is.
    let i = c.self.inside in
    let f = c.args.found in
    let new : kept.Mark = record { key = c.in-Ok.own; found = f; before = c.last-before.result } in
    let marks : map plain_mark c.push.new.self.items ≡ map plain_mark i.marks.items ++ record { key = c.args.key.now; count = f.count; stop = f.stop } ∷ [] =
    ap (map plain_mark) c.in-Ok-push.ensures.items ∙ map-append plain_mark i.marks.items (new ∷ [])
    ∙ ap (λ k. map plain_mark i.marks.items ++ record { key = k; count = f.count; stop = f.stop } ∷ []) c.in-Ok.ensures.items in
    elim (found-mark i.types.items i.since.items (map plain_mark i.marks.items) c.args.key.now f.count f.stop (map plain_mark c.push.new.self.items) marks other ts stop is) [
      | inl h ↦ inl (subst (λ v. IsFound v other ts stop) c.self.view_is h)
      | inr h ↦ inr (h.0, h.1 ∙ ap (λ v. take f.count v.types) c.self.view_is, h.2)
    ]
