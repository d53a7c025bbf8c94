use Rattle.std.proofs.Common.{◌≡◌, Some, slice_get, ap, subst, sym, ◌∙◌}
use Rattle.std.specs.Option.{option_map}
use Rattle.std.proofs.lemmas.Option.{slice_get-get_or, slice_get-map}
use Rattle.std.proofs.lemmas.Slice.Eq.{bytes_eq-Decides}
use Rattle.nif_names.specs.Marks.{Mark, Marked}
use Rattle.nif_names.specs.Kept.{plain_mark}
use Rattle.nif_names.proofs.marked.MarkedTypes.holds.Goals as goal

pub returns-then-eq : goal.returns-then-eq
returns-then-eq c = λ yes.
    let i = c.self.inside in
    let at = c.args.at in
    let own = c.in-Some.mark.now in
    let found = c.in-Some.ensures.lookup in
    let kept : slice_get i.marks.items at ≡ Some own =
    subst (λ l. slice_get l at ≡ Some own) c.deref.ensures.value (slice_get-get_or c.deref.result.now at own found.3.0 ∙ ap Some (sym (found.3.1 own))) in
    let same : own.key.items ≡ c.args.key.now = sym c.as_slice.ensures.value ∙ (bytes_eq-Decides c.as_slice.result.now c.args.key.now).0 (sym c.if-eq.ensures) in (
      own.found.count,
      own.found.stop,
      record {
        mark = subst (λ (v : Marked). slice_get v.marks at ≡ Some (record { key = c.args.key.now; count = own.found.count; stop = own.found.stop })) c.self.view_is
            (slice_get-map plain_mark i.marks.items at ∙ ap (option_map plain_mark) kept
            ∙ ap (λ k. Some (let m : Mark = record { key = k; count = own.found.count; stop = own.found.stop } in m)) same);
        there = c.are_before.ensures yes;
      },
    )
