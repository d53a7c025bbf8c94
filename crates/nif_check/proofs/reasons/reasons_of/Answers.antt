use Rattle.std.proofs.Common.{◌≡◌, length, slice_get, sym, ap, ◌∙◌}
use Rattle.nif_check.proofs.ReasonLemmas.{are-reasons}
use Rattle.nif_check.proofs.reasons.reasons_of.Goals as goal

pub returns-in-Ok-joined : goal.returns-in-Ok-joined
returns-in-Ok-joined c =
    let s = c.args.schema.now in
    let own = c.deref.result.now in
    let marks = c.deref-2.result.now in
    let reaches = c.deref-4.result.now in
    let own_count = ap length c.deref.ensures.value ∙ c.in-Ok.ensures.count in
    let again : c.deref-3.result.now ≡ own = c.deref-3.ensures.value ∙ sym c.deref.ensures.value in
    are-reasons s own c.in-Ok-joined.reasons.items marks reaches own_count
    (λ n lt. ap (λ l. slice_get l n) c.deref.ensures.value ∙ c.in-Ok.ensures.each n lt)
    (ap length c.deref-2.ensures.value ∙ c.in-Ok-marks_of.ensures.count ∙ own_count)
    (λ n r e. ap (λ l. slice_get l n) c.deref-2.ensures.value ∙ c.in-Ok-marks_of.ensures.each n r e)
    (ap length c.deref-4.ensures.value ∙ c.in-Ok-reaching.ensures.count)
    (λ n. let i = c.in-Ok-reaching.ensures.each n in (
      λ e. i.0 (ap (λ l. slice_get l n) (sym c.deref-4.ensures.value) ∙ e),
      λ r. ap (λ l. slice_get l n) c.deref-4.ensures.value ∙ i.1 r,
    ))
    (c.in-Ok-joined.ensures.count ∙ ap length again ∙ own_count)
    (λ n r m e f. c.in-Ok-joined.ensures.each n r m (ap (λ l. slice_get l n) again ∙ e) f)
