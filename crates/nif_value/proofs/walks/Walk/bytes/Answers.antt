use Rattle.std.proofs.Common.{min, ◌≡◌, ◌-◌, length, drop, Some, sym, ◌∙◌, ap, subst}
use Rattle.nif_region.specs.Contents.{find}
use Rattle.nif_cells.specs.Reading.{said, bytes_at}
use Rattle.std.specs.Option.{IfSome}
use Rattle.nif_value.specs.Kept.{cells_in, bytes_in}
use Rattle.nif_value.specs.Ways.{IsSpan}
use Rattle.std.proofs.lemmas.List.{length-drop}
use Rattle.nif_value.proofs.WayLaws.{span_count}
use Rattle.nif_value.proofs.walks.Walk.bytes.Goals as goal

pub returns-clause-count : goal.returns-clause-count
returns-clause-count c =
    let cells = cells_in (find c.self.inside.region.now.runs c.self.inside.run.key) in
    let span = c.in-Some.span in
    let here : IsSpan cells (Some span) = subst (IsSpan cells) c.in-Some.is c.self.invariant.copies in
    let bytes = bytes_at (said (drop span.first cells)) in
    let seen : c.args.self.now.bytes ≡ Some (drop span.copied bytes) = sym (ap (λ w. w.bytes) c.self.view_is) ∙ ap (bytes_in cells) c.in-Some.is in
    subst (λ o. IfSome o (λ b. c.copy_bytes-count.result ≡ min (length c.args.buf.now) (length b))) (sym seen)
    (c.copy_bytes-count.ensures.count
    ∙ ap (λ n. min (length c.args.buf.now) n) (sym (length-drop span.copied bytes ∙ ap (λ n. n - span.copied) (span_count (said (drop span.first cells)) span.len here.0))))
