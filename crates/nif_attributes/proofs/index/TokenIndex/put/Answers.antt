use Rattle.std.proofs.Common.{ℕ, Vec, Global, ap, sym, ◌∙◌}
use Rattle.nif_attributes.specs.Finding.{span_of, first_from}
use Rattle.nif_attributes.specs.declared.index.Span.{Span}
use Rattle.nif_attributes.proofs.Finding.{covers_more, on_ok}
use Rattle.nif_attributes.proofs.index.TokenIndex.put.Goals as goal

pub returns : goal.returns
returns c =
    let bytes = λ (key : Vec ℕ Global). key.items in
    let old = c.args.self.now.spans.entries in
    on_ok c.put_span.result _ _ c.put_span.ensures
    (λ put texts count covered.
    let span : Span = record { first = c.first-first.result; last = c.args.number } in
    covers_more bytes old c.put_span.new.spans.entries c.args.self.now.lengths.items c.put_length.new.lengths.items texts c.args.token.now span
    (c.first-first.ensures ∙ ap (first_from (span_of bytes old c.args.token.now)) (sym count)) (sym count)
    c.in_ok-put_length.ensures.here c.in_ok-put_length.ensures.before put covered)
