use Rattle.std.proofs.Common.{ℕ, Vec, Global, ap, sym, ◌∙◌, arith}
use Rattle.std.specs.Option.{option_copied}
use Rattle.nif_attributes.proofs.Finding.{not_in_span, in_no_span}
use Rattle.nif_attributes.proofs.index.TokenIndex.look.Goals as goal

pub returns-then-span-from-clause-none : goal.returns-then-span-from-clause-none
returns-then-span-from-clause-none c texts covered n low high is =
    let h = not_in_span (λ (key : Vec ℕ Global). key.items) c.args.self.now.spans.entries c.args.self.now.lengths.items texts c.args.part.now c.in-Some.span.now n
    (sym c.get.ensures.value ∙ ap option_copied c.in-Some.is) covered is in
    omega (arith, h.0, h.1, low, c.if-span-from.true)

pub returns-else-span-from-clause-none : goal.returns-else-span-from-clause-none
returns-else-span-from-clause-none c texts covered n low high is =
    let h = not_in_span (λ (key : Vec ℕ Global). key.items) c.args.self.now.spans.entries c.args.self.now.lengths.items texts c.args.part.now c.in-Some.span.now n
    (sym c.get.ensures.value ∙ ap option_copied c.in-Some.is) covered is in
    omega (arith, h.0, h.1, low, high, c.min.ensures, c.max.ensures)

pub returns-in-None-clause-none : goal.returns-in-None-clause-none
returns-in-None-clause-none c texts covered n low high is =
    in_no_span (λ (key : Vec ℕ Global). key.items) c.args.self.now.spans.entries c.args.self.now.lengths.items texts c.args.part.now n
    (sym c.get.ensures.value ∙ ap option_copied c.in-None.is) covered is
