use Rattle.std.proofs.Common.{◌≡◌, ◌∙◌, drop, sym, ap, arith}
use Rattle.nif_schema.specs.Declaration.{field}
use Rattle.nif_schema.specs.Schema.{line}
use Rattle.nif_decode.proofs.LineFields.{open_ends, next_drop, first_at, some_left}
use Rattle.nif_decode.proofs.members.field_at.Goals as goal

pub line_of-fields-requires-clause-ends : goal.line_of-fields-requires-clause-ends
line_of-fields-requires-clause-ends c = open_ends c.args.schema.now c.args.kind c.requires.open

pub loop-passed-preserved : goal.loop-passed-preserved
loop-passed-preserved c =
    next_drop (λ f. field f.now) (line c.args.schema.now c.args.kind) c.loop-passed.fields c.next.new.self c.loop-passed._passed c.next.result c.next.ensures.steps c.loop-passed.invariant

pub unreachable-requires : goal.unreachable-requires
unreachable-requires c =
    let same : c.loop-passed._passed ≡ c.args.place = omega (arith, c.loop-passed-test.false, c.loop-passed.auto._passed-end) in
    some_left (line c.args.schema.now c.args.kind) c.args.place c.requires.within
    (sym c.in-None.ensures.steps.0 ∙ c.loop-passed.invariant ∙ ap (λ k. drop k (line c.args.schema.now c.args.kind)) same)

pub returns : goal.returns
returns c =
    let same : c.loop-passed._passed ≡ c.args.place = omega (arith, c.loop-passed-test.false, c.loop-passed.auto._passed-end) in
    first_at (line c.args.schema.now c.args.kind) c.next-2.new.self c.args.place (field c.in-Some.of.now)
    (sym c.in-Some.ensures.steps ∙ c.loop-passed.invariant ∙ ap (λ k. drop k (line c.args.schema.now c.args.kind)) same)
