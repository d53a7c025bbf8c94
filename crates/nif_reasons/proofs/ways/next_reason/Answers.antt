use Rattle.std.proofs.Common.{◌∷◌, [], sym, ◌∙◌}
use Rattle.nif_schema.specs.Declaration.{field}
use Rattle.nif_schema.specs.Reasons as spec
use Rattle.nif_reasons.proofs.ReasonLemmas.{on, first-here, first-later, first-only}
use Rattle.nif_reasons.proofs.ways.next_reason.Goals as goal

pub returns-then-is_some : goal.returns-then-is_some
returns-then-is_some c = λ fields line.
    (first-here c.args.so_far (spec.field_reason c.args.schema.now c.args.in_struct fields (field c.args.of.now) ∷ []) (sym c.if-is_some.ensures), line)

pub returns : goal.returns
returns c = on c.field_reason.result c.field_reason.ensures (λ reason says fields line. let r = says fields line in (
  r.0 ∙ sym (first-only (spec.field_reason c.args.schema.now c.args.in_struct fields (field c.args.of.now)))
      ∙ first-later c.args.so_far (spec.field_reason c.args.schema.now c.args.in_struct fields (field c.args.of.now) ∷ []) (sym c.if-is_some.ensures),
  r.1,
))
