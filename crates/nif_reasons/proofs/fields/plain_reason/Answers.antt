use Rattle.std.proofs.Common.{◌||◌, true, false, sym, ap, ◌∙◌}
use Rattle.nif_schema.specs.Declaration.{field}
use Rattle.nif_schema.specs.Reasons as spec
use Rattle.nif_reasons.specs.FieldReasons.{plain_reason}
use Rattle.nif_reasons.proofs.ReasonLemmas.{whole, whole-kind, whole-template, whole-bound, whole-block, whole-exact}
use Rattle.nif_reasons.proofs.fields.plain_reason.Goals as goal

pub returns-then-is_some : goal.returns-then-is_some
unfolding plain_reason
returns-then-is_some c =
    whole-kind c.kind_reason-by_kind.result (spec.template_reason c.args.schema.now c.args.in_struct (field c.args.of.now)) (spec.is_bad_bound c.args.of.now.since || spec.is_bad_bound c.args.of.now.until) (spec.is_no_block c.args.schema.now c.args.of.now.only || spec.is_no_block c.args.schema.now c.args.of.now.exclude) (spec.is_bad_exact c.args.of.now.user || spec.is_bad_exact c.args.of.now.bs) (sym c.if-is_some.ensures) ∙ ap (λ a. whole a (spec.template_reason c.args.schema.now c.args.in_struct (field c.args.of.now)) (spec.is_bad_bound c.args.of.now.since || spec.is_bad_bound c.args.of.now.until) (spec.is_no_block c.args.schema.now c.args.of.now.only || spec.is_no_block c.args.schema.now c.args.of.now.exclude) (spec.is_bad_exact c.args.of.now.user || spec.is_bad_exact c.args.of.now.bs)) c.kind_reason-by_kind.ensures

pub returns-then-is_some-2 : goal.returns-then-is_some-2
unfolding plain_reason
returns-then-is_some-2 c =
    whole-template c.kind_reason-by_kind.result c.template_reason-by_template.result (spec.is_bad_bound c.args.of.now.since || spec.is_bad_bound c.args.of.now.until) (spec.is_no_block c.args.schema.now c.args.of.now.only || spec.is_no_block c.args.schema.now c.args.of.now.exclude) (spec.is_bad_exact c.args.of.now.user || spec.is_bad_exact c.args.of.now.bs) (sym c.if-is_some.ensures) (sym c.if-is_some-2.ensures) ∙ ap (λ a. whole a c.template_reason-by_template.result (spec.is_bad_bound c.args.of.now.since || spec.is_bad_bound c.args.of.now.until) (spec.is_no_block c.args.schema.now c.args.of.now.only || spec.is_no_block c.args.schema.now c.args.of.now.exclude) (spec.is_bad_exact c.args.of.now.user || spec.is_bad_exact c.args.of.now.bs)) c.kind_reason-by_kind.ensures ∙ ap (λ b. whole (spec.kind_reason c.args.schema.now c.args.in_struct (field c.args.of.now)) b (spec.is_bad_bound c.args.of.now.since || spec.is_bad_bound c.args.of.now.until) (spec.is_no_block c.args.schema.now c.args.of.now.only || spec.is_no_block c.args.schema.now c.args.of.now.exclude) (spec.is_bad_exact c.args.of.now.user || spec.is_bad_exact c.args.of.now.bs)) c.template_reason-by_template.ensures

pub returns-then-has_bad_bound : goal.returns-then-has_bad_bound
unfolding plain_reason
returns-then-has_bad_bound c =
    whole-bound c.kind_reason-by_kind.result c.template_reason-by_template.result (spec.is_bad_bound c.args.of.now.since || spec.is_bad_bound c.args.of.now.until) (spec.is_no_block c.args.schema.now c.args.of.now.only || spec.is_no_block c.args.schema.now c.args.of.now.exclude) (spec.is_bad_exact c.args.of.now.user || spec.is_bad_exact c.args.of.now.bs) (sym c.if-is_some.ensures) (sym c.if-is_some-2.ensures) (sym c.if-has_bad_bound.ensures) ∙ ap (λ a. whole a c.template_reason-by_template.result (spec.is_bad_bound c.args.of.now.since || spec.is_bad_bound c.args.of.now.until) (spec.is_no_block c.args.schema.now c.args.of.now.only || spec.is_no_block c.args.schema.now c.args.of.now.exclude) (spec.is_bad_exact c.args.of.now.user || spec.is_bad_exact c.args.of.now.bs)) c.kind_reason-by_kind.ensures ∙ ap (λ b. whole (spec.kind_reason c.args.schema.now c.args.in_struct (field c.args.of.now)) b (spec.is_bad_bound c.args.of.now.since || spec.is_bad_bound c.args.of.now.until) (spec.is_no_block c.args.schema.now c.args.of.now.only || spec.is_no_block c.args.schema.now c.args.of.now.exclude) (spec.is_bad_exact c.args.of.now.user || spec.is_bad_exact c.args.of.now.bs)) c.template_reason-by_template.ensures

pub returns-then-has_no_block : goal.returns-then-has_no_block
unfolding plain_reason
returns-then-has_no_block c =
    whole-block c.kind_reason-by_kind.result c.template_reason-by_template.result (spec.is_bad_bound c.args.of.now.since || spec.is_bad_bound c.args.of.now.until) (spec.is_no_block c.args.schema.now c.args.of.now.only || spec.is_no_block c.args.schema.now c.args.of.now.exclude) (spec.is_bad_exact c.args.of.now.user || spec.is_bad_exact c.args.of.now.bs) (sym c.if-is_some.ensures) (sym c.if-is_some-2.ensures) (sym c.if-has_bad_bound.ensures) (sym c.if-has_no_block.ensures) ∙ ap (λ a. whole a c.template_reason-by_template.result (spec.is_bad_bound c.args.of.now.since || spec.is_bad_bound c.args.of.now.until) (spec.is_no_block c.args.schema.now c.args.of.now.only || spec.is_no_block c.args.schema.now c.args.of.now.exclude) (spec.is_bad_exact c.args.of.now.user || spec.is_bad_exact c.args.of.now.bs)) c.kind_reason-by_kind.ensures ∙ ap (λ b. whole (spec.kind_reason c.args.schema.now c.args.in_struct (field c.args.of.now)) b (spec.is_bad_bound c.args.of.now.since || spec.is_bad_bound c.args.of.now.until) (spec.is_no_block c.args.schema.now c.args.of.now.only || spec.is_no_block c.args.schema.now c.args.of.now.exclude) (spec.is_bad_exact c.args.of.now.user || spec.is_bad_exact c.args.of.now.bs)) c.template_reason-by_template.ensures

pub returns-then-has_bad_exact : goal.returns-then-has_bad_exact
unfolding plain_reason
returns-then-has_bad_exact c =
    whole-exact c.kind_reason-by_kind.result c.template_reason-by_template.result (spec.is_bad_bound c.args.of.now.since || spec.is_bad_bound c.args.of.now.until) (spec.is_no_block c.args.schema.now c.args.of.now.only || spec.is_no_block c.args.schema.now c.args.of.now.exclude) (spec.is_bad_exact c.args.of.now.user || spec.is_bad_exact c.args.of.now.bs) true (sym c.if-is_some.ensures) (sym c.if-is_some-2.ensures) (sym c.if-has_bad_bound.ensures) (sym c.if-has_no_block.ensures) (sym c.if-has_bad_exact.ensures) ∙ ap (λ a. whole a c.template_reason-by_template.result (spec.is_bad_bound c.args.of.now.since || spec.is_bad_bound c.args.of.now.until) (spec.is_no_block c.args.schema.now c.args.of.now.only || spec.is_no_block c.args.schema.now c.args.of.now.exclude) (spec.is_bad_exact c.args.of.now.user || spec.is_bad_exact c.args.of.now.bs)) c.kind_reason-by_kind.ensures ∙ ap (λ b. whole (spec.kind_reason c.args.schema.now c.args.in_struct (field c.args.of.now)) b (spec.is_bad_bound c.args.of.now.since || spec.is_bad_bound c.args.of.now.until) (spec.is_no_block c.args.schema.now c.args.of.now.only || spec.is_no_block c.args.schema.now c.args.of.now.exclude) (spec.is_bad_exact c.args.of.now.user || spec.is_bad_exact c.args.of.now.bs)) c.template_reason-by_template.ensures

pub returns : goal.returns
unfolding plain_reason
returns c =
    whole-exact c.kind_reason-by_kind.result c.template_reason-by_template.result (spec.is_bad_bound c.args.of.now.since || spec.is_bad_bound c.args.of.now.until) (spec.is_no_block c.args.schema.now c.args.of.now.only || spec.is_no_block c.args.schema.now c.args.of.now.exclude) (spec.is_bad_exact c.args.of.now.user || spec.is_bad_exact c.args.of.now.bs) false (sym c.if-is_some.ensures) (sym c.if-is_some-2.ensures) (sym c.if-has_bad_bound.ensures) (sym c.if-has_no_block.ensures) (sym c.if-has_bad_exact.ensures) ∙ ap (λ a. whole a c.template_reason-by_template.result (spec.is_bad_bound c.args.of.now.since || spec.is_bad_bound c.args.of.now.until) (spec.is_no_block c.args.schema.now c.args.of.now.only || spec.is_no_block c.args.schema.now c.args.of.now.exclude) (spec.is_bad_exact c.args.of.now.user || spec.is_bad_exact c.args.of.now.bs)) c.kind_reason-by_kind.ensures ∙ ap (λ b. whole (spec.kind_reason c.args.schema.now c.args.in_struct (field c.args.of.now)) b (spec.is_bad_bound c.args.of.now.since || spec.is_bad_bound c.args.of.now.until) (spec.is_no_block c.args.schema.now c.args.of.now.only || spec.is_no_block c.args.schema.now c.args.of.now.exclude) (spec.is_bad_exact c.args.of.now.user || spec.is_bad_exact c.args.of.now.bs)) c.template_reason-by_template.ensures
