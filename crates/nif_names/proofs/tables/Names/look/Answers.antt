use Rattle.std.proofs.Common.{[], bytes_eq, refl, sym, ap, ◌∙◌}
use Rattle.std.specs.Option.{option_map_or}
use Rattle.nif_names.specs.Shapes.{Stack}
use Rattle.nif_names.specs.Tables.{held, stack_of}
use Rattle.nif_names.proofs.TableLemmas.{stack-at, stack-none}
use Rattle.nif_names.proofs.PlaceLemmas.{list_any-none}
use Rattle.nif_names.proofs.tables.Names.look.Goals as goal

pub returns-in_err-place-clause-value : goal.returns-in_err-place-clause-value
unfolding held
returns-in_err-place-clause-value c =
    let keys = c.self.inside.places in
    let none = list_any-none (bytes_eq c.args.name.now) keys (sym c.in_err-place.ensures.value) in
    ap (λ o. option_map_or (λ shapes. shapes.now.shapes) o []) c.from_residual.ensures
    ∙ sym (ap (λ (s : Stack). s.shapes) (stack-none c.args.name.now keys c.self.inside.stacks.items none))
    ∙ ap (λ t. (stack_of c.args.name.now t.names t.stacks).shapes) c.self.view_is

pub returns-then-is_empty-clause-value : goal.returns-then-is_empty-clause-value
unfolding held
returns-then-is_empty-clause-value c =
    let there = stack-at c.args.name.now c.index-shapes.result.now c.self.inside.places c.self.inside.stacks.items c.in_ok-place.place (sym c.in_ok-place.ensures.value) c.self.invariant in
    sym (c.if-is_empty.ensures.0 refl)
    ∙ ap (λ (s : Stack). s.shapes) (c.index-shapes.ensures ∙ sym there ∙ ap (λ t. stack_of c.args.name.now t.names t.stacks) c.self.view_is)

pub returns-else-is_empty-clause-value : goal.returns-else-is_empty-clause-value
unfolding held
returns-else-is_empty-clause-value c =
    let there = stack-at c.args.name.now c.index-shapes.result.now c.self.inside.places c.self.inside.stacks.items c.in_ok-place.place (sym c.in_ok-place.ensures.value) c.self.invariant in
    ap (λ (s : Stack). s.shapes) (c.index-shapes.ensures ∙ sym there ∙ ap (λ t. stack_of c.args.name.now t.names t.stacks) c.self.view_is)
