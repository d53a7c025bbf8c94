use Rattle.std.proofs.Common.{◌↔◌, Contains, [], bytes_eq, sym, ap, subst, ◌∙◌}
use Rattle.nif_names.specs.Shapes.{Stack, inners}
use Rattle.nif_names.specs.Tables.{held, kinds, stack_of}
use Rattle.nif_names.proofs.TableLemmas.{stack-at, stack-none}
use Rattle.nif_names.proofs.PlaceLemmas.{list_any-none}
use Rattle.nif_names.proofs.tables.Names.inners.Goals as goal

pub returns-in-Some-clause-value : goal.returns-in-Some-clause-value
unfolding kinds
returns-in-Some-clause-value c =
    let i = c.self.inside in
    let there = stack-at c.args.name.now c.index.result.now i.places i.stacks.items c.in-Some.place (sym c.in-Some.ensures.value) c.self.invariant in
    c.inners.ensures.value
    ∙ ap (λ (s : Stack). s.kinds.types) (c.index.ensures ∙ sym there ∙ ap (λ t. stack_of c.args.name.now t.names t.stacks) c.self.view_is)

pub returns-in-Some-clause-same : goal.returns-in-Some-clause-same
unfolding held
returns-in-Some-clause-same c = λ k.
    let i = c.self.inside in
    let there = stack-at c.args.name.now c.index.result.now i.places i.stacks.items c.in-Some.place (sym c.in-Some.ensures.value) c.self.invariant in
    subst (λ (s : Stack). Contains c.inners.result.now k ↔ Contains (inners s.shapes) k)
    (c.index.ensures ∙ sym there ∙ ap (λ t. stack_of c.args.name.now t.names t.stacks) c.self.view_is) (c.inners.ensures.same k)

pub returns-in-None-clause-value : goal.returns-in-None-clause-value
unfolding kinds
returns-in-None-clause-value c =
    let keys = c.self.inside.places in
    let none = list_any-none (bytes_eq c.args.name.now) keys (sym c.in-None.ensures.value) in
    sym (ap (λ (s : Stack). s.kinds.types) (stack-none c.args.name.now keys c.self.inside.stacks.items none))
    ∙ ap (λ t. (stack_of c.args.name.now t.names t.stacks).kinds.types) c.self.view_is

pub returns-in-None-clause-same : goal.returns-in-None-clause-same
unfolding held
returns-in-None-clause-same c = λ k.
    let keys = c.self.inside.places in
    let none = list_any-none (bytes_eq c.args.name.now) keys (sym c.in-None.ensures.value) in
    subst (λ (s : Stack). Contains [] k ↔ Contains (inners s.shapes) k)
    (sym (stack-none c.args.name.now keys c.self.inside.stacks.items none) ∙ ap (λ t. stack_of c.args.name.now t.names t.stacks) c.self.view_is)
    ((λ h. h), (λ h. h))
