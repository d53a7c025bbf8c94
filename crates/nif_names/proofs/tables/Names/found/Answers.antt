use Rattle.std.proofs.Common.{◌≤◌, IfSome, length, take, sym, ap, subst, ◌∙◌}
use Rattle.nif_names.specs.Marks.{IsFound}
use Rattle.nif_names.specs.Shapes.{Stack}
use Rattle.nif_names.specs.Tables.{kinds, stack_of}
use Rattle.nif_names.proofs.TableLemmas.{stack-at}
use Rattle.nif_names.proofs.tables.Names.found.Goals as goal

pub returns-clause-within : goal.returns-clause-within
unfolding kinds
returns-clause-within c =
    let i = c.self.inside in
    let given = c.index_mut-stack.result.now in
    let there = stack-at c.args.name.now given i.places i.stacks.items c.in_ok-place.place (sym c.in_ok-place.ensures.value) c.self.invariant in
    subst (λ (s : Stack). IfSome c.found.result (λ found. found.count ≤ length s.kinds.types))
    (c.index_mut-stack.ensures.value ∙ sym there ∙ ap (λ t. stack_of c.args.name.now t.names t.stacks) c.self.view_is) c.found.ensures.within

pub returns-clause-found : goal.returns-clause-found
unfolding kinds
returns-clause-found c =
    let i = c.self.inside in
    let given = c.index_mut-stack.result.now in
    let there = stack-at c.args.name.now given i.places i.stacks.items c.in_ok-place.place (sym c.in_ok-place.ensures.value) c.self.invariant in
    subst (λ (s : Stack). IfSome c.found.result (λ found. IsFound s.kinds c.args.key.now (take found.count s.kinds.types) found.stop))
    (c.index_mut-stack.ensures.value ∙ sym there ∙ ap (λ t. stack_of c.args.name.now t.names t.stacks) c.self.view_is) c.found.ensures.found
