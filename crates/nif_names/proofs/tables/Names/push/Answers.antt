use Rattle.std.proofs.Common.{◌∷◌, ◌++◌, List, [], cond, bytes_eq, position, sym, ap, subst, ◌∙◌, Ok, Err, Result, OnOk}
use Rattle.nif_names.specs.declared.shapes.Shape.{Shape}
use Rattle.nif_names.specs.Marks.{IsFound}
use Rattle.nif_names.specs.Shapes.{Stack}
use Rattle.nif_names.specs.Tables.{held, kinds, stack_of}
use Rattle.nif_names.proofs.TableLemmas.{shapes-change, change-back}
use Rattle.nif_names.proofs.tables.Names.push.Goals as goal

pub push_first-requires : goal.push_first-requires
push_first-requires c = sym (ap (λ t. position (bytes_eq c.args.name.now) t.names) c.self.view_is) ∙ sym c.in-None.ensures.value

on : {E : Type 0} {P Q : Type 0} (r : Result (Unit {0}) E) → OnOk r P → (P → Q) → OnOk r Q
on (Ok x) p f = f p
on (Err e) p f = tt

pub returns-clause-shapes : goal.returns-clause-shapes
unfolding held
returns-clause-shapes c =
    let i = c.self.inside in
    let more : List Shape → List Shape = λ s. s ++ c.args.shape ∷ [] in
    let given = c.index_mut-stack.result.now in
    on c.push.result c.push.ensures.ok (λ pushed other.
    shapes-change c.args.name.now c.push.new.self given other i.places i.stacks.items c.in-Some.place (sym c.in-Some.ensures.value) c.self.invariant more
    (pushed ∙ ap (λ (s : Stack). more s.shapes) c.index_mut-stack.ensures.value)
    ∙ ap (λ t. cond (bytes_eq other c.args.name.now) (more (stack_of other t.names t.stacks).shapes) (stack_of other t.names t.stacks).shapes) c.self.view_is)

pub returns-clause-marks : goal.returns-clause-marks
unfolding kinds
returns-clause-marks c =
    let i = c.self.inside in
    let given = c.index_mut-stack.result.now in
    on c.push.result c.push.ensures.marks (λ says other key ts stop is.
    subst (λ t. IsFound (stack_of other t.names t.stacks).kinds key ts stop) c.self.view_is
    (change-back c.args.name.now c.push.new.self given other i.places i.stacks.items c.in-Some.place (sym c.in-Some.ensures.value) c.self.invariant
    (λ s. IsFound s.kinds key ts stop) (λ m. subst (λ (s : Stack). IsFound s.kinds key ts stop) c.index_mut-stack.ensures.value (says key ts stop m)) is))
