use Rattle.std.proofs.Common.{◌≡◌, ℕ, ◌-◌, List, [], take, length, cond, Bool, true, false, bytes_eq, refl, sym, ap, subst, ◌∙◌}
use Rattle.std.proofs.lemmas.Slice.Eq.{bytes_eq-Decides}
use Rattle.nif_names.specs.declared.shapes.Shape.{Shape}
use Rattle.nif_names.specs.Marks.{IsFound}
use Rattle.nif_names.specs.Shapes.{Stack}
use Rattle.nif_names.specs.Tables.{Table, held, kinds, stack_of, no_stack}
use Rattle.nif_names.proofs.TableLemmas.{shapes-change, change-back, stack-none}
use Rattle.nif_names.proofs.PlaceLemmas.{list_any-none}
use Rattle.nif_names.proofs.tables.Names.pop.Goals as goal

less : List Shape → List Shape
less shapes = take (length shapes - 1) shapes

shapes_in : Table → List ℕ → List Shape
shapes_in t name = (stack_of name t.names t.stacks).shapes

unchanged : (t : Table) (name other : List ℕ) (b : Bool) → bytes_eq other name ≡ b → stack_of name t.names t.stacks ≡ no_stack
    → shapes_in t other ≡ cond b (take (length (shapes_in t other) - 1) (shapes_in t other)) (shapes_in t other)
unfolding shapes_in
unchanged t name other false h none = refl
unchanged t name other true h none =
    let same : other ≡ name = (bytes_eq-Decides other name).0 h in
    let empty : (stack_of other t.names t.stacks).shapes ≡ [] = ap (λ n. (stack_of n t.names t.stacks).shapes) same ∙ ap (λ (s : Stack). s.shapes) none in
    empty ∙ sym (ap (λ (s : List Shape). take (length s - 1) s) empty)

pub returns-in_default-clause-shapes : goal.returns-in_default-clause-shapes
unfolding held shapes_in
returns-in_default-clause-shapes c = λ other.
    let keys = c.self.inside.places in
    let none = list_any-none (bytes_eq c.args.name.now) keys (sym c.in_default.ensures.value) in
    let none_there = subst (λ t. stack_of c.args.name.now t.names t.stacks ≡ no_stack) c.self.view_is (stack-none c.args.name.now keys c.self.inside.stacks.items none) in
    unchanged c.args.self.now c.args.name.now other (bytes_eq other c.args.name.now) refl none_there

pub returns-clause-shapes : goal.returns-clause-shapes
unfolding held less
returns-clause-shapes c = λ other.
    let i = c.self.inside in
    let given = c.index_mut-stack.result.now in
    shapes-change c.args.name.now c.pop.new.self given other i.places i.stacks.items c.in-Some.place (sym c.in-Some.ensures.value) c.self.invariant less
    (c.pop.ensures.shapes ∙ ap (λ (s : Stack). less s.shapes) c.index_mut-stack.ensures.value)
    ∙ ap (λ t. cond (bytes_eq other c.args.name.now) (less (stack_of other t.names t.stacks).shapes) (stack_of other t.names t.stacks).shapes) c.self.view_is

pub returns-clause-marks : goal.returns-clause-marks
unfolding kinds
returns-clause-marks c = λ other key ts stop is.
    let i = c.self.inside in
    let given = c.index_mut-stack.result.now in
    subst (λ t. IsFound (stack_of other t.names t.stacks).kinds key ts stop) c.self.view_is
    (change-back c.args.name.now c.pop.new.self given other i.places i.stacks.items c.in-Some.place (sym c.in-Some.ensures.value) c.self.invariant
    (λ s. IsFound s.kinds key ts stop) (λ m. subst (λ (s : Stack). IsFound s.kinds key ts stop) c.index_mut-stack.ensures.value (c.pop.ensures.marks key ts stop m)) is)
