use Rattle.std.proofs.Common.{◌≡◌, List, Bool, true, false, cond, take, bytes_eq, inl, inr, refl, sym, ap, subst, ◌∙◌, Ok, Err, Result, OnOk}
use Rattle.nif_names.specs.declared.shapes.Shape.{Shape}
use Rattle.nif_names.specs.Marks.{IsFound}
use Rattle.nif_names.specs.Shapes.{Stack}
use Rattle.nif_names.specs.Tables.{held, kinds, stack_of}
use Rattle.nif_names.proofs.TableLemmas.{shapes-change, types-same, change-cases}
use Rattle.nif_names.proofs.tables.Names.mark.Goals as goal

on : {E : Type 0} {P Q : Type 0} (r : Result (Unit {0}) E) → OnOk r P → (P → Q) → OnOk r Q
on (Ok x) p f = f p
on (Err e) p f = tt

either : (b : Bool) (shapes : List Shape) → cond b shapes shapes ≡ shapes
either true shapes = refl
either false shapes = refl

pub returns-clause-shapes : goal.returns-clause-shapes
unfolding held
returns-clause-shapes c = λ other.
    let i = c.self.inside in
    let given = c.index_mut-stack.result.now in
    shapes-change c.args.name.now c.mark.new.self given other i.places i.stacks.items c.in-Some.place (sym c.in-Some.ensures.value) c.self.invariant (λ l. l)
    (c.mark.ensures.shapes ∙ ap (λ (s : Stack). s.shapes) c.index_mut-stack.ensures.value)
    ∙ either (bytes_eq other c.args.name.now) _
    ∙ ap (λ t. (stack_of other t.names t.stacks).shapes) c.self.view_is

pub returns-clause-types : goal.returns-clause-types
unfolding kinds
returns-clause-types c = λ other.
    let i = c.self.inside in
    let given = c.index_mut-stack.result.now in
    types-same c.args.name.now c.mark.new.self given other i.places i.stacks.items c.in-Some.place (sym c.in-Some.ensures.value) c.self.invariant
    (c.mark.ensures.types ∙ ap (λ (s : Stack). s.kinds.types) c.index_mut-stack.ensures.value)
    ∙ ap (λ t. (stack_of other t.names t.stacks).kinds.types) c.self.view_is

pub returns-clause-marks : goal.returns-clause-marks
unfolding kinds
returns-clause-marks c =
    let i = c.self.inside in
    let given = c.index_mut-stack.result.now in
    let f = c.args.found in
    on c.mark.result c.mark.ensures.marks (λ says other under ts stop is.
    elim (change-cases c.args.name.now c.mark.new.self given other i.places i.stacks.items c.in-Some.place (sym c.in-Some.ensures.value) c.self.invariant
    (λ s. IsFound s.kinds under ts stop) (λ s. (under ≡ c.args.key.now) × (ts ≡ take f.count s.kinds.types) × (stop ≡ f.stop))
    (λ m. elim (says under ts stop m) [
      | inl h ↦ inl (subst (λ (s : Stack). IsFound s.kinds under ts stop) c.index_mut-stack.ensures.value h)
      | inr h ↦ inr (h.0, h.1 ∙ ap (λ (s : Stack). take f.count s.kinds.types) c.index_mut-stack.ensures.value, h.2)
    ]) is) [
      | inl h ↦ inl (subst (λ t. IsFound (stack_of other t.names t.stacks).kinds under ts stop) c.self.view_is h)
      | inr h ↦ inr (h.0, h.1.0, h.1.1 ∙ ap (λ t. take f.count (stack_of other t.names t.stacks).kinds.types) c.self.view_is, h.1.2)
    ])
