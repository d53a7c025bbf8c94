use Rattle.std.proofs.Common.{◌≡◌, length, bytes_eq, sym, ap, subst, ◌∙◌, Ok, Err, Result, OnOk}
use Rattle.nif_names.specs.Marks.{IsFound}
use Rattle.nif_names.specs.Tables.{Table, held, kinds, stack_of}
use Rattle.nif_names.proofs.PlaceLemmas.{list_any-none}
use Rattle.nif_names.proofs.TableLemmas.{shapes-first, first-back}
use Rattle.nif_names.proofs.tables.Names.push_first.Goals as goal

on : {E : Type 0} {P Q : Type 0} (r : Result (Unit {0}) E) → OnOk r P → (P → Q) → OnOk r Q
on (Ok x) p f = f p
on (Err e) p f = tt

pub returns-in-Ok-clause-shapes : goal.returns-in-Ok-clause-shapes
unfolding held
returns-in-Ok-clause-shapes c =
    let old = c.args.self.now in
    let even : length old.names ≡ length old.stacks =
    sym (ap (λ (t : Table). length t.names) c.self.view_is) ∙ c.self.invariant ∙ ap (λ (t : Table). length t.stacks) c.self.view_is in
    on c.put.result c.put.ensures.ok (λ new other.
    ap (λ (t : Table). (stack_of other t.names t.stacks).shapes) new
    ∙ shapes-first c.args.name.now c.in-Ok.stack other old.names old.stacks (list_any-none (bytes_eq c.args.name.now) old.names c.requires) even c.args.shape c.in-Ok.ensures.shapes)

pub returns-in-Ok-clause-marks : goal.returns-in-Ok-clause-marks
unfolding kinds
returns-in-Ok-clause-marks c =
    let old = c.args.self.now in
    let even : length old.names ≡ length old.stacks =
    sym (ap (λ (t : Table). length t.names) c.self.view_is) ∙ c.self.invariant ∙ ap (λ (t : Table). length t.stacks) c.self.view_is in
    on c.put.result c.put.ensures.ok (λ new other key ts stop is.
    first-back c.args.name.now c.in-Ok.stack other old.names old.stacks (list_any-none (bytes_eq c.args.name.now) old.names c.requires) even
    (λ s. IsFound s.kinds key ts stop) (λ m. absurd (c.in-Ok.ensures.marks key ts stop m))
    (subst (λ (t : Table). IsFound (stack_of other t.names t.stacks).kinds key ts stop) new is))
