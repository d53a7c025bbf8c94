use Rattle.std.proofs.Common.{◌≡◌, ◌+◌, ◌-◌, ◌/◌, ◌<◌, ◌⊎◌, ℕ, List, [], length, take, drop, sym, ap, subst, ◌∙◌, arith}
use Rattle.nif_names.specs.Marks.{IsFound}
use Rattle.nif_names.specs.Tables.{kinds}
use Rattle.nif_sets.specs.Sets.{IsSet}
use Rattle.nif_sets.specs.declared.sets.TypeSet.TheVariants.{Joined}
use Rattle.nif_paths.specs.Marks.{HasRuns, IsSame, IsSetOf}
use Rattle.nif_paths.specs.declared.lines.Line.{Line}
use Rattle.nif_paths.proofs.RunLemmas.{all-two, grown-set, joined-set, marks-beside, one-set, run-one, run-parts, runs-grown, runs-more, same-refl, same-trans, sets-grown}
use Rattle.nif_paths.proofs.runs.+run_set.Goals as goal

pub returns-then-to-from-eq1-clause-types : goal.returns-then-to-from-eq1-clause-types
returns-then-to-from-eq1-clause-types t c = λ runs.
    let types = c.inners.result.now in
    let from = c.args.from in
    let to = c.args.to in
    let given = c.inners.ensures.value in
    let one = c.if-to-from-eq1.true in
    let some = c.requires.some in
    let within = c.requires.within in
    let len = ap length given in
    let lt : from < length types = omega (arith, one, some, within, len) in
    one-set c.args.line.now.sets _ (drop from (take to (kinds c.args.line.now.names c.args.first.now).types))
    (ap (λ l. drop from (take to l)) (sym given) ∙ run-one types from to 0 lt (omega (arith, one, some)))

pub returns-in-Some-clause-same : goal.returns-in-Some-clause-same
returns-in-Some-clause-same t c = λ tables. subst (λ l. IsSame tables c.args.line.now l) (sym c.kept_set.ensures.same) (same-refl tables c.args.line.now)

pub run_set-requires-2 : goal.run_set-requires-2
run_set-requires-2 t c =
    let first = c.args.first.now in
    let some = c.requires.some in
    let more = c.if-to-from-eq1.false in
    let within = c.requires.within in
    let len = ap length ((c.in-Ok-run_set.ensures.same []).types first ∙ ap (λ (l : Line). (kinds l.names first).types) c.kept_set.ensures.same) in
    (omega (arith, some, more), (omega (arith, some, more), omega (arith, within, len)))

pub join-requires : goal.join-requires
join-requires t c =
    let left = c.in-Ok-run_set.set in
    all-two (IsSet c.run_set-2.new.line.sets) left c.in-Ok-run_set-2.set ((c.in-Ok-run_set-2.ensures.same []).grown left c.in-Ok-run_set.ensures.within).0 c.in-Ok-run_set-2.ensures.within

pub returns-in-Ok-keep_set-clause-types : goal.returns-in-Ok-keep_set-clause-types
returns-in-Ok-keep_set-clause-types t c = λ runs.
    let first = c.args.first.now in
    let from = c.args.from in
    let to = c.args.to in
    let middle = from + (to - from) / 2 in
    let none = c.args.line.now in
    let one = c.run_set.new.line in
    let two = c.run_set-2.new.line in
    let types = (kinds none.names first).types in
    let left = c.in-Ok-run_set.set in
    let right = c.in-Ok-run_set-2.set in
    let same = c.kept_set.ensures.same in
    let some = c.requires.some in
    let before : IsSame [] none one = subst (λ l. IsSame [] l one) same (c.in-Ok-run_set.ensures.same []) in
    let a : IsSetOf one.sets left (drop from (take middle types)) =
    subst (λ (l : Line). HasRuns l.names l.sets → IsSetOf one.sets left (drop from (take middle (kinds l.names first).types))) same c.in-Ok-run_set.ensures.types runs in
    let b : IsSetOf two.sets right (drop middle (take to types)) =
    subst (λ l. IsSetOf two.sets right (drop middle (take to l))) (before.types first) (c.in-Ok-run_set-2.ensures.types (before.runs runs)) in
    joined-set two.sets c.join.new.self left right c.in-Ok-join.set (drop from (take middle types)) (drop middle (take to types)) (drop from (take to types))
    (grown-set one.sets two.sets left (drop from (take middle types)) (c.in-Ok-run_set-2.ensures.same []).grown a) b
    (run-parts types from middle to (omega arith) (omega (arith, some))) c.in-Ok-join.ensures.within c.in-Ok-join.ensures.types

pub returns-in-Ok-keep_set-clause-same : goal.returns-in-Ok-keep_set-clause-same
returns-in-Ok-keep_set-clause-same t c = λ tables.
    let first = c.args.first.now in
    let from = c.args.from in
    let to = c.args.to in
    let none = c.args.line.now in
    let one = c.run_set.new.line in
    let two = c.run_set-2.new.line in
    let set = c.in-Ok-join.set in
    let new = c.keep_set.new.names in
    let before : IsSame tables none two =
    same-trans tables none one two (subst (λ l. IsSame tables l one) c.kept_set.ensures.same (c.in-Ok-run_set.ensures.same tables)) (c.in-Ok-run_set-2.ensures.same tables) in
    let says = subst (λ key. (other under ts : List ℕ) (n : ℕ) → IsFound (kinds new other) under ts n
    → IsFound (kinds two.names other) under ts n ⊎ ((other ≡ first) × (under ≡ key) × (ts ≡ take to (kinds two.names other).types) × (set ≡ Joined n)))
    (c.as_slice-2.ensures.value ∙ c.in-Ok.ensures) c.in-Ok-keep_set.ensures.found in
    record {
      shapes = λ name. c.keep_set.ensures.shapes name ∙ before.shapes name;
      types = λ name. c.keep_set.ensures.types name ∙ before.types name;
      marks = λ S marks. marks-beside two.names new first from to set says S (before.marks S marks);
      runs = λ runs. runs-more two.names new first from to set says c.join.new.self (runs-grown two.names two.sets c.join.new.self c.in-Ok-join.ensures.grown (before.runs runs))
          (subst (λ l. IsSetOf c.join.new.self set (drop from (take to l))) (sym (before.types first)) (returns-in-Ok-keep_set-clause-types t c runs));
      grown = sets-grown none.sets two.sets c.join.new.self before.grown c.in-Ok-join.ensures.grown;
      known = λ known. c.in-Ok-join.ensures.known tables (before.known known);
    }
