use Rattle.std.proofs.Common.{◌≡◌, ℕ, ◌+◌, ◌≤◌, ◌*◌, ◌++◌, ◌↔◌, max, length, take, drop, Contains, sym, ap, subst, ◌∙◌, arith}
use Rattle.std.proofs.lemmas.List.{drop-take, length-drop, take-append-drop, take_all}
use Rattle.std.proofs.Math.Seq.{take-add}
use Rattle.nif_names.specs.Shapes.{inners}
use Rattle.nif_names.specs.Tables.{held, kinds}
use Rattle.nif_paths.specs.Marks.{types_stop}
use Rattle.nif_paths.proofs.RunLemmas.{same-refl, same-trans}
use Rattle.nif_paths.proofs.StopLemmas.{known-same, same-reason, types-append, types-bound, types-none}
use Rattle.nif_paths.proofs.paths.long_reason.Goals as goal
use Rattle.nif_paths.proofs.paths.long_reason.Goals.{then-run-test+else-stop-most, else-run-test}

pub run-init : goal.run-init
run-init c = record {
  within = omega arith;
  same = same-refl c.args.tables.now c.args.line.now;
  stop = λ schema insides runs known. types-none schema (drop 1 c.args.path.now);
}

pub run-preserved : goal.run-preserved
run-preserved c =
    let first = c.args.first.now in
    let names = drop 1 c.args.path.now in
    let types = (kinds c.args.line.now.names first).types in
    let i = c.run.invariant in
    let from = c.run.from in
    let many = c.greatest_power.result in
    let parts : take (from + many) types ≡ take from types ++ drop from (take (from + many) types) =
    take-add from many types ∙ ap (λ l. take from types ++ l) (sym (drop-take from many types)) in
    record {
      within = let left = c.greatest_power.ensures.within in let some = c.run-test.true in omega (arith, left, some);
      same = same-trans c.args.tables.now c.args.line.now c.run.line c.run_stop.new.line i.same c.in-Ok-run_stop.ensures.same;
      stop = λ schema insides runs known.
          let next = c.in-Ok-run_stop.ensures.stop schema insides (i.same.runs runs) (i.same.known known)
          ∙ ap (λ l. types_stop schema (drop from (take (from + many) l)) names) (i.same.types first) in
          ap (λ l. types_stop schema l names) parts
          ∙ types-append schema names (take from types) (drop from (take (from + many) types))
          ∙ ap (λ n. max n (types_stop schema (drop from (take (from + many) types)) names)) (i.stop schema insides runs known)
          ∙ ap (max c.run.stop) (sym next)
          ∙ sym c.max-stop.ensures;
    }

pub returns : goal.returns
returns c = λ schema fields insides line.
    let first = c.args.first.now in
    let p = c.args.path.now in
    let names = drop 1 p in
    let tables = c.args.tables.now in
    let types = (kinds c.args.line.now.names first).types in
    let i = c.run.invariant in
    let from = c.run.from in
    let given = c.inners.ensures.value in
    let known = line.known tables insides in
    let now : types_stop schema (take from types) names ≡ c.run.stop = i.stop schema insides line.runs known in
    let all : types_stop schema types names ≡ c.run.stop = elim c.run-test.branch [
      | then-run-test+else-stop-most w ↦
          let rest = types_stop schema (drop from types) names in
          let two : types_stop schema types names ≡ max (types_stop schema (take from types) names) rest =
          ap (λ l. types_stop schema l names) (sym (take-append-drop from types)) ∙ types-append schema names (take from types) (drop from types) in
          let few : rest ≤ 2 * length names = types-bound schema names (drop from types) in
          let left = length-drop 1 p in
          let len = c.len.ensures.value in
          let most = c.from-most.ensures in
          let most_found = w.if-stop-most in
          omega (arith, two, few, left, len, most, most_found, now)
      | else-run-test w ↦
          let count = c.in-Ok.ensures in
          let len = ap length given in
          let none = w.run-test in
          let le : length types ≤ from = omega (arith, count, len, none) in
          sym (ap (λ l. types_stop schema l names) (take_all from types le)) ∙ now
    ] in
    let same : (k : ℕ) → Contains types k ↔ Contains (inners (held c.args.line.now.names first)) k = λ k. subst (λ l. Contains l k ↔ Contains (inners (held c.args.line.now.names first)) k) given (c.inners.ensures.same k) in (
      c.stop_reason.ensures ∙ same-reason schema names types (inners (held c.args.line.now.names first)) c.run.stop same all,
      record {
        names = λ name. i.same.shapes name ∙ line.names name;
        marks = i.same.marks schema line.marks;
        runs = i.same.runs line.runs;
        known = λ others besides. known-same schema tables others insides besides c.run.line.sets (i.same.known known);
      },
    )
