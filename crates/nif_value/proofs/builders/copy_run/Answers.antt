use Rattle.std.proofs.Common.{◌≡◌, ◌+◌, List, [], ◌∷◌, ◌++◌, length, take, refl, sym, ap, ◌∙◌, arith, Some, None, Option, slice_get, true, false}
use Rattle.std.specs.Option.{IsSomeAnd}
use Rattle.std.proofs.lemmas.Bool.{false≢true}
use Rattle.std.proofs.lemmas.List.{take_more, take_all, length-take-le}
use Rattle.std.proofs.lemmas.Option.{get_or_from_slice_get}
use Rattle.nif_region.specs.Contents.{find, pushed}
use Rattle.nif_region.specs.declared.cells.Cell.{Cell}
use Rattle.nif_value.proofs.builders.copy_run.Goals as goal

the_run : (o : Option (List Cell)) (P : List Cell → Type 0) → IsSomeAnd o P → (run : List Cell) × (o ≡ Some run) × P run
the_run None P h = absurd h
the_run (Some run) P h = (run, refl, h)

pub loop-place-init : goal.loop-place-init
loop-place-init c = record {
  same_runs = c.in-Ok.ensures.runs;
  building_is = λ cells e. c.in-Ok.ensures.ok.0;
  cells_left = omega (arith, c.in-Ok.ensures.spare.cells_left);
  runs_left = omega (arith, c.in-Ok.ensures.spare.runs_left);
}

pub get-cell-requires : goal.get-cell-requires
get-cell-requires c =
    let r = the_run (find c.args.region.now.runs c.args.run.key) (λ cells. length cells ≡ c.args.len) c.requires.live in
    rw (c.loop-place.invariant.same_runs, r.1) (omega (arith, r.2))

pub push-requires : goal.push-requires
push-requires c =
    let r = the_run (find c.args.region.now.runs c.args.run.key) (λ cells. length cells ≡ c.args.len) c.requires.live in
    let n : length (take c.loop-place.place r.0) ≡ c.loop-place.place = length-take-le c.loop-place.place r.0 (omega (arith, r.2)) in
    rw (c.loop-place.invariant.building_is r.0 r.1) (omega (arith, c.requires.few))

pub unreachable-requires-in_default-push : goal.unreachable-requires-in_default-push
unreachable-requires-in_default-push c =
    let ok : false ≡ true = c.in_default-push.ensures.succeeds (omega (arith, c.loop-place.invariant.cells_left, c.requires.cells)) in
    false≢true ok

pub loop-place-preserved : goal.loop-place-preserved
loop-place-preserved c =
    record {
      same_runs = c.in-Ok-push.ensures.runs ∙ c.loop-place.invariant.same_runs;
      building_is = λ cells e. c.in-Ok-push.ensures.ok.0 ∙ ap (λ o. pushed o c.get-cell.result) (c.loop-place.invariant.building_is cells e) ∙ ap Some (more c cells e);
      cells_left = omega (arith, c.in-Ok-push.ensures.spare.cells_left, c.loop-place.invariant.cells_left);
      runs_left = omega (arith, c.in-Ok-push.ensures.spare.runs_left, c.loop-place.invariant.runs_left);
    }
  where
    more : (c : goal.In-Ok-push) (cells : List Cell) → find c.args.region.now.runs c.args.run.key ≡ Some cells → take c.loop-place.place cells ++ c.get-cell.result ∷ [] ≡ take (c.loop-place.place + 1) cells
    more c cells e =
        let l : length cells ≡ c.args.len = rw e at c.requires.live in
        let at : slice_get cells c.loop-place.place ≡ Some c.get-cell.result = rw (c.loop-place.invariant.same_runs, e) at c.get-cell.ensures in
        let is = get_or_from_slice_get cells c.loop-place.place c.get-cell.result c.get-cell.result at in
        sym (take_more cells c.loop-place.place c.get-cell.result (omega arith) ∙ ap (λ x. take c.loop-place.place cells ++ x ∷ []) is)

pub returns-clause-runs : goal.returns-clause-runs
returns-clause-runs c = c.loop-place.invariant.same_runs

pub returns-clause-building : goal.returns-clause-building
returns-clause-building c =
    let r = the_run (find c.args.region.now.runs c.args.run.key) (λ cells. length cells ≡ c.args.len) c.requires.live in
    c.loop-place.invariant.building_is r.0 r.1 ∙ ap Some (take_all c.loop-place.place r.0 (omega (arith, r.2))) ∙ sym r.1

pub returns-clause-spare_cells : goal.returns-clause-spare_cells
returns-clause-spare_cells c = omega (arith, c.loop-place.invariant.cells_left, c.loop-place.auto.place-end)

pub returns-clause-spare_runs : goal.returns-clause-spare_runs
returns-clause-spare_runs c = c.loop-place.invariant.runs_left
