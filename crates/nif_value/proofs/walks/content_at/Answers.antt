use Rattle.std.proofs.Common.{ℕ, IsSome, ◌≡◌, List, slice_get, Option, None, Some, sym, subst}
use Rattle.nif_region.specs.Contents.{find}
use Rattle.nif_region.specs.declared.cells.Cell.{Cell}
use Rattle.nif_value.specs.Kept.{cells_in}
use Rattle.nif_value.specs.Ways.{IsAt}
use Rattle.std.specs.Option.{IfSome}
use Rattle.nif_value.proofs.WayLaws.{at_place}
use Rattle.nif_value.proofs.walks.content_at.Goals as goal

read : (found : Option (List Cell)) (place : ℕ) (cell : Cell) → IsSome found → IfSome found (λ cells. slice_get cells place ≡ Some cell) → slice_get (cells_in found) place ≡ Some cell
read None place cell live h = absurd (cc)
read (Some cells) place cell live h = h

pub returns-clause-at : goal.returns-clause-at
returns-clause-at c =
    let found = find c.args.region.now.runs c.args.run.key in
    subst (IsAt (cells_in found) c.args.place) (sym c.of.ensures)
    (at_place (cells_in found) c.args.place c.get.result (read found c.args.place c.get.result c.requires.live c.get.ensures))
