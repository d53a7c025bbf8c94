use Rattle.std.proofs.Common.{ℕ, IsSome, ◌≡◌, ◌+◌, ◌*◌, ◌/◌, ◌%◌, ◌^◌, ◌<◌, List, length, drop, slice_get, Option, None, Some, sym, ◌∙◌, ap, arith}
use Rattle.nif_region.specs.Contents.{find}
use Rattle.nif_region.specs.declared.cells.Cell.{Cell}
use Rattle.nif_cells.specs.Reading.{said}
use Rattle.nif_value.specs.Kept.{cells_in}
use Rattle.nif_value.specs.Ways.{bits_of}
use Rattle.std.specs.Option.{IsSomeAnd, IfSome}
use Rattle.nif_value.proofs.WayLaws.{byte_in, cell_at, cell_within}
use Rattle.nif_value.proofs.walks.byte_at.Goals as goal

within : (found : Option (List Cell)) (place : ℕ) → IsSome found → place < length (cells_in found) → IsSomeAnd found (λ cells. place < length cells)
within None place live h = absurd (cc)
within (Some cells) place live h = h

read : (found : Option (List Cell)) (place : ℕ) (cell : Cell) → IsSome found → IfSome found (λ cells. slice_get cells place ≡ Some cell) → slice_get (cells_in found) place ≡ Some cell
read None place cell live h = absurd (cc)
read (Some cells) place cell live h = h

pub overflow_add-span : goal.overflow_add-span
overflow_add-span c = omega (arith, c.requires.span.2, c.requires.within)

pub get-requires : goal.get-requires
get-requires c =
    let found = find c.args.region.now.runs c.args.run.key in
    let byte = byte_in (said (drop c.args.span.first (cells_in found))) c.args.span.len c.args.place c.requires.span.0 c.requires.within in
    within found (c.args.span.first + c.args.place / 8) c.requires.live (cell_within (cells_in found) c.args.span.first (c.args.place / 8) byte.content byte.at)

pub returns : goal.returns
returns c =
    let found = find c.args.region.now.runs c.args.run.key in
    let byte = byte_in (said (drop c.args.span.first (cells_in found))) c.args.span.len c.args.place c.requires.span.0 c.requires.within in
    let is = cell_at (cells_in found) c.args.span.first (c.args.place / 8) byte.content c.get.result byte.at
    (read found (c.args.span.first + c.args.place / 8) c.get.result c.requires.live c.get.ensures) in
    byte.is ∙ ap (λ bits. Some (bits / 2 ^ (8 * (c.args.place % 8)) % 256)) (sym (c.byte_bits-bits.ensures ∙ ap bits_of (c.of.ensures ∙ is)))
