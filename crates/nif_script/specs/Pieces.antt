-- What is kept of a text that is cut into pieces.
use Rattle.std.specs.Prelude.{ℕ, List, [], None, Some}
use Rattle.std.specs.declared.option.Option.{Option}
use Rattle.std.specs.Borrow.{Bor}
use Rattle.nif_script.specs.Forms.{Text, pieces}

-- the pieces to come of a rest, none where nothing is left to be cut
abbrev pub pieces_left : ℕ → Option (Bor Text) → List Text
pieces_left mark None = []
pieces_left mark (Some rest) = pieces mark rest.now
