-- The first line of a file: the name of a form, and behind it a version text.
use Rattle.std.specs.Prelude.{ℕ, List, codes, drop, length, nat_eq, None, Some, if◌then◌else◌, option_and_then}
use Rattle.std.specs.declared.option.Option.{Option}
use Rattle.std.specs.Option.{option_or}
use Rattle.std.specs.List.{starts_with}
use Rattle.nif_base.specs.Version.{version_of}

-- what stands behind a front of bytes, where they have it
unfoldable pub behind_front : List ℕ → List ℕ → Option (List ℕ)
behind_front front bytes = if starts_with nat_eq bytes front then Some (drop (length front) bytes) else None

-- the version of a line, or none where the line has neither form
unfoldable pub line_version : List ℕ → Option ℕ
line_version line =
    option_and_then version_of (option_or (behind_front (codes "NetImmerse File Format, Version ") line)
    (behind_front (codes "Gamebryo File Format, Version ") line))
