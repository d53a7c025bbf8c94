-- Where the reading of a file stops: with a fault, which is known at a place.
use Rattle.std.specs.Prelude.{ℕ, ◌+◌}
use Rattle.nif_base.specs.Limits.{most_file_bytes}
use Rattle.nif_layout.specs.Fault.{Fault, Ended, TooLong, LineTooLong, RefRange, StringRange, TooDeep, TooManyNodes}
use Rattle.nif_file.specs.declared.faults.FileFault.{FileFault}
use Rattle.nif_file.specs.declared.faults.FileFault.TheVariants as file

-- A fault of a file, and how many of its bytes show it.
pub record Stop : Type 0 where
  pub fault : FileFault
  pub known : ℕ

-- A fault of a value, in a file of so many bytes. That the bytes end is known at their end; that they are too many, one
-- byte past the most.
abbrev pub of_value : ℕ → Fault → Stop
of_value total (Ended at) = record { fault = file.Ended at; known = total }
of_value total TooLong = record { fault = file.TooLong; known = most_file_bytes + 1 }
of_value total (LineTooLong at) = record { fault = file.LineTooLong at; known = at + 256 }
of_value total (RefRange at value) = record { fault = file.RefRange at value; known = at + 4 }
of_value total (StringRange at value) = record { fault = file.StringRange at value; known = at + 4 }
of_value total (TooDeep at) = record { fault = file.TooDeep at; known = at }
of_value total (TooManyNodes at) = record { fault = file.TooManyNodes at; known = at }
