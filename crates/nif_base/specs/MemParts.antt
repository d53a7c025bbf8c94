-- What the parts of a shelf in memory tell.
use Rattle.std.specs.Prelude.{ℕ, List, [], None, Some, Vec, drop}
use Rattle.std.specs.declared.option.Option.{Option}
use Rattle.std.specs.Option.{option_map}
use Rattle.std.specs.declared.alloc.Global.{Global}
use Rattle.nif_base.specs.Shelf.{Desk, Refusal}
use Rattle.nif_base.specs.MemFiles.{all_files, output_of}
use Rattle.nif_base.specs.declared.mem_files.MemFiles.{MemFiles}
use Rattle.nif_base.specs.declared.mem_parts.MemInput.{MemInput}
use Rattle.nif_base.specs.declared.mem_parts.MemRefusals.{MemRefusals}

abbrev pub name_of : Option (Vec ℕ Global) → Option (List ℕ)
name_of input = option_map (λ n. n.items) input

-- the files, and the names of the input and of the output
abbrev pub desk_of : MemFiles → Option (Vec ℕ Global) → Desk
desk_of files input = record { files = all_files files; input = name_of input; output = output_of files }

-- the last open or create that failed
abbrev pub refusal_of : MemRefusals → Option Refusal
refusal_of r = option_map (λ f. record { kind = f.kind; name = f.name.items }) r.last

-- the bytes of an input that are still to come
abbrev pub rest_of : MemInput → List ℕ
rest_of given = drop given.at given.bytes.items

-- no byte is left where there is no input
abbrev pub rest_under : Option (Vec ℕ Global) → List ℕ → List ℕ
rest_under None bytes = []
rest_under (Some _) bytes = bytes
