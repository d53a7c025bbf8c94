-- What parts of the code keep and say.
use Rattle.std.specs.Prelude.{ℕ, ◌≡◌, ◌≤◌, List, ◌++◌, length, None, Some, All}
use Rattle.std.specs.Option.{option_map}
use Rattle.nif_edit.specs.declared.edits.Edit.{Edit}
use Rattle.nif_script.specs.declared.faults.ScriptFault.{ScriptFault}
use Rattle.nif_script.specs.declared.faults.ScriptFault.TheVariants as fault
use Rattle.nif_script.specs.Forms.{Text}
use Rattle.nif_script.specs.Scripts.{line_of}

-- none of the texts has more bytes
abbrev pub AreWithin : ℕ → List Text → Type 0
AreWithin most texts = All (λ text. length text ≤ most) texts

-- the edits of a line were put behind those before it
abbrev pub Adds : Text → List Edit → List Edit → Type 0
Adds line before after = option_map (λ edits. before ++ edits) (line_of line) ≡ Some after

-- what a fault says of the line of this number
abbrev pub IsRefusedAt : ℕ → Text → ScriptFault → Type 0
IsRefusedAt number line (fault.NotALine at) = (at ≡ number) × (line_of line ≡ None)
IsRefusedAt number line fault.ScriptTooLong = ⊥
IsRefusedAt number line fault.NoMemory = Unit {0}
