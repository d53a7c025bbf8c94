-- The edits that a script spells, and its first line of no form.
use Rattle.std.specs.Prelude.{ℕ, ◌^◌, ◌≡◌, Bool, List, [], ◌∷◌, ◌++◌, None, Some}
use Rattle.std.specs.List.{position_from}
use Rattle.std.specs.declared.option.Option.{Option}
use Rattle.std.specs.Option.{option_map, is_none}
use Rattle.nif_edit.specs.declared.edits.Edit.{Edit}
use Rattle.nif_script.specs.declared.faults.ScriptFault.{ScriptFault}
use Rattle.nif_script.specs.declared.faults.ScriptFault.TheVariants as fault
use Rattle.nif_script.specs.Forms.{Text, pieces, both, edit_of}

-- the most bytes of a script
abbrev pub most_script_bytes : ℕ
most_script_bytes = 2 ^ 20

abbrev pub edit_of_words : List Text → Option Edit
edit_of_words [] = None
edit_of_words (verb ∷ words) = edit_of verb words

-- The edits of a line: an empty line is no edit, and each other one is one edit, or of no form. One blank, 0x20, stands
-- between two words.
unfoldable pub line_of : Text → Option (List Edit)
line_of [] = Some []
line_of (byte ∷ text) = option_map (λ edit. edit ∷ []) (edit_of_words (pieces 0x20 (byte ∷ text)))

-- The lines of a script: each ends with 0x0A, but for the last. Behind a last 0x0A stands an empty one, which says
-- nothing.
abbrev pub lines_of : Text → List Text
lines_of script = pieces 0x0A script

-- the edits of all these lines, in order
abbrev pub edits_in : List Text → Option (List Edit)
edits_in [] = Some []
edits_in (line ∷ lines) = both (λ edits more. edits ++ more) (line_of line) (edits_in lines)

-- the edits that a script spells, or none where one of its lines is of no form
unfoldable pub edits_of : Text → Option (List Edit)
edits_of script = edits_in (lines_of script)

abbrev pub is_bad : Text → Bool
is_bad line = is_none (line_of line)

-- the first line of no form, counted from 1
unfoldable pub bad_line : Text → Option ℕ
bad_line script = position_from is_bad 1 (lines_of script)

-- What a fault says of the script. Its length is for the caller to look at, so `ScriptTooLong` says what never holds.
abbrev pub IsRefused : Text → ScriptFault → Type 0
IsRefused script (fault.NotALine line) = bad_line script ≡ Some line
IsRefused script fault.ScriptTooLong = ⊥
IsRefused script fault.NoMemory = Unit {0}
