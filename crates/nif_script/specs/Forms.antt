-- The forms of a line: its words, with one blank between two of them, and the edit that they spell.
use Rattle.std.specs.Prelude.{ℕ, ◌-◌, ◌^◌, Bool, false, ◌&&◌, ◌==◌, nat_le, if◌then◌else◌, List, [], ◌∷◌, length, codes, None, Some, option_and_then}
use Rattle.std.specs.declared.option.Option.{Option}
use Rattle.std.specs.Option.{option_map}
use Rattle.std.specs.List.{list_all, slice_split}
use Rattle.std.specs.Str.{bytes_eq}
use Rattle.nif_base.specs.Ascii.{is_between}
use Rattle.nif_attributes.specs.Texts.{decimal}
use Rattle.nif_edit.specs.declared.edits.Edit.{Edit}
use Rattle.nif_edit.specs.declared.edits.Edit.TheVariants as edit

abbrev pub Text : Type 0
Text = List ℕ

-- what a text has before, between and behind the bytes of this kind
abbrev pub pieces : ℕ → Text → List Text
pieces mark text = slice_split (λ byte. byte == mark) text

abbrev pub leads_with_zero : Text → Bool
leads_with_zero (first ∷ next ∷ text) = first == 0x30
leads_with_zero _ = false

-- A number is a decimal of 0 to 2^32 - 1, without a leading zero.
unfoldable pub number_of : Text → Option ℕ
number_of word = if leads_with_zero word then None else decimal (2 ^ 32 - 1) word

-- The name of a type is one or more bytes of 0x21 to 0x7E.
abbrev pub is_name : Text → Bool
is_name word = nat_le 1 (length word) && list_all (is_between 0x21 0x7E) word

-- both values joined, where both are there
abbrev pub both : {A B C : Type 0} → (A → B → C) → Option A → Option B → Option C
both f a b = option_and_then (λ x. option_map (λ y. f x y) b) a

-- the numbers of words that all are numbers
abbrev pub numbers_of : List Text → Option (List ℕ)
numbers_of [] = Some []
numbers_of (word ∷ words) = both (λ number numbers. number ∷ numbers) (number_of word) (numbers_of words)

-- a number, or None where the word is this one in its place
abbrev pub number_or : Text → Text → Option (Option ℕ)
number_or none word = if bytes_eq word none then Some None else option_map Some (number_of word)

-- the words before and behind this one, where they are three
abbrev pub around : Text → List Text → Option (Text × Text)
around middle (before ∷ word ∷ behind ∷ []) = if bytes_eq word middle then Some (before, behind) else None
around middle _ = None

-- two numbers with this word between them
abbrev pub numbers_around : Text → List Text → Option (ℕ × ℕ)
numbers_around middle words =
    option_and_then (λ pair. both (λ one other. (one, other)) (number_of pair.0) (number_of pair.1))
    (around middle words)

-- remove N
unfoldable pub remove_of : List Text → Option Edit
remove_of (block ∷ []) = option_map edit.Remove (number_of block)
remove_of _ = None

-- copy N at P
unfoldable pub copy_of : List Text → Option Edit
copy_of words = option_map (λ two. edit.Copy two.0 two.1) (numbers_around (codes "at") words)

-- replace N with M
unfoldable pub replace_of : List Text → Option Edit
replace_of words = option_map (λ two. edit.Replace two.0 two.1) (numbers_around (codes "with") words)

-- move N to P
unfoldable pub move_of : List Text → Option Edit
move_of words = option_map (λ two. edit.Move two.0 two.1) (numbers_around (codes "to") words)

-- insert T at P
abbrev pub insert_in : Text × Text → Option Edit
insert_in pair = if is_name pair.0 then option_map (edit.Insert pair.0) (number_of pair.1) else None

unfoldable pub insert_of : List Text → Option Edit
insert_of words = option_and_then insert_in (around (codes "at") words)

-- reorder, then zero or more N
unfoldable pub reorder_of : List Text → Option Edit
reorder_of words = option_map edit.Reorder (numbers_of words)

-- point N K to M, where `roots` may stand for N, and `none` for M
abbrev pub point_in : Text → Text × Text → Option Edit
point_in from pair =
    option_and_then (λ source. both (edit.Point source) (number_of pair.0) (number_or (codes "none") pair.1))
    (number_or (codes "roots") from)

unfoldable pub point_of : List Text → Option Edit
point_of [] = None
point_of (from ∷ words) = option_and_then (point_in from) (around (codes "to") words)

-- the edit of a first word and those behind it, or none where they are of no form
unfoldable pub edit_of : Text → List Text → Option Edit
edit_of verb words =
    if bytes_eq verb (codes "remove") then remove_of words
    else if bytes_eq verb (codes "copy") then copy_of words
    else if bytes_eq verb (codes "insert") then insert_of words
    else if bytes_eq verb (codes "replace") then replace_of words
    else if bytes_eq verb (codes "move") then move_of words
    else if bytes_eq verb (codes "reorder") then reorder_of words
    else if bytes_eq verb (codes "point") then point_of words
    else None
