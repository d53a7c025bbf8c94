-- What a cell says, by its kind: 0 an absent member, 1 an end, 2 a group, 3 a row, 4 a number in the file's order, 5 a
-- little number, 6 a line, 7 a run of bytes, 8 eight bytes, 9 the last bytes, 10 no text, 11 a text, 12 a reference's
-- place; from 16 on a reference: 1 more where it is strong, 2 more where it wants a type, 4 more where it has a target.
use Rattle.std.specs.Prelude.{ℕ, ◌+◌, ◌*◌, is_some, ◌%◌, ◌/◌, ◌^◌, Bool, true, false, Option, None, Some, if◌then◌else◌, nat_eq}
use Rattle.nif_region.specs.declared.cells.Cell.{Cell}
use Rattle.nif_cells.specs.declared.steps.RefView.{RefView}
use Rattle.nif_cells.specs.declared.contents.Content.{Content}
use Rattle.nif_cells.specs.declared.contents.Content.TheVariants.{Number, Word, Tail, Place}
use Rattle.nif_cells.specs.declared.contents.Content.TheVariants as content

-- a bit of a reference's kind
abbrev pub has_bit : ℕ → ℕ → Bool
has_bit kind bit = nat_eq (kind / bit % 2) 1

abbrev pub given : Bool → ℕ → Option ℕ
given true n = Some n
given false n = None

abbrev pub or_zero : Option ℕ → ℕ
or_zero None = 0
or_zero (Some n) = n

abbrev pub bit_of : Bool → ℕ
bit_of true = 1
bit_of false = 0

-- the kind of a reference
abbrev pub kind_of : RefView → ℕ
kind_of view = 16 + bit_of view.strong + 2 * bit_of (is_some view.wanted) + 4 * bit_of (is_some view.target)

-- the reference that a cell says
abbrev pub reference_in : Cell → RefView
reference_in c = record {
  strong = has_bit c.kind 1;
  wanted = given (has_bit c.kind 2) c.size;
  target = given
      (has_bit c.kind 4) (c.bits % 2 ^ 32);
}

abbrev pub content_of : Cell → Content
content_of c =
    if nat_eq c.kind 0 then content.Absent
    else if nat_eq c.kind 1 then content.End
    else if nat_eq c.kind 2 then content.Group c.size
    else if nat_eq c.kind 3 then content.Row c.size
    else if nat_eq c.kind 4 then Number (c.size % 256) false c.bits
    else if nat_eq c.kind 5 then Number (c.size % 256) true c.bits
    else if nat_eq c.kind 6 then content.Line c.size
    else if nat_eq c.kind 7 then content.Bytes c.size
    else if nat_eq c.kind 8 then Word c.bits
    else if nat_eq c.kind 9 then Tail c.size c.bits
    else if nat_eq c.kind 10 then content.Text None
    else if nat_eq c.kind 11 then content.Text (Some c.size)
    else if nat_eq c.kind 12 then Place c.size (c.bits % 2 ^ 32)
    else content.Reference (reference_in c)
