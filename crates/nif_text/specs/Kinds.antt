-- The kinds of bytes that stand in runs.
use Rattle.std.specs.Prelude.{ℕ, Bool}
use Rattle.nif_base.specs.Ascii.{is_blank}
use Rattle.nif_text.specs.Bytes.{is_name_byte}
use Rattle.nif_text.specs.Comments.{is_type_byte}
use Rattle.nif_text.specs.Elements.{is_text_byte}
use Rattle.nif_text.specs.declared.cursor.Kind.{Kind}
use Rattle.nif_text.specs.declared.cursor.Kind.TheVariants as kinds

abbrev pub passes : Kind → ℕ → Bool
passes kinds.Blank = is_blank
passes kinds.Name = is_name_byte
passes kinds.Type = is_type_byte
passes kinds.Text = is_text_byte
