-- The attributes of an element. One whose value is empty counts as missing.
use Rattle.std.specs.Prelude.{ℕ, Bool, true, false, List, [], ◌∷◌, codes, if◌then◌else◌, ◌&&◌, None, Some, option_and_then}
use Rattle.std.specs.declared.option.Option.{Option}
use Rattle.std.specs.Option.{option_or}
use Rattle.std.specs.Str.{bytes_eq}
use Rattle.nif_attributes.specs.declared.tokens.Expanded.{Expanded}
use Rattle.nif_attributes.specs.declared.tokens.Attribute.{Attribute}
use Rattle.nif_attributes.specs.declared.tokens.Attribute.TheVariants as the
use Rattle.nif_attributes.specs.Tokens.{Group, value_of, expanded, name_of_attribute}

abbrev pub Text : Type 0
Text = List ℕ

-- pairs of a name and a value
abbrev pub Attrs : Type 0
Attrs = List (Text × Text)

abbrev pub unless_empty : Text → Option Text
unless_empty [] = None
unless_empty (b ∷ text) = Some (b ∷ text)

-- the value of the attribute of a name, where an empty value counts as missing
unfoldable pub given : Attrs → Text → Option Text
given attrs name = option_and_then unless_empty (value_of attrs name)

-- how an attribute is spelled in older schemas, where that differs
abbrev pub older : Attribute → Option Text
older the.Length = Some (codes "arr1")
older the.Width = Some (codes "arr2")
older the.Since = Some (codes "ver1")
older the.Until = Some (codes "ver2")
older _ = None

-- The text of an attribute of a field, as it is written. The older spelling counts where the newer one is missing.
unfoldable pub written : Attrs → Attribute → Option Text
written attrs attribute =
    option_or (given attrs (name_of_attribute attribute)) (option_and_then (given attrs) (older attribute))

-- `type` and `template` name a type
abbrev pub names_type : Attribute → Bool
names_type the.Type = true
names_type the.Template = true
names_type _ = false

-- The older spelling of `#T#` is `TEMPLATE`, where it is the whole text.
unfoldable pub newer : Attribute → Text → Text
newer attribute text = if names_type attribute && bytes_eq text (codes "TEMPLATE") then codes "#T#" else text

abbrev pub unless_nothing : Expanded → Option Expanded
unless_nothing e = option_and_then (λ _. Some e) (unless_empty e.text)

-- how the tokens of groups are replaced in the text of an attribute
unfoldable pub replaced_by : List Group → Attribute → Text → Expanded
replaced_by groups attribute text = expanded groups (name_of_attribute attribute) text

-- The text of an attribute of a field: older spellings first, and then tokens, whose replacement is `replaced`.
-- A text that is empty then counts as missing.
unfoldable pub text_of : (Attribute → Text → Expanded) → Attrs → Attribute → Option Expanded
text_of replaced attrs attribute =
    option_and_then (λ text. unless_nothing (replaced attribute (newer attribute text))) (written attrs attribute)
