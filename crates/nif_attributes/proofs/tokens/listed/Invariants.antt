use Rattle.std.proofs.Common.{◌≡◌, take}
use Rattle.std.specs.List.{filter, list_any, slice_split}
use Rattle.std.specs.Str.{bytes_eq}
use Rattle.nif_base.specs.Ascii.{is_blank}
use Rattle.nif_attributes.specs.Tokens.{name_of_attribute}
use Rattle.nif_attributes.proofs.tokens.listed.Given as goal

abbrev pub invariant-loop-attribute : goal.invariant-loop-attribute
invariant-loop-attribute l = l.attributes.items ≡ filter (λ a. list_any (bytes_eq (name_of_attribute a)) (slice_split is_blank l.text)) (take l.attribute-index l.attribute-items)
