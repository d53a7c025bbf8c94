-- What is kept of tokens that are gathered.
use Rattle.std.specs.Prelude.{map}
use Rattle.nif_attributes.specs.declared.tokens.Gathered.{Gathered}
use Rattle.nif_attributes.specs.Listing.{text_of}
use Rattle.nif_attributes.specs.Finding.{IsIndex}

abbrev pub IsGathered : Gathered → Type 0
IsGathered gathered = IsIndex gathered.index (map text_of gathered.items.items)
