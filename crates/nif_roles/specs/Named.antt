-- What a look-up of the fields of a name found.
use Rattle.std.specs.Prelude.{◌≡◌, List, [], ◌∷◌}
use Rattle.nif_schema.specs.Declaration.{Field, field}
use Rattle.nif_roles.specs.declared.fields.Named.{Named}
use Rattle.nif_roles.specs.declared.fields.Named.TheVariants as named

abbrev pub AreNamed : List Field → Named → Type 0
AreNamed fields named.No = fields ≡ []
AreNamed fields (named.One of) = fields ≡ field of.now ∷ []
AreNamed fields named.More = (f g : Field) × (rest : List Field) × (fields ≡ f ∷ g ∷ rest)
