-- What is printed of a schema that is refused.
use Rattle.std.specs.Prelude.{ℕ, List, ◌++◌, codes, decimal}
use Rattle.nif_schema.specs.declared.faults.SchemaFault.{SchemaFault}
use Rattle.nif_schema.specs.declared.faults.SchemaFault.TheVariants.{NotWritten, NoRoot, MissingName, DuplicateName, BadToken, HeaderRole, SchemaTooLong, NoMemory}

-- the text of a fault of a schema, or of want of memory
abbrev pub schema_fault_text : SchemaFault → List ℕ
schema_fault_text (NotWritten after) = codes "schema S1: not written after " ++ (decimal after ++ codes " elements")
schema_fault_text NoRoot = codes "schema S2: no root"
schema_fault_text (MissingName element) = codes "schema S3: missing name in element " ++ decimal element
schema_fault_text (DuplicateName name) = codes "schema S4: duplicate name " ++ name
schema_fault_text (BadToken element) = codes "schema S5: bad token in element " ++ decimal element
schema_fault_text (HeaderRole rule) = codes "schema S6: header rule H" ++ decimal rule
schema_fault_text SchemaTooLong = codes "schema S7: too long"
schema_fault_text NoMemory = codes "no memory"
