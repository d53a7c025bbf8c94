-- A fault of a schema or of a file as a fault of a command.
use Rattle.std.specs.Prelude.{◌≡◌, ◌≢◌}
use Rattle.nif_schema.specs.declared.faults.SchemaFault.{SchemaFault}
use Rattle.nif_schema.specs.declared.faults.SchemaFault.TheVariants as schema_faults
use Rattle.nif_file.specs.declared.faults.FileFault.{FileFault}
use Rattle.nif_file.specs.declared.faults.FileFault.TheVariants as file_faults
use Rattle.nif_tool.specs.declared.report.Fault.{Fault}
use Rattle.nif_tool.specs.declared.report.Fault.TheVariants as fault

abbrev pub refusal_of : SchemaFault → Fault
refusal_of schema_faults.NoMemory = fault.NoMemory
refusal_of refusal = fault.Schema refusal

-- what is none of the file is a fault of its own
abbrev pub IsFailure : FileFault → Fault → Type 0
IsFailure refusal fault.ReadFault = refusal ≡ file_faults.ReadFault
IsFailure refusal fault.NoMemory = refusal ≡ file_faults.NoMemory
IsFailure refusal (fault.File same) = (same ≡ refusal) × (refusal ≢ file_faults.ReadFault)
    × (refusal ≢ file_faults.NoMemory)
IsFailure refusal _ = ⊥
