-- The status of an answer.
use Rattle.std.specs.Prelude.{None, Some}
use Rattle.std.specs.declared.option.Option.{Option}
use Rattle.nif_tool.specs.declared.report.Fault.{Fault}
use Rattle.nif_tool.specs.declared.report.Fault.TheVariants.{Usage, Schema, File, OpenFault, ReadFault, WriteFault, PrintFault, NoMemory}
use Rattle.nif_tool.specs.declared.report.Status.{Status}
use Rattle.nif_tool.specs.declared.report.Status.TheVariants as status

abbrev pub status_of : Option Fault → Status
status_of None = status.Done
status_of (Some Usage) = status.Usage
status_of (Some (Schema _)) = status.SchemaRefused
status_of (Some (File _)) = status.FileRefused
status_of (Some OpenFault) = status.OutsideFault
status_of (Some ReadFault) = status.OutsideFault
status_of (Some WriteFault) = status.OutsideFault
status_of (Some PrintFault) = status.OutsideFault
status_of (Some NoMemory) = status.NoMemory
