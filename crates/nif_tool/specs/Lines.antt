-- The line that is printed of a refusal.
use Rattle.std.specs.Prelude.{ℕ, List, ◌++◌, codes}
use Rattle.nif_print.specs.Refusals.{schema_fault_text}
use Rattle.nif_print.specs.Files.{file_fault_text}
use Rattle.nif_tool.specs.declared.report.Fault.{Fault}
use Rattle.nif_tool.specs.declared.report.Fault.TheVariants as fault

abbrev pub fault_text : Fault → List ℕ
fault_text fault.Usage = codes "usage: schema S | check S F | refs S F | copy S F OUT"
fault_text (fault.Schema refusal) = schema_fault_text refusal
fault_text (fault.File refusal) = file_fault_text refusal
fault_text fault.OpenFault = codes "open fault"
fault_text fault.ReadFault = codes "read fault"
fault_text fault.WriteFault = codes "write fault"
fault_text fault.PrintFault = codes "print fault"
fault_text fault.NoMemory = codes "no memory"

abbrev pub line_of : Fault → List ℕ
line_of refusal = codes "nif: " ++ (fault_text refusal ++ codes "\n")
