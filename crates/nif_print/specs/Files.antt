-- What is printed of a file: a line of what it has, or why it is refused.
use Rattle.std.specs.Prelude.{ℕ, List, [], ◌∷◌, ◌++◌, codes, decimal}
use Rattle.std.specs.Int.{to_be_bytes, w32}
use Rattle.nif_schema.specs.declared.faults.Closed.{Closed}
use Rattle.nif_schema.specs.declared.faults.Closed.TheVariants.{C0, C1, C2, C3, C4, C5, C6, C7, C8, C9, C10, C11, C12, C13}
use Rattle.nif_file.specs.declared.faults.FileFault.{FileFault}
use Rattle.nif_file.specs.declared.faults.FileFault.TheVariants as file
use Rattle.nif_print.specs.Quoted.{quoted}

-- numbers with a dot between two of them
abbrev pub dotted : List ℕ → List ℕ
dotted [] = []
dotted (n ∷ []) = decimal n
dotted (n ∷ m ∷ rest) = decimal n ++ (codes "." ++ dotted (m ∷ rest))

-- a version, as its four parts
abbrev pub version_text : ℕ → List ℕ
version_text number = dotted (to_be_bytes w32 number)

-- a number behind a label, and another behind a second one
abbrev pub counted : List ℕ → ℕ → List ℕ
counted label n = label ++ decimal n

abbrev pub counted_twice : List ℕ → ℕ → List ℕ → ℕ → List ℕ
counted_twice first n second m = counted first n ++ counted second m

-- of a block, by its number
abbrev pub of_block : List ℕ → ℕ → List ℕ → List ℕ
of_block label block rest = counted label block ++ rest

-- the number of the reason of a closed type
abbrev pub reason_number : Closed → ℕ
reason_number C0 = 0
reason_number C1 = 1
reason_number C2 = 2
reason_number C3 = 3
reason_number C4 = 4
reason_number C5 = 5
reason_number C6 = 6
reason_number C7 = 7
reason_number C8 = 8
reason_number C9 = 9
reason_number C10 = 10
reason_number C11 = 11
reason_number C12 = 12
reason_number C13 = 13

-- why a file is refused; what is none of the file has the text of its own fault
abbrev pub file_fault_text : FileFault → List ℕ
file_fault_text (file.Ended at) = counted (codes "file F1: ended at ") at
file_fault_text (file.Trailing at) = counted (codes "file F2: trailing at ") at
file_fault_text file.TooLong = codes "file F3: too long"
file_fault_text (file.LineTooLong at) = counted (codes "file F4: line too long at ") at
file_fault_text file.BadLine = codes "file F5: bad line"
file_fault_text (file.VersionRange number) = codes "file F6: version " ++ (version_text number ++ codes " out of range")
file_fault_text (file.VersionDisagrees line field) =
    (codes "file F7: line version " ++ version_text line) ++ (codes ", field version " ++ version_text field)
file_fault_text (file.EndianValue value) = counted (codes "file F8: endian value ") value
file_fault_text (file.BsRange value) = counted (codes "file F10: BS version ") value
file_fault_text (file.TooManyBlocks count) = counted (codes "file F11: ") count ++ codes " blocks"
file_fault_text (file.TypeIndex block index) =
    counted_twice (codes "file F12: block ") block (codes " type index ") index
file_fault_text (file.UnknownType block name) =
    of_block (codes "file F13: block ") block (codes " unknown type ") ++ quoted name
file_fault_text (file.AbstractType block) = of_block (codes "file F14: block ") block (codes " abstract type")
file_fault_text (file.ClosedType block reason) =
    of_block (codes "file F15: block ") block (counted (codes " closed type C") (reason_number reason))
file_fault_text (file.CheckWord block value) =
    counted_twice (codes "file F16: block ") block (codes " check word ") value
file_fault_text (file.BlockSize block stated used) =
    of_block (codes "file F17: block ") block (counted_twice (codes " size ") stated (codes ", used ") used)
file_fault_text (file.RefRange at value) = counted_twice (codes "file F18: reference ") value (codes " at ") at
file_fault_text (file.StringRange at value) = counted_twice (codes "file F19: text ") value (codes " at ") at
file_fault_text (file.TooDeep at) = counted (codes "file F20: too deep at ") at
file_fault_text (file.TooManyNodes at) = counted (codes "file F21: too many nodes at ") at
file_fault_text (file.TooManyTypes count) = counted (codes "file F22: ") count ++ codes " types"
file_fault_text file.NoTypeList = codes "file F23: no type list"
file_fault_text file.ReadFault = codes "read fault"
file_fault_text file.NoMemory = codes "no memory"

-- the line of a file that is accepted: its version, and how many blocks, bytes and nodes it has
abbrev pub summary_text : ℕ → ℕ → ℕ → ℕ → List ℕ
summary_text version blocks bytes nodes =
    (codes "ok " ++ version_text version) ++ (counted_twice (codes " blocks ") blocks (codes " bytes ") bytes
    ++ (counted (codes " nodes ") nodes ++ codes "\n"))
