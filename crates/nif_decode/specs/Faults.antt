-- What a fault of the code says, and how much of the source is gone where it comes.
use Rattle.std.specs.Prelude.{ℕ, ◌+◌, ◌≤◌, List, length, IfSome}
use Rattle.std.specs.declared.option.Option.{Option}
use Rattle.nif_base.specs.Limits.{most_file_bytes}
use Rattle.nif_stream.specs.declared.takers.TakeFault.{TakeFault}
use Rattle.nif_stream.specs.declared.takers.TakeFault.TheVariants as take
use Rattle.nif_layout.specs.Fault as plain
use Rattle.nif_layout.specs.Fault.{Fault}
use Rattle.nif_decode.specs.declared.faults.ValueFault.{ValueFault}
use Rattle.nif_decode.specs.declared.faults.ValueFault.TheVariants as fault

-- Why a value was not read: a fault of the value, a read that failed, or want of memory.
pub data Cause : Type 0 where
  OfValue : (fault : Fault) → Cause
  OfRead : Cause
  OfMemory : Cause

abbrev pub cause : ValueFault → Cause
cause (fault.Ended at) = OfValue (plain.Ended at)
cause fault.TooLong = OfValue plain.TooLong
cause (fault.LineTooLong at) = OfValue (plain.LineTooLong at)
cause (fault.RefRange at value) = OfValue (plain.RefRange at value)
cause (fault.StringRange at value) = OfValue (plain.StringRange at value)
cause (fault.TooDeep at) = OfValue (plain.TooDeep at)
cause (fault.TooManyNodes at) = OfValue (plain.TooManyNodes at)
cause fault.ReadFault = OfRead
cause fault.NoMemory = OfMemory

-- the cause of a taker's fault in a call that began at a place
abbrev pub take_cause : ℕ → TakeFault → Cause
take_cause at take.Ended = OfValue (plain.Ended at)
take_cause at take.LineTooLong = OfValue (plain.LineTooLong at)
take_cause at take.TooLong = OfValue plain.TooLong
take_cause at take.ReadFault = OfRead

-- The place up to which bytes are needed for a fault to be known, of a file of so many bytes.
abbrev pub known : ℕ → Fault → ℕ
known total (plain.Ended at) = total
known total plain.TooLong = most_file_bytes + 1
known total (plain.LineTooLong at) = at + 256
known total (plain.RefRange at value) = at + 4
known total (plain.StringRange at value) = at + 4
known total (plain.TooDeep at) = at
known total (plain.TooManyNodes at) = at

-- Of a file of so many bytes in all these are left in the source: at most 4,096 more are gone than were needed.
abbrev pub IsGone : ℕ → Fault → Option (List ℕ) → Type 0
IsGone total fault rest = IfSome rest (λ bytes. total ≤ known total fault + 4096 + length bytes)
