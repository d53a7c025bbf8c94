-- Laws of the faults of values as faults of files, and of headers as those of their files.
use Rattle.std.proofs.Common.{◌≡◌, ◌≢◌, ℕ, inl, inr, List, length, refl}
use Rattle.nif_schema.specs.Schema.{Schema}
use Rattle.nif_layout.specs.Fault.{Fault}
use Rattle.nif_decode.specs.declared.faults.ValueFault.{ValueFault}
use Rattle.nif_decode.specs.Faults.{OfValue, OfRead, cause, known}
use Rattle.nif_file.specs.Stops.{Stop, of_value}
use Rattle.nif_file.specs.FileFails.{start_of, FileStops}
use Rattle.nif_file.specs.HeaderReading.{HeaderStops, fault_of}
use Rattle.nif_layout.specs.Fault as plain
use Rattle.nif_decode.specs.declared.faults.ValueFault.TheVariants as fault
use Rattle.nif_file.specs.declared.faults.FileFault.TheVariants as file

-- what stops a header stops its file
pub header_stops_file : (S : Schema) (bytes : List ℕ) (stop : Stop)
    → HeaderStops S (length bytes) (start_of bytes) stop → FileStops S bytes stop
header_stops_file S bytes stop (inl bad) = inl bad
header_stops_file S bytes stop (inr bad) = inr (bad.0, bad.1, bad.2, inl bad.3)

pub fault_value : (f : ValueFault) → fault_of f ≢ file.ReadFault → fault_of f ≢ file.NoMemory
    → (v : Fault) × (cause f ≡ OfValue v) ×
    ((total : ℕ) → of_value total v ≡ record { fault = fault_of f; known = known total v })
fault_value (fault.Ended at) r m = (plain.Ended at, refl, λ total. refl)
fault_value fault.TooLong r m = (plain.TooLong, refl, λ total. refl)
fault_value (fault.LineTooLong at) r m = (plain.LineTooLong at, refl, λ total. refl)
fault_value (fault.RefRange at value) r m = (plain.RefRange at value, refl, λ total. refl)
fault_value (fault.StringRange at value) r m = (plain.StringRange at value, refl, λ total. refl)
fault_value (fault.TooDeep at) r m = (plain.TooDeep at, refl, λ total. refl)
fault_value (fault.TooManyNodes at) r m = (plain.TooManyNodes at, refl, λ total. refl)
fault_value fault.ReadFault r m = absurd (r refl)
fault_value fault.NoMemory r m = absurd (m refl)

pub fault_read : (f : ValueFault) → fault_of f ≡ file.ReadFault → cause f ≡ OfRead
fault_read (fault.Ended at) e = absurd (cc)
fault_read fault.TooLong e = absurd (cc)
fault_read (fault.LineTooLong at) e = absurd (cc)
fault_read (fault.RefRange at value) e = absurd (cc)
fault_read (fault.StringRange at value) e = absurd (cc)
fault_read (fault.TooDeep at) e = absurd (cc)
fault_read (fault.TooManyNodes at) e = absurd (cc)
fault_read fault.ReadFault e = refl
fault_read fault.NoMemory e = absurd (cc)
