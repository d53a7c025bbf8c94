-- What a taker has still to give, and the fault of a call that needs bytes.
use Rattle.std.specs.Prelude.{◌≡◌, ◌≢◌, ℕ, ◌+◌, ◌-◌, ◌≤◌, min, nat_lt, ◌&&◌, ◌==◌, if◌then◌else◌, List, length, take, slice_range, position, None, Some, IfSome}
use Rattle.std.specs.declared.option.Option.{Option}
use Rattle.std.specs.Option.{option_map_or}
use Rattle.std.specs.Borrow.{MutBor}
use Rattle.nif_base.specs.Limits.{most_file_bytes}
use Rattle.nif_base.specs.Outside.{prepended, Rose}
use Rattle.nif_base.specs.Reading.{TakesAtMost}
use Rattle.nif_stream.specs.declared.takers.Held.{Held}
use Rattle.nif_stream.specs.declared.takers.Taker.{Taker}
use Rattle.nif_stream.specs.declared.takers.TakeFault.{TakeFault}
use Rattle.nif_stream.specs.declared.takers.TakeFault.TheVariants.{Ended, LineTooLong, TooLong, ReadFault}

-- the bytes of a buffer
abbrev pub bytes_of : Held → List ℕ
bytes_of held = slice_range held.buf held.from held.to

-- the source of the taker, as it stands
abbrev pub source_of : {S : Type 0} → Taker S → S
source_of taker = taker.source.now

-- the taker reads through this reference
abbrev pub ReadsFrom : {S : Type 0} → Taker S → MutBor S → Type 0
ReadsFrom taker reference = taker.source.ghost_name ≡ reference.ghost_name

-- how many bytes were taken
abbrev pub place_of : {S : Type 0} → Taker S → ℕ
place_of taker = taker.place.taken

-- the fault that was answered, and is answered from then on
abbrev pub fault_of : {S : Type 0} → Taker S → Option TakeFault
fault_of taker = taker.fault

-- no fault was answered
abbrev pub IsSound : {S : Type 0} → Taker S → Type 0
IsSound taker = taker.fault ≡ None

-- the bytes that are still to come, where they are told: those that are held, and then those of the source
abbrev pub left_of : {S : Type 0} → (S → Option (List ℕ)) → Taker S → Option (List ℕ)
left_of left taker = prepended (bytes_of taker.held) (left (source_of taker))

-- how many bytes the source gave beyond those that were taken
abbrev pub ahead_of : {S : Type 0} → Taker S → ℕ
ahead_of taker = length (bytes_of taker.held)

-- The fault of a call that needs so many bytes at a place, where these are the bytes left: `TooLong` where the bytes
-- needed go past the place 2^26 and there are more than 2^26 bytes in all, else `Ended` where fewer are left.
unfoldable pub need_fault : ℕ → ℕ → List ℕ → Option TakeFault
need_fault place need left =
    if nat_lt (most_file_bytes) (place + need) && nat_lt (most_file_bytes) (place + length left) then Some TooLong
    else if nat_lt (length left) need then Some Ended else None

-- of so many bytes that are asked for at a place, those up to the place 2^26 and one more
abbrev pub asked_at : ℕ → ℕ → ℕ
asked_at place need = min need (most_file_bytes + 1 - place)

-- the place of the first 0x0A among the next 256 bytes
abbrev pub line_end : List ℕ → Option ℕ
line_end left = position (λ c. c == 10) (take 256 left)

-- The fault of a line: it needs the bytes up to and with the first 0x0A where this is among the next 256, else 256
-- bytes; `LineTooLong` where these are there and none of them is 0x0A.
unfoldable pub line_fault : ℕ → List ℕ → Option TakeFault
line_fault place left = option_map_or (λ end. need_fault place (end + 1) left) (line_end left)
    (option_map_or (λ fault. Some fault) (need_fault place 256 left) (Some LineTooLong))

-- whatever was read before, nothing but reads was done since
unfoldable pub KeepsStill : {S : Type 0} → (S → S → Type 0) → Taker S → Taker S → Type 0
KeepsStill {S = S} still old new = (start : S) → still start (source_of old) → still start (source_of new)

-- these bytes were given, and the place stands
pub record Reads {S : Type 0} (left : S → Option (List ℕ)) (still : S → S → Type 0) (faults : S → ℕ) (old : Taker S)
    (bytes : List ℕ) (new : Taker S) : Type 0 where
  pub same_reference : new.source.ghost_name ≡ old.source.ghost_name
  pub keeps : KeepsStill still old new
  pub later : faults (source_of old) ≤ faults (source_of new)
  pub sound : IsSound new
  pub place : place_of new ≡ place_of old
  pub given : left_of left old ≡ prepended bytes (left_of left new)

-- a call took these bytes
pub record Takes {S : Type 0} (left : S → Option (List ℕ)) (still : S → S → Type 0) (faults : S → ℕ) (old : Taker S)
    (bytes : List ℕ) (new : Taker S) : Type 0 where
  pub same_reference : new.source.ghost_name ≡ old.source.ghost_name
  pub keeps : KeepsStill still old new
  pub later : faults (source_of old) ≤ faults (source_of new)
  pub sound : IsSound new
  pub ahead : ahead_of new ≤ 4096
  pub place : place_of new ≡ place_of old + length bytes
  pub within : place_of new ≤ most_file_bytes
  pub given : left_of left old ≡ prepended bytes (left_of left new)

-- A call answered this fault. Where none was answered before, it is `ReadFault` and the source's count rose, or it is
-- the fault of the bytes left, where they are told. The source gave at most 4,096 bytes more than those asked for.
pub record Misses {S : Type 0} (left : S → Option (List ℕ)) (still : S → S → Type 0) (faults : S → ℕ) (old : Taker S)
    (expected : List ℕ → Option TakeFault) (asked : ℕ) (new : Taker S) (fault : TakeFault) : Type 0 where
  pub same_reference : new.source.ghost_name ≡ old.source.ghost_name
  pub keeps : KeepsStill still old new
  pub later : faults (source_of old) ≤ faults (source_of new)
  pub stays : fault_of new ≡ Some fault
  pub place : place_of new ≡ place_of old
  pub rose : IsSound old → fault ≡ ReadFault → Rose (faults (source_of old)) (faults (source_of new))
  pub told : IsSound old → fault ≢ ReadFault → IfSome (left_of left old) (λ bytes. expected bytes ≡ Some fault)
  pub taken : IsSound old → TakesAtMost (asked + 4096) (left_of left old) (left (source_of new))
