-- Why a step of reading a file was not done.
use Rattle.std.specs.Prelude.{ℕ, ◌≡◌, ◌≢◌, ◌+◌, ◌≤◌, List, length, IfSome}
use Rattle.std.specs.declared.option.Option.{Option}
use Rattle.nif_base.specs.Outside.{Rose}
use Rattle.nif_stream.specs.declared.takers.Taker.{Taker}
use Rattle.nif_stream.specs.Taking.{source_of, place_of, left_of}
use Rattle.nif_layout.specs.Fault.{Point}
use Rattle.nif_decode.specs.Answers.{Went}
use Rattle.nif_file.specs.declared.faults.FileFault.{FileFault}
use Rattle.nif_file.specs.declared.faults.FileFault.TheVariants as file
use Rattle.nif_file.specs.Stops.{Stop}

-- What stops a part of a file of so many bytes, from a point on.
abbrev pub Part : Type 1
Part = ℕ → Point → Stop → Type 0

-- The part stops with this fault, and at most 4,096 bytes behind those that show it are gone from the source.
pub record StopsHere (Stops : Part) (fault : FileFault) (rest : Option (List ℕ)) (at : Point) : Type 0 where
  pub known : ℕ
  pub stops : Stops (at.place + length at.left) at (record { fault = fault; known = known })
  pub gone : IfSome rest (λ left. at.place + length at.left ≤ known + 4096 + length left)

-- The part was not read, behind so many nodes: a read failed, memory ran out, or the bytes that are left show the
-- fault.
pub record Halts {S : Type 0} (left : S → Option (List ℕ)) (still : S → S → Type 0) (faults : S → ℕ) (Stops : Part)
    (nodes : ℕ) (old new : Taker S) (fault : FileFault) : Type 0 where
  pub went : Went still faults old new
  pub read : fault ≡ file.ReadFault → Rose (faults (source_of old)) (faults (source_of new))
  pub stops : fault ≢ file.ReadFault → fault ≢ file.NoMemory
      → IfSome (left_of left old) (λ bytes. StopsHere Stops fault (left (source_of new))
      (record { nodes = nodes; place = place_of old; left = bytes }))
