-- What a source in memory was told to do.
use Rattle.std.specs.Prelude.{ℕ}
use Rattle.nif_base.specs.MemCalls.{Calls}
use Rattle.nif_base.specs.declared.mem_source.MemSource.{MemSource}

-- its calls, and the one that is to fail
abbrev pub calls_of : MemSource → Calls
calls_of s = s.calls

-- how many bytes a call gives at most
abbrev pub piece_of : MemSource → ℕ
piece_of s = s.piece
