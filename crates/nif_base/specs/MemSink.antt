-- What a sink in memory was told to do.
use Rattle.std.specs.Prelude.{ℕ}
use Rattle.nif_base.specs.MemCalls.{Calls}
use Rattle.nif_base.specs.declared.mem_sink.MemSink.{MemSink}

-- its calls, and the one that is to fail
abbrev pub calls_of : MemSink → Calls
calls_of s = s.calls

-- how many bytes a call takes at most
abbrev pub piece_of : MemSink → ℕ
piece_of s = s.piece
