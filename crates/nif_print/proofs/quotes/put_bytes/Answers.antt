use Rattle.std.proofs.Common.{◌+◌, ◌++◌, [], take, drop, slice_index_or, refl, ap, ◌∙◌, arith}
use Rattle.nif_stream.specs.PutterLaws.{adds_none, puts_more, fails_more}
use Rattle.nif_print.specs.Quoted.{quoted_byte, quoted_bytes}
use Rattle.nif_print.proofs.Quoting.{quoted_next, quoted_rest}
use Rattle.nif_print.proofs.quotes.put_bytes.Goals as goal

pub loop-byte-init : goal.loop-byte-init
loop-byte-init g c = record { same_reference = refl; later = omega arith; sound = c.requires; adds = adds_none g.K.Sink.grew c.args.out.now [] refl }

pub loop-byte-preserved : goal.loop-byte-preserved
loop-byte-preserved g c =
    let i = c.loop-byte.byte-index in
    let bytes = c.args.bytes.now in
    puts_more g.K.Sink.grew g.K.Sink.write_faults c.args.out.now c.loop-byte.out c.put_byte.new.out (quoted_bytes (take i bytes)) (quoted_byte (slice_index_or bytes i 0)) (quoted_bytes (take (i + 1) bytes))
    c.loop-byte.invariant c.in-Ok.ensures.ok (quoted_next bytes i 0 c.loop-byte-test.true)

pub returns-in-Err-clause-err : goal.returns-in-Err-clause-err
returns-in-Err-clause-err g c =
    let i = c.loop-byte.byte-index in
    let bytes = c.args.bytes.now in
    fails_more g.K.Sink.grew g.K.Sink.write_faults c.args.out.now c.loop-byte.out c.put_byte.new.out (quoted_bytes (take i bytes)) (quoted_byte (slice_index_or bytes i 0)) (quoted_bytes (drop (i + 1) bytes)) (quoted_bytes bytes)
    c.loop-byte.invariant c.in-Err.ensures.err (ap (λ x. x ++ quoted_bytes (drop (i + 1) bytes)) (quoted_next bytes i 0 c.loop-byte-test.true) ∙ quoted_rest (i + 1) bytes)
