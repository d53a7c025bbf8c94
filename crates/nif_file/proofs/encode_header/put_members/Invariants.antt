use Rattle.nif_base.specs.Node.{Members}
use Rattle.nif_stream.specs.Putting.{Puts}
use Rattle.nif_file.specs.PartsText.{WalksHeader, members_text, written_header}
use Rattle.nif_file.proofs.encode_header.put_members.Given as goal

abbrev pub invariant-loop-member : goal.invariant-loop-member
invariant-loop-member g l = record {
  puts : Puts g.K.Sink.grew g.K.Sink.write_faults l.fn.out (members_text l.order l.from l.member (written_header l.graph)) l.out;
  walks : (members : Members) → WalksHeader l.graph members l.from l.fn.walk.ahead → WalksHeader l.graph members l.member l.walk.ahead;
}
