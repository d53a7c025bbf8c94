use Rattle.std.proofs.Common.{◌≡◌, ◌+◌, refl, subst, sym, arith}
use Rattle.nif_stream.specs.Putting.{Puts}
use Rattle.nif_stream.specs.PutterLaws.{puts_more, fails_more}
use Rattle.nif_file.specs.PartsText.{WalksHeader, members_text, written_header}
use Rattle.nif_file.proofs.PartsPuts.{puts_none}
use Rattle.nif_file.proofs.HeaderPuts.{no_members, members_more, members_rest}
use Rattle.nif_file.proofs.encode_header.put_members.Goals as goal

pub loop-member-init : goal.loop-member-init
loop-member-init g c = record {
  puts = subst (λ l. Puts g.K.Sink.grew g.K.Sink.write_faults c.args.out.now l c.args.out.now) (sym (no_members c.args.order c.args.from (written_header c.args.graph.now))) (puts_none g.K.Sink.grew g.K.Sink.write_faults c.args.out.now c.requires.sound);
  walks = λ members w. w;
}

pub put_member-requires-clause-walks : goal.put_member-requires-clause-walks
put_member-requires-clause-walks g c =
    let walks = c.requires.walks in
    let within : walks.0 ≡ walks.0 = refl in
    (walks.0, omega (arith, walks.1, c.loop-member-test.true), c.loop-member.invariant.walks walks.0 walks.2)

pub returns-in-Err-clause-err : goal.returns-in-Err-clause-err
returns-in-Err-clause-err g c =
    fails_more g.K.Sink.grew g.K.Sink.write_faults c.args.out.now c.loop-member.out c.put_member.new.out
    (members_text c.args.order c.args.from c.loop-member.member (written_header c.args.graph.now)) (members_text c.args.order c.loop-member.member (c.loop-member.member + 1) (written_header c.args.graph.now))
    (members_text c.args.order (c.loop-member.member + 1) c.args.to (written_header c.args.graph.now)) (members_text c.args.order c.args.from c.args.to (written_header c.args.graph.now))
    c.loop-member.invariant.puts c.in-Err.ensures.err
    (members_rest c.args.order c.args.from c.loop-member.member c.args.to (written_header c.args.graph.now) (omega arith) (omega arith))

pub loop-member-preserved : goal.loop-member-preserved
loop-member-preserved g c = record {
  puts = puts_more g.K.Sink.grew g.K.Sink.write_faults c.args.out.now c.loop-member.out c.put_member.new.out
      (members_text c.args.order c.args.from c.loop-member.member (written_header c.args.graph.now)) (members_text c.args.order c.loop-member.member (c.loop-member.member + 1) (written_header c.args.graph.now))
      (members_text c.args.order c.args.from (c.loop-member.member + 1) (written_header c.args.graph.now))
      c.loop-member.invariant.puts c.in-Ok.ensures.ok
      (members_more c.args.order c.args.from c.loop-member.member (written_header c.args.graph.now) (omega arith));
  walks = λ members w. c.in-Ok.ensures.walks members (c.loop-member.invariant.walks members w);
}

pub returns-clause-ok : goal.returns-clause-ok
returns-clause-ok g c =
    let end : c.loop-member.member ≡ c.args.to = omega arith in
    subst (λ k. Puts g.K.Sink.grew g.K.Sink.write_faults c.args.out.now (members_text c.args.order c.args.from k (written_header c.args.graph.now)) c.loop-member.out) end c.loop-member.invariant.puts

pub returns-clause-walks : goal.returns-clause-walks
returns-clause-walks g c members w =
    let end : c.loop-member.member ≡ c.args.to = omega arith in
    subst (λ k. WalksHeader c.args.graph.now members k c.loop-member.walk.ahead) end (c.loop-member.invariant.walks members w)
