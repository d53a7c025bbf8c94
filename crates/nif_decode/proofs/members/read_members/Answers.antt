use Rattle.std.proofs.Common.{◌≡◌, ◌∙◌, refl, subst, arith}
use Rattle.nif_schema.specs.Declaration.{field}
use Rattle.nif_decode.specs.Answers.{stand}
use Rattle.nif_decode.specs.Faults.{cause}
use Rattle.nif_decode.specs.Scopes.{joined}
use Rattle.nif_decode.specs.MembersSoFar.{MembersSoFar}
use Rattle.nif_decode.proofs.MemberSteps.{is_field, members_first, members_step, members_fail, members_ready, members_group}
use Rattle.nif_decode.proofs.members.read_members.Goals as goal

pub loop-place-init : goal.loop-place-init
loop-place-init g c = record {
  behind = omega arith;
  within = c.requires.range;
  trees = refl;
  so_far = λ held h. members_first g.S.Source.left g.S.Source.still g.S.Source.read_faults c.args.at.now c.args.from held (stand c.args.taker.now c.args.nodes.now c.args.store.now c.args.told.now.items) c.requires.ready c.requires.counted h;
}

pub loop-place-preserved : goal.loop-place-preserved
loop-place-preserved g c = record {
  behind = omega (arith, c.loop-place.invariant.behind);
  within = omega (arith, c.loop-place-test.true);
  trees = c.read_member.ensures.trees ∙ c.loop-place.invariant.trees;
  so_far = λ held h.
      let s = c.loop-place.invariant.so_far held h in
      members_step g.S.Source.left g.S.Source.still g.S.Source.read_faults c.args.at.now c.args.from c.loop-place.place (field c.field_at-of.result.now) held (stand c.args.taker.now c.args.nodes.now c.args.store.now c.args.told.now.items)
      (stand c.loop-place.taker c.loop-place.nodes c.loop-place.store c.loop-place.told.items) (stand c.read_member.new.taker c.read_member.new.nodes c.read_member.new.store c.read_member.new.told.items)
      c.loop-place.invariant.behind c.field_at-of.ensures h s (c.in-Ok.ensures.answers (joined held s.more) s.kept.told);
}

pub read_member-requires-clause-field : goal.read_member-requires-clause-field
read_member-requires-clause-field g c = is_field c.args.at.now c.loop-place.place (field c.field_at-of.result.now) c.field_at-of.ensures

pub read_member-requires-clause-ready : goal.read_member-requires-clause-ready
read_member-requires-clause-ready g c =
    let h = c.requires.members in
    members_ready g.S.Source.left g.S.Source.still g.S.Source.read_faults c.args.at.now c.args.from c.loop-place.place h.0 (stand c.args.taker.now c.args.nodes.now c.args.store.now c.args.told.now.items) (stand c.loop-place.taker c.loop-place.nodes c.loop-place.store c.loop-place.told.items) h.1 (c.loop-place.invariant.so_far h.0 h.1)

pub read_member-requires-clause-group : goal.read_member-requires-clause-group
read_member-requires-clause-group g c =
    let h = c.requires.members in
    members_group g.S.Source.left g.S.Source.still g.S.Source.read_faults c.args.at.now c.args.from c.loop-place.place h.0 (stand c.args.taker.now c.args.nodes.now c.args.store.now c.args.told.now.items) (stand c.loop-place.taker c.loop-place.nodes c.loop-place.store c.loop-place.told.items) (c.loop-place.invariant.so_far h.0 h.1)

pub returns-in-Err-clause-answers : goal.returns-in-Err-clause-answers
returns-in-Err-clause-answers g c = λ held h.
    let s = c.loop-place.invariant.so_far held h in
    members_fail g.S.Source.left g.S.Source.still g.S.Source.read_faults c.args.at.now c.args.from c.loop-place.place c.args.to (field c.field_at-of.result.now) held (stand c.args.taker.now c.args.nodes.now c.args.store.now c.args.told.now.items)
    (stand c.loop-place.taker c.loop-place.nodes c.loop-place.store c.loop-place.told.items) (stand c.read_member.new.taker c.read_member.new.nodes c.read_member.new.store c.read_member.new.told.items) (cause c.in-Err.fault)
    c.loop-place.invariant.behind c.loop-place-test.true c.field_at-of.ensures h s (c.in-Err.ensures.answers (joined held s.more) s.kept.told)

pub returns-clause-answers : goal.returns-clause-answers
returns-clause-answers g c = λ held h.
    let same : c.loop-place.place ≡ c.args.to = omega (arith, c.loop-place-test.false, c.loop-place.invariant.within) in
    subst (λ k. MembersSoFar g.S.Source.left g.S.Source.still g.S.Source.read_faults c.args.at.now c.args.from k held (stand c.args.taker.now c.args.nodes.now c.args.store.now c.args.told.now.items) (stand c.loop-place.taker c.loop-place.nodes c.loop-place.store c.loop-place.told.items)) same
    (c.loop-place.invariant.so_far held h)
