use Rattle.std.proofs.Common.{bytes_eq, Some, sym, ap, ◌∙◌}
use Rattle.nif_scope.proofs.BitNames.{named_here, named_past}
use Rattle.nif_scope.proofs.bits.bits_named.Goals as goal

pub returns-then-eq : goal.returns-then-eq
returns-then-eq c =
    ap (λ n. Some n) c.member_bits.ensures
    ∙ named_here c.args.name.now c.args.bits c.args.members.now c.loop-place.place c.get-member.result.now c.get-member.ensures
    (sym (c.eq.ensures ∙ ap (λ name. bytes_eq c.args.name.now name) c.bytes.ensures) ∙ c.if-eq.true)
    ∙ c.loop-place.invariant

pub loop-place-preserved : goal.loop-place-preserved
loop-place-preserved c =
    named_past c.args.name.now c.args.bits c.args.members.now c.loop-place.place c.get-member.result.now c.get-member.ensures
    (sym (c.eq.ensures ∙ ap (λ name. bytes_eq c.args.name.now name) c.bytes.ensures) ∙ c.if-eq.false)
    ∙ c.loop-place.invariant
