use Rattle.std.proofs.Common.{◌≡◌, [], refl, sym, ◌∙◌, ap, subst, arith}
use Rattle.nif_stream.specs.Putting.{Puts, Fails}
use Rattle.nif_value.specs.Walking.{step_of, walked}
use Rattle.nif_encode.specs.Texts.{step_text, met_text, depth_after}
use Rattle.nif_encode.specs.TextLaws.{Meets, meets}
use Rattle.nif_encode.proofs.PutLaws.{Spells, puts_none, spells_next, spells_last, spells_failed}
use Rattle.nif_encode.proofs.steps.put_one.Goals as goal

pub loop-step-init : goal.loop-step-init
loop-step-init g c = record { done = []; puts = puts_none g.K.Sink.grew g.K.Sink.write_faults c.args.out.now c.requires; whole = refl; behind = refl; fits = λ h. absurd (omega arith) }

pub returns-in-Err-clause-err : goal.returns-in-Err-clause-err
returns-in-Err-clause-err g c =
    let ahead = c.loop-step.walk.ahead in
    let seen : Meets ahead c.in-Some.step = meets ahead c.in-Some.step (sym c.in-Some.is ∙ c.next.ensures.step) in
    let spelled : step_text c.args.to.now c.in-Some.step c.next.new.self.bytes ≡ met_text c.args.to.now seen.met =
    ap (λ s. step_text c.args.to.now s c.next.new.self.bytes) seen.step
    ∙ ap (λ b. step_text c.args.to.now (step_of seen.met) b) (ap (λ w. w.bytes) c.next.ensures.new ∙ ap (λ a. (walked a).bytes) seen.is) in
    spells_failed g.K.Sink.grew g.K.Sink.write_faults c.args.out.now c.loop-step.out c.put_step.new.out c.args.to.now c.args.walk.now.ahead c.loop-step.depth seen.met seen.rest ahead
    c.loop-step.invariant seen.is (subst (λ l. Fails g.K.Sink.grew g.K.Sink.write_faults c.loop-step.out l c.put_step.new.out) spelled c.in-Err.ensures.err)

pub returns-then-depth-eq0-clause-ok : goal.returns-then-depth-eq0-clause-ok
returns-then-depth-eq0-clause-ok g c =
    let ahead = c.loop-step.walk.ahead in
    let seen : Meets ahead c.in-Some.step = meets ahead c.in-Some.step (sym c.in-Some.is ∙ c.next.ensures.step) in
    let spelled : step_text c.args.to.now c.in-Some.step c.next.new.self.bytes ≡ met_text c.args.to.now seen.met =
    ap (λ s. step_text c.args.to.now s c.next.new.self.bytes) seen.step
    ∙ ap (λ b. step_text c.args.to.now (step_of seen.met) b) (ap (λ w. w.bytes) c.next.ensures.new ∙ ap (λ a. (walked a).bytes) seen.is) in
    let depth_is : depth_after c.loop-step.depth (step_of seen.met) ≡ 0 = ap (depth_after c.loop-step.depth) (sym seen.step) ∙ sym c.step_depth-depth.ensures ∙ c.if-depth-eq0.true in
    spells_last g.K.Sink.grew g.K.Sink.write_faults c.args.out.now c.loop-step.out c.put_step.new.out c.args.to.now c.args.walk.now.ahead c.loop-step.depth seen.met seen.rest ahead
    c.loop-step.invariant seen.is (subst (λ l. Puts g.K.Sink.grew g.K.Sink.write_faults c.loop-step.out l c.put_step.new.out) spelled c.in-Ok.ensures.ok) depth_is

pub loop-step-preserved : goal.loop-step-preserved
loop-step-preserved g c =
    let grew = g.K.Sink.grew in
    let faults = g.K.Sink.write_faults in
    let to = c.args.to.now in
    let all = c.args.walk.now.ahead in
    let ahead = c.loop-step.walk.ahead in
    let seen : Meets ahead c.in-Some.step = meets ahead c.in-Some.step (sym c.in-Some.is ∙ c.next.ensures.step) in
    let spelled : step_text to c.in-Some.step c.next.new.self.bytes ≡ met_text to seen.met =
    ap (λ s. step_text to s c.next.new.self.bytes) seen.step
    ∙ ap (λ b. step_text to (step_of seen.met) b) (ap (λ w. w.bytes) c.next.ensures.new ∙ ap (λ a. (walked a).bytes) seen.is) in
    let depth_is : depth_after c.loop-step.depth (step_of seen.met) ≡ c.step_depth-depth.result = ap (depth_after c.loop-step.depth) (sym seen.step) ∙ sym c.step_depth-depth.ensures in
    let rest_is : seen.rest ≡ c.put_step.new.walk.ahead = sym (c.put_step.ensures.ahead ∙ ap (λ w. w.ahead) c.next.ensures.new ∙ ap (λ a. (walked a).ahead) seen.is) in
    subst (λ d. Spells grew faults c.args.out.now to all d c.put_step.new.walk.ahead c.put_step.new.out) depth_is
    (subst (λ r. Spells grew faults c.args.out.now to all (depth_after c.loop-step.depth (step_of seen.met)) r c.put_step.new.out) rest_is
    (spells_next grew faults c.args.out.now c.loop-step.out c.put_step.new.out to all c.loop-step.depth seen.met seen.rest ahead
    c.loop-step.invariant seen.is c.next.ensures.few (subst (λ l. Puts grew faults c.loop-step.out l c.put_step.new.out) spelled c.in-Ok.ensures.ok)
    (λ z. c.if-depth-eq0.false (sym depth_is ∙ z))))
