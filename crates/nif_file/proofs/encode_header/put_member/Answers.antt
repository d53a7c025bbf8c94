use Rattle.std.proofs.Common.{Some, refl, ap, subst, ◌∙◌, sym}
use Rattle.std.proofs.lemmas.Result.{on_ok_weaker, on_err_weaker}
use Rattle.nif_stream.specs.Putting.{Puts, Fails}
use Rattle.nif_graph.specs.Written.{is_indexed}
use Rattle.nif_file.specs.PartsText.{telling_at}
use Rattle.nif_file.proofs.PartsPuts.{puts_none}
use Rattle.nif_file.proofs.HeaderPuts.{plain_text, told_text, absent_text, none_there, not_absent, never_none, absent_is, none_told, walks_on}
use Rattle.nif_file.proofs.encode_header.put_member.Goals as goal

pub returns-in_default-clause-walks : goal.returns-in_default-clause-walks
returns-in_default-clause-walks g c = on_ok_weaker c.put_one.result
    (λ e members w. walks_on c.args.graph.now members c.args.member c.args.walk.now.ahead c.put_one.new.walk.ahead w e) c.put_one.ensures.ahead

pub returns-in_default-clause-ok : goal.returns-in_default-clause-ok
returns-in_default-clause-ok g c = on_ok_weaker c.put_one.result
    (λ put. subst (λ l. Puts g.K.Sink.grew g.K.Sink.write_faults c.args.out.now l c.put_one.new.out)
    (plain_text c.args.graph.now c.requires.walks.0 c.args.member c.args.walk.now.ahead c.requires.walks.2 c.requires.walks.1 c.args.order (record { order = c.args.order; places = c.places_of_names.result }) refl c.places_of_names.ensures
    (none_told c.telling_at.result (telling_at c.args.graph.now.places (is_indexed c.args.graph.now.places c.args.graph.now.graph.header) c.args.member) (c.telling_at.ensures ∙ ap (λ p. telling_at p c.is_indexed.result c.args.member) c.places.ensures ∙ ap (λ b. telling_at c.args.graph.now.places b c.args.member) c.is_indexed.ensures) c.in_default.not-Some)) put) c.put_one.ensures.ok

pub returns-in_default-clause-err : goal.returns-in_default-clause-err
returns-in_default-clause-err g c = on_err_weaker c.put_one.result
    (λ failed. subst (λ l. Fails g.K.Sink.grew g.K.Sink.write_faults c.args.out.now l c.put_one.new.out)
    (plain_text c.args.graph.now c.requires.walks.0 c.args.member c.args.walk.now.ahead c.requires.walks.2 c.requires.walks.1 c.args.order (record { order = c.args.order; places = c.places_of_names.result }) refl c.places_of_names.ensures
    (none_told c.telling_at.result (telling_at c.args.graph.now.places (is_indexed c.args.graph.now.places c.args.graph.now.graph.header) c.args.member) (c.telling_at.ensures ∙ ap (λ p. telling_at p c.is_indexed.result c.args.member) c.places.ensures ∙ ap (λ b. telling_at c.args.graph.now.places b c.args.member) c.is_indexed.ensures) c.in_default.not-Some)) failed) c.put_one.ensures.err

pub returns-in_default-member_step-clause-walks : goal.returns-in_default-member_step-clause-walks
returns-in_default-member_step-clause-walks g c members w =
    walks_on c.args.graph.now members c.args.member c.args.walk.now.ahead c.member_step.new.walk.ahead w c.member_step.ensures.ahead

pub returns-in_default-member_step-clause-ok : goal.returns-in_default-member_step-clause-ok
returns-in_default-member_step-clause-ok g c =
    absurd (never_none c.args.graph.now c.requires.walks.0 c.args.member c.args.walk.now.ahead c.requires.walks.2 c.requires.walks.1 c.args.order c.member_step.result c.member_step.ensures.step c.in_default-member_step.not-Some)

pub returns-then-is_absent-clause-walks : goal.returns-then-is_absent-clause-walks
returns-then-is_absent-clause-walks g c members w =
    walks_on c.args.graph.now members c.args.member c.args.walk.now.ahead c.member_step.new.walk.ahead w c.member_step.ensures.ahead

pub returns-then-is_absent-clause-ok : goal.returns-then-is_absent-clause-ok
returns-then-is_absent-clause-ok g c =
    let first = absent_is c.in-Some-member_step.first (sym c.is_absent.ensures ∙ c.if-is_absent.true) in
    let none = none_there c.args.graph.now c.requires.walks.0 c.args.member c.args.walk.now.ahead c.requires.walks.2 c.requires.walks.1 c.args.order (sym c.member_step.ensures.step ∙ c.in-Some-member_step.is ∙ ap (λ s. Some s) first) in
    subst (λ l. Puts g.K.Sink.grew g.K.Sink.write_faults c.args.out.now l c.args.out.now) (sym (absent_text c.args.graph.now c.requires.walks.0 c.args.member c.args.walk.now.ahead c.requires.walks.2 c.requires.walks.1 c.args.order none)) (puts_none g.K.Sink.grew g.K.Sink.write_faults c.args.out.now c.requires.sound)

pub returns-clause-walks : goal.returns-clause-walks
returns-clause-walks g c = on_ok_weaker c.put_telling.result
    (λ put members w. walks_on c.args.graph.now members c.args.member c.args.walk.now.ahead c.member_step.new.walk.ahead w c.member_step.ensures.ahead) c.put_telling.ensures.ok

pub returns-clause-ok : goal.returns-clause-ok
returns-clause-ok g c = on_ok_weaker c.put_telling.result
    (λ put. subst (λ l. Puts g.K.Sink.grew g.K.Sink.write_faults c.args.out.now l c.put_telling.new.out)
    (told_text c.args.graph.now c.requires.walks.0 c.args.member c.args.walk.now.ahead c.requires.walks.2 c.requires.walks.1 c.args.order c.in-Some.telling (sym (c.telling_at.ensures ∙ ap (λ p. telling_at p c.is_indexed.result c.args.member) c.places.ensures ∙ ap (λ b. telling_at c.args.graph.now.places b c.args.member) c.is_indexed.ensures) ∙ c.in-Some.is) c.in-Some-member_step.first
    (not_absent c.args.graph.now c.requires.walks.0 c.args.member c.args.walk.now.ahead c.requires.walks.2 c.requires.walks.1 c.args.order c.in-Some-member_step.first (sym c.in-Some-member_step.is ∙ c.member_step.ensures.step) (sym c.is_absent.ensures ∙ c.if-is_absent.false))
    (sym c.in-Some-member_step.is ∙ c.member_step.ensures.step)) put) c.put_telling.ensures.ok

pub returns-clause-err : goal.returns-clause-err
returns-clause-err g c = on_err_weaker c.put_telling.result
    (λ failed. subst (λ l. Fails g.K.Sink.grew g.K.Sink.write_faults c.args.out.now l c.put_telling.new.out)
    (told_text c.args.graph.now c.requires.walks.0 c.args.member c.args.walk.now.ahead c.requires.walks.2 c.requires.walks.1 c.args.order c.in-Some.telling (sym (c.telling_at.ensures ∙ ap (λ p. telling_at p c.is_indexed.result c.args.member) c.places.ensures ∙ ap (λ b. telling_at c.args.graph.now.places b c.args.member) c.is_indexed.ensures) ∙ c.in-Some.is) c.in-Some-member_step.first
    (not_absent c.args.graph.now c.requires.walks.0 c.args.member c.args.walk.now.ahead c.requires.walks.2 c.requires.walks.1 c.args.order c.in-Some-member_step.first (sym c.in-Some-member_step.is ∙ c.member_step.ensures.step) (sym c.is_absent.ensures ∙ c.if-is_absent.false))
    (sym c.in-Some-member_step.is ∙ c.member_step.ensures.step)) failed) c.put_telling.ensures.err
