use Rattle.std.proofs.Common.{◌≡◌, sym, ◌∙◌, ap, arith, add-one}
use Rattle.std.proofs.lemmas.Result.{on_ok_weaker, on_err_weaker}
use Rattle.nif_region.specs.Contents.{find}
use Rattle.nif_value.specs.Walking.{walked}
use Rattle.nif_encode.specs.Texts.{behind_one, behind_many, member_text}
use Rattle.nif_encode.specs.TextLaws.{many_more}
use Rattle.nif_encode.proofs.PutLaws.{one_puts, one_fails, fails_at_once}
use Rattle.nif_encode.proofs.values.encode_member.Goals as goal

pub returns-in-Err-clause-err : goal.returns-in-Err-clause-err
returns-in-Err-clause-err g c =
    fails_at_once g.K.Sink.grew g.K.Sink.write_faults c.args.out.now c.put.new.self (member_text c.args.to.now c.args.member) (find c.args.store.now.trees c.args.tree.run.key)
    c.in-Err.ensures.err

pub loop-preserved : goal.loop-preserved
loop-preserved g c =
    let first = c.next.new.self.ahead in
    c.pass_one.ensures ∙ ap (λ m. behind_one 0 m) c.loop.invariant ∙ many_more c.loop.counter first ∙ ap (λ k. behind_many k first) (sym (add-one c.loop.counter))

pub returns-clause-ok : goal.returns-clause-ok
returns-clause-ok g c =
    let whole : c.loop.counter ≡ c.args.member = omega arith in
    let ahead : c.loop.walk.ahead ≡ behind_many c.args.member (walked c.walk-walk.result.ahead).ahead =
    c.loop.invariant ∙ ap (λ k. behind_many k c.next.new.self.ahead) whole ∙ ap (λ w. behind_many c.args.member w.ahead) c.next.ensures.new in
    on_ok_weaker c.put_one.result (λ put.
    one_puts g.K.Sink.grew g.K.Sink.write_faults c.args.out.now c.put.new.self c.put_one.new.out c.args.to.now c.args.member (find c.args.store.now.trees c.args.tree.run.key)
    c.walk-walk.result.ahead c.loop.walk.ahead c.requires c.walk-walk.ensures.ahead ahead c.in-Ok.ensures.ok put) c.put_one.ensures.ok

pub returns-clause-err : goal.returns-clause-err
returns-clause-err g c =
    let whole : c.loop.counter ≡ c.args.member = omega arith in
    let ahead : c.loop.walk.ahead ≡ behind_many c.args.member (walked c.walk-walk.result.ahead).ahead =
    c.loop.invariant ∙ ap (λ k. behind_many k c.next.new.self.ahead) whole ∙ ap (λ w. behind_many c.args.member w.ahead) c.next.ensures.new in
    on_err_weaker c.put_one.result (λ failed.
    one_fails g.K.Sink.grew g.K.Sink.write_faults c.args.out.now c.put.new.self c.put_one.new.out c.args.to.now c.args.member (find c.args.store.now.trees c.args.tree.run.key)
    c.walk-walk.result.ahead c.loop.walk.ahead c.requires c.walk-walk.ensures.ahead ahead c.in-Ok.ensures.ok failed) c.put_one.ensures.err
