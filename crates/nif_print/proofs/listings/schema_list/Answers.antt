use Rattle.std.proofs.Common.{ap, sym, ◌∙◌, subst, refl, Some, arith, ◌≡◌, ◌<◌, ◌+◌, length}
use Rattle.std.specs.Prelude.{slice_get, ℕ, ◌≤◌}
use Rattle.std.proofs.lemmas.Result.{on_ok_weaker, on_err_weaker}
use Rattle.nif_schema.specs.Declaration.{declaration}
use Rattle.nif_stream.specs.Putting.{Puts, Fails}
use Rattle.nif_print.specs.Listing.{type_line, listing}
use Rattle.nif_print.proofs.Lines.{Listed, listed_open, listed_closed, listed_failed, listed_all, listed_part}
use Rattle.nif_print.proofs.listings.schema_list.Goals.{then-is_some, else-is_some}
use Rattle.nif_print.proofs.listings.schema_list.Goals as goal

eq_by_le : {m n : ℕ} → m ≤ n → n ≤ m → m ≡ n
eq_by_le {m} {n} p q = omega (arith, p, q)

pub loop-number-preserved : goal.loop-number-preserved
loop-number-preserved g c =
    let grew = g.K.Sink.grew in
    let faults = g.K.Sink.write_faults in
    let schema = c.args.checked.now in
    let n = c.loop-number.number in
    let reason = c.reason-reason.result in
    let same = c.schema-schema.ensures.same in
    let within : n < length schema = subst (λ k. n < k) (c.count-number-end.ensures.value ∙ ap length same) c.loop-number-test.true in
    let at : slice_get schema n ≡ Some (declaration c.decl.result.now) = ap (λ s. slice_get s n) (sym same) ∙ c.decl.ensures in
    let put = subst (λ name. Puts grew faults c.loop-number.out (type_line name reason) c.put_type.new.out) c.bytes.ensures c.in-Ok.ensures.ok in
    elim c.if-is_some.branch [
      | then-is_some w ↦
          subst (λ k. Listed grew faults c.args.out.now schema (n + 1) k c.if-is_some.closed_types c.put_type.new.out) (sym w.open_types-is)
          (subst (λ k. Listed grew faults c.args.out.now schema (n + 1) c.loop-number.open_types k c.put_type.new.out) (sym w.closed_types-is)
          (listed_closed grew faults c.args.out.now schema n c.loop-number.open_types c.loop-number.closed_types c.loop-number.out c.put_type.new.out
          (declaration c.decl.result.now) reason (sym w.if-is_some.ensures) c.loop-number.invariant within at c.reason-reason.ensures put))
      | else-is_some w ↦
          subst (λ k. Listed grew faults c.args.out.now schema (n + 1) k c.if-is_some.closed_types c.put_type.new.out) (sym w.open_types-is)
          (subst (λ k. Listed grew faults c.args.out.now schema (n + 1) (c.loop-number.open_types + 1) k c.put_type.new.out) (sym w.closed_types-is)
          (listed_open grew faults c.args.out.now schema n c.loop-number.open_types c.loop-number.closed_types c.loop-number.out c.put_type.new.out
          (declaration c.decl.result.now) reason (sym w.if-is_some.ensures) c.loop-number.invariant within at c.reason-reason.ensures put))
    ]

pub returns-in-Err-clause-err : goal.returns-in-Err-clause-err
returns-in-Err-clause-err g c =
    let grew = g.K.Sink.grew in
    let faults = g.K.Sink.write_faults in
    let schema = c.args.checked.now in
    let n = c.loop-number.number in
    let reason = c.reason-reason.result in
    let same = c.schema-schema.ensures.same in
    let within : n < length schema = subst (λ k. n < k) (c.count-number-end.ensures.value ∙ ap length same) c.loop-number-test.true in
    let at : slice_get schema n ≡ Some (declaration c.decl.result.now) = ap (λ s. slice_get s n) (sym same) ∙ c.decl.ensures in
    let failed = subst (λ name. Fails grew faults c.loop-number.out (type_line name reason) c.put_type.new.out) c.bytes.ensures c.in-Err.ensures.err in
    let reasons = c.schema-schema.ensures.reasons in (
      listing schema reasons.0,
      (reasons.0, reasons.1, refl),
      listed_failed grew faults c.args.out.now schema n c.loop-number.open_types c.loop-number.closed_types c.loop-number.out c.put_type.new.out
          (declaration c.decl.result.now) reason reasons.0 c.loop-number.invariant within at c.reason-reason.ensures reasons.1 failed,
    )

pub returns-clause-ok : goal.returns-clause-ok
returns-clause-ok g c =
    let schema = c.args.checked.now in
    let reasons = c.schema-schema.ensures.reasons in
    let all : c.loop-number.number ≡ length schema = eq_by_le c.loop-number.auto.number-end c.loop-number-test.false ∙ (c.count-number-end.ensures.value ∙ ap length c.schema-schema.ensures.same) in
    on_ok_weaker c.put_totals.result (λ put. (
      listing schema reasons.0,
      (reasons.0, reasons.1, refl),
      listed_all g.K.Sink.grew g.K.Sink.write_faults c.args.out.now schema c.loop-number.number c.loop-number.open_types c.loop-number.closed_types c.loop-number.out c.put_totals.new.out reasons.0
          c.loop-number.invariant all reasons.1 put,
    )) c.put_totals.ensures.ok

pub returns-clause-err : goal.returns-clause-err
returns-clause-err g c =
    let schema = c.args.checked.now in
    let reasons = c.schema-schema.ensures.reasons in
    let all : c.loop-number.number ≡ length schema = eq_by_le c.loop-number.auto.number-end c.loop-number-test.false ∙ (c.count-number-end.ensures.value ∙ ap length c.schema-schema.ensures.same) in
    on_err_weaker c.put_totals.result (λ failed. (
      listing schema reasons.0,
      (reasons.0, reasons.1, refl),
      listed_part g.K.Sink.grew g.K.Sink.write_faults c.args.out.now schema c.loop-number.number c.loop-number.open_types c.loop-number.closed_types c.loop-number.out c.put_totals.new.out reasons.0
          c.loop-number.invariant all reasons.1 failed,
    )) c.put_totals.ensures.err
