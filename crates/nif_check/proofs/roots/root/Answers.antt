use Rattle.std.proofs.Common.{◌≡◌, ◌<◌, true, false, None, sym, ◌∙◌, subst, length, get_or}
use Rattle.std.proofs.lemmas.Option.{get_or_from_slice_get, slice_get-get_or}
use Rattle.nif_schema.specs.Uses.{is_generic}
use Rattle.nif_check.proofs.RootLemmas.{is-root, no-struct, no-single, no-open}
use Rattle.nif_check.proofs.roots.root.Goals as goal

pub returns-then-not-is_struct : goal.returns-then-not-is_struct
returns-then-not-is_struct c =
    no-struct c.args.schema.now c.args.name.now c.in_ok-number.number c.decl.result.now (sym c.find.ensures.value ∙ c.in_ok-number.was) c.decl.ensures
    (sym c.is_struct.ensures ∙ c.if-not-is_struct.true)

pub returns-then-generic-number : goal.returns-then-generic-number
returns-then-generic-number c =
    let s = c.args.schema.now in
    let n = c.in_ok-number.number in
    let generic : is_generic s n ≡ true =
    sym (get_or_from_slice_get c.args.generic.now n (is_generic s n) false (c.requires.generic n c.in_ok-number.ensures.within)) ∙ c.if-generic-number.true
    in
    no-single s c.args.name.now n (sym c.find.ensures.value ∙ c.in_ok-number.was) generic

pub returns-then-is_some : goal.returns-then-is_some
returns-then-is_some c =
    let s = c.args.schema.now in
    let n = c.in_ok-number.number in
    let reasons = c.args.reasons.now in
    let lt : n < length reasons = subst (λ k. n < k) (sym c.requires.reasons.count) c.in_ok-number.ensures.within in
    no-open s reasons c.args.name.now n (get_or reasons n None) c.requires.reasons (sym c.find.ensures.value ∙ c.in_ok-number.was)
    (slice_get-get_or reasons n None lt) (sym c.is_some.ensures ∙ c.if-is_some.true)

pub returns : goal.returns
returns c =
    let s = c.args.schema.now in
    let n = c.in_ok-number.number in
    let reasons = c.args.reasons.now in
    let lt : n < length reasons = subst (λ k. n < k) (sym c.requires.reasons.count) c.in_ok-number.ensures.within in
    let single : is_generic s n ≡ false =
    sym (get_or_from_slice_get c.args.generic.now n (is_generic s n) false (c.requires.generic n c.in_ok-number.ensures.within)) ∙ c.if-generic-number.false
    in
    is-root s reasons c.args.name.now n c.decl.result.now (get_or reasons n None) c.requires.reasons (sym c.find.ensures.value ∙ c.in_ok-number.was) c.decl.ensures
    (sym c.is_struct.ensures ∙ c.if-not-is_struct.false) single (slice_get-get_or reasons n None lt) (sym c.is_some.ensures ∙ c.if-is_some.false)
