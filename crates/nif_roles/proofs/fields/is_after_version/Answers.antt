use Rattle.std.proofs.Common.{◌≡◌, codes, true, false, refl, sym, ap, ◌∙◌, arith}
use Rattle.nif_schema.specs.Declaration.{field}
use Rattle.nif_schema.specs.Roles.{is_named}
use Rattle.nif_roles.proofs.FieldLemmas.{after-at, after_past}
use Rattle.nif_roles.proofs.fields.is_after_version.Goals as goal

pub returns-then-is_named : goal.returns-then-is_named
returns-then-is_named c =
    let f = field c.get-of.result.now in
    let version : is_named (codes "Version") f ≡ true = ap (λ n. is_named n f) (sym c.as_slice.ensures) ∙ sym c.is_named.ensures ∙ c.if-is_named.true in
    sym (c.loop-place.invariant ∙ after-at c.args.name.now c.args.fields.now c.loop-place.place c.get-of.result.now true (is_named c.args.name.now f) c.get-of.ensures version refl)

pub returns-then-is_named-2 : goal.returns-then-is_named-2
returns-then-is_named-2 c =
    let f = field c.get-of.result.now in
    let version : is_named (codes "Version") f ≡ false = ap (λ n. is_named n f) (sym c.as_slice.ensures) ∙ sym c.is_named.ensures ∙ c.if-is_named.false in
    sym (c.loop-place.invariant
    ∙ after-at c.args.name.now c.args.fields.now c.loop-place.place c.get-of.result.now false true c.get-of.ensures version
    (sym c.is_named-in-loop-place.ensures ∙ c.if-is_named-2.true))

pub loop-place-preserved : goal.loop-place-preserved
loop-place-preserved c =
    let f = field c.get-of.result.now in
    let version : is_named (codes "Version") f ≡ false = ap (λ n. is_named n f) (sym c.as_slice.ensures) ∙ sym c.is_named.ensures ∙ c.if-is_named.false in
    c.loop-place.invariant
    ∙ after-at c.args.name.now c.args.fields.now c.loop-place.place c.get-of.result.now false false c.get-of.ensures version
    (sym c.is_named-in-loop-place.ensures ∙ c.if-is_named-2.false)

pub returns : goal.returns
returns c = sym (c.loop-place.invariant ∙ after_past c.args.name.now c.args.fields.now c.loop-place.place (omega (arith, c.len-place-end.ensures)))
