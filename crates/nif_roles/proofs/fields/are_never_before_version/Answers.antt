use Rattle.std.proofs.Common.{◌≡◌, codes, true, false, refl, sym, ap, ◌∙◌, arith}
use Rattle.nif_schema.specs.Declaration.{field}
use Rattle.nif_schema.specs.Roles.{is_named, is_never}
use Rattle.nif_roles.proofs.FieldLemmas.{never-at, left_past, drop-map, are_never}
use Rattle.nif_roles.proofs.fields.are_never_before_version.Goals as goal

pub loop-place-init : goal.loop-place-init
loop-place-init c = ap are_never (drop-map field 1 c.args.fields.now)

pub returns-then-is_named : goal.returns-then-is_named
returns-then-is_named c =
    let f = field c.get-of.result.now in
    let version : is_named (codes "Version") f ≡ true = ap (λ n. is_named n f) (sym c.as_slice.ensures) ∙ sym c.is_named.ensures ∙ c.if-is_named.true in
    sym (c.loop-place.invariant ∙ never-at c.args.fields.now c.loop-place.place c.get-of.result.now true (is_never f) c.get-of.ensures version refl)

pub returns-then-not-is_never : goal.returns-then-not-is_never
returns-then-not-is_never c =
    let f = field c.get-of.result.now in
    let version : is_named (codes "Version") f ≡ false = ap (λ n. is_named n f) (sym c.as_slice.ensures) ∙ sym c.is_named.ensures ∙ c.if-is_named.false in
    sym (c.loop-place.invariant
    ∙ never-at c.args.fields.now c.loop-place.place c.get-of.result.now false false c.get-of.ensures version (sym c.is_never.ensures ∙ c.if-not-is_never.true))

pub loop-place-preserved : goal.loop-place-preserved
loop-place-preserved c =
    let f = field c.get-of.result.now in
    let version : is_named (codes "Version") f ≡ false = ap (λ n. is_named n f) (sym c.as_slice.ensures) ∙ sym c.is_named.ensures ∙ c.if-is_named.false in
    c.loop-place.invariant
    ∙ never-at c.args.fields.now c.loop-place.place c.get-of.result.now false true c.get-of.ensures version (sym c.is_never.ensures ∙ c.if-not-is_never.false)

pub returns : goal.returns
returns c = sym (c.loop-place.invariant ∙ ap are_never (left_past c.args.fields.now c.loop-place.place (omega (arith, c.len-place-end.ensures))))
