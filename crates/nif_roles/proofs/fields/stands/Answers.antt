use Rattle.std.proofs.Common.{true, false, sym, ap, ◌∙◌, arith}
use Rattle.std.specs.List.{list_any}
use Rattle.nif_schema.specs.Roles.{is_named}
use Rattle.nif_roles.proofs.FieldLemmas.{any-at, left_past}
use Rattle.nif_roles.proofs.fields.stands.Goals as goal

pub returns-then-is_named : goal.returns-then-is_named
returns-then-is_named c =
    sym (c.loop-place.invariant
    ∙ any-at c.args.name.now c.args.fields.now c.loop-place.place c.get.result.now true c.get.ensures (sym c.is_named.ensures ∙ c.if-is_named.true))

pub loop-place-preserved : goal.loop-place-preserved
loop-place-preserved c =
    c.loop-place.invariant
    ∙ any-at c.args.name.now c.args.fields.now c.loop-place.place c.get.result.now false c.get.ensures (sym c.is_named.ensures ∙ c.if-is_named.false)

pub returns : goal.returns
returns c =
    sym (c.loop-place.invariant ∙ ap (list_any (is_named c.args.name.now)) (left_past c.args.fields.now c.loop-place.place (omega (arith, c.len-place-end.ensures))))
