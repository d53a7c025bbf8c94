use Rattle.std.proofs.Common.{map, sym, ap, ◌∙◌, arith}
use Rattle.nif_schema.specs.Declaration.{field}
use Rattle.nif_schema.specs.Roles.{are_sized}
use Rattle.nif_roles.proofs.FieldLemmas.{two}
use Rattle.nif_roles.proofs.lists.are_sized.Goals as goal

pub returns : goal.returns
returns c =
    c.are_length_and_value.ensures
    ∙ sym (ap (λ fs. are_sized c.args.schema.now (map field fs)) (two c.args.fields.now c.get.result.now c.get-2.result.now (omega (arith, c.len.ensures)) c.get.ensures c.get-2.ensures))
