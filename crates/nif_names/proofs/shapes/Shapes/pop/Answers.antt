use Rattle.std.proofs.Common.{◌-◌, List, length, take, ap, subst, ◌∙◌}
use Rattle.nif_names.specs.Kept.{IsStack}
use Rattle.nif_names.proofs.ShapeLemmas.{IsStack-pop, as_number, none_as_number}
use Rattle.nif_names.specs.declared.shapes.Entry.{Entry}
use Rattle.nif_names.proofs.shapes.Shapes.pop.Goals as goal

pub invariant_of-self-2 : goal.invariant_of-self-2
invariant_of-self-2 c =
    let i = c.self.inside in
    let inners = i.inners.types in
    let whole = λ (es : List Entry). IsStack es i.inners.types i.not_numbers i.not_rows i.not_inner in
    IsStack-pop c.pop.new.self.items c.in-Some.entry inners c.cut.new.self.types i.not_numbers i.not_rows i.not_inner _ _ _
    (subst whole c.in-Some.ensures.items c.self.invariant)
    (c.cut.ensures.types ∙ ap (λ n. take (n - c.kept.result) inners) (ap length c.types.ensures) ∙ ap (λ n. take (length inners - n) inners) c.kept.ensures)
    (ap (λ n. i.not_numbers - n) (c.from.ensures ∙ as_number _)) (ap (λ n. i.not_rows - n) (c.from-2.ensures ∙ as_number _))
    (ap (λ n. i.not_inner - n) (c.from-3.ensures ∙ none_as_number c.in-Some.entry.shape.inner c.is_none.result c.is_none.ensures))
