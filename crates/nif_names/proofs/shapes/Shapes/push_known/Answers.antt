use Rattle.std.proofs.Common.{◌≡◌, ℕ, ◌+◌, [], ◌∷◌, ◌++◌, Contains, flat_map, Some, false, sym, ap, subst, ◌∙◌}
use Rattle.std.proofs.lemmas.List.{append-nil}
use Rattle.std.proofs.lemmas.Grind.{flat_map-append}
use Rattle.std.proofs.lemmas.List.Elements.{Contains-append_left}
use Rattle.nif_names.specs.Shapes.{inners}
use Rattle.nif_names.specs.Kept.{new_inner, IsStack}
use Rattle.nif_names.proofs.ShapeLemmas.{as_number, none_as_number, IsStack-push, inners-new}
use Rattle.nif_names.specs.declared.shapes.Entry.{Entry}
use Rattle.nif_names.proofs.shapes.Shapes.push_known.Goals as goal

pub invariant_of-self-2 : goal.invariant_of-self-2
invariant_of-self-2 c =
    let i = c.self.inside in
    let entries = i.entries.items in
    let e : Entry = record { shape = c.args.shape; is_new = false } in
    let known : (k : ℕ) → c.args.shape.inner ≡ Some k → Contains (flat_map new_inner (entries ++ e ∷ [])) k = λ k is.
    subst (λ l. Contains l k) (sym (flat_map-append new_inner entries (e ∷ [])))
    (Contains-append_left (flat_map new_inner entries) [] k
    (inners-new k [] entries c.self.invariant.covered (subst (λ s. Contains (inners s.shapes) k) (sym c.self.view_is) (c.requires k is)))) in
    let grown = IsStack-push entries e i.inners.types i.not_numbers i.not_rows i.not_inner _ _ _ c.self.invariant known
    (ap (λ n. i.not_numbers + n) (c.from.ensures ∙ as_number _)) (ap (λ n. i.not_rows + n) (c.from-2.ensures ∙ as_number _))
    (ap (λ n. i.not_inner + n) (c.from-3.ensures ∙ none_as_number c.args.shape.inner c.is_none.result c.is_none.ensures)) in
    subst (λ es. IsStack es i.inners.types (i.not_numbers + c.from.result) (i.not_rows + c.from-2.result) (i.not_inner + c.from-3.result)) (sym c.in-Ok.ensures.items)
    (subst (λ l. IsStack (entries ++ e ∷ []) l (i.not_numbers + c.from.result) (i.not_rows + c.from-2.result) (i.not_inner + c.from-3.result)) (append-nil i.inners.types) grown)
