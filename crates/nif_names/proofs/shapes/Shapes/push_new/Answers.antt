use Rattle.std.proofs.Common.{◌≡◌, ℕ, ◌+◌, [], ◌∷◌, ◌++◌, Contains, flat_map, cond, is_none, Some, option_to_list, true, sym, ap, subst, ◌∙◌}
use Rattle.std.proofs.Common.{add-zero}
use Rattle.std.proofs.lemmas.List.{append-nil}
use Rattle.std.proofs.lemmas.Grind.{flat_map-append}
use Rattle.std.proofs.lemmas.List.Elements.{Contains-push}
use Rattle.nif_names.specs.Kept.{new_inner, IsStack}
use Rattle.nif_names.proofs.ShapeLemmas.{as_number, IsStack-push}
use Rattle.nif_names.specs.declared.shapes.Entry.{Entry}
use Rattle.nif_names.proofs.shapes.Shapes.push_new.Goals as goal

pub invariant_of-self-2 : goal.invariant_of-self-2
invariant_of-self-2 c =
    let i = c.self.inside in
    let entries = i.entries.items in
    let e : Entry = record { shape = c.args.shape; is_new = true } in
    let known : (k : ℕ) → c.args.shape.inner ≡ Some k → Contains (flat_map new_inner (entries ++ e ∷ [])) k = λ k is.
    subst (λ l. Contains l k) (sym (flat_map-append new_inner entries (e ∷ []) ∙ ap (λ l. flat_map new_inner entries ++ l) (append-nil (new_inner e) ∙ ap option_to_list is)))
    (Contains-push (flat_map new_inner entries) k) in
    let grown = IsStack-push entries e i.inners.types i.not_numbers i.not_rows i.not_inner _ _ _ c.self.invariant known
    (ap (λ n. i.not_numbers + n) (c.from.ensures ∙ as_number _)) (ap (λ n. i.not_rows + n) (c.from-2.ensures ∙ as_number _))
    (sym (add-zero i.not_inner) ∙ ap (λ o. i.not_inner + cond (is_none o) 1 0) (sym c.requires)) in
    subst (λ es. IsStack es c.push-2.new.self.types (i.not_numbers + c.from.result) (i.not_rows + c.from-2.result) i.not_inner) (sym c.in-Ok-push.ensures.items)
    (subst (λ l. IsStack (entries ++ e ∷ []) l (i.not_numbers + c.from.result) (i.not_rows + c.from-2.result) i.not_inner) (ap (λ o. i.inners.types ++ option_to_list o) c.requires ∙ sym c.in-Ok-push-2.ensures.types) grown)
