use Rattle.std.specs.Ordering.{nat_cmp}
use Rattle.std.specs.Cmp.Lexicographic.{slice_cmp}
use Rattle.std.specs.BTreeMap.{UpdatesBy}
use Rattle.std.proofs.Common.{rules, ◌≡◌, ℕ, Vec, Global, Some, ◌^◌, ◌<◌, ◌-◌, [], ◌∷◌, ◌++◌, length, None, sym, ap, subst, ◌∙◌}
use Rattle.nif_schema.specs.Declaration.{declaration}
use Rattle.nif_schema.specs.Schema.{Schema, find}
use Rattle.nif_schema.specs.Kept.{declarations, AreNumbered}
use Rattle.nif_schema.proofs.Numbering.{none_from_is_some, AreNumbered-push}
use Rattle.nif_schema.proofs.schemas.Schema.add.Goals as goal

pub invariant_of-self-in-Ok-insert : goal.invariant_of-self-in-Ok-insert
invariant_of-self-in-Ok-insert c =
    let absent : find (declarations c.self.inside.decls.items) c.args.decl.name ≡ None =
    ap (λ s. find s c.args.decl.name) c.self.view_is
    ∙ sym (ap (find c.args.self.now) c.bytes.ensures)
    ∙ sym c.find.ensures.value
    ∙ none_from_is_some c.find.result (sym c.is_some.ensures ∙ c.if-is_some.false)
    in
    let decls = c.self.inside.decls.items in
    let pushed : c.push_reserved.new.self.items ≡ decls ++ c.args.decl ∷ [] = c.push_reserved.ensures.items ∙ ap (λ ds. ds ++ c.args.decl ∷ []) c.reserve.ensures.items in
    let number : c.len.result ≡ length decls = search rules in
    subst (λ ds. AreNumbered ds c.insert.new.self) (sym pushed)
    (AreNumbered-push decls c.args.decl c.self.inside.numbers c.insert.new.self c.in-Ok.name c.self.invariant (c.in-Ok.ensures.items ∙ c.bytes-2.ensures) absent
    (subst (λ n. UpdatesBy (λ (x : Vec ℕ Global) (y : Vec ℕ Global). slice_cmp nat_cmp x.items y.items) (λ (y : Vec ℕ Global). slice_cmp nat_cmp c.in-Ok.name.items y.items)
    c.self.inside.numbers c.insert.new.self (Some n)) number c.in-Ok-insert.ensures.updates)
    c.requires.leaf (subst (λ (s : Schema). length s < 2 ^ 32 - 1) (sym c.self.view_is) c.requires.room))
