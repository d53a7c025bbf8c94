use Rattle.std.proofs.Common.{ℕ, List, [], Option, sym, ap, ◌∙◌, subst}
use Rattle.std.specs.Prelude.{unwrap_or}
use Rattle.nif_schema.specs.Basic.{IsOtherLeaf}
use Rattle.nif_schema.specs.Leaves.{sized}
use Rattle.nif_schema.proofs.LeafLemmas.{listed, other, sized-nil, sized-other, own}
use Rattle.nif_schema.specs.Basic.{Unread}
use Rattle.nif_schema.specs.declared.decls.Leaf.{Leaf}
use Rattle.std.specs.Borrow.{Bor}
use Rattle.std.specs.Option.{option_map}
use Rattle.nif_schema.proofs.leaves.leaf_of.Goals as goal

abbrev text_in : Option (Bor (List ℕ)) → Option (List ℕ)
text_in size = option_map (λ text. text.now) size

pub returns-in-Some-clause-value : goal.returns-in-Some-clause-value
returns-in-Some-clause-value c = listed c.args.name.now _ _ (c.listed_leaf.ensures ∙ c.in-Some.is)

pub returns-in-Some-size-clause-value : goal.returns-in-Some-size-clause-value
returns-in-Some-size-clause-value c =
    c.sized.ensures ∙ ap (λ o. sized (unwrap_or (text_in o) [])) (sym c.in-Some-size.is) ∙ other c.args.name.now (text_in c.args.size) (c.listed_leaf.ensures ∙ c.in-None.is)

pub returns-in-Some-size-clause-own : goal.returns-in-Some-size-clause-own
returns-in-Some-size-clause-own c =
    own c.args.name.now c.sized.result (c.listed_leaf.ensures ∙ c.in-None.is) (subst (λ (l : Leaf). IsOtherLeaf l) (sym c.sized.ensures) (sized-other c.in-Some-size.size.now))

pub returns-in-None-size-clause-value : goal.returns-in-None-size-clause-value
returns-in-None-size-clause-value c =
    sized-nil ∙ ap (λ o. sized (unwrap_or (text_in o) [])) (sym c.in-None-size.is) ∙ other c.args.name.now (text_in c.args.size) (c.listed_leaf.ensures ∙ c.in-None.is)

pub returns-in-None-size-clause-own : goal.returns-in-None-size-clause-own
returns-in-None-size-clause-own c = own c.args.name.now _ (c.listed_leaf.ensures ∙ c.in-None.is) Unread
