use Rattle.std.proofs.Common.{◌++◌, map, codes, ap, sym, ◌∙◌}
use Rattle.std.specs.List.{list_any, filter_map}
use Rattle.std.specs.Str.{bytes_eq}
use Rattle.nif_text.specs.Tree.{attrs_of}
use Rattle.nif_attributes.specs.Tokens.{name_of_attribute, names_in, value_of, token_of}
use Rattle.nif_attributes.specs.Listing.{listed_as}
use Rattle.nif_attributes.proofs.Finding.{on_ok}
use Rattle.nif_attributes.proofs.Groups.{alike_tokens, tokens_is}
use Rattle.nif_attributes.proofs.tokens.Gathered.add_group.Goals as goal

pub returns-clause-groups : goal.returns-clause-groups
returns-clause-groups c =
    on_ok c.add_tokens.result _ _ c.add_tokens.ensures.items
    (λ more others alike.
    alike_tokens c.args.child.now (map name_of_attribute c.in_ok-attributes.attributes.items) (filter_map token_of c.child.inside.children.items)
    c.args.self.now.items.items c.add_tokens.new.self.items.items others (sym c.is_group.ensures ∙ c.if-not-is_group.false)
    (λ a. c.in_ok-attributes.ensures a ∙ ap (λ v. list_any (bytes_eq (name_of_attribute a)) (names_in v)) (c.value.ensures ∙ ap (λ t. value_of (attrs_of t) (codes "attrs")) c.child.view_is))
    (tokens_is c.args.child.now c.child.inside.name c.child.inside.attrs c.child.inside.children.items (filter_map token_of c.child.inside.children.items) c.child.view_is (λ i. filter_map token_of c.child.inside.children.items))
    (more ∙ (λ i. c.args.self.now.items.items ++ map (listed_as (map name_of_attribute (c.as_slice.ensures.value i))) (filter_map token_of (c.as_slice-2.ensures.value i)))) alike)
