use Rattle.std.proofs.Common.{Bool, arith, ap, sym, ◌∙◌}
use Rattle.std.proofs.lemmas.List.{take_all}
use Rattle.std.specs.List.{filter, list_any, slice_split}
use Rattle.std.specs.Option.{option_map}
use Rattle.std.specs.Str.{bytes_eq}
use Rattle.nif_attributes.specs.declared.tokens.Attribute.{Attribute}
use Rattle.nif_attributes.specs.declared.tokens.Attribute.TheVariants as the
use Rattle.nif_base.specs.Ascii.{is_blank}
use Rattle.nif_attributes.specs.Tokens.{names_in, name_of_attribute}
use Rattle.nif_attributes.proofs.Groups.{all_attributes, filter_yes, filter_no, listed_alike}
use Rattle.nif_attributes.proofs.tokens.listed.Goals as goal
use Rattle.nif_attributes.proofs.tokens.listed.Goals.{then-lists_name+in_ok-push, else-lists_name}

pub loop-attribute-preserved : goal.loop-attribute-preserved
loop-attribute-preserved c =
    let parts = slice_split is_blank c.in-Some.text.now in
    let test : Attribute → Bool = λ a. list_any (bytes_eq (name_of_attribute a)) parts in
    let same = ap (λ n. list_any (bytes_eq n) parts) (sym c.name.ensures) ∙ sym c.lists_name.ensures in
    elim c.if-lists_name.branch [
      | then-lists_name+in_ok-push w ↦
          filter_yes test all_attributes c.loop-attribute.attribute-index the.Name c.loop-attribute.attributes.items c.if-lists_name.attributes.items (omega arith)
          c.loop-attribute.invariant (same ∙ w.if-lists_name.true) (ap (λ v. v.items) w.attributes-is ∙ w.in_ok-push.ensures)
      | else-lists_name w ↦
          ap (λ v. v.items) w.attributes-is
          ∙ filter_no test all_attributes c.loop-attribute.attribute-index the.Name c.loop-attribute.attributes.items (omega arith) c.loop-attribute.invariant (same ∙ w.if-lists_name.false)
    ]

pub returns : goal.returns
returns c a =
    let parts = slice_split is_blank c.in-Some.text.now in
    let test : Attribute → Bool = λ a. list_any (bytes_eq (name_of_attribute a)) parts in
    listed_alike parts c.loop-attribute.attributes.items (c.loop-attribute.invariant ∙ ap (filter test) (take_all c.loop-attribute.attribute-index all_attributes (omega arith))) a
    ∙ ap (λ o. list_any (bytes_eq (name_of_attribute a)) (names_in (option_map (λ v. v.now) o))) (sym c.in-Some.is)
