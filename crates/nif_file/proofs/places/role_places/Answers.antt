use Rattle.std.proofs.Common.{◌∙◌, ap, sym, codes, Some, map}
use Rattle.nif_schema.specs.Declaration.{field}
use Rattle.nif_schema.specs.Roles.{header_fields, of_name}
use Rattle.nif_file.specs.Heads.{place_in}
use Rattle.nif_file.proofs.HeadNumbers.{at_most}
use Rattle.nif_file.proofs.FieldPlaces.{list_rules, blocks_rule, some_of, field_list, line_place}
use Rattle.nif_file.proofs.places.role_places.Goals as goal

pub unreachable-requires : goal.unreachable-requires
unreachable-requires c =
    let fields = header_fields c.args.schema.now in
    let own = field_list c.args.schema.now c.args.header c.requires.header c.decl.result.now c.decl.ensures in
    some_of _ (codes "Num Blocks") fields (blocks_rule c.args.schema.now fields c.requires.roles.count)
    (ap (place_in (codes "Num Blocks")) own ∙ ap (λ n. place_in n (map field c.decl.result.now.fields)) (sym c.as_slice.ensures) ∙ sym c.place_of.ensures ∙ c.in_default.is)

pub returns : goal.returns
returns c =
    let S = c.args.schema.now in
    let roles = c.requires.roles in
    let fields = header_fields S in
    let own = field_list S c.args.header c.requires.header c.decl.result.now c.decl.ensures in
    let lists = list_rules S fields roles.lists in
    let all = map field c.decl.result.now.fields in
    record {
      num_blocks = line_place S roles _ (codes "Num Blocks") (Some c.in-Some.num_blocks) (at_most _ (of_name (codes "Num Blocks") fields) (blocks_rule S fields roles.count))
          (sym c.in-Some.is ∙ c.place_of.ensures ∙ ap (λ n. place_in n all) c.as_slice.ensures ∙ ap (place_in (codes "Num Blocks")) (sym own));
      num_types = line_place S roles _ (codes "Num Block Types") c.place_of-2.result lists.num_types (c.place_of-2.ensures ∙ ap (λ n. place_in n all) c.as_slice-2.ensures ∙ ap (place_in (codes "Num Block Types")) (sym own));
      types = line_place S roles _ (codes "Block Types") c.place_of-3.result lists.types (c.place_of-3.ensures ∙ ap (λ n. place_in n all) c.as_slice-3.ensures ∙ ap (place_in (codes "Block Types")) (sym own));
      index = line_place S roles _ (codes "Block Type Index") c.place_of-4.result lists.index (c.place_of-4.ensures ∙ ap (λ n. place_in n all) c.as_slice-4.ensures ∙ ap (place_in (codes "Block Type Index")) (sym own));
      sizes = line_place S roles _ (codes "Block Size") c.place_of-5.result lists.sizes (c.place_of-5.ensures ∙ ap (λ n. place_in n all) c.as_slice-5.ensures ∙ ap (place_in (codes "Block Size")) (sym own));
      num_strings = line_place S roles _ (codes "Num Strings") c.place_of-6.result lists.num_strings (c.place_of-6.ensures ∙ ap (λ n. place_in n all) c.as_slice-6.ensures ∙ ap (place_in (codes "Num Strings")) (sym own));
      strings = line_place S roles _ (codes "Strings") c.place_of-7.result lists.strings (c.place_of-7.ensures ∙ ap (λ n. place_in n all) c.as_slice-7.ensures ∙ ap (place_in (codes "Strings")) (sym own));
    }
