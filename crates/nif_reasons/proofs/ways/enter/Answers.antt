use Rattle.std.proofs.Common.{◌++◌, ◌∷◌, [], None, Option, false, map, sym, ap, subst, ◌∙◌}
use Rattle.std.specs.Option.{option_map_or}
use Rattle.nif_schema.specs.Declaration.{Declaration, field}
use Rattle.nif_schema.specs.Reasons as spec
use Rattle.nif_paths.specs.Marks.{IsLine}
use Rattle.nif_reasons.specs.Ways.{IsAt, fields_on, has_struct}
use Rattle.nif_schema.specs.Uses.{is_struct}
use Rattle.nif_reasons.proofs.WayLemmas.{way-push, fields-push}
use Rattle.nif_reasons.proofs.ways.enter.Goals as goal

pub returns-clause-at : goal.returns-clause-at
returns-clause-at c =
    let S = c.args.schema.now in
    let n = c.args.number in
    let old = c.args.way.now.stack.items in
    let own = ap (λ (o : Option Declaration). option_map_or (λ d. d.fields) o []) c.decl-decl.ensures in
    let added = c.in-Ok.ensures (fields_on S old) c.requires.at.line in
    subst (λ l. IsAt S l c.add_fields.new.line) (sym c.in-Ok-push.ensures.items) (record {
      way = way-push S None old n c.requires.at.way c.requires.within c.requires.child;
      line = subst (λ l. IsLine S l c.add_fields.new.line) (sym (fields-push S old n ∙ ap (λ l. fields_on S old ++ l) own)) added.1;
    })

pub returns-clause-reason : goal.returns-clause-reason
returns-clause-reason c =
    let S = c.args.schema.now in
    let old = c.args.way.now.stack.items in
    let own = ap (λ (o : Option Declaration). option_map_or (λ d. d.fields) o []) c.decl-decl.ensures in
    let kind = c.is_struct-in_struct.ensures ∙ sym (ap (λ (o : Option Declaration). option_map_or (λ d. is_struct d.what) o false) c.decl-decl.ensures) in
    let added = c.in-Ok.ensures (fields_on S old) c.requires.at.line in
    added.0 ∙ ap (λ b. spec.first_reason (c.args.so_far ∷ spec.fields_reason S b (fields_on S old) (map field c.decl-decl.result.now.fields) ∷ [])) kind
    ∙ ap (λ l. spec.first_reason (c.args.so_far ∷ spec.fields_reason S (has_struct S c.args.number) (fields_on S old) l ∷ [])) (sym own)
