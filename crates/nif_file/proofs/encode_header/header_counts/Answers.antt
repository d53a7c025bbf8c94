use Rattle.std.proofs.Common.{codes, length, sym, ap, ◌∙◌}
use Rattle.std.proofs.lemmas.List.{length-map}
use Rattle.nif_schema.specs.Declaration.{field, declaration}
use Rattle.nif_file.specs.PartsText.{up_to}
use Rattle.nif_file.proofs.HeaderTexts.{fields_are}
use Rattle.nif_file.proofs.encode_header.header_counts.Goals as goal

pub returns-clause-front : goal.returns-clause-front
returns-clause-front c =
    c.up_to.ensures
    ∙ ap (up_to (codes "Endian Type"))
    (sym (fields_are c.args.schema.now c.in-Some.number (declaration c.decl.result.now) (sym c.find.ensures.value ∙ c.in-Some.is) c.decl.ensures))

pub returns-clause-all : goal.returns-clause-all
returns-clause-all c =
    c.len.ensures ∙ sym (length-map c.decl.result.now.fields field)
    ∙ ap length
    (sym (fields_are c.args.schema.now c.in-Some.number (declaration c.decl.result.now) (sym c.find.ensures.value ∙ c.in-Some.is) c.decl.ensures))
