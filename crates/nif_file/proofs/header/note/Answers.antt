use Rattle.std.proofs.Common.{◌+◌, ◌∙◌, ap, sym}
use Rattle.std.specs.Option.{unwrap_or}
use Rattle.std.proofs.lemmas.Option.{slice_get_within}
use Rattle.nif_file.specs.Files.{header_line}
use Rattle.nif_file.proofs.Noting.{field_within, kept_number, noted_absent, noted_node, call_small, call_notes}
use Rattle.nif_file.proofs.header.note.Goals as goal

pub returns-then-not-is_present : goal.returns-then-not-is_present
returns-then-not-is_present c = λ E f got at noted.
    noted_absent c.args.schema.now c.args.header c.args.place E f got c.args.scope.now c.args.head.now noted
    (sym (c.is_present.ensures c.args.schema.now c.args.header (c.args.place + 1) noted.held noted.kept) ∙ c.if-not-is_present.true)

pub get-of-requires : goal.get-of-requires
get-of-requires c =
    let n = c.requires.noted in
    field_within c.args.schema.now c.requires.roles c.args.header c.requires.header c.decl.result.now c.decl.ensures c.args.place (slice_get_within (header_line c.args.schema.now) c.args.place n.1 n.3)

pub add-requires : goal.add-requires
add-requires c =
    let S = c.args.schema.now in
    let n = c.requires.noted in
    let noted = n.4 in
    let node = noted_node S c.args.header c.args.place n.0 n.1 n.2 c.args.scope.now c.args.head.now noted
    (sym (c.is_present.ensures S c.args.header (c.args.place + 1) noted.held noted.kept) ∙ c.if-not-is_present.false) in
    let number = c.unwrap_or-number.ensures ∙ ap (λ o. unwrap_or o 0) (c.number_at.ensures S c.args.header (c.args.place + 1) noted.held noted.kept) ∙ kept_number noted.held c.args.place node.0 node.2 in
    call_small S c.requires.is c.requires.roles c.args.header c.requires.header c.args.place c.decl.result.now c.decl.ensures c.get-of.result.now c.get-of.ensures n.0 n.1 n.2 c.args.scope.now c.args.head.now n.3 noted
    c.bytes-name.result.now c.unwrap_or-number.result c.inner_number-inner.result c.bytes-name.ensures node.0 node.1 node.2 number c.inner_number-inner.ensures

pub refusal-requires : goal.refusal-requires
refusal-requires c =
    let S = c.args.schema.now in
    let n = c.requires.noted in
    let noted = n.4 in
    let node = noted_node S c.args.header c.args.place n.0 n.1 n.2 c.args.scope.now c.args.head.now noted
    (sym (c.is_present.ensures S c.args.header (c.args.place + 1) noted.held noted.kept) ∙ c.if-not-is_present.false) in
    let number = c.unwrap_or-number.ensures ∙ ap (λ o. unwrap_or o 0) (c.number_at.ensures S c.args.header (c.args.place + 1) noted.held noted.kept) ∙ kept_number noted.held c.args.place node.0 node.2 in
    record {
      small = (
        c.inner_number-inner.result,
        call_small S c.requires.is c.requires.roles c.args.header c.requires.header c.args.place c.decl.result.now c.decl.ensures c.get-of.result.now c.get-of.ensures n.0 n.1 n.2 c.args.scope.now c.args.head.now n.3 noted
            c.bytes-name.result.now c.unwrap_or-number.result c.inner_number-inner.result c.bytes-name.ensures node.0 node.1 node.2 number c.inner_number-inner.ensures,
      );
    }

pub returns : goal.returns
returns c = λ E f got at noted.
    let S = c.args.schema.now in
    let node = noted_node S c.args.header c.args.place E f got c.args.scope.now c.args.head.now noted
    (sym (c.is_present.ensures S c.args.header (c.args.place + 1) noted.held noted.kept) ∙ c.if-not-is_present.false) in
    let number = c.unwrap_or-number.ensures ∙ ap (λ o. unwrap_or o 0) (c.number_at.ensures S c.args.header (c.args.place + 1) noted.held noted.kept) ∙ kept_number noted.held c.args.place node.0 node.2 in
    call_notes S c.requires.is c.requires.roles c.args.header c.requires.header c.args.place c.decl.result.now c.decl.ensures c.get-of.result.now c.get-of.ensures E f got c.args.scope.now c.args.head.now at noted
    c.bytes-name.result.now c.unwrap_or-number.result c.inner_number-inner.result c.bytes-name.ensures node.0 node.1 node.2 number c.inner_number-inner.ensures
    c.add.new.self c.refusal.result c.add.ensures c.refusal.ensures
