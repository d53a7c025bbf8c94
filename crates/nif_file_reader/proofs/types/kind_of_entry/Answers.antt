use Rattle.std.proofs.Common.{◌≡◌, ℕ, Some, refl, sym, ◌∙◌, ap, subst}
use Rattle.std.proofs.lemmas.Result.{IfErr-weaker}
use Rattle.nif_base.specs.Node.{Members}
use Rattle.nif_file.specs.Head.{index_word, type_place}
use Rattle.nif_file.specs.Files.{IsBlockType, IsIndexed, head_of}
use Rattle.nif_file_reader.specs.Types.{RefusesKind}
use Rattle.nif_file_reader.specs.Known.{Knows}
use Rattle.nif_file_reader.proofs.TypeLaws.{RefusesEntry, entry_found, entry_indexed, entry_past, entry_refused, entry_unknown, if_ok_both}
use Rattle.nif_file_reader.proofs.types.kind_of_entry.Goals as goal

pub concrete-requires : goal.concrete-requires
concrete-requires c =
    let S = c.args.at.now.checked.now in
    let E = head_of S c.requires.0 in
    entry_found S E c.args.at.now.lists.now c.requires.1.said_lists (type_place c.args.word) c.in-Some-Some.kind (sym c.type_at.ensures ∙ c.in-Some-Some.is ∙ ap Some c.in-Some-Some.field-0-is)

pub returns-in-None-clause-err : goal.returns-in-None-clause-err
returns-in-None-clause-err c = λ members k.
    let S = c.args.at.now.checked.now in
    entry_past S (head_of S members) c.args.at.now.lists.now k.said_lists c.args.block c.args.word (sym c.type_at.ensures ∙ c.in-None.is) (type_place c.args.word) refl

pub returns-in-Some-None-clause-err : goal.returns-in-Some-None-clause-err
returns-in-Some-None-clause-err c = λ members k.
    let S = c.args.at.now.checked.now in
    let r = c.unknown_entry.ensures members k in
    entry_unknown S (head_of S members) c.args.at.now.lists.now k.said_lists c.args.block c.args.word (sym c.type_at.ensures ∙ c.in-Some-None.is ∙ ap Some c.in-Some-None.field-0-is) c.unknown_entry.result r.0 r.1

pub returns-in-Some-Some-clause-ok : goal.returns-in-Some-Some-clause-ok
returns-in-Some-Some-clause-ok c =
    let S = c.args.at.now.checked.now in
    let e = sym c.type_at.ensures ∙ c.in-Some-Some.is ∙ ap Some c.in-Some-Some.field-0-is in
    if_ok_both c.concrete.result (λ same. same ≡ c.in-Some-Some.kind) (IsBlockType S)
    (λ kind. IsBlockType S kind × ((members : Members) → Knows S members c.args.at.now.header.now c.args.at.now.lists.now c.args.store.now.trees
    → index_word (head_of S members) c.args.block ≡ Some c.args.word → IsIndexed S (head_of S members) c.args.block kind))
    (λ kind same is. (
      is,
      λ members k at. subst (λ (n : ℕ). IsIndexed S (head_of S members) c.args.block n) (sym same)
          (entry_indexed S (head_of S members) c.args.at.now.lists.now k.said_lists c.args.block c.args.word c.in-Some-Some.kind e at),
    ))
    c.concrete.ensures.same c.concrete.ensures.ok

pub returns-in-Some-Some-clause-err : goal.returns-in-Some-Some-clause-err
returns-in-Some-Some-clause-err c =
    let S = c.args.at.now.checked.now in
    let e = sym c.type_at.ensures ∙ c.in-Some-Some.is ∙ ap Some c.in-Some-Some.field-0-is in
    IfErr-weaker c.concrete.result (RefusesKind S c.args.block c.in-Some-Some.kind)
    (λ fault. (members : Members) → Knows S members c.args.at.now.header.now c.args.at.now.lists.now c.args.store.now.trees → RefusesEntry S (head_of S members) c.args.block c.args.word fault)
    (λ fault r members k. entry_refused S (head_of S members) c.args.at.now.lists.now k.said_lists c.args.block c.args.word c.in-Some-Some.kind e fault r) c.concrete.ensures.err
