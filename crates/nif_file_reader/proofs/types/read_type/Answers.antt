use Rattle.std.proofs.Common.{◌≡◌, ◌≤◌, ℕ, Option, Some, None, sym, ◌∙◌, subst, subst₂}
use Rattle.std.proofs.lemmas.Result.{IfErr-weaker, IfOk-weaker}
use Rattle.nif_base.specs.Node.{Members}
use Rattle.nif_stream.specs.Taking.{Takes}
use Rattle.nif_base.specs.Limits.{most_nodes}
use Rattle.std.specs.Prelude.{IfSome, slice_get}
use Rattle.nif_file.specs.Head.{index_word, order_in, type_names, type_place}
use Rattle.nif_file.specs.Files.{IsBlockType, IsIndexed, head_of, name_of, name_where}
use Rattle.nif_file.specs.FileFails.{NameFails, TypeFails, TypeFailsBy}
use Rattle.nif_file_reader.specs.Halting.{Halts}
use Rattle.nif_file_reader.specs.Known.{Knows, ReadsType}
use Rattle.nif_file_reader.proofs.Halting.{halts_also}
use Rattle.nif_file_reader.proofs.Going.{takes_none}
use Rattle.nif_file_reader.proofs.TypeLaws.{RefusesEntry}
use Rattle.nif_file_reader.proofs.NameFaults.{entry_halts}
use Rattle.nif_file_reader.proofs.ValueLaws.{order_here}
use Rattle.nif_file_reader.proofs.types.read_type.Goals as goal

pub returns-in-None-clause-ok : goal.returns-in-None-clause-ok
returns-in-None-clause-ok g c =
    let S = c.args.at.now.checked.now in
    let header = c.args.at.now.header.now in
    let lists = c.args.at.now.lists.now in
    IfOk-weaker c.read_name.result (λ kind. IsBlockType S kind × Takes g.S.Source.left g.S.Source.still g.S.Source.read_faults c.args.taker.now (name_where None header.context.order (name_of S kind)) c.read_name.new.taker)
    (λ kind. (members : Members) → Knows S members header lists c.args.store.now.trees → ReadsType g.S.Source.left g.S.Source.still g.S.Source.read_faults S members c.args.block c.args.taker.now c.read_name.new.taker kind)
    (λ kind r members k.
    let E = head_of S members in
    let none : index_word E c.args.block ≡ None = k.said_lists.index c.args.block ∙ sym c.index_word.ensures ∙ c.in-None.is in
    record {
      type = r.0;
      indexed = subst (λ (o : Option ℕ). IfSome o (λ word. slice_get (type_names E) (type_place word) ≡ Some (name_of S kind))) (sym none) tt;
      takes = subst₂ (λ (o : Option ℕ) order. Takes g.S.Source.left g.S.Source.still g.S.Source.read_faults c.args.taker.now (name_where o order (name_of S kind)) c.read_name.new.taker) (sym none) (sym (order_here S members header lists c.args.store.now.trees k)) r.1;
    }) c.read_name.ensures.ok

pub returns-in-None-clause-err : goal.returns-in-None-clause-err
returns-in-None-clause-err g c =
    let S = c.args.at.now.checked.now in
    let header = c.args.at.now.header.now in
    let lists = c.args.at.now.lists.now in
    IfErr-weaker c.read_name.result
    (λ fault. (members : Members) (nodes : ℕ) → nodes ≤ most_nodes → order_in (head_of S members) ≡ header.context.order → Halts g.S.Source.left g.S.Source.still g.S.Source.read_faults (λ total. NameFails S total (head_of S members) c.args.block) nodes c.args.taker.now c.read_name.new.taker fault)
    (λ fault. (members : Members) (nodes : ℕ) → nodes ≤ most_nodes → Knows S members header lists c.args.store.now.trees → Halts g.S.Source.left g.S.Source.still g.S.Source.read_faults (λ total. TypeFails S total (head_of S members) c.args.block) nodes c.args.taker.now c.read_name.new.taker fault)
    (λ fault r members nodes few k.
    let E = head_of S members in
    let none : index_word E c.args.block ≡ None = k.said_lists.index c.args.block ∙ sym c.index_word.ensures ∙ c.in-None.is in
    halts_also g.S.Source.left g.S.Source.still g.S.Source.read_faults (λ total. NameFails S total E c.args.block) (λ total. TypeFails S total E c.args.block) nodes c.args.taker.now c.read_name.new.taker fault
    (λ total at stop n p l bad. subst (λ (o : Option ℕ). TypeFailsBy o S total E c.args.block at stop) (sym none) bad)
    (r members nodes few (order_here S members header lists c.args.store.now.trees k))) c.read_name.ensures.err

pub returns-in-Some-clause-ok : goal.returns-in-Some-clause-ok
returns-in-Some-clause-ok g c =
    let S = c.args.at.now.checked.now in
    let header = c.args.at.now.header.now in
    let lists = c.args.at.now.lists.now in
    IfOk-weaker c.kind_of_entry.result
    (λ kind. IsBlockType S kind × ((members : Members) → Knows S members header lists c.args.store.now.trees → index_word (head_of S members) c.args.block ≡ Some c.in-Some.word → IsIndexed S (head_of S members) c.args.block kind))
    (λ kind. (members : Members) → Knows S members header lists c.args.store.now.trees → ReadsType g.S.Source.left g.S.Source.still g.S.Source.read_faults S members c.args.block c.args.taker.now c.args.taker.now kind)
    (λ kind r members k.
    let E = head_of S members in
    let some : index_word E c.args.block ≡ Some c.in-Some.word = k.said_lists.index c.args.block ∙ sym c.index_word.ensures ∙ c.in-Some.is in
    record {
      type = r.0;
      indexed = r.1 members k some;
      takes = subst (λ (o : Option ℕ). Takes g.S.Source.left g.S.Source.still g.S.Source.read_faults c.args.taker.now (name_where o (order_in E) (name_of S kind)) c.args.taker.now) (sym some) (takes_none g.S.Source.left g.S.Source.still g.S.Source.read_faults c.args.taker.now c.requires.ready);
    }) c.kind_of_entry.ensures.ok

pub returns-in-Some-clause-err : goal.returns-in-Some-clause-err
returns-in-Some-clause-err g c =
    let S = c.args.at.now.checked.now in
    let header = c.args.at.now.header.now in
    let lists = c.args.at.now.lists.now in
    IfErr-weaker c.kind_of_entry.result
    (λ fault. (members : Members) → Knows S members header lists c.args.store.now.trees → RefusesEntry S (head_of S members) c.args.block c.in-Some.word fault)
    (λ fault. (members : Members) (nodes : ℕ) → nodes ≤ most_nodes → Knows S members header lists c.args.store.now.trees → Halts g.S.Source.left g.S.Source.still g.S.Source.read_faults (λ total. TypeFails S total (head_of S members) c.args.block) nodes c.args.taker.now c.args.taker.now fault)
    (λ fault r members nodes few k.
    let E = head_of S members in
    let some : index_word E c.args.block ≡ Some c.in-Some.word = k.said_lists.index c.args.block ∙ sym c.index_word.ensures ∙ c.in-Some.is in
    entry_halts g.S.Source.left g.S.Source.still g.S.Source.read_faults S E c.args.block c.in-Some.word nodes c.args.taker.now fault some c.requires.ready (r members k)) c.kind_of_entry.ensures.err
