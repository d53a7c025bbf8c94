use Rattle.std.proofs.Common.{◌≡◌, ◌≤◌, ℕ, List, Some, inl, sym, ◌∙◌, subst}
use Rattle.std.proofs.lemmas.Result.{IfErr-weaker}
use Rattle.nif_base.specs.declared.orders.Order.{Order}
use Rattle.nif_base.specs.Node.{Members}
use Rattle.nif_schema.specs.Schema.{find_block}
use Rattle.nif_stream.specs.Taking.{Takes}
use Rattle.nif_base.specs.Limits.{most_nodes}
use Rattle.nif_file.specs.Head.{order_in}
use Rattle.nif_file.specs.Files.{IsBlockType, head_of, name_of, sized_string}
use Rattle.nif_file.specs.FileFails.{NameFails, PartFails, sized_needs}
use Rattle.nif_file.specs.NameLaws.{block_name}
use Rattle.nif_file_reader.specs.Halting.{Halts}
use Rattle.nif_file_reader.specs.Types.{RefusesName}
use Rattle.nif_file_reader.proofs.Halting.{halts_also}
use Rattle.nif_file_reader.proofs.TypeLaws.{if_ok_both}
use Rattle.nif_file_reader.proofs.NameFaults.{name_refused}
use Rattle.nif_file_reader.proofs.types.read_name.Goals as goal

pub returns-in-Err-clause-err : goal.returns-in-Err-clause-err
returns-in-Err-clause-err g c = λ members nodes few e.
    let S = c.args.at.now.checked.now in
    let order = c.args.at.now.header.now.context.order in
    halts_also g.S.Source.left g.S.Source.still g.S.Source.read_faults (λ total at stop. PartFails total (sized_needs order at.left) at stop) (λ total. NameFails S total (head_of S members) c.args.block) nodes c.args.taker.now c.take_sized.new.taker c.in-Err.fault
    (λ total at stop n p l bad. inl (subst (λ (o : Order). PartFails total (sized_needs o at.left) at stop) (sym e) bad)) (c.in-Err.ensures.err nodes)

pub returns-clause-ok : goal.returns-clause-ok
returns-clause-ok g c =
    let S = c.args.at.now.checked.now in
    let order = c.args.at.now.header.now.context.order in
    if_ok_both c.kind_of_name.result (λ kind. find_block S c.as_slice.result.now ≡ Some kind) (IsBlockType S)
    (λ kind. IsBlockType S kind × Takes g.S.Source.left g.S.Source.still g.S.Source.read_faults c.args.taker.now (sized_string order (name_of S kind)) c.take_sized.new.taker)
    (λ kind found is. (is, subst (λ (n : List ℕ). Takes g.S.Source.left g.S.Source.still g.S.Source.read_faults c.args.taker.now (sized_string order n) c.take_sized.new.taker) (sym c.as_slice.ensures.value ∙ sym (block_name S c.as_slice.result.now kind found)) c.in-Ok.ensures.ok))
    c.kind_of_name.ensures.found c.kind_of_name.ensures.ok

pub returns-clause-err : goal.returns-clause-err
returns-clause-err g c =
    let S = c.args.at.now.checked.now in
    let order = c.args.at.now.header.now.context.order in
    IfErr-weaker c.kind_of_name.result (RefusesName S c.args.block c.as_slice.result.now)
    (λ fault. (members : Members) (nodes : ℕ) → nodes ≤ most_nodes → order_in (head_of S members) ≡ order → Halts g.S.Source.left g.S.Source.still g.S.Source.read_faults (λ total. NameFails S total (head_of S members) c.args.block) nodes c.args.taker.now c.take_sized.new.taker fault)
    (λ fault r members nodes few e. name_refused g.S.Source.left g.S.Source.still g.S.Source.read_faults S (head_of S members) c.args.block order nodes c.args.taker.now c.take_sized.new.taker c.in-Ok.name.items fault few e c.in-Ok.ensures.ok
    (subst (λ (n : List ℕ). RefusesName S c.args.block n fault) c.as_slice.ensures.value r)) c.kind_of_name.ensures.err
