use Rattle.std.proofs.Common.{◌≡◌, Bool, true, inl, sym, ◌∙◌, subst}
use Rattle.nif_base.specs.Node.{number, is_little}
use Rattle.nif_stream.specs.Taking.{Takes}
use Rattle.nif_file.specs.declared.faults.FileFault.{FileFault}
use Rattle.nif_file.specs.Files.{head_of}
use Rattle.nif_file.specs.FileFails.{PartFails, ZeroFailsBy}
use Rattle.nif_file_reader.specs.Halting.{Halts}
use Rattle.nif_file_reader.proofs.Halting.{halts_also}
use Rattle.nif_file_reader.proofs.NameLaws.{part_halts}
use Rattle.nif_file_reader.proofs.ZeroLaws.{check_halts}
use Rattle.nif_file_reader.proofs.Orders.{little_is}
use Rattle.nif_file_reader.proofs.blocks.take_zero_word.Goals as goal

pub returns-in-Ok-clause-err : goal.returns-in-Ok-clause-err
returns-in-Ok-clause-err g c = λ schema members nodes e.
    let little : c.eq.result ≡ is_little c.args.order = c.eq.ensures ∙ little_is c.args.order in
    check_halts g.S.Source.left g.S.Source.still g.S.Source.read_faults (head_of schema members) c.args.block c.args.order nodes c.args.taker.now c.take_number.new.taker c.in-Ok.value e
    (subst (λ (b : Bool). Takes g.S.Source.left g.S.Source.still g.S.Source.read_faults c.args.taker.now (number b 4 c.in-Ok.value) c.take_number.new.taker) little c.in-Ok.ensures.ok) c.in-Ok.ensures.bits c.in-Ok.value-test.1

pub returns-in-Err-clause-err : goal.returns-in-Err-clause-err
returns-in-Err-clause-err g c = λ schema members nodes e.
    subst (λ (f : FileFault). Halts g.S.Source.left g.S.Source.still g.S.Source.read_faults (λ total. ZeroFailsBy true total (head_of schema members) c.args.block) nodes c.args.taker.now c.take_number.new.taker f) (sym c.of_value.ensures)
    (halts_also g.S.Source.left g.S.Source.still g.S.Source.read_faults (λ total. PartFails total 4) (λ total. ZeroFailsBy true total (head_of schema members) c.args.block) nodes c.args.taker.now c.take_number.new.taker _ (λ total at stop n p l bad. inl bad)
    (part_halts g.S.Source.left g.S.Source.still g.S.Source.read_faults 4 nodes c.args.taker.now c.take_number.new.taker c.in-Err.fault c.in-Err.ensures.err))
