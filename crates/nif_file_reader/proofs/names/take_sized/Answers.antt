use Rattle.std.proofs.Common.{◌≡◌, Bool, sym, ◌∙◌, subst}
use Rattle.nif_base.specs.Node.{number, is_little}
use Rattle.nif_stream.specs.Taking.{Takes}
use Rattle.nif_file.specs.declared.faults.FileFault.{FileFault}
use Rattle.nif_file.specs.FileFails.{PartFails, sized_needs}
use Rattle.nif_file_reader.specs.Halting.{Halts}
use Rattle.nif_file_reader.proofs.Orders.{little_is}
use Rattle.nif_file_reader.proofs.NameLaws.{bytes_halt, length_halts, sized_taken}
use Rattle.nif_file_reader.proofs.names.take_sized.Goals as goal

pub returns-in-Err-clause-err : goal.returns-in-Err-clause-err
returns-in-Err-clause-err g c = λ nodes.
    subst (λ (f : FileFault). Halts g.S.Source.left g.S.Source.still g.S.Source.read_faults (λ total at stop. PartFails total (sized_needs c.args.order at.left) at stop) nodes c.args.taker.now c.take_number.new.taker f) (sym c.of_value.ensures)
    (length_halts g.S.Source.left g.S.Source.still g.S.Source.read_faults c.args.order nodes c.args.taker.now c.take_number.new.taker c.in-Err.fault c.in-Err.ensures.err)

pub returns-in-Ok-take_bytes-clause-ok : goal.returns-in-Ok-take_bytes-clause-ok
returns-in-Ok-take_bytes-clause-ok g c =
    let little : c.eq.result ≡ is_little c.args.order = c.eq.ensures ∙ little_is c.args.order in
    sized_taken g.S.Source.left g.S.Source.still g.S.Source.read_faults c.args.order 0 c.args.taker.now c.take_number.new.taker c.take_bytes.new.taker c.in-Ok.length c.in-Ok-take_bytes.name.items
    (subst (λ (b : Bool). Takes g.S.Source.left g.S.Source.still g.S.Source.read_faults c.args.taker.now (number b 4 c.in-Ok.length) c.take_number.new.taker) little c.in-Ok.ensures.ok) c.in-Ok-take_bytes.ensures.ok c.in-Ok-take_bytes.ensures.count

pub returns-in-Err-take_bytes-clause-err : goal.returns-in-Err-take_bytes-clause-err
returns-in-Err-take_bytes-clause-err g c = λ nodes.
    let little : c.eq.result ≡ is_little c.args.order = c.eq.ensures ∙ little_is c.args.order in
    let t = subst (λ (b : Bool). Takes g.S.Source.left g.S.Source.still g.S.Source.read_faults c.args.taker.now (number b 4 c.in-Ok.length) c.take_number.new.taker) little c.in-Ok.ensures.ok in
    subst (λ (f : FileFault). Halts g.S.Source.left g.S.Source.still g.S.Source.read_faults (λ total at stop. PartFails total (sized_needs c.args.order at.left) at stop) nodes c.args.taker.now c.take_bytes.new.taker f) (sym c.of_value-in-Err-take_bytes.ensures)
    (bytes_halt g.S.Source.left g.S.Source.still g.S.Source.read_faults c.args.order nodes c.args.taker.now c.take_number.new.taker c.take_bytes.new.taker c.in-Ok.length c.in-Err-take_bytes.fault c.in-Ok.ensures.bits t
    (c.in-Err-take_bytes.ensures.err c.args.taker.now (number (is_little c.args.order) 4 c.in-Ok.length) t (sym c.place-at.ensures.place)))
