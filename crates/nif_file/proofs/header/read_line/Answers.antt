use Rattle.std.proofs.Common.{◌≤◌, sym, subst, take, length, arith, [], ℕ, None, length-take}
use Rattle.nif_layout.specs.Kind as kind
use Rattle.nif_layout.specs.Fails.{LeafFails}
use Rattle.nif_decode.specs.Answers.{Stops}
use Rattle.nif_decode.specs.Faults.{cause}
use Rattle.nif_file.specs.declared.faults.FileFault.{FileFault}
use Rattle.nif_file.specs.Head.{header_context}
use Rattle.nif_file.specs.HeaderReading.{HasNoHeader}
use Rattle.nif_file.proofs.LineReading.{first_field, line_ends, line_refused, line_stands}
use Rattle.nif_file.proofs.header.read_line.Goals as goal

pub returns-in-Err-clause-err : goal.returns-in-Err-clause-err
returns-in-Err-clause-err g c = λ schema is roles first.
    let ff = first_field schema roles in
    let d = c.in-Err.ensures.answers in
    let stops : Stops g.S.Source.left g.S.Source.read_faults (LeafFails (header_context schema []) kind.Line) (record { taker = c.args.taker.now; nodes = 1; building = None; told = [] }) c.decode_line.new.taker (cause c.in-Err.fault) =
    subst (λ (n : ℕ). Stops g.S.Source.left g.S.Source.read_faults (LeafFails (header_context schema []) kind.Line) (record { taker = c.args.taker.now; nodes = n; building = None; told = [] }) c.decode_line.new.taker (cause c.in-Err.fault))
    c.requires.nodes (d.stops (header_context schema [])) in
    subst (λ (f : FileFault). HasNoHeader g.S.Source.left g.S.Source.still g.S.Source.read_faults schema c.args.taker.now c.decode_line.new.taker f) (sym c.of_value.ensures)
    (line_ends schema is ff.0 ff.1 ff.2 g.S.Source.left g.S.Source.still g.S.Source.read_faults c.args.taker.now c.decode_line.new.taker c.in-Err.fault first d.went stops)

pub returns-in-Ok-version_of_line-clause-ok : goal.returns-in-Ok-version_of_line-clause-ok
returns-in-Ok-version_of_line-clause-ok g c = λ schema header is roles found first.
    let ff = first_field schema roles in
    let d = c.in-Ok.ensures.answers in
    let line = take c.in-Ok.length c.decode_line.new.into in
    let short : length line ≤ 255 = omega (arith, length-take c.in-Ok.length c.decode_line.new.into, d.bound) in
    let fine = c.in-Ok-version_of_line.ensures in
    line_stands schema is ff.0 ff.1 ff.2 g.S.Source.left g.S.Source.still g.S.Source.read_faults header c.args.taker.now c.decode_line.new.taker line c.decode_line.new.scope c.decode_line.new.store.building c.decode_line.new.bounds.nodes c.new.result
    found first d.in_line short d.takes fine.1 (omega (arith, d.nodes, c.requires.nodes)) d.is d.kept (c.new.ensures schema ff.0 line ff.2.name fine.0)

pub returns-in-Err-version_of_line-clause-err : goal.returns-in-Err-version_of_line-clause-err
returns-in-Err-version_of_line-clause-err g c = λ schema is roles first.
    let ff = first_field schema roles in
    let d = c.in-Ok.ensures.answers in
    let line = take c.in-Ok.length c.decode_line.new.into in
    let short : length line ≤ 255 = omega (arith, length-take c.in-Ok.length c.decode_line.new.into, d.bound) in
    line_refused schema is ff.0 ff.1 ff.2 g.S.Source.left g.S.Source.still g.S.Source.read_faults c.args.taker.now c.decode_line.new.taker line c.in-Err-version_of_line.fault first d.in_line short d.takes c.in-Err-version_of_line.ensures
