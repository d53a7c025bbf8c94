use Rattle.nif_file.specs.Head.{order_in}
use Rattle.nif_file.specs.Files.{head_of}
use Rattle.nif_base.specs.Node.{text}
use Rattle.nif_stream.specs.Taking.{left_of}
use Rattle.nif_file_reader.proofs.Going.{ready}
use Rattle.nif_file_reader.proofs.EndLaws.{end_kept}
use Rattle.nif_file_reader.proofs.Reading.{knows_still}
use Rattle.nif_file_reader.proofs.Rest.{blocks_halt, end_halts, footer_halts, has_rest, said_blocks}
use Rattle.nif_file_reader.proofs.files.read_rest.Goals as goal

pub returns-in-Err-clause-err : goal.returns-in-Err-clause-err
returns-in-Err-clause-err g c = λ members k.
    let S = c.args.at.now.checked.now in
    let header = c.args.at.now.header.now in
    let lists = c.args.at.now.lists.now in
    blocks_halt g.S.Source.left g.S.Source.still g.S.Source.read_faults S members header.bounds.blocks c.args.bounds.now.nodes c.args.taker.now c.read_blocks.new.taker c.in-Err.fault (said_blocks S members header lists c.args.store.now.trees k) (c.in-Err.ensures.err members k)

pub read_footer-requires-clause-knows : goal.read_footer-requires-clause-knows
read_footer-requires-clause-knows g c =
    let S = c.args.at.now.checked.now in
    let header = c.args.at.now.header.now in
    let lists = c.args.at.now.lists.now in
    let members = c.requires.knows.0 in
    let k = c.requires.knows.1 in
    let b = c.in-Ok.ensures.ok members k in
    (members, knows_still g.S.Source.left g.S.Source.still g.S.Source.read_faults S members header.bounds.blocks c.args.bounds.now.nodes c.read_blocks.new.bounds.nodes c.args.taker.now c.read_blocks.new.taker c.args.store.now c.read_blocks.new.store c.in-Ok.blocks b header lists k)

pub returns-in-Err-read_footer-clause-err : goal.returns-in-Err-read_footer-clause-err
returns-in-Err-read_footer-clause-err g c = λ members k.
    let S = c.args.at.now.checked.now in
    let header = c.args.at.now.header.now in
    let lists = c.args.at.now.lists.now in
    let b = c.in-Ok.ensures.ok members k in
    let still = knows_still g.S.Source.left g.S.Source.still g.S.Source.read_faults S members header.bounds.blocks c.args.bounds.now.nodes c.read_blocks.new.bounds.nodes c.args.taker.now c.read_blocks.new.taker c.args.store.now c.read_blocks.new.store c.in-Ok.blocks b header lists k in
    let said = said_blocks S members header lists c.args.store.now.trees k in
    footer_halts g.S.Source.left g.S.Source.still g.S.Source.read_faults S members header.bounds.blocks c.args.bounds.now.nodes c.read_blocks.new.bounds.nodes c.args.taker.now c.read_blocks.new.taker c.args.store.now c.read_blocks.new.store c.in-Ok.blocks said b c.read_footer.new.taker c.in-Err-read_footer.fault (c.in-Err-read_footer.ensures.err members still)

pub end_file-requires : goal.end_file-requires
end_file-requires g c =
    let S = c.args.at.now.checked.now in
    let header = c.args.at.now.header.now in
    let lists = c.args.at.now.lists.now in
    let members = c.requires.knows.0 in
    let k = c.requires.knows.1 in
    let b = c.in-Ok.ensures.ok members k in
    let still = knows_still g.S.Source.left g.S.Source.still g.S.Source.read_faults S members header.bounds.blocks c.args.bounds.now.nodes c.read_blocks.new.bounds.nodes c.args.taker.now c.read_blocks.new.taker c.args.store.now c.read_blocks.new.store c.in-Ok.blocks b header lists k in
    let said = said_blocks S members header lists c.args.store.now.trees k in
    let f = c.in-Ok-read_footer.ensures.ok members still in
    ready g.S.Source.left g.S.Source.still g.S.Source.read_faults c.read_blocks.new.taker c.read_footer.new.taker (text (order_in (head_of S members)) f.node) f.takes

pub returns-in-Ok-end_file-clause-ok : goal.returns-in-Ok-end_file-clause-ok
returns-in-Ok-end_file-clause-ok g c = λ members k.
    let S = c.args.at.now.checked.now in
    let header = c.args.at.now.header.now in
    let lists = c.args.at.now.lists.now in
    let b = c.in-Ok.ensures.ok members k in
    let still = knows_still g.S.Source.left g.S.Source.still g.S.Source.read_faults S members header.bounds.blocks c.args.bounds.now.nodes c.read_blocks.new.bounds.nodes c.args.taker.now c.read_blocks.new.taker c.args.store.now c.read_blocks.new.store c.in-Ok.blocks b header lists k in
    let said = said_blocks S members header lists c.args.store.now.trees k in
    let f = c.in-Ok-read_footer.ensures.ok members still in
    has_rest g.S.Source.left g.S.Source.still g.S.Source.read_faults S members header.bounds.blocks c.args.bounds.now.nodes c.read_blocks.new.bounds.nodes c.args.taker.now c.read_blocks.new.taker c.args.store.now c.read_blocks.new.store c.in-Ok.blocks said b c.read_footer.new.bounds.nodes c.read_footer.new.taker c.read_footer.new.store c.in-Ok-read_footer.footer f c.end_file.new.taker c.in-Ok-end_file.ensures.ok
    (end_kept (left_of g.S.Source.left c.read_footer.new.taker) (left_of g.S.Source.left c.end_file.new.taker) c.in-Ok-end_file.ensures.ok.given c.in-Ok-end_file.ensures.end)

pub returns-in-Err-end_file-clause-err : goal.returns-in-Err-end_file-clause-err
returns-in-Err-end_file-clause-err g c = λ members k.
    let S = c.args.at.now.checked.now in
    let header = c.args.at.now.header.now in
    let lists = c.args.at.now.lists.now in
    let b = c.in-Ok.ensures.ok members k in
    let still = knows_still g.S.Source.left g.S.Source.still g.S.Source.read_faults S members header.bounds.blocks c.args.bounds.now.nodes c.read_blocks.new.bounds.nodes c.args.taker.now c.read_blocks.new.taker c.args.store.now c.read_blocks.new.store c.in-Ok.blocks b header lists k in
    let said = said_blocks S members header lists c.args.store.now.trees k in
    let f = c.in-Ok-read_footer.ensures.ok members still in
    end_halts g.S.Source.left g.S.Source.still g.S.Source.read_faults S members header.bounds.blocks c.args.bounds.now.nodes c.read_blocks.new.bounds.nodes c.args.taker.now c.read_blocks.new.taker c.args.store.now c.read_blocks.new.store c.in-Ok.blocks said b c.read_footer.new.bounds.nodes c.read_footer.new.taker c.read_footer.new.store c.in-Ok-read_footer.footer f c.end_file.new.taker c.in-Err-end_file.fault (c.in-Err-end_file.ensures.err c.read_footer.new.bounds.nodes)
