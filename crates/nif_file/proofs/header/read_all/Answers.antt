use Rattle.nif_file.proofs.header.read_all.Goals as goal

pub read_members-requires-clause-stands : goal.read_members-requires-clause-stands
read_members-requires-clause-stands g c =
    (c.args.taker.now, c.in-Ok.ensures.ok c.args.schema.now c.args.header c.requires.is c.requires.roles c.requires.header c.requires.first)

pub returns-in-Err-clause-err : goal.returns-in-Err-clause-err
returns-in-Err-clause-err g c = c.in-Err.ensures.err c.args.schema.now c.requires.is c.requires.roles c.requires.first

pub returns-in-Ok-read_members-clause-ok : goal.returns-in-Ok-read_members-clause-ok
returns-in-Ok-read_members-clause-ok g c =
    let st = c.in-Ok.ensures.ok c.args.schema.now c.args.header c.requires.is c.requires.roles c.requires.header c.requires.first in
    (c.read_members.new.scope, c.in-Ok-read_members.ensures.ok c.args.taker.now st)

pub returns-clause-err : goal.returns-clause-err
returns-clause-err g c =
    let st = c.in-Ok.ensures.ok c.args.schema.now c.args.header c.requires.is c.requires.roles c.requires.header c.requires.first in
    c.in-Err-read_members.ensures.err c.args.taker.now st
