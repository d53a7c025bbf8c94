use Rattle.std.proofs.Common.{sym, subst}
use Rattle.nif_decode.specs.Decodes.{context_for}
use Rattle.nif_file.specs.declared.faults.FileFault.{FileFault}
use Rattle.nif_file.specs.Files.{header_line, head_of}
use Rattle.nif_file.specs.HeaderReading.{HasNoHeader}
use Rattle.nif_file.proofs.HeaderMore.{context_here, get_within, got, header_group, header_open, more_checked, more_refused, more_stands, next_within, noted}
use Rattle.nif_file.proofs.header.read_next.Goals as goal

pub decode_members-requires-clause-open : goal.decode_members-requires-clause-open
decode_members-requires-clause-open g c = header_open c.args.schema.now c.requires.roles c.args.header c.requires.header

pub decode_members-requires-clause-group : goal.decode_members-requires-clause-group
decode_members-requires-clause-group g c = header_group c.args.schema.now c.requires.roles c.args.header c.requires.header

pub decode_members-requires-clause-counted : goal.decode_members-requires-clause-counted
decode_members-requires-clause-counted g c = c.requires.stands.1.within

pub decode_members-requires-clause-sound : goal.decode_members-requires-clause-sound
decode_members-requires-clause-sound g c = c.requires.stands.1.takes.sound

pub decode_members-requires-clause-within : goal.decode_members-requires-clause-within
decode_members-requires-clause-within g c = next_within c.args.schema.now c.args.header c.args.place c.requires.header c.requires.within

pub decode_members-requires-clause-members : goal.decode_members-requires-clause-members
decode_members-requires-clause-members g c = (c.requires.stands.1.held, c.requires.stands.1.holds)

pub returns-in-Err-clause-err : goal.returns-in-Err-clause-err
returns-in-Err-clause-err g c = λ start st.
    let S = c.args.schema.now in
    let f = get_within (header_line S) c.args.place c.requires.within in
    let C = context_for S c.context.result c.args.header c.args.bounds.now in
    let same = context_here S c.requires.roles c.args.header c.requires.header (head_of S st.held) c.context.result c.args.bounds.now (c.context.ensures S (head_of S st.held) st.told) c.requires.none.0 c.requires.none.1 in
    subst (λ (x : FileFault). HasNoHeader g.S.Source.left g.S.Source.still g.S.Source.read_faults S start c.decode_members.new.taker x) (sym c.of_value.ensures)
    (more_refused g.S.Source.left g.S.Source.still g.S.Source.read_faults c.args.schema.now c.args.header c.args.place f.0 start c.args.taker.now c.decode_members.new.taker c.args.scope.now c.args.store.now.building c.args.bounds.now.nodes c.args.head.now c.requires.header f.1 st C same
    c.decode_members.new.store c.in-Err.fault (c.in-Err.ensures.answers st.held st.holds))

pub note-requires-clause-noted : goal.note-requires-clause-noted
note-requires-clause-noted g c =
    let start = c.requires.stands.0 in
    let st = c.requires.stands.1 in
    let S = c.args.schema.now in
    let f = get_within (header_line S) c.args.place c.requires.within in
    let C = context_for S c.context.result c.args.header c.args.bounds.now in
    let same = context_here S c.requires.roles c.args.header c.requires.header (head_of S st.held) c.context.result c.args.bounds.now (c.context.ensures S (head_of S st.held) st.told) c.requires.none.0 c.requires.none.1 in
    let d = c.in-Ok.ensures.answers st.held st.holds in (
      head_of S st.held,
      f.0,
      got g.S.Source.left g.S.Source.still g.S.Source.read_faults c.args.schema.now c.args.header c.args.place f.0 start c.args.taker.now c.decode_members.new.taker c.args.scope.now c.args.store.now.building c.args.bounds.now.nodes c.args.head.now c.requires.header f.1 st C same c.decode_members.new.bounds.nodes c.decode_members.new.scope c.decode_members.new.store d,
      f.1,
      noted g.S.Source.left g.S.Source.still g.S.Source.read_faults c.args.schema.now c.args.header c.args.place f.0 start c.args.taker.now c.decode_members.new.taker c.args.scope.now c.args.store.now.building c.args.bounds.now.nodes c.args.head.now c.requires.header f.1 st C same c.decode_members.new.bounds.nodes c.decode_members.new.scope c.decode_members.new.store d,
    )

pub returns-in-None-clause-ok : goal.returns-in-None-clause-ok
returns-in-None-clause-ok g c = λ start st.
    let S = c.args.schema.now in
    let f = get_within (header_line S) c.args.place c.requires.within in
    let C = context_for S c.context.result c.args.header c.args.bounds.now in
    let same = context_here S c.requires.roles c.args.header c.requires.header (head_of S st.held) c.context.result c.args.bounds.now (c.context.ensures S (head_of S st.held) st.told) c.requires.none.0 c.requires.none.1 in
    let d = c.in-Ok.ensures.answers st.held st.holds in
    let is = noted g.S.Source.left g.S.Source.still g.S.Source.read_faults c.args.schema.now c.args.header c.args.place f.0 start c.args.taker.now c.decode_members.new.taker c.args.scope.now c.args.store.now.building c.args.bounds.now.nodes c.args.head.now c.requires.header f.1 st C same c.decode_members.new.bounds.nodes c.decode_members.new.scope c.decode_members.new.store d in
    more_stands g.S.Source.left g.S.Source.still g.S.Source.read_faults c.args.schema.now c.args.header c.args.place f.0 start c.args.taker.now c.decode_members.new.taker c.args.scope.now c.args.store.now.building c.args.bounds.now.nodes c.args.head.now c.requires.header f.1 st C same c.decode_members.new.bounds.nodes c.decode_members.new.scope c.decode_members.new.store d
    c.note.new.head (c.in-None.ensures (head_of S st.held) f.0 (got g.S.Source.left g.S.Source.still g.S.Source.read_faults c.args.schema.now c.args.header c.args.place f.0 start c.args.taker.now c.decode_members.new.taker c.args.scope.now c.args.store.now.building c.args.bounds.now.nodes c.args.head.now c.requires.header f.1 st C same c.decode_members.new.bounds.nodes c.decode_members.new.scope c.decode_members.new.store d) f.1 is)

pub returns-in-Some-clause-err : goal.returns-in-Some-clause-err
returns-in-Some-clause-err g c = λ start st.
    let S = c.args.schema.now in
    let f = get_within (header_line S) c.args.place c.requires.within in
    let C = context_for S c.context.result c.args.header c.args.bounds.now in
    let same = context_here S c.requires.roles c.args.header c.requires.header (head_of S st.held) c.context.result c.args.bounds.now (c.context.ensures S (head_of S st.held) st.told) c.requires.none.0 c.requires.none.1 in
    let d = c.in-Ok.ensures.answers st.held st.holds in
    let is = noted g.S.Source.left g.S.Source.still g.S.Source.read_faults c.args.schema.now c.args.header c.args.place f.0 start c.args.taker.now c.decode_members.new.taker c.args.scope.now c.args.store.now.building c.args.bounds.now.nodes c.args.head.now c.requires.header f.1 st C same c.decode_members.new.bounds.nodes c.decode_members.new.scope c.decode_members.new.store d in
    more_checked g.S.Source.left g.S.Source.still g.S.Source.read_faults c.args.schema.now c.args.header c.args.place f.0 start c.args.taker.now c.decode_members.new.taker c.args.scope.now c.args.store.now.building c.args.bounds.now.nodes c.args.head.now c.requires.header f.1 st C same c.decode_members.new.bounds.nodes c.decode_members.new.scope c.decode_members.new.store d
    c.note.new.head c.in-Some.fault (c.in-Some.ensures (head_of S st.held) f.0 (got g.S.Source.left g.S.Source.still g.S.Source.read_faults c.args.schema.now c.args.header c.args.place f.0 start c.args.taker.now c.decode_members.new.taker c.args.scope.now c.args.store.now.building c.args.bounds.now.nodes c.args.head.now c.requires.header f.1 st C same c.decode_members.new.bounds.nodes c.decode_members.new.scope c.decode_members.new.store d) f.1 is)
