use Rattle.std.proofs.Common.{◌∙◌, ap, arith, length}
use Rattle.nif_text.proofs.Documents.{root_stops-start, root_empty, root_stops-content, root_stops-finish, root_full, few_children}
use Rattle.nif_text.proofs.document.root.Goals as goal

pub returns-in-Err-clause-read : goal.returns-in-Err-clause-read
returns-in-Err-clause-read c =
    root_stops-start c.in-Err.stop c.args.text.now c.start.new.text c.start.new.text c.in-Err.ensures.read c.fault.result c.fault.ensures

pub returns-then-empty-clause-read : goal.returns-then-empty-clause-read
returns-then-empty-clause-read c =
    root_empty c.in-Ok.start.0 c.in-Ok.start.1 c.in-Ok.start.2 c.args.text.now c.start.new.text c.in-Ok.ensures.read c.if-empty.true c.new-children.result.items
    c.new-children.ensures.items

pub returns-in-Err-content-clause-read : goal.returns-in-Err-content-clause-read
returns-in-Err-content-clause-read c =
    root_stops-content c.in-Ok.start.0 c.in-Ok.start.1 c.in-Ok.start.2 c.args.text.now c.start.new.text c.in-Ok.ensures.read c.if-empty.false c.in-Err-content.stop
    c.content.new.text c.content.new.text c.new-children.result.items c.content.new.children.items c.new-children.ensures.items c.in-Err-content.ensures.read
    c.fault-in-Err-content.result c.len.result (c.len.ensures ∙ c.content.new.children.ok.0) c.fault-in-Err-content.ensures

pub returns-in-Err-finish-clause-read : goal.returns-in-Err-finish-clause-read
returns-in-Err-finish-clause-read c =
    let read = c.in_default.ensures.read in
    root_stops-finish c.in-Ok.start.0 c.in-Ok.start.1 c.in-Ok.start.2 c.args.text.now c.start.new.text c.in-Ok.ensures.read c.if-empty.false c.in-Err-finish.stop
    c.bytes.result.now c.bytes.ensures c.content.new.text c.finish.new.text c.finish.new.text read.0 read.1 c.in-Err-finish.ensures.read
    c.new-children.result.items c.content.new.children.items c.new-children.ensures.items read.2
    c.fault-in-Err-finish.result c.len-in-Err-finish.result (c.len-in-Err-finish.ensures ∙ c.content.new.children.ok.0) c.fault-in-Err-finish.ensures

pub returns-clause-read : goal.returns-clause-read
returns-clause-read c =
    let read = c.in_default.ensures.read in
    root_full c.in-Ok.start.0 c.in-Ok.start.1 c.in-Ok.start.2 c.args.text.now c.start.new.text c.in-Ok.ensures.read c.if-empty.false
    c.bytes.result.now c.bytes.ensures c.content.new.text c.finish.new.text read.0 read.1 c.in_default-finish.ensures.read
    c.new-children.result.items c.content.new.children.items c.new-children.ensures.items read.2

pub returns-clause-few : goal.returns-clause-few
returns-clause-few c =
    omega (arith, few_children c.content.new.children.items, c.in_default.ensures.few, ap length c.new-children.ensures.items, c.in-Ok.ensures.shorter, c.in-Ok.ensures.short)
