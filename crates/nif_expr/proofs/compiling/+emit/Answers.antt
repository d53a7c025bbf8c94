use Rattle.std.proofs.Common.{◌≡◌, ◌<◌, ◌^◌, length, arith}
use Rattle.nif_schema.specs.Expression.{tree}
use Rattle.nif_expr.proofs.TreeLemmas.{tree-not, tree-two}
use Rattle.nif_expr.proofs.AddLemmas.{not_adds, same_adds, more_adds, turned_adds, need_of_added}
use Rattle.nif_expr.proofs.compiling.+emit.Goals as goal

pub overflow_add-first : goal.overflow_add-first
overflow_add-first t c =
    let few : length c.emit-in-Two.new.words.items < 2 ^ 64 = omega (arith, c.emit-in-Two.new.words.ok.0) in
    omega (arith, need_of_added _ _ _ _ c.in-Ok-emit.ensures few)

pub returns-in-Ok : goal.returns-in-Ok
returns-in-Ok t c =
    not_adds c.args.paths.now (tree c.args.expr.now) (tree c.get.result.now) c.args.words.now.items c.emit.new.words.items c.put-in-Ok.new.words.items
    c.in-Ok.need c.put-in-Ok.result (tree-not _ _ _ c.in-Not.is c.get.ensures) c.in-Ok.ensures c.put-in-Ok.ensures.words c.put-in-Ok.ensures.need

pub returns-then-first-second : goal.returns-then-first-second
returns-then-first-second t c =
    let start : c.len-start.result ≡ length c.args.words.now.items = omega (arith, c.len-start.ensures, c.args.words.now.ok.0) in
    let middle : c.len-middle.result ≡ length c.emit-in-Two.new.words.items = omega (arith, c.len-middle.ensures, c.emit-in-Two.new.words.ok.0) in
    turned_adds c.args.paths.now (tree c.args.expr.now) c.in-Two.op (tree c.get-in-Two.result.now) (tree c.get-in-Two-2.result.now)
    c.args.words.now.items c.emit-in-Two.new.words.items c.emit-in-Two-2.new.words.items c.turn.new.words.items c.put-then-first-second.new.words.items
    c.in-Ok-emit.need c.in-Ok-emit-2.need c.len-start.result c.len-middle.result c.put-then-first-second.result
    (tree-two _ _ _ _ _ _ c.in-Two.is c.get-in-Two.ensures c.get-in-Two-2.ensures) c.in-Ok-emit.ensures c.in-Ok-emit-2.ensures c.if-first-second.true
    start middle c.turn.ensures c.put-then-first-second.ensures.words c.put-then-first-second.ensures.need

pub returns-then-first-second-2 : goal.returns-then-first-second-2
returns-then-first-second-2 t c =
    same_adds c.args.paths.now (tree c.args.expr.now) c.in-Two.op (tree c.get-in-Two.result.now) (tree c.get-in-Two-2.result.now)
    c.args.words.now.items c.emit-in-Two.new.words.items c.emit-in-Two-2.new.words.items c.put-then-first-second-2.new.words.items
    c.in-Ok-emit.need c.in-Ok-emit-2.need c.put-then-first-second-2.result
    (tree-two _ _ _ _ _ _ c.in-Two.is c.get-in-Two.ensures c.get-in-Two-2.ensures) c.in-Ok-emit.ensures c.in-Ok-emit-2.ensures c.if-first-second-2.true
    c.put-then-first-second-2.ensures.words c.put-then-first-second-2.ensures.need

pub returns-else-first-second-2 : goal.returns-else-first-second-2
returns-else-first-second-2 t c =
    let less : c.in-Ok-emit-2.need < c.in-Ok-emit.need = omega (arith, c.if-first-second.false, c.if-first-second-2.false) in
    more_adds c.args.paths.now (tree c.args.expr.now) c.in-Two.op (tree c.get-in-Two.result.now) (tree c.get-in-Two-2.result.now)
    c.args.words.now.items c.emit-in-Two.new.words.items c.emit-in-Two-2.new.words.items c.put-else-first-second-2.new.words.items
    c.in-Ok-emit.need c.in-Ok-emit-2.need c.put-else-first-second-2.result
    (tree-two _ _ _ _ _ _ c.in-Two.is c.get-in-Two.ensures c.get-in-Two-2.ensures) c.in-Ok-emit.ensures c.in-Ok-emit-2.ensures less
    c.put-else-first-second-2.ensures.words c.put-else-first-second-2.ensures.need
