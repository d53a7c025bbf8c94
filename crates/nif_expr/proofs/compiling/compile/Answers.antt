use Rattle.std.proofs.Common.{◌<◌, ◌^◌, length, arith}
use Rattle.nif_expr.proofs.AddLemmas.{only_added}
use Rattle.nif_expr.proofs.CodeLemmas.{fits_all, ran_value}
use Rattle.nif_expr.proofs.compiling.compile.Goals as goal

pub invariant_of-result : goal.invariant_of-result
invariant_of-result c =
    let few : length c.emit.new.words.items < 2 ^ 64 = omega (arith, c.emit.new.words.ok.0) in
    fits_all c.emit.new.words.items _ _ (only_added _ _ _ _ c.new-words.ensures.items c.in-Ok.ensures) few

pub returns-in-Ok : goal.returns-in-Ok
returns-in-Ok c = ran_value c.emit.new.words.items _ _ (only_added _ _ _ _ c.new-words.ensures.items c.in-Ok.ensures)
