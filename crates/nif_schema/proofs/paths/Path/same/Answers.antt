use Rattle.std.proofs.Common.{◌≡◌, arith, get_or, sym, rules, ap, ◌∙◌}
use Rattle.std.proofs.lemmas.List.{take_more_same}
use Rattle.nif_schema.proofs.paths.Path.same.Goals as goal

pub loop-i-preserved : goal.loop-i-preserved
loop-i-preserved c =
    let e : c.name-item.result ≡ c.index.result.now = search rules in
    let xs = c.deref-name-items.result.now in
    let ys = c.other.inside.names.items in
    let n = c.name-item.result in
    let i = c.loop-i.i in
    let here : get_or xs i n ≡ get_or ys i n = sym c.name-item.is ∙ e ∙ c.index.ensures ∙ ap (λ d. get_or ys i d) (sym e) in
    take_more_same xs ys i n (omega arith) (omega arith) c.loop-i.invariant here
