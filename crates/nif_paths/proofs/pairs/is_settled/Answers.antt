use Rattle.std.proofs.Common.{◌≡◌, ◌≤◌, [], ◌∷◌, max, take, drop, sym, ap, ◌∙◌, arith}
use Rattle.std.proofs.lemmas.List.{take-append-drop}
use Rattle.nif_paths.specs.Marks.{types_stop}
use Rattle.nif_paths.proofs.StopLemmas.{types-append, types-bound}
use Rattle.nif_paths.proofs.pairs.is_settled.Goals as goal

pub returns-then-found-eq2-clause-settled : goal.returns-then-found-eq2-clause-settled
returns-then-found-eq2-clause-settled c = λ yes schema is.
    let ts = c.args.types.now in
    let count = c.args.found.count in
    let names = c.args.name.now ∷ [] in
    let rest = types_stop schema (drop count ts) names in
    let two : types_stop schema ts names ≡ max (types_stop schema (take count ts) names) rest =
    ap (λ l. types_stop schema l names) (sym (take-append-drop count ts)) ∙ types-append schema names (take count ts) (drop count ts) in
    let few : rest ≤ 2 = types-bound schema names (drop count ts) in
    let most = c.if-found-eq2.true in
    omega (arith, two, few, most, is)
