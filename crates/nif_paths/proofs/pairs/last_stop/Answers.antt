use Rattle.std.proofs.Common.{◌≡◌, [], get_or, ap, subst}
use Rattle.std.proofs.lemmas.List.{take_all}
use Rattle.std.proofs.lemmas.List.Elements.{Contains-get_or}
use Rattle.nif_sets.specs.Insides.{is_empty, held_at}
use Rattle.nif_paths.specs.Levels.{IsEnded}
use Rattle.nif_paths.proofs.LevelLemmas.{list_any-at, last-ends, last-lacks}
use Rattle.nif_paths.proofs.pairs.last_stop.Goals as goal

pub returns-in_default : goal.returns-in_default
returns-in_default c = λ schema insides.
    let ks = c.args.types.now in
    let tables = c.args.tables.now in
    let name = c.args.name.now in
    let k = get_or ks c.loop-inner.inner-index 0 in
    let none : held_at tables name k ≡ [] = c.in_default.ensures in
    last-lacks schema name tables insides ks
    (list_any-at (λ x. is_empty (held_at tables name x)) ks k (Contains-get_or ks c.loop-inner.inner-index 0 c.loop-inner-test.true) (ap is_empty none))

pub returns : goal.returns
returns c = λ schema insides.
    let ks = c.args.types.now in
    let tables = c.args.tables.now in
    let name = c.args.name.now in
    last-ends schema name tables insides ks c.loop-inner.stop
    (subst (λ l. IsEnded tables name l c.loop-inner.stop) (take_all c.loop-inner.inner-index ks c.loop-inner-test.false) c.loop-inner.invariant)
