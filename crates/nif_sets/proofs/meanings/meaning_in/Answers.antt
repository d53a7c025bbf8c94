use Rattle.std.proofs.Common.{◌+◌, ◌∷◌, ◌++◌, [], take, get_or, true, sym, ap, subst, ◌∙◌}
use Rattle.std.proofs.lemmas.List.{take_all, take_more}
use Rattle.std.proofs.lemmas.List.Folds.{list_any_at}
use Rattle.nif_sets.specs.Insides.{is_empty, held_at, Means}
use Rattle.nif_sets.proofs.InsideLemmas.{Means-none, Means-same, Means-append, type-means}
use Rattle.nif_sets.proofs.LikeLemmas.{iff-same}
use Rattle.nif_sets.proofs.meanings.meaning_in.Goals as goal

pub loop-number-init : goal.loop-number-init
loop-number-init c =
    subst (Means c.args.tables.now c.args.name.now [] true true) (sym c.new-inside.ensures.empty) (Means-none c.args.tables.now c.args.name.now)

pub returns-in_default : goal.returns-in_default
returns-in_default c =
    list_any_at (λ k. is_empty (held_at c.args.tables.now c.args.name.now k)) c.args.types.now c.loop-number.number-index 0 c.loop-number-test.true (ap is_empty (sym c.in_default.ensures.value))

pub loop-number-preserved : goal.loop-number-preserved
loop-number-preserved c =
    let tables = c.args.tables.now in
    let name = c.args.name.now in
    let types = c.args.types.now in
    let i = c.loop-number.number-index in
    let front = take i types in
    let number = get_or types i 0 in
    let inside = c.loop-number.inside.keys in
    let own = type-means tables name number c.all_numbers-numbers.result c.all_inner-inner.result c.inners.result.now
    c.in-Some.shapes.now.shapes c.in-Some.ensures.value c.in-Some.ensures.some c.all_numbers-numbers.ensures c.all_inner-inner.ensures c.inners.ensures.same in
    Means-same tables name (front ++ number ∷ []) (take (i + 1) types) _ _ (inside ++ c.inners.result.now) c.add_types.new.to.keys
    (take_more types i 0 c.loop-number-test.true)
    c.in-Ok.ensures
    (Means-append tables name front (number ∷ []) c.loop-number.numbers c.loop-number.inner c.all_numbers-numbers.result c.all_inner-inner.result inside c.inners.result.now c.loop-number.invariant own)

pub returns : goal.returns
returns c =
    let types = c.args.types.now in
    let i = c.loop-number.number-index in
    Means-same c.args.tables.now c.args.name.now (take i types) types c.loop-number.numbers c.loop-number.inner c.loop-number.inside.keys c.in-Ok-from_slice.types.items
    (sym (take_all i types c.loop-number-test.false))
    (iff-same c.in-Ok-from_slice.types.items c.loop-number.inside.keys (c.in-Ok-from_slice.ensures.items ∙ c.as_slice.ensures.keys))
    c.loop-number.invariant
