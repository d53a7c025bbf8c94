use Rattle.std.proofs.Common.{◌+◌, ◌<◌, ◌≤◌, [], ◌∷◌, length, drop, get_or, None, Some, sym, ap, subst, ◌∙◌, arith}
use Rattle.std.proofs.lemmas.List.{length-drop}
use Rattle.nif_schema.specs.Declaration.{Name}
use Rattle.nif_sets.specs.Insides.{IsMeaning, Means}
use Rattle.nif_paths.specs.Marks.{types_stop}
use Rattle.nif_paths.proofs.Lists.{drop-at, drop_past, is_false, is_true, byte-not}
use Rattle.nif_paths.proofs.StopLemmas.{type-lacks, type-ends, type-stops, type-goes}
use Rattle.nif_paths.proofs.types.types_stop.Goals as goal

pub returns-in-Ok-None : goal.returns-in-Ok-None
returns-in-Ok-None c = λ schema insides.
    let p = c.args.path.now in
    let tables = c.args.tables.now in
    let place = c.loop-place.place in
    let i = c.loop-place.invariant in
    let lt : place < length p = let t = c.loop-place-test.true in let e = c.len-place-end.ensures.value in omega (arith, t, e) in
    let name : Name = get_or p place [] in
    let ks = c.loop-place.at.items in
    let said : IsMeaning tables ks name (None) =
    subst (λ l. IsMeaning tables l name (None)) c.as_slice.ensures.value
    (subst (λ n. IsMeaning tables c.as_slice.result.now n (None)) (c.bytes.ensures ∙ c.get.ensures)
    (subst (IsMeaning tables c.as_slice.result.now c.bytes.result.now) c.in-Ok-None.field-0-is c.in-Ok-None.ensures)) in
    let stops = i schema insides ∙ ap (types_stop schema ks) (drop-at p place [] lt) ∙ type-lacks schema tables insides name ks (drop (place + 1) p) said in
    let left = length-drop (place + 1) p in
    let len = c.len.ensures.value in
    let from = c.from-left.ensures in
    omega (arith, stops, left, len, from, lt)

pub returns-then-left-eq2 : goal.returns-then-left-eq2
returns-then-left-eq2 c = λ schema insides.
    let p = c.args.path.now in
    let tables = c.args.tables.now in
    let place = c.loop-place.place in
    let inside = c.in-Ok-Some.inside in
    let i = c.loop-place.invariant in
    let lt : place < length p = let t = c.loop-place-test.true in let e = c.len-place-end.ensures.value in omega (arith, t, e) in
    let name : Name = get_or p place [] in
    let ks = c.loop-place.at.items in
    let said : IsMeaning tables ks name (Some inside) =
    subst (λ l. IsMeaning tables l name (Some inside)) c.as_slice.ensures.value
    (subst (λ n. IsMeaning tables c.as_slice.result.now n (Some inside)) (c.bytes.ensures ∙ c.get.ensures)
    (subst (IsMeaning tables c.as_slice.result.now c.bytes.result.now) c.in-Ok-Some.field-0-is c.in-Ok-Some.ensures)) in
    let means : Means tables name ks inside.numbers inside.inner inside.types.items = said in
    let two = c.if-left-eq2.true in
    let len = c.len.ensures.value in
    let from = c.from-left.ensures in
    let short : length p ≤ place + 1 = omega (arith, two, len, from, lt) in
    c.from.ensures ∙ byte-not inside.numbers
    ∙ sym (i schema insides ∙ ap (types_stop schema ks) (drop-at p place [] lt ∙ ap (λ l. name ∷ l) (drop_past p (place + 1) short))
    ∙ type-ends schema tables insides name ks inside.numbers inside.inner inside.types.items means)

pub returns-then-not-inside : goal.returns-then-not-inside
returns-then-not-inside c = λ schema insides.
    let p = c.args.path.now in
    let tables = c.args.tables.now in
    let place = c.loop-place.place in
    let inside = c.in-Ok-Some.inside in
    let i = c.loop-place.invariant in
    let lt : place < length p = let t = c.loop-place-test.true in let e = c.len-place-end.ensures.value in omega (arith, t, e) in
    let name : Name = get_or p place [] in
    let ks = c.loop-place.at.items in
    let said : IsMeaning tables ks name (Some inside) =
    subst (λ l. IsMeaning tables l name (Some inside)) c.as_slice.ensures.value
    (subst (λ n. IsMeaning tables c.as_slice.result.now n (Some inside)) (c.bytes.ensures ∙ c.get.ensures)
    (subst (IsMeaning tables c.as_slice.result.now c.bytes.result.now) c.in-Ok-Some.field-0-is c.in-Ok-Some.ensures)) in
    let means : Means tables name ks inside.numbers inside.inner inside.types.items = said in
    let two = c.if-left-eq2.false in
    let len = c.len.ensures.value in
    let from = c.from-left.ensures in
    let more : place + 1 < length p = omega (arith, two, len, from, lt) in
    let other : Name = get_or p (place + 1) [] in
    let stops = i schema insides ∙ ap (types_stop schema ks) (drop-at p place [] lt ∙ ap (λ l. name ∷ l) (drop-at p (place + 1) [] more))
    ∙ type-stops schema tables insides name ks inside.numbers inside.inner inside.types.items means other (drop (place + 1 + 1) p) (is_false inside.inner c.if-not-inside.true) in
    let left = length-drop (place + 1 + 1) p in
    omega (arith, stops, left, len, from, lt, more)

pub loop-place-preserved : goal.loop-place-preserved
loop-place-preserved c = λ schema insides.
    let p = c.args.path.now in
    let tables = c.args.tables.now in
    let place = c.loop-place.place in
    let inside = c.in-Ok-Some.inside in
    let i = c.loop-place.invariant in
    let lt : place < length p = let t = c.loop-place-test.true in let e = c.len-place-end.ensures.value in omega (arith, t, e) in
    let name : Name = get_or p place [] in
    let ks = c.loop-place.at.items in
    let said : IsMeaning tables ks name (Some inside) =
    subst (λ l. IsMeaning tables l name (Some inside)) c.as_slice.ensures.value
    (subst (λ n. IsMeaning tables c.as_slice.result.now n (Some inside)) (c.bytes.ensures ∙ c.get.ensures)
    (subst (IsMeaning tables c.as_slice.result.now c.bytes.result.now) c.in-Ok-Some.field-0-is c.in-Ok-Some.ensures)) in
    let means : Means tables name ks inside.numbers inside.inner inside.types.items = said in
    let two = c.if-left-eq2.false in
    let len = c.len.ensures.value in
    let from = c.from-left.ensures in
    let more : place + 1 < length p = omega (arith, two, len, from, lt) in
    let other : Name = get_or p (place + 1) [] in
    let cut = drop-at p (place + 1) [] more in
    i schema insides ∙ ap (types_stop schema ks) (drop-at p place [] lt ∙ ap (λ l. name ∷ l) cut)
    ∙ type-goes schema tables insides name ks inside.numbers inside.inner inside.types.items means other (drop (place + 1 + 1) p) (is_true inside.inner c.if-not-inside.false)
    ∙ sym (ap (types_stop schema inside.types.items) cut)
