use Rattle.std.proofs.Common.{◌≡◌, ◌+◌, ◌<◌, ◌≤◌, true, [], ◌∷◌, length, drop, get_or, Some, None, sym, ap, subst, ◌∙◌, arith}
use Rattle.std.proofs.lemmas.List.{length-drop}
use Rattle.nif_schema.specs.Declaration.{Name}
use Rattle.nif_sets.specs.Insides.{IsInside, Means, is_lacking}
use Rattle.nif_sets.specs.Sets.{IsWithin, types_of}
use Rattle.nif_paths.specs.Marks.{types_stop}
use Rattle.nif_paths.proofs.Lists.{drop-at, drop_past, is_false, is_true, byte-not}
use Rattle.nif_paths.proofs.RunLemmas.{sets-grown}
use Rattle.nif_paths.proofs.StopLemmas.{type-lacks, type-ends, type-stops, type-goes}
use Rattle.nif_paths.proofs.runs.set_stop.Goals as goal

pub returns-in-Ok-None-clause-stop : goal.returns-in-Ok-None-clause-stop
returns-in-Ok-None-clause-stop c = λ schema insides known.
    let p = c.args.path.now in
    let tables = c.args.tables.now in
    let place = c.loop-place.place in
    let at = c.loop-place.at in
    let new = c.inside.new.self in
    let i = c.loop-place.invariant in
    let lt : place < length p = let t = c.loop-place-test.true in let e = c.len-place-end.ensures.value in omega (arith, t, e) in
    let name : Name = get_or p place [] in
    let ks = types_of c.loop-place.sets at in
    let said : IsInside tables new at name None =
    subst (IsInside tables new at name) c.in-Ok-None.field-0-is
    (subst (λ n. IsInside tables new at n c.in-Ok-None.field-0) (c.bytes.ensures ∙ c.get.ensures) (c.in-Ok-None.ensures.inside (i.known known))) in
    let some = subst (λ l. is_lacking tables name l ≡ true) (c.in-Ok-None.ensures.grown at i.within).1 said in
    let stops = i.stop schema insides known ∙ ap (types_stop schema ks) (drop-at p place [] lt) ∙ type-lacks schema tables insides name ks (drop (place + 1) p) some in
    let left = length-drop (place + 1) p in
    let len = c.len.ensures.value in
    let from = c.from-left.ensures in
    omega (arith, stops, left, len, from, lt)

pub returns-in-Ok-None-clause-known : goal.returns-in-Ok-None-clause-known
returns-in-Ok-None-clause-known c = λ known. c.in-Ok-None.ensures.known (c.loop-place.invariant.known known)

pub returns-then-left-eq2-clause-stop : goal.returns-then-left-eq2-clause-stop
returns-then-left-eq2-clause-stop c = λ schema insides known.
    let p = c.args.path.now in
    let tables = c.args.tables.now in
    let place = c.loop-place.place in
    let at = c.loop-place.at in
    let new = c.inside.new.self in
    let inside = c.in-Ok-Some.inside in
    let i = c.loop-place.invariant in
    let lt : place < length p = let t = c.loop-place-test.true in let e = c.len-place-end.ensures.value in omega (arith, t, e) in
    let name : Name = get_or p place [] in
    let ks = types_of c.loop-place.sets at in
    let said : IsInside tables new at name (Some inside) =
    subst (IsInside tables new at name) c.in-Ok-Some.field-0-is
    (subst (λ n. IsInside tables new at n c.in-Ok-Some.field-0) (c.bytes.ensures ∙ c.get.ensures) (c.in-Ok-Some.ensures.inside (i.known known))) in
    let means : Means tables name ks inside.numbers inside.inner (types_of new inside.set) =
    subst (λ l. Means tables name l inside.numbers inside.inner (types_of new inside.set)) (c.in-Ok-Some.ensures.grown at i.within).1 said in
    let two = c.if-left-eq2.true in
    let len = c.len.ensures.value in
    let from = c.from-left.ensures in
    let short : length p ≤ place + 1 = omega (arith, two, len, from, lt) in
    c.from.ensures ∙ byte-not inside.numbers
    ∙ sym (i.stop schema insides known ∙ ap (types_stop schema ks) (drop-at p place [] lt ∙ ap (λ l. name ∷ l) (drop_past p (place + 1) short))
    ∙ type-ends schema tables insides name ks inside.numbers inside.inner (types_of new inside.set) means)

pub returns-then-left-eq2-clause-known : goal.returns-then-left-eq2-clause-known
returns-then-left-eq2-clause-known c = λ known. c.in-Ok-Some.ensures.known (c.loop-place.invariant.known known)

pub returns-then-not-inside-clause-stop : goal.returns-then-not-inside-clause-stop
returns-then-not-inside-clause-stop c = λ schema insides known.
    let p = c.args.path.now in
    let tables = c.args.tables.now in
    let place = c.loop-place.place in
    let at = c.loop-place.at in
    let new = c.inside.new.self in
    let inside = c.in-Ok-Some.inside in
    let i = c.loop-place.invariant in
    let lt : place < length p = let t = c.loop-place-test.true in let e = c.len-place-end.ensures.value in omega (arith, t, e) in
    let name : Name = get_or p place [] in
    let ks = types_of c.loop-place.sets at in
    let said : IsInside tables new at name (Some inside) =
    subst (IsInside tables new at name) c.in-Ok-Some.field-0-is
    (subst (λ n. IsInside tables new at n c.in-Ok-Some.field-0) (c.bytes.ensures ∙ c.get.ensures) (c.in-Ok-Some.ensures.inside (i.known known))) in
    let means : Means tables name ks inside.numbers inside.inner (types_of new inside.set) =
    subst (λ l. Means tables name l inside.numbers inside.inner (types_of new inside.set)) (c.in-Ok-Some.ensures.grown at i.within).1 said in
    let two = c.if-left-eq2.false in
    let len = c.len.ensures.value in
    let from = c.from-left.ensures in
    let more : place + 1 < length p = omega (arith, two, len, from, lt) in
    let other : Name = get_or p (place + 1) [] in
    let stops = i.stop schema insides known ∙ ap (types_stop schema ks) (drop-at p place [] lt ∙ ap (λ l. name ∷ l) (drop-at p (place + 1) [] more))
    ∙ type-stops schema tables insides name ks inside.numbers inside.inner (types_of new inside.set) means other (drop (place + 1 + 1) p) (is_false inside.inner c.if-not-inside.true) in
    let left = length-drop (place + 1 + 1) p in
    omega (arith, stops, left, len, from, lt, more)

pub returns-then-not-inside-clause-known : goal.returns-then-not-inside-clause-known
returns-then-not-inside-clause-known c = λ known. c.in-Ok-Some.ensures.known (c.loop-place.invariant.known known)

pub loop-place-preserved : goal.loop-place-preserved
loop-place-preserved c =
    let p = c.args.path.now in
    let tables = c.args.tables.now in
    let place = c.loop-place.place in
    let at = c.loop-place.at in
    let new = c.inside.new.self in
    let inside = c.in-Ok-Some.inside in
    let i = c.loop-place.invariant in
    let lt : place < length p = let t = c.loop-place-test.true in let e = c.len-place-end.ensures.value in omega (arith, t, e) in
    let name : Name = get_or p place [] in
    let ks = types_of c.loop-place.sets at in
    let two = c.if-left-eq2.false in
    let len = c.len.ensures.value in
    let from = c.from-left.ensures in
    let more : place + 1 < length p = omega (arith, two, len, from, lt) in
    let other : Name = get_or p (place + 1) [] in
    let cut = drop-at p (place + 1) [] more in
    record {
      within = subst (IsWithin new) c.in-Ok-Some.field-0-is c.in-Ok-Some.ensures.within;
      grown = sets-grown c.args.sets.now c.loop-place.sets new i.grown c.in-Ok-Some.ensures.grown;
      known = λ known. c.in-Ok-Some.ensures.known (i.known known);
      stop = λ schema insides known.
          let said : IsInside tables new at name (Some inside) =
          subst (IsInside tables new at name) c.in-Ok-Some.field-0-is
          (subst (λ n. IsInside tables new at n c.in-Ok-Some.field-0) (c.bytes.ensures ∙ c.get.ensures) (c.in-Ok-Some.ensures.inside (i.known known))) in
          let means : Means tables name ks inside.numbers inside.inner (types_of new inside.set) =
          subst (λ l. Means tables name l inside.numbers inside.inner (types_of new inside.set)) (c.in-Ok-Some.ensures.grown at i.within).1 said in
          i.stop schema insides known ∙ ap (types_stop schema ks) (drop-at p place [] lt ∙ ap (λ l. name ∷ l) cut)
          ∙ type-goes schema tables insides name ks inside.numbers inside.inner (types_of new inside.set) means other (drop (place + 1 + 1) p) (is_true inside.inner c.if-not-inside.false)
          ∙ sym (ap (types_stop schema (types_of new inside.set)) cut);
    }
