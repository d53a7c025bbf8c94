use Rattle.std.proofs.Common.{◌≡◌, ◌+◌, ◌≤◌, ◌∷◌, [], ◌++◌, length, map, take, drop, sym, ap, subst, ◌∙◌, arith}
use Rattle.std.proofs.lemmas.List.{append_assoc, map-append, take_all}
use Rattle.nif_schema.specs.Declaration.{field}
use Rattle.nif_schema.specs.Reasons.{first_reason, field_reason, fields_reason}
use Rattle.nif_paths.specs.Marks.{IsLine}
use Rattle.nif_reasons.proofs.Lists.{take-next, drop-next, drop_past}
use Rattle.nif_reasons.proofs.ReasonLemmas.{first-moved, first-last}
use Rattle.nif_reasons.proofs.ways.add_fields.Goals as goal

pub loop-place-preserved : goal.loop-place-preserved
loop-place-preserved c = λ earlier has.
    let S = c.args.schema.now in
    let s = c.args.in_struct in
    let fs = c.args.fields.now in
    let place = c.loop-place.place in
    let kept = c.get-of.result.now in
    let f = field kept in
    let i = c.loop-place.invariant earlier has in
    let done = earlier ++ map field (take place fs) in
    let rest = map field (drop (place + 1) fs) in
    let r = c.in-Ok.ensures done i.0 in
    let longer : done ++ f ∷ [] ≡ earlier ++ map field (take (place + 1) fs) =
    append_assoc earlier (map field (take place fs)) (f ∷ [])
    ∙ sym (ap (λ l. earlier ++ l) (ap (map field) (take-next fs place kept c.get-of.ensures) ∙ map-append field (take place fs) (kept ∷ []))) in (
      subst (λ l. IsLine S l c.push.new.self) longer (c.in-Ok-push.ensures done r.1),
      i.1
          ∙ ap (λ l. first_reason (c.loop-place.reason ∷ fields_reason S s done l ∷ [])) (ap (map field) (drop-next fs place kept c.get-of.ensures))
          ∙ first-moved c.loop-place.reason (field_reason S s done f) (fields_reason S s (done ++ f ∷ []) rest)
          ∙ ap (λ a. first_reason (a ∷ fields_reason S s (done ++ f ∷ []) rest ∷ [])) (sym r.0)
          ∙ ap (λ l. first_reason (c.in-Ok.reason ∷ fields_reason S s l rest ∷ [])) longer,
    )

pub returns : goal.returns
returns c = λ earlier has.
    let S = c.args.schema.now in
    let s = c.args.in_struct in
    let fs = c.args.fields.now in
    let place = c.loop-place.place in
    let i = c.loop-place.invariant earlier has in
    let le : length fs ≤ place = let t = c.loop-place-test.false in let e = c.len-place-end.ensures in omega (arith, t, e) in (
      sym (i.1 ∙ ap (λ l. first_reason (c.loop-place.reason ∷ fields_reason S s (earlier ++ map field (take place fs)) (map field l) ∷ [])) (drop_past fs place le) ∙ first-last c.loop-place.reason),
      subst (λ l. IsLine S (earlier ++ map field l) c.loop-place.line) (take_all place fs le) i.0,
    )
