use Rattle.std.proofs.Common.{◌≡◌, ◌≢◌, ◌<◌, ◌≤◌, true, None, Some, cond, [], ◌∷◌, List, length, map, drop, get_or, is_some, Ok, Err, Result, IfOk, sym, ap, ◌∙◌, arith}
use Rattle.std.specs.List.{list_all}
use Rattle.std.proofs.lemmas.Result.{IfOk-weaker}
use Rattle.nif_names.specs.Shapes.{inners}
use Rattle.nif_names.specs.Tables.{held}
use Rattle.nif_names.specs.declared.shapes.Shape.{Shape}
use Rattle.nif_schema.specs.Declaration.{Name, Field}
use Rattle.nif_schema.specs.Schema.{Schema}
use Rattle.nif_schema.specs.Paths as spec
use Rattle.nif_schema.specs.Paths.{Meaning, fields_named, rest_reason}
use Rattle.nif_schema.specs.declared.faults.Closed.TheVariants.{C6}
use Rattle.nif_paths.specs.Shaped.{shape}
use Rattle.nif_paths.specs.Marks.{types_reason}
use Rattle.nif_paths.proofs.Lists.{drop-at, drop_past}
use Rattle.nif_paths.proofs.LevelLemmas.{first-some, reason-end, reason-stop, go-on}
use Rattle.nif_paths.proofs.StopLemmas.{to-types}
use Rattle.nif_paths.proofs.paths.path_reason.Goals as goal

three : {X E : Type 0} {P Q R T : X → Type 0} (r : Result X E) → IfOk r P → IfOk r Q → IfOk r R → ((x : X) → P x → Q x → R x → T x) → IfOk r T
three (Ok x) p q r f = f x p q r
three (Err e) p q r f = tt

pub returns-then-count-eq1 : goal.returns-then-count-eq1
returns-then-count-eq1 c = λ schema fields insides line.
    let p = c.args.path.now in
    let first : Name = get_or p 0 [] in
    let shapes = c.in-Some.shapes.now.shapes in
    let ms = fields_named first fields in
    let given : shapes ≡ map (shape schema) ms = c.in-Some.ensures.value ∙ ap (held c.args.line.now.names) (c.bytes-first.ensures ∙ c.get.ensures) ∙ line.names first in
    let some = λ (e : map (shape schema) ms ≡ []). c.in-Some.ensures.some (given ∙ e) in
    let nonempty : 0 < length p = let h = c.len-count.ensures.some in let e = c.len-count.ensures.value in omega (arith, h, e) in
    let short : length p ≤ 1 = let t = c.if-count-eq1.true in let e = c.len-count.ensures.value in omega (arith, t, e) in (
      c.name_reason.ensures
          ∙ ap (λ l. cond (list_all (λ s. s.number) l) None (Some C6)) given
          ∙ sym (first-some schema fields p nonempty some ∙ ap (rest_reason schema ms) (drop_past p 1 short) ∙ reason-end schema ms),
      line,
    )

pub returns-then-not-all_inner : goal.returns-then-not-all_inner
returns-then-not-all_inner c = λ schema fields insides line.
    let p = c.args.path.now in
    let first : Name = get_or p 0 [] in
    let shapes = c.in-Some.shapes.now.shapes in
    let ms = fields_named first fields in
    let given : shapes ≡ map (shape schema) ms = c.in-Some.ensures.value ∙ ap (held c.args.line.now.names) (c.bytes-first.ensures ∙ c.get.ensures) ∙ line.names first in
    let some = λ (e : map (shape schema) ms ≡ []). c.in-Some.ensures.some (given ∙ e) in
    let many : 1 < length p = let t = c.if-count-eq1.false in let h = c.len-count.ensures.some in let e = c.len-count.ensures.value in omega (arith, t, h, e) in (
      sym (first-some schema fields p (omega (arith, many)) some ∙ ap (rest_reason schema ms) (drop-at p 1 [] many)
          ∙ reason-stop schema ms (get_or p 1 []) (drop 2 p) (ap (list_all (λ s. is_some s.inner)) (sym given) ∙ sym c.if-not-all_inner.ensures)),
      line,
    )

pub returns-then-count-eq2 : goal.returns-then-count-eq2
returns-then-count-eq2 c = three c.pair_reason.result c.pair_reason.ensures.reason c.pair_reason.ensures.shapes c.pair_reason.ensures.runs (λ reason says same before schema fields insides line.
    let p = c.args.path.now in
    let first : Name = get_or p 0 [] in
    let second : Name = get_or p 1 [] in
    let shapes = c.in-Some.shapes.now.shapes in
    let ms = fields_named first fields in
    let name = c.bytes-first.ensures ∙ c.get.ensures in
    let given : shapes ≡ map (shape schema) ms = c.in-Some.ensures.value ∙ ap (held c.args.line.now.names) name ∙ line.names first in
    let some = λ (e : map (shape schema) ms ≡ []). c.in-Some.ensures.some (given ∙ e) in
    let many : 1 < length p = let t = c.if-count-eq1.false in let h = c.len-count.ensures.some in let e = c.len-count.ensures.value in omega (arith, t, h, e) in
    let short : length p ≤ 2 = let t = c.if-count-eq2.true in let e = c.len-count.ensures.value in omega (arith, t, e) in
    let cut = drop-at p 1 [] many ∙ ap (λ (l : List Name). second ∷ l) (drop_past p 2 short) in
    let all = sym (go-on schema ms) ∙ ap (list_all (λ s. is_some s.inner)) (sym given) ∙ sym c.if-not-all_inner.ensures in
    let told = says schema insides line.marks in (
      told.0
          ∙ ap (λ l. types_reason schema (inners l) (c.get-then-count-eq2.result.now ∷ [])) (ap (held c.args.line.now.names) name ∙ line.names first)
          ∙ ap (λ (n : Name). types_reason schema (inners (map (shape schema) ms)) (n ∷ [])) c.get-then-count-eq2.ensures
          ∙ sym (first-some schema fields p (omega (arith, many)) some ∙ ap (rest_reason schema ms) cut ∙ to-types schema ms second [] all),
      record {
        names = λ other. same other ∙ line.names other;
        marks = told.1;
        runs = λ other from to types number is. line.runs other from to types number (before other from to types number is);
        known = line.known;
      },
    ))

-- the reason of the names after the first, which mean something, and may follow
module _ (schema : Schema) (fields : List Field) (p : List Name) (many : 1 < length p) (shapes : List Shape)
    (given : shapes ≡ map (shape schema) (fields_named (get_or p 0 []) fields)) (some : shapes ≢ []) (all : list_all (λ s. is_some s.inner) shapes ≡ true) where
  abbrev ms : List Meaning
  ms = fields_named (get_or p 0 []) fields

  to-path : types_reason schema (inners shapes) (drop 1 p) ≡ spec.path_reason schema fields p
  to-path =
      let cut = drop-at p 1 [] many in
      ap (λ l. types_reason schema (inners l) (drop 1 p)) given
      ∙ ap (types_reason schema (inners (map (shape schema) ms))) cut
      ∙ sym (first-some schema fields p (omega (arith, many)) (λ e. some (given ∙ e))
      ∙ ap (rest_reason schema ms) cut ∙ to-types schema ms (get_or p 1 []) (drop 2 p) (sym (go-on schema ms) ∙ ap (list_all (λ s. is_some s.inner)) (sym given) ∙ all))

pub returns-then-count-gt-MOST_NAMES : goal.returns-then-count-gt-MOST_NAMES
returns-then-count-gt-MOST_NAMES c = IfOk-weaker c.unkept_reason.result _ _ (λ reason says schema fields insides line.
    let p = c.args.path.now in
    let shapes = c.in-Some.shapes.now.shapes in
    let table = c.args.line.now.names in
    let given = c.in-Some.ensures.value ∙ ap (held table) (c.bytes-first.ensures ∙ c.get.ensures) ∙ line.names (get_or p 0 []) in
    let many : 1 < length p = let t = c.if-count-eq1.false in let h = c.len-count.ensures.some in let e = c.len-count.ensures.value in omega (arith, t, h, e) in (
      says schema insides
          ∙ ap (λ l. types_reason schema (inners l) (drop 1 p)) (sym c.in-Some.ensures.value)
          ∙ to-path schema fields p many shapes given c.in-Some.ensures.some (sym c.if-not-all_inner.ensures),
      line,
    )) c.unkept_reason.ensures

pub returns : goal.returns
returns c = IfOk-weaker c.long_reason.result _ _ (λ reason says schema fields insides line.
    let p = c.args.path.now in
    let shapes = c.in-Some.shapes.now.shapes in
    let table = c.args.line.now.names in
    let given = c.in-Some.ensures.value ∙ ap (held table) (c.bytes-first.ensures ∙ c.get.ensures) ∙ line.names (get_or p 0 []) in
    let many : 1 < length p = let t = c.if-count-eq1.false in let h = c.len-count.ensures.some in let e = c.len-count.ensures.value in omega (arith, t, h, e) in
    let told = says schema fields insides line in (
      told.0
          ∙ ap (λ l. types_reason schema (inners l) (drop 1 p)) (sym c.in-Some.ensures.value)
          ∙ to-path schema fields p many shapes given c.in-Some.ensures.some (sym c.if-not-all_inner.ensures),
      told.1,
    )) c.long_reason.ensures
