use Rattle.std.proofs.Common.{◌≡◌, ◌++◌, ◌∷◌, [], List, ℕ, length, Some, arith, None, Option, ap, sym, subst, ◌∙◌}
use Rattle.std.specs.Option.{option_map_or}
use Rattle.nif_schema.specs.Declaration.{Declaration}
use Rattle.nif_paths.specs.Marks.{IsLine}
use Rattle.nif_reasons.specs.Ways.{IsWayFrom, last_or, fields_on}
use Rattle.nif_reasons.proofs.WayLemmas.{way-pop, fields-push, last-push}
use Rattle.nif_reasons.proofs.ways.leave.Goals as goal

empty : (way : List ℕ) (last : ℕ) → length way ≡ 0 → last_or None way ≡ Some last → ⊥
empty [] last none e = cc
empty (n ∷ ns) last none e = omega (arith, none)

pub decl-requires : goal.decl-requires
decl-requires c =
    let S = c.args.schema.now in
    (way-pop S None c.pop.new.self.items c.in-Some.number (subst (IsWayFrom S None) c.in-Some.ensures.items c.requires.way)).1

pub returns-clause-at : goal.returns-clause-at
returns-clause-at c =
    let S = c.args.schema.now in
    let n = c.in-Some.number in
    let rest = c.pop.new.self.items in
    let whole = c.in-Some.ensures.items in
    let own = ap (λ (o : Option Declaration). option_map_or (λ d. d.fields) o []) c.decl.ensures in
    record {
      way = (way-pop S None rest n (subst (IsWayFrom S None) whole c.requires.way)).0;
      line = c.drop_fields.ensures (fields_on S rest)
          (subst (λ l. IsLine S l c.args.way.now.line) (ap (fields_on S) whole ∙ fields-push S rest n ∙ ap (λ l. fields_on S rest ++ l) own) c.requires.line);
    }

pub returns-clause-shorter : goal.returns-clause-shorter
returns-clause-shorter c = λ last e.
    let whole = c.in-Some.ensures.items in
    let rest = c.pop.new.self.items in
    let n = c.in-Some.number in
    let same : n ≡ last = let h = sym (last-push None rest n) ∙ ap (last_or None) (sym whole) ∙ e in cc in
    whole ∙ ap (λ k. rest ++ k ∷ []) same

pub returns-in_default-clause-shorter : goal.returns-in_default-clause-shorter
returns-in_default-clause-shorter c = λ last e. absurd (empty c.args.way.now.stack.items last (let z = c.in_default.ensures.cases.0 in omega (arith, z)) e)
