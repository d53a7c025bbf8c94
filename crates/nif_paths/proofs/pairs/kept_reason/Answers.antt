use Rattle.std.proofs.Common.{◌≡◌, ◌≤◌, ◌⊎◌, ℕ, List, [], ◌∷◌, length, take, inl, inr, refl, sym, ap, subst, ◌∙◌, arith}
use Rattle.nif_names.specs.Marks.{IsFound}
use Rattle.nif_names.specs.Shapes.{inners}
use Rattle.nif_names.specs.Tables.{held, kinds}
use Rattle.nif_paths.specs.Marks.{HasMarks, key_of_name, types_reason, types_stop}
use Rattle.nif_paths.proofs.RunLemmas.{marks-more, runs-before}
use Rattle.nif_paths.proofs.StopLemmas.{same-reason}
use Rattle.nif_paths.proofs.pairs.kept_reason.Goals as goal

pub further-init : goal.further-init
further-init c =
    let first = c.args.first.now in
    let names = c.args.name.now ∷ [] in
    let found = c.found_before-found.result in
    let same = sym c.found_before-found.ensures.same in
    record {
      within = subst (λ t. found.count ≤ length (kinds t first).types) same c.found_before-found.ensures.within;
      shapes = λ other. refl;
      types = refl;
      marks = λ schema insides marks. (
        subst (λ t. HasMarks schema t → types_stop schema (take found.count (kinds t first).types) names ≡ found.stop) same
            (c.found_before-found.ensures.found schema c.args.name.now c.requires) marks,
        marks,
      );
      runs = λ other from to types stop is. is;
    }

pub further-preserved : goal.further-preserved
further-preserved c =
    let first = c.args.first.now in
    let name = c.args.name.now in
    let names = name ∷ [] in
    let i = c.further.invariant in
    let before = c.further.found in
    let further = c.look_further-found.result in
    let given = c.inners-in-further.ensures.value in
    let says : (other under ts : List ℕ) (n : ℕ) → IsFound (kinds c.mark.new.self other) under ts n
    → IsFound (kinds c.further.names other) under ts n ⊎ ((other ≡ first) × (under ≡ key_of_name name) × (ts ≡ take further.count (kinds c.further.names first).types) × (n ≡ further.stop)) =
    λ other under ts n is. elim (c.in-Ok.ensures.marks other under ts n is) [
      | inl h ↦ inl h
      | inr h ↦ inr (h.0, h.1 ∙ c.requires, h.2 ∙ ap (λ other. take further.count (kinds c.further.names other).types) h.0, h.3)
    ] in
    record {
      within =
          let few = c.look_further-found.ensures.within in
          let one = ap length given in
          let two = ap length (c.mark.ensures.types first) in
          omega (arith, few, one, two);
      shapes = λ other. c.mark.ensures.shapes other ∙ i.shapes other;
      types = c.mark.ensures.types first ∙ i.types;
      marks = λ schema insides marks.
          let old = i.marks schema insides marks in
          let all = given ∙ i.types in
          let stop = c.look_further-found.ensures.stop schema insides (ap (λ l. types_stop schema (take before.count l) names) all ∙ old.0) in (
            subst (λ l. types_stop schema (take further.count l) names ≡ further.stop) all stop,
            marks-more c.further.names c.mark.new.self first name (take further.count (kinds c.further.names first).types) further.stop says schema old.1
                (subst (λ l. types_stop schema (take further.count l) names ≡ further.stop) given stop),
          );
      runs = λ other from to types stop is.
          i.runs other from to types stop
          (runs-before c.further.names c.mark.new.self first name (take further.count (kinds c.further.names first).types) further.stop says other from to types stop is);
    }

pub returns-clause-reason : goal.returns-clause-reason
returns-clause-reason c = λ schema insides marks.
    let first = c.args.first.now in
    let names = c.args.name.now ∷ [] in
    let i = c.further.invariant in
    let found = c.further.found in
    let same = c.found_before-found.ensures.same in
    let kept = i.marks schema insides (subst (HasMarks schema) (sym same) marks) in
    let given = c.inners.ensures.value ∙ i.types in
    let all = c.further-test.ensures.settled refl schema (ap (λ l. types_stop schema (take found.count l) names) given ∙ kept.0) in (
      c.stop_reason.ensures
          ∙ same-reason schema names c.inners.result.now (inners (held c.further.names first)) found.stop c.inners.ensures.same all
          ∙ ap (λ l. types_reason schema (inners l) names) (i.shapes first ∙ ap (λ t. held t first) same),
      kept.1,
    )
