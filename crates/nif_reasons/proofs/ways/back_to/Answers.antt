use Rattle.std.proofs.Common.{◌≡◌, List, [], ◌∷◌, ◌++◌, ℕ, ◌<◌, ◌==◌, true, length, Contains, Some, None, inl, inr, refl, sym, ap, subst, ◌∙◌, arith}
use Rattle.std.proofs.lemmas.List.{length-append}
use Rattle.std.proofs.lemmas.List.Elements.{Contains-push_cases}
use Rattle.nif_paths.specs.Marks.{IsLine}
use Rattle.nif_reasons.specs.Ways.{last_or, fields_on}
use Rattle.nif_reasons.proofs.WayLemmas.{last-there}
use Rattle.nif_reasons.proofs.ways.back_to.Goals as goal

last : (c : goal.After-leave) → (n : ℕ) × (c.up.way.stack.items ≡ c.leave.new.way.stack.items ++ n ∷ []) × (last_or None c.up.way.stack.items ≡ Some n)
last c =
    let found = last-there c.up.way.stack.items c.args.parent c.up.invariant.1 (λ e. let yes = c.is_last.ensures.1 e in let no = c.up-test.true in cc) in
    (found.0, c.leave.ensures.shorter found.0 found.1, found.1)

shorter : (old new : List ℕ) (n : ℕ) → old ≡ new ++ n ∷ [] → length new < length old
shorter old new n e = let h = ap length e in let g = length-append new (n ∷ []) in omega (arith, h, g)

pub up-smaller : goal.up-smaller
up-smaller c = shorter c.up.way.stack.items c.leave.new.way.stack.items (last c).0 (last c).1

pub up-preserved : goal.up-preserved
up-preserved c = (
  c.leave.ensures.at,
  (λ p is. elim (Contains-push_cases c.leave.new.way.stack.items (last c).0 p (subst (λ l. Contains l p) (last c).1 (c.up.invariant.1 p is))) [
    | inl more ↦ more
    | inr same ↦
        let top : c.args.parent ≡ last_or None c.up.way.stack.items = is ∙ ap Some (sym same) ∙ sym (last c).2 in
        let yes = c.is_last.ensures.1 top in
        let no = c.up-test.true in
        absurd (cc)
  ]),
)

ltb-zero : (n : ℕ) → (n == 0) ≡ true → n ≡ 0
ltb-zero n e = grind (arith, e)

nil : (l : List ℕ) → length l ≡ 0 → l ≡ []
nil [] e = refl
nil (x ∷ xs) e = absurd (omega (arith, e))

pub returns-then-is_empty-clause-at : goal.returns-then-is_empty-clause-at
returns-then-is_empty-clause-at c =
    let S = c.args.schema.now in
    let stack = c.up.way.stack.items in
    let none = ltb-zero c.up.way.stack.len (sym c.if-is_empty.ensures) in
    let empty = nil stack (omega (arith, none)) in
    record {
      way = c.up.invariant.0.way;
      line = subst (λ l. IsLine S (fields_on S l) c.clear.new.self) (sym empty) (c.clear.ensures S (fields_on S stack) c.up.invariant.0.line);
    }
