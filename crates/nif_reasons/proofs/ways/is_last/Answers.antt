use Rattle.std.proofs.Common.{◌≡◌, ℕ, ◌-◌, List, length, slice_get, Some, None, nat_eq, true, sym, ap, ◌∙◌, arith}
use Rattle.nif_reasons.proofs.WayLemmas.{last-get}
use Rattle.nif_reasons.proofs.ways.is_last.Goals as goal

eqb-same : (t u : ℕ) → t ≡ u → nat_eq t u ≡ true
eqb-same t u e = grind (arith, e)

pub returns-in-Some-parent : goal.returns-in-Some-parent
returns-in-Some-parent c =
    let there = ap (λ (l : List ℕ). slice_get l (length l - 1)) (sym c.deref.ensures.value) ∙ sym c.in-Some.ensures.value in
    let top = last-get None c.args.way.now.stack.items c.in-Some.top.now there in (
      (λ same. let one : c.in-Some.top.now ≡ c.in-Some-parent.parent = grind (arith, same) in c.in-Some-parent.is ∙ ap Some (sym one) ∙ sym top),
      (λ e. eqb-same c.in-Some.top.now c.in-Some-parent.parent (let is = sym top ∙ sym e ∙ c.in-Some-parent.is in cc)),
    )

pub returns-in-None : goal.returns-in-None
returns-in-None c =
    let there = ap (λ (l : List ℕ). slice_get l (length l - 1)) (sym c.deref.ensures.value) ∙ sym c.in-Some.ensures.value in
    let top = last-get None c.args.way.now.stack.items c.in-Some.top.now there in (
      (λ h. absurd (cc)),
      (λ e. let is : None ≡ Some c.in-Some.top.now = sym c.in-None.is ∙ e ∙ top in absurd (cc)),
    )
