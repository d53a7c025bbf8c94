use Rattle.std.proofs.Common.{◌≡◌, Some, Contains, map, slice_get, sym, ap, subst, ◌∙◌}
use Rattle.std.proofs.lemmas.Option.{slice_get-get_or}
use Rattle.std.proofs.lemmas.Slice.Eq.{bytes_eq-Decides}
use Rattle.nif_sets.specs.Kept.{plain_known}
use Rattle.nif_sets.specs.Sets.{IsWithin}
use Rattle.nif_sets.proofs.EqualLemmas.{same_set}
use Rattle.nif_sets.proofs.KeyLemmas.{found-known}
use Rattle.nif_sets.proofs.sets.Sets.find.Goals as goal

known : (c : goal.After-result-1) → Contains (map plain_known c.self.inside.known.items) (plain_known (c.args.key.now, c.in_ok-kept.kept.now.1))
known c =
    let key = c.args.key.now in
    let kept = c.in_ok-kept.kept.now in
    let place = c.in_ok-place.field-0.now in
    let found = c.in_ok-kept.ensures.lookup in
    let at : slice_get c.self.inside.known.items place ≡ Some kept =
    subst (λ l. slice_get l place ≡ Some kept) c.deref.ensures.value (slice_get-get_or c.deref.result.now place kept found.3.0 ∙ ap Some (sym (found.3.1 kept))) in
    let name = sym c.as_slice.ensures.value ∙ (bytes_eq-Decides c.as_slice.result.now c.as_slice-then-eq.result.now).0 (sym c.if-eq-2.ensures) ∙ c.as_slice-then-eq.ensures.value in
    found-known key kept.0 kept.1 c.self.inside.known.items place at (same_set kept.0.set key.set (sym c.if-eq.ensures)) name

pub returns-then-eq-2-clause-known : goal.returns-then-eq-2-clause-known
returns-then-eq-2-clause-known c = subst (λ sets. Contains sets.known (plain_known (c.args.key.now, c.in_ok-kept.kept.now.1))) c.self.view_is (known c)

pub returns-then-eq-2-clause-within : goal.returns-then-eq-2-clause-within
returns-then-eq-2-clause-within c =
    subst (λ sets. IsWithin sets c.in_ok-kept.kept.now.1) c.self.view_is
    (c.self.invariant.within (plain_known (c.args.key.now, c.in_ok-kept.kept.now.1)) (known c)).1
