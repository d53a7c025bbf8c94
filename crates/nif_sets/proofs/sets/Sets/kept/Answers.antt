use Rattle.std.proofs.Common.{◌≡◌, Some, flat_map, slice_get, sym, ap, subst, ◌∙◌}
use Rattle.std.proofs.lemmas.Option.{slice_get-get_or}
use Rattle.std.proofs.lemmas.Slice.Eq.{slice_eq-Decides}
use Rattle.nif_sets.specs.Sets.{types_of}
use Rattle.nif_sets.specs.declared.sets.TypeSet.TheVariants.{Joined}
use Rattle.nif_sets.proofs.EqualLemmas.{set-Decides}
use Rattle.nif_sets.proofs.KeepLemmas.{parts, part-found}
use Rattle.nif_sets.proofs.SetLemmas.{types-joined}
use Rattle.nif_sets.proofs.sets.Sets.kept.Goals as goal

pub returns-then-eq-clause-types : goal.returns-then-eq-clause-types
returns-then-eq-clause-types c =
    let keys = c.self.inside.parts.items in
    let own = c.in_ok-own.own.now in
    let sets = c.args.sets.now in
    let place = c.in_ok-place.field-0.now in
    let found = c.in_ok-own.ensures.lookup in
    let at : slice_get keys place ≡ Some own =
    subst (λ l. slice_get l place ≡ Some own) c.deref.ensures.value (slice_get-get_or c.deref.result.now place own found.3.0 ∙ ap Some (sym (found.3.1 own))) in
    let same : own.items ≡ sets = sym c.as_slice.ensures.value ∙ (slice_eq-Decides set-Decides c.as_slice.result.now sets c.eq.result c.eq.ensures).0 c.if-eq.true in
    subst (λ n. types_of c.args.self.now (Joined n) ≡ flat_map (types_of c.args.self.now) sets) (sym c.in-Ok.ensures.1)
    (subst (λ s. types_of s (Joined place) ≡ flat_map (types_of s) sets) c.self.view_is
    (types-joined (parts keys) place sets c.self.invariant.before (part-found keys place own sets at same)))
