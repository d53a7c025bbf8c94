use Rattle.std.proofs.Common.{◌≡◌, ◌<◌, length, flat_map, sym, subst}
use Rattle.std.proofs.lemmas.List.Elements.{All-contains_itself, All-weaker}
use Rattle.nif_sets.specs.Sets.{IsBelow, types_of}
use Rattle.nif_sets.specs.declared.sets.TypeSet.TheVariants.{Joined}
use Rattle.nif_sets.proofs.KeepLemmas.{parts, part-at}
use Rattle.nif_sets.proofs.SetLemmas.{types-joined}
use Rattle.nif_sets.proofs.sets.Sets.parts_of.Goals as goal

pub returns-clause-before : goal.returns-clause-before
returns-clause-before c =
    let keys = c.self.inside.parts.items in
    let own = c.index.result.now in
    let sets = c.as_slice.result.now in
    let number = c.args.number in
    let lt = subst (λ s. number < length s.parts) (sym c.self.view_is) c.requires in
    let at = part-at keys number own sets c.index.ensures c.as_slice.ensures.value lt in
    All-weaker _ (IsBelow number) (λ part there. c.self.invariant.before number sets part at there) sets (All-contains_itself sets)

pub returns-clause-types : goal.returns-clause-types
returns-clause-types c =
    let keys = c.self.inside.parts.items in
    let own = c.index.result.now in
    let sets = c.as_slice.result.now in
    let number = c.args.number in
    let lt = subst (λ s. number < length s.parts) (sym c.self.view_is) c.requires in
    let at = part-at keys number own sets c.index.ensures c.as_slice.ensures.value lt in
    subst (λ s. types_of s (Joined number) ≡ flat_map (types_of s) sets) c.self.view_is (types-joined (parts keys) number sets c.self.invariant.before at)
