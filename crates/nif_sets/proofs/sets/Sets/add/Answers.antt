use Rattle.std.proofs.Common.{List, ◌≡◌, ◌++◌, ◌∷◌, [], false, length, map, flat_map, refl, sym, ap, subst, ◌∙◌, arith, slice_get, Some}
use Rattle.std.specs.List.{All}
use Rattle.nif_names.specs.Tables.{Table}
use Rattle.nif_sets.specs.Insides.{AreKnown}
use Rattle.nif_sets.specs.Kept.{plain_known}
use Rattle.nif_sets.specs.Sets.{Sets, IsSet, IsGrown, types_of}
use Rattle.nif_sets.specs.declared.sets.TypeSet.TheVariants.{Joined}
use Rattle.nif_sets.proofs.InsideLemmas.{AreKnown-grown}
use Rattle.nif_sets.proofs.KeepLemmas.{parts, part-found, more, IsKept-more, types-more}
use Rattle.nif_sets.proofs.SetLemmas.{IsGrown-append}
use Rattle.nif_sets.proofs.sets.Sets.add.Goals as goal

get-pushed : {X : Type 0} (xs : List X) (x : X) → slice_get (xs ++ x ∷ []) (length xs) ≡ Some x
get-pushed [] x = refl
get-pushed (y ∷ ys) x = get-pushed ys x

pub invariant_of-self-2 : goal.invariant_of-self-2
invariant_of-self-2 c =
    IsKept-more c.self.inside.parts.items c.push.new.self.items c.in-Ok-from_slice.own c.args.sets.now false c.in-Ok-push.ensures.items c.in-Ok-from_slice.ensures.items
    (map plain_known c.self.inside.known.items) c.self.inside.size c.in-Some.size c.self.invariant
    (subst (λ s. All (IsSet s) c.args.sets.now) (sym c.self.view_is) c.requires)
    (let a = c.in-Some.ensures in omega (arith, a))

pub returns-clause-grown : goal.returns-clause-grown
returns-clause-grown c =
    let keys = c.self.inside.parts.items in
    let known = map plain_known c.self.inside.known.items in
    let old : Sets = record { parts = parts keys; known = known } in
    let new : Sets = record { parts = parts c.push.new.self.items; known = known } in
    let later = more keys c.push.new.self.items c.in-Ok-from_slice.own c.args.sets.now false c.in-Ok-push.ensures.items c.in-Ok-from_slice.ensures.items in
    subst (λ s. IsGrown s new) c.self.view_is (IsGrown-append old new later.0 later.1)

pub returns-clause-known : goal.returns-clause-known
returns-clause-known c =
    let keys = c.self.inside.parts.items in
    let known = map plain_known c.self.inside.known.items in
    let old : Sets = record { parts = parts keys; known = known } in
    let new : Sets = record { parts = parts c.push.new.self.items; known = known } in
    let later = more keys c.push.new.self.items c.in-Ok-from_slice.own c.args.sets.now false c.in-Ok-push.ensures.items c.in-Ok-from_slice.ensures.items in
    subst (λ s. (tables : List Table) → AreKnown tables s → AreKnown tables new) c.self.view_is
    (λ tables. AreKnown-grown tables old new (IsGrown-append old new later.0 later.1) refl c.self.invariant.within)

pub returns-clause-types : goal.returns-clause-types
returns-clause-types c =
    let keys = c.self.inside.parts.items in
    let new_keys = c.push.new.self.items in
    let sets = c.args.sets.now in
    let own = c.in-Ok-from_slice.own in
    let n = c.in-Ok.number in
    let last : n ≡ length keys = (let e = c.in-Ok.ensures.1 in let l = c.len-place.ensures in omega (arith, e, l)) in
    let at : slice_get new_keys n ≡ Some own = ap (slice_get new_keys) last ∙ ap (λ l. slice_get l (length keys)) c.in-Ok-push.ensures.items ∙ get-pushed keys own in
    subst (λ s. types_of (record { parts = parts new_keys; known = map plain_known c.self.inside.known.items }) (Joined n) ≡ flat_map (types_of s) sets) c.self.view_is
    (types-more keys new_keys own sets false c.in-Ok-push.ensures.items c.in-Ok-from_slice.ensures.items c.self.invariant.before
    (subst (λ s. All (IsSet s) sets) (sym c.self.view_is) c.requires) n (part-found new_keys n own sets at c.in-Ok-from_slice.ensures.items))
