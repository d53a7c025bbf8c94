use Rattle.std.proofs.Common.{◌≡◌, ◌⊎◌, length, map, Contains, subst, sym, arith}
use Rattle.nif_sets.specs.Kept.{plain_known}
use Rattle.nif_sets.specs.Sets.{IsSet, IsWithin}
use Rattle.nif_sets.proofs.KeepLemmas.{parts}
use Rattle.nif_sets.proofs.KeyLemmas.{known_size-pushed, known-pushed, AreWithin-more}
use Rattle.nif_sets.proofs.sets.Sets.note.Goals as goal

pub invariant_of-self-2 : goal.invariant_of-self-2
invariant_of-self-2 c =
    let old = c.self.inside.known.items in
    let new = c.push.new.self.items in
    record {
      before = c.self.invariant.before;
      within = AreWithin-more (length (parts c.self.inside.parts.items)) (map plain_known old) (map plain_known new) (plain_known (c.args.key, c.args.answer))
          (known-pushed c.args.key c.args.answer old new c.in-Ok-push.ensures.items)
          (subst (λ s. IsSet s c.args.key.set) (sym c.self.view_is) c.requires.set)
          (subst (λ s. IsWithin s c.args.answer) (sym c.self.view_is) c.requires.within)
          c.self.invariant.within;
      counted =
          let known = known_size-pushed c.args.key c.args.answer old new c.in-Ok-push.ensures.items in
          let was = c.self.invariant.counted in
          let a = c.in-Some.ensures in
          let l = c.len.ensures in
          omega (arith, known, was, a, l);
    }

pub returns-clause-known : goal.returns-clause-known
returns-clause-known c = λ known there.
    subst (λ sets. Contains sets.known known ⊎ (known ≡ plain_known (c.args.key, c.args.answer))) c.self.view_is
    (known-pushed c.args.key c.args.answer c.self.inside.known.items c.push.new.self.items c.in-Ok-push.ensures.items known there)
