use Rattle.std.proofs.Common.{◌≡◌, ◌∷◌, ◌++◌, [], ℕ, List, Bool, All, length, sym, subst, arith}
use Rattle.std.proofs.lemmas.List.{nil_from_length}
use Rattle.std.proofs.lemmas.List.Elements.{All-contains, Contains-push}
use Rattle.std.proofs.lemmas.Option.{slice_get_within}
use Rattle.nif_uses.specs.Marks.{IsMarked}
use Rattle.nif_uses.specs.Users.{IsSpreading}
use Rattle.nif_uses.proofs.Spreading.{spreading-begin, spreading-next, spreading-end}
use Rattle.nif_uses.proofs.Links.{users-within}
use Rattle.nif_uses.proofs.spread.reaching.Goals as goal

pub loop-used-init : goal.loop-used-init
loop-used-init c =
    let s = c.args.schema.now in
    let marked = c.args.marked.now in
    let numbers = c.in-Ok-numbers_of.numbers.items in
    subst (λ (marks : List Bool). IsSpreading s marked marks numbers) (sym c.in-Ok-from_slice.ensures.items)
    (spreading-begin s marked numbers c.requires.marked_count c.in-Ok-numbers_of.ensures.marked c.in-Ok-numbers_of.ensures.all)

pub mark-requires-clause-within : goal.mark-requires-clause-within
mark-requires-clause-within c =
    let marks = c.loop-used.marks.items in
    let rest = c.pop.new.self.items in
    let used = c.in-Some.used in
    let all = subst (λ (q : List ℕ). All (IsMarked marks) q) c.in-Some.ensures.items c.loop-used.invariant.waits in
    let it = All-contains (IsMarked marks) (rest ++ used ∷ []) used all (Contains-push rest used) in
    omega (arith, slice_get_within marks used _ it, c.loop-used.invariant.count, c.in-Ok.ensures.count)

pub mark-requires-clause-users : goal.mark-requires-clause-users
mark-requires-clause-users c =
    users-within c.args.schema.now c.in-Ok.users.links.items (length c.loop-used.marks.items) c.in-Ok.ensures.links c.loop-used.invariant.count

pub loop-used-preserved : goal.loop-used-preserved
loop-used-preserved c =
    spreading-next c.args.schema.now c.in-Ok.users.links.items c.args.marked.now c.loop-used.marks.items c.loop-used.waiting.items c.pop.new.self.items c.in-Some.used
    c.mark.new.marks.items c.mark.new.waiting.items c.in-Ok.ensures.links c.loop-used.invariant c.in-Some.ensures.items c.in-Ok-mark.ensures.marked
    c.in-Ok-mark.ensures.count

pub returns-clause-each : goal.returns-clause-each
returns-clause-each c =
    let waiting = c.loop-used.waiting.items in
    let none : waiting ≡ [] = nil_from_length waiting (omega (arith, c.in_default-pop.ensures.cases)) in
    spreading-end c.args.schema.now c.args.marked.now c.loop-used.marks.items
    (subst (λ (q : List ℕ). IsSpreading c.args.schema.now c.args.marked.now c.loop-used.marks.items q) none c.loop-used.invariant)
