use Rattle.std.proofs.Common.{◌≡◌, ◌+◌, length}
use Rattle.std.specs.Option.{option_map_or}
use Rattle.nif_uses.specs.Marks.{unmarked}
use Rattle.nif_uses.proofs.Marking.{AreMarking}
use Rattle.nif_uses.proofs.users.Users.mark.Given as goal

abbrev pub invariant-loop-at : goal.invariant-loop-at
invariant-loop-at l = record {
  marking : AreMarking l.self.links.items l.used l.at l.fn.marks.items l.fn.waiting.items l.marks.items l.waiting.items;
  count : length l.marks.items ≡ length l.fn.marks.items;
  fewer : unmarked l.marks.items + length l.waiting.items ≡ unmarked l.fn.marks.items + length l.fn.waiting.items;
}

abbrev pub decreases-loop-at : goal.decreases-loop-at
decreases-loop-at l = option_map_or (λ place. place + 1) l.at 0
