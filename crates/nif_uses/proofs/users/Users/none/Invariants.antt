use Rattle.std.proofs.Common.{◌≡◌, length, All, None}
use Rattle.nif_uses.proofs.users.Users.none.Given as goal

abbrev pub invariant-loop-number : goal.invariant-loop-number
invariant-loop-number l = (length l.latest.items ≡ l._number) × All (λ at. at ≡ None) l.latest.items
