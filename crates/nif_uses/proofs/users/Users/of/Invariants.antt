use Rattle.std.proofs.Common.{◌≡◌, length}
use Rattle.nif_uses.specs.Users.{pairs, uses_below, IsLinked}
use Rattle.nif_uses.proofs.users.Users.of.Given as goal

abbrev pub invariant-loop-user : goal.invariant-loop-user
invariant-loop-user l = record {
  count : length l.users.latest.items ≡ length l.schema;
  linked : IsLinked l.users.latest.items l.users.links.items;
  links : pairs l.users.links.items ≡ uses_below l.schema l.user;
}
