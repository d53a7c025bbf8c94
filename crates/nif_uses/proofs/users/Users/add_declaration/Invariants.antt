use Rattle.std.proofs.Common.{◌≡◌, ◌++◌, length}
use Rattle.nif_schema.specs.Uses.{uses}
use Rattle.nif_uses.specs.Users.{pairs, uses_by, IsLinked}
use Rattle.nif_uses.proofs.Links.{fields_left}
use Rattle.nif_uses.proofs.users.Users.add_declaration.Given as goal

abbrev pub invariant-loop-place : goal.invariant-loop-place
invariant-loop-place l = record {
  count : length l.self.latest.items ≡ length l.fn.self.latest.items;
  linked : IsLinked l.self.latest.items l.self.links.items;
  links : pairs l.self.links.items ++ fields_left l.schema l.user l.fields l.place ≡ pairs l.fn.self.links.items ++ uses_by l.user (uses l.schema l.user);
}
