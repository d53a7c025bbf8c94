use Rattle.std.proofs.Common.{◌≡◌}
use Rattle.std.specs.Option.{is_none}
use Rattle.nif_text.specs.Tree.{attrs_of}
use Rattle.nif_read.specs.Declarations.{is_member, name_in, member_of}
use Rattle.nif_read.proofs.Loops.{SoFar}
use Rattle.nif_read.proofs.members.members.Given as goal

abbrev pub invariant-loop-child : goal.invariant-loop-child
invariant-loop-child l =
    SoFar is_member (λ child. is_none (name_in (attrs_of child))) (λ child m. member_of (attrs_of child) ≡ m) l.children l.child-index l.members
