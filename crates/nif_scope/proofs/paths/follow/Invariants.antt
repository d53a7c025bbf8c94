use Rattle.std.proofs.Common.{◌≡◌, drop}
use Rattle.nif_scope.specs.Lookup.{follow_told}
use Rattle.nif_scope.specs.Kept.{told_of, IsOpenTold}
use Rattle.nif_scope.proofs.paths.follow.Given as goal

-- what the names that are left lead to from here
abbrev pub invariant-loop-place : goal.invariant-loop-place
invariant-loop-place l = record {
  leads : follow_told l.schema (told_of l.at) (drop l.place l.path) ≡ follow_told l.schema (told_of l.fn.first) (drop 1 l.path);
  known : IsOpenTold l.schema (told_of l.at);
}
