use Rattle.std.proofs.Common.{arith, Some, sym, ap, subst, ◌∙◌}
use Rattle.std.specs.Option.{option_map}
use Rattle.nif_schema.specs.Schema.{line}
use Rattle.nif_scope.specs.Lookup.{told_at}
use Rattle.nif_scope.specs.Kept.{member_of, IsOpenTold}
use Rattle.nif_scope.specs.Scope.{context_in}
use Rattle.nif_scope.proofs.OneMore.{found_path}
use Rattle.nif_scope.proofs.OpenLine.{last_open}
use Rattle.nif_scope.proofs.paths.path_told.Goals as goal

pub follow-requires : goal.follow-requires
follow-requires c =
    let s = c.args.at.now in
    subst (λ x. IsOpenTold s.schema.now (told_at x)) (sym c.last_told.ensures ∙ ap (λ x. option_map member_of x) c.in-Some.is)
    (last_open s.schema.now s.number c.bytes-name.result.now c.args.entries.now c.requires.is_open)

pub returns-in-Some : goal.returns-in-Some
returns-in-Some c =
    let s = c.args.at.now in
    ap Some c.follow.ensures
    ∙ found_path s.schema.now (context_in s) (line s.schema.now s.number) c.args.entries.now c.args.path.now c.bytes-name.result.now (member_of c.in-Some.member)
    (omega (arith, c.if-prove.false, c.len.ensures.value)) (c.bytes-name.ensures ∙ c.get.ensures) (sym c.last_told.ensures ∙ ap (λ x. option_map member_of x) c.in-Some.is)
