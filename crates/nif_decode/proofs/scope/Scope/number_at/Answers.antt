use Rattle.std.proofs.Common.{◌∙◌, ap, sym}
use Rattle.nif_decode.specs.Scopes.{number_at, from_member, inside_group, first_bits}
use Rattle.nif_decode.proofs.ScopeLaws.{kept_number, kept_inner}
use Rattle.nif_decode.proofs.scope.Scope.number_at.Goals as goal

pub returns-in-None : goal.returns-in-None
returns-in-None c = λ schema kind count members a.
    c.first_bits.ensures ∙ ap first_bits (c.from_member-found.ensures ∙ ap (λ t. from_member c.args.member t) (c.deref.ensures.value ∙ c.self.view_is))
    ∙ kept_number schema kind count c.args.self.now members c.args.member a
    ∙ ap (number_at members c.args.member) (sym c.in-None.is)

pub returns-in-Some : goal.returns-in-Some
returns-in-Some c = λ schema kind count members a.
    c.first_bits-in-Some.ensures ∙ ap first_bits (c.from_member.ensures ∙ ap (λ t. from_member c.in-Some.inner t) (c.inside_group.ensures
    ∙ ap inside_group (c.from_member-found.ensures ∙ ap (λ t. from_member c.args.member t) (c.deref.ensures.value ∙ c.self.view_is))))
    ∙ kept_inner schema kind count c.args.self.now members c.args.member c.in-Some.inner a
    ∙ ap (number_at members c.args.member) (sym c.in-Some.is)
