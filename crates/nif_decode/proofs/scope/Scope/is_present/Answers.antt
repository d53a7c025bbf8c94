use Rattle.std.proofs.Common.{◌∙◌, ap}
use Rattle.nif_decode.specs.Scopes.{from_member, is_first}
use Rattle.nif_decode.proofs.ScopeLaws.{kept_present}
use Rattle.nif_decode.proofs.scope.Scope.is_present.Goals as goal

pub returns : goal.returns
returns c = λ schema kind count members a.
    c.is_first.ensures ∙ ap is_first (c.from_member.ensures ∙ ap (λ t. from_member c.args.member t) (c.deref.ensures.value ∙ c.self.view_is))
    ∙ kept_present schema kind count c.args.self.now members c.args.member a
