use Rattle.std.proofs.Common.{rules, ◌≡◌, ℕ, ◌<◌, length, IfSome, Option, subst, sym, ◌∙◌, ap}
use Rattle.nif_schema.specs.Schema.{find}
use Rattle.nif_schema.proofs.Numbering.{find-within}
use Rattle.nif_schema.proofs.schemas.Schema.find.Goals as goal

pub returns-clause-within : goal.returns-clause-within
returns-clause-within c =
    let s = c.args.self.now in
    let is : c.copied.result ≡ find s c.args.name.now = search rules in
    subst (λ (o : Option ℕ). IfSome o (λ number. number < length s)) (sym is) (find-within s c.args.name.now)
