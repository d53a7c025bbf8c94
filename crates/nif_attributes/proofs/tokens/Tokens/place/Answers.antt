use Rattle.std.proofs.Common.{map, ap, sym, ◌∙◌, subst, arith, length}
use Rattle.std.specs.List.{slice_get}
use Rattle.nif_attributes.specs.Tokens.{pass_group}
use Rattle.nif_attributes.specs.Listing.{text_of}
use Rattle.nif_attributes.specs.Finding.{IsAbsent}
use Rattle.nif_attributes.proofs.Finding.{lone_at, lone-absent}
use Rattle.nif_attributes.proofs.tokens.Tokens.place.Goals as goal

pub returns-clause-idle : goal.returns-clause-idle
returns-clause-idle c name n group low high is =
    let (one, same, token) = lone_at c.self.inside.items.items n group (ap (λ s. slice_get s n) c.self.view_is ∙ is) in
    let absent = c.next.ensures.none (map text_of c.self.inside.items.items) c.self.invariant n (text_of one) low high token in
    ap (λ g. pass_group name c.args.text.now g) (sym same)
    ∙ lone-absent name c.args.text.now one (omega (arith, ap length c.bytes-bytes.ensures, c.if-bytes-gt-MOST_EXPRESSION_BYTES.false)) (subst (λ t. IsAbsent t (text_of one)) c.bytes-bytes.ensures absent)
