use Rattle.std.proofs.Common.{◌≡◌, Some, sym, ◌∙◌, ap}
use Rattle.std.proofs.lemmas.Option.{slice_get_within}
use Rattle.std.specs.Prelude.{unwrap_or}
use Rattle.nif_graph.proofs.Tables.{slot_at}
use Rattle.nif_graph.proofs.slots.Slots.find.Goals as goal

pub at-requires : goal.at-requires
at-requires c =
    let at = slot_at c.args.name c.args.self.now.slots c.in-Some.place (sym c.place_of.ensures ∙ c.in-Some.is) in
    slice_get_within c.args.self.now.slots c.in-Some.place at.0 at.1

pub returns-clause-name : goal.returns-clause-name
returns-clause-name c =
    let at = slot_at c.args.name c.args.self.now.slots c.in-Some.place (sym c.place_of.ensures ∙ c.in-Some.is) in
    let same : Some c.at.result ≡ Some at.0 = sym c.at.ensures ∙ at.1 in
    ap (λ o. (unwrap_or o at.0).name) same ∙ at.2
