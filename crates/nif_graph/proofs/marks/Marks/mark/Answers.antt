use Rattle.std.proofs.Common.{◌≡◌, inr, Some, length, refl, ap, ◌∙◌, arith}
use Rattle.std.specs.Prelude.{slice_get}
use Rattle.std.proofs.lemmas.Option.{slice_get_read}
use Rattle.nif_graph.proofs.Marking.{unmarked_set}
use Rattle.nif_graph.proofs.marks.Marks.mark.Goals as goal

pub push_reserved-requires : goal.push_reserved-requires
push_reserved-requires c =
    let s : slice_get c.args.self.now.marks.items c.args.name ≡ Some c.index.result.now =
    slice_get_read c.args.self.now.marks.items (length c.args.self.now.marks.items) c.args.name c.index.result.now refl c.requires.within c.index.ensures in
    omega (arith, unmarked_set c.args.self.now.marks.items c.args.name (s ∙ ap (λ b. Some b) c.if-index.false), c.requires.room, c.args.self.now.queue.ok.0)

pub returns-clause-marked : goal.returns-clause-marked
returns-clause-marked c =
    let s : slice_get c.args.self.now.marks.items c.args.name ≡ Some c.index.result.now =
    slice_get_read c.args.self.now.marks.items (length c.args.self.now.marks.items) c.args.name c.index.result.now refl c.requires.within c.index.ensures in
    inr (s ∙ ap (λ b. Some b) c.if-index.false, refl, c.push_reserved.ensures.items)
