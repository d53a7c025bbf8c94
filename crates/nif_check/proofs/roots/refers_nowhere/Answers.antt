use Rattle.std.proofs.Common.{◌<◌, length, slice_get, sym, ap, subst, ◌∙◌, refl}
use Rattle.std.proofs.lemmas.Option.{slice_get_read}
use Rattle.nif_check.proofs.RootLemmas.{nowhere-by}
use Rattle.nif_check.proofs.roots.refers_nowhere.Goals as goal

pub returns : goal.returns
returns c =
    let reaches = c.in-Ok-reaching.reaches.items in
    let lt : c.args.header < length reaches = subst (λ n. c.args.header < n) (sym c.in-Ok-reaching.ensures.count) c.requires.within in
    nowhere-by c.args.schema.now c.args.header c.deref.result.now reaches c.index.result.now c.requires.header
    (λ n what e. ap (λ l. slice_get l n) c.deref.ensures.value ∙ c.in-Ok.ensures.each n what e)
    (ap length c.deref.ensures.value ∙ c.in-Ok.ensures.count) c.in-Ok-reaching.ensures.each
    (slice_get_read reaches (length reaches) c.args.header c.index.result.now refl lt c.index.ensures)
