use Rattle.std.proofs.Common.{◌≡◌, get_or, ◌++◌, ◌∷◌, ap, ◌∙◌, sym, subst, [], ◌+◌, take}
use Rattle.std.proofs.Math.Seq.{get_or-append_seam}
use Rattle.nif_scope.specs.Told.{item_told}
use Rattle.nif_decode.specs.Kept.{item_kept}
use Rattle.nif_decode.proofs.Entries.{set_head, take_head, told_head}
use Rattle.nif_decode.proofs.opens.settle_item.Goals as goal

pub returns-then-asked : goal.returns-then-asked
returns-then-asked c front node e len =
    let h = told_head node in
    let items = c.args.told.now.items in
    let d = c.index.result.now in
    let whole : items ≡ front ++ h.head ∷ h.rest = e ∙ ap (λ x. front ++ x) h.is in
    let seam : get_or (front ++ h.head ∷ h.rest) c.args.start d ≡ h.head = subst (λ k. get_or (front ++ h.head ∷ h.rest) k d ≡ h.head) len (get_or-append_seam front h.head h.rest d) in
    let first : d ≡ h.head = c.index.ensures ∙ ap (λ s. get_or s c.args.start d) whole ∙ seam in
    let same : item_told node ≡ c.item_of.result = c.item_of.ensures node h.rest (h.is ∙ ap (λ x. x ∷ h.rest) (sym first)) in
    c.truncate.ensures.items
    ∙ ap (λ s. take (c.args.start + 1) s) (set_head items front h.rest h.head c.item_of.result c.args.start whole len)
    ∙ take_head front h.rest c.item_of.result c.args.start len
    ∙ ap (λ x. front ++ x ∷ []) (sym same)
    ∙ ap (λ b. front ++ item_kept b node) (sym c.if-asked.true)
