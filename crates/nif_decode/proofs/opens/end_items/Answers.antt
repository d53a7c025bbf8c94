use Rattle.std.proofs.Common.{◌≡◌, length, arith, ◌-◌, ◌++◌, ◌∷◌, ap, ◌∙◌, sym}
use Rattle.nif_scope.specs.declared.entries.Entry.TheVariants as entry
use Rattle.nif_decode.specs.Kept.{row_head}
use Rattle.nif_decode.proofs.Entries.{set_head, behind_count}
use Rattle.nif_decode.proofs.opens.end_items.Goals as goal

pub returns-then-asked : goal.returns-then-asked
returns-then-asked c front more e len =
    let long : c.len.result ≡ length c.args.told.now.items = omega (arith, c.len.ensures, c.args.told.now.ok.0) in
    set_head c.args.told.now.items front more entry.Nothing (entry.Items (c.len.result - c.args.start - 1)) c.args.start e len
    ∙ ap (λ n. front ++ entry.Items n ∷ more) (ap (λ k. k - c.args.start - 1) long ∙ behind_count c.args.told.now.items front more entry.Nothing c.args.start e len)
    ∙ ap (λ b. front ++ row_head b more ∷ more) (sym c.if-asked.true)
