use Rattle.std.proofs.Common.{◌++◌, Some, take, sym, ap, ◌∙◌, arith, length-take}
use Rattle.std.specs.Prelude.{◌==◌}
use Rattle.std.specs.Option.{option_map}
use Rattle.std.proofs.lemmas.List.Splits.{length-slice_split}
use Rattle.nif_base.specs.Version.{pieces_of, values_of}
use Rattle.nif_base.proofs.VersionLemmas.{coming, version_long_at, version_bad, version_read, cut_first}
use Rattle.nif_base.proofs.versions.Version.parse.Goals as goal

pub returns-then-count-eq4 : goal.returns-then-count-eq4
returns-then-count-eq4 c =
    let front = take c.loop-rest.count c.loop-rest.parts in
    let text = c.in-Some.text.now in
    sym (version_long_at c.args.text.now front (pieces_of text) (c.loop-rest.invariant.read ∙ ap (λ o. option_map (λ l. front ++ l) (coming o)) c.in-Some.is)
    (omega (arith, length-slice_split (λ c. c == 46) text)) (length-take c.loop-rest.count c.loop-rest.parts ∙ omega arith))

pub returns-in_err-parts : goal.returns-in_err-parts
returns-in_err-parts c =
    let front = take c.loop-rest.count c.loop-rest.parts in
    let first = cut_first c.in-Some.text.now c.cut.result.0.now c.cut.result.1 c.cut.ensures.parts in
    rw c.from_residual.ensures
    (sym (version_bad c.args.text.now front c.cut.result.0.now first.0
    (c.loop-rest.invariant.read ∙ ap (λ o. option_map (λ l. front ++ l) (coming o)) c.in-Some.is ∙ ap (λ l. option_map (λ l. front ++ l) (values_of l)) first.1)
    (sym c.part.ensures ∙ c.in_err-parts.was)))

pub returns : goal.returns
returns c =
    let front = take c.loop-rest.count c.loop-rest.parts in
    ap Some c.from_be_bytes.ensures
    ∙ sym (version_read c.args.text.now c.loop-rest.parts c.loop-rest.count (c.loop-rest.invariant.read ∙ ap (λ o. option_map (λ l. front ++ l) (coming o)) c.in_default.is)
    c.loop-rest.invariant.size c.loop-rest.invariant.within c.loop-rest.invariant.zeros)
