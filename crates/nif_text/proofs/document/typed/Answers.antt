use Rattle.std.proofs.Common.{refl}
use Rattle.nif_text.proofs.Documents.{typed_fails, typed_some}
use Rattle.nif_text.proofs.document.typed.Goals as goal

pub returns-then-not-document_type-clause-only : goal.returns-then-not-document_type-clause-only
returns-then-not-document_type-clause-only c next o b =
    let here = c.if-not-begins.ensures.yes refl in
    absurd (typed_fails c.args.text.now next here.0 here.1 (c.if-not-document_type.ensures.no refl) o b)

pub returns-clause-only : goal.returns-clause-only
returns-clause-only c next o b =
    let here = c.if-not-begins.ensures.yes refl in (
      refl,
      typed_some c.args.text.now next here.0 here.1 c.document_type.new.text (c.if-not-document_type.ensures.yes refl) c.asides.ensures.run.0 c.asides.new.text
          c.asides.ensures.run.1 o b,
    )
