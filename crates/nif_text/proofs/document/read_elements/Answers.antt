use Rattle.std.proofs.Common.{ℕ, ◌≡◌, List, length, true, false, refl, sym, ◌∙◌, ap, subst, arith}
use Rattle.std.specs.Prelude.{◌==◌}
use Rattle.std.proofs.lemmas.Result.{err_from_is_err_and}
use Rattle.nif_text.specs.Documents.{Unwritten, IsAfter, IfNotWritten}
use Rattle.nif_text.specs.Reading.{IsAfterRoot}
use Rattle.nif_text.proofs.Documents.{unwritten_before, after_before, unwritten_rest, after_root, root_unwritten, root_after, kept_children}
use Rattle.nif_text.proofs.document.read_elements.Goals as goal

pub returns-then-not-before_root-clause-none : goal.returns-then-not-before_root-clause-none
returns-then-not-before_root-clause-none c =
    let Q : List ℕ → Type 0 = λ x. Unwritten x in
    subst Q c.new-text.ensures
    (unwritten_before c.new-text.result (λ root b begins. let e : false ≡ true = (c.if-not-before_root.ensures.only root b begins).0 in cc e))

pub returns-then-not-before_root-clause-after : goal.returns-then-not-before_root-clause-after
returns-then-not-before_root-clause-after c =
    let Q : List ℕ → Type 0 = λ x. IsAfter x 0 in
    subst Q c.new-text.ensures
    (after_before c.new-text.result (λ root b begins. let e : false ≡ true = (c.if-not-before_root.ensures.only root b begins).0 in cc e))

pub returns-in_err-root-clause-none : goal.returns-in_err-root-clause-none
returns-in_err-root-clause-none c =
    let p = err_from_is_err_and c.from_residual.result c.from_residual.ensures.1 in
    let Q : List ℕ → Type 0 = λ x. IfNotWritten c.in_err-root.field-0.0 (λ _. Unwritten x) in
    rw (p.1, p.2)
    (subst Q c.new-text.ensures
    (root_unwritten c.new-text.result c.before_root.new.text (λ root b begins. (c.if-not-before_root.ensures.only root b begins).1) c.in_err-root.field-0.0 c.root.new.text
    c.in_err-root.ensures.read))

pub returns-in_err-root-clause-after : goal.returns-in_err-root-clause-after
returns-in_err-root-clause-after c =
    let p = err_from_is_err_and c.from_residual.result c.from_residual.ensures.1 in
    let Q : List ℕ → Type 0 = λ x. IfNotWritten c.in_err-root.field-0.0 (λ count. IsAfter x count) in
    rw (p.1, p.2)
    (subst Q c.new-text.ensures
    (root_after c.new-text.result c.before_root.new.text (λ root b begins. (c.if-not-before_root.ensures.only root b begins).1) (c.if-not-before_root.ensures.yes refl)
    c.in_err-root.field-0.0 c.root.new.text c.in_err-root.ensures.read))

pub overflow_cast-result : goal.overflow_cast-result
overflow_cast-result c =
    let kept = kept_children c.in_ok-root.root c.root-2.inside.name c.root-2.inside.attrs c.root-2.inside.children.items c.root-2.view_is in
    omega (arith, kept, c.root-2.inside.children.ok.0, c.len.ensures, c.in_ok-root.ensures.few)

pub returns-then-not-is_empty-clause-none : goal.returns-then-not-is_empty-clause-none
returns-then-not-is_empty-clause-none c =
    let Q : List ℕ → Type 0 = λ x. Unwritten x in
    subst Q c.new-text.ensures
    (unwritten_rest c.new-text.result c.before_root.new.text (λ root b begins. (c.if-not-before_root.ensures.only root b begins).1) c.in_ok-root.root c.root.new.text
    c.in_ok-root.ensures.read.0 c.asides.ensures.run.0 c.asides.new.text c.asides.ensures.run.1 (λ e.
    let none : length c.rest.result.now ≡ 0 = ap length (c.rest.ensures.text ∙ e) in
    let t : false ≡ true = c.if-not-is_empty.ensures ∙ ap (λ n. n == 0) none in cc t))

pub returns-then-not-is_empty-clause-after : goal.returns-then-not-is_empty-clause-after
returns-then-not-is_empty-clause-after c =
    let Q : List ℕ → Type 0 = λ x. IsAfter x c.len.result in
    let A : ℕ → Type 0 = λ x. IsAfterRoot c.before_root.new.text x in
    let kept = kept_children c.in_ok-root.root c.root-2.inside.name c.root-2.inside.attrs c.root-2.inside.children.items c.root-2.view_is in
    subst Q c.new-text.ensures
    (after_root c.new-text.result c.before_root.new.text (λ root b begins. (c.if-not-before_root.ensures.only root b begins).1) (c.if-not-before_root.ensures.yes refl) c.len.result
    (subst A (sym (c.len.ensures ∙ c.root-2.inside.children.ok.0 ∙ sym kept)) c.in_ok-root.ensures.read.1))
