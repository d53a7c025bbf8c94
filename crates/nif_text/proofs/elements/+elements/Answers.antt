use Rattle.std.proofs.Common.{[], ◌∷◌, ◌++◌, refl, sym, ◌∙◌, ap, subst, arith}
use Rattle.std.proofs.lemmas.Result.{err_from_is_err_and}
use Rattle.nif_text.specs.Tree.{Trees, Node, trees}
use Rattle.nif_text.specs.Elements.{Piece, Nested, children_among}
use Rattle.nif_text.proofs.Runs.{many_more}
use Rattle.nif_text.proofs.Nesting.{nested_never-zero, element_stops-start, element_empty, element_stops-content, element_stops-finish, element_full, piece_stops, piece_ends, piece_child, children_behind}
use Rattle.nif_text.proofs.elements.+elements.Goals as goal

pub content-loop-preserved : goal.content-loop-preserved
content-loop-preserved t c =
    let run = c.loop.invariant.run in
    let read = rw c.if-branch.true at c.in_ok-piece.ensures.read in
    let shorter = rw c.if-branch.true at c.in_ok-piece.ensures.shorter in
    record {
      run = (
        run.0 ++ read.0 ∷ [],
        many_more (Piece (Nested c.args.levels)) run.0 read.0 c.args.text.now c.loop.text c.piece.new.text run.1 read.1,
        children_behind c.args.children.now.items c.loop.children.items c.piece.new.children.items read.0 run.0 run.2 read.2,
      );
      few = omega (arith, shorter, c.in_ok-piece.ensures.one);
    }

pub element-returns-then-levels-eq0-clause-read : goal.element-returns-then-levels-eq0-clause-read
element-returns-then-levels-eq0-clause-read t c = nested_never-zero c.args.levels c.args.text.now c.if-levels-eq0.true

pub element-returns-in_err-name-clause-read : goal.element-returns-in_err-name-clause-read
element-returns-in_err-name-clause-read t c =
    let p = err_from_is_err_and c.from_residual.result c.from_residual.ensures.1 in
    rw (p.1, p.2)
    (element_stops-start c.args.levels c.if-levels-eq0.false c.args.text.now c.in_err-name.field-0.0 c.start.new.text c.start.new.text c.in_err-name.ensures.read)

pub element-returns-then-empty-clause-read : goal.element-returns-then-empty-clause-read
element-returns-then-empty-clause-read t c =
    let Q : Trees → Type 0 = λ x. Nested c.args.levels (Node c.in_ok-name.name c.in_ok-name.attrs x) c.args.text.now c.start.new.text in
    subst Q (sym (ap trees c.new-children.ensures.items))
    (element_empty c.args.levels c.if-levels-eq0.false c.args.text.now c.in_ok-name.name c.in_ok-name.attrs c.in_ok-name.empty c.start.new.text c.in_ok-name.ensures.read c.if-empty.true)

pub element-returns-in_err-content-clause-read : goal.element-returns-in_err-content-clause-read
element-returns-in_err-content-clause-read t c =
    let p = err_from_is_err_and c.from_residual-in_err-content.result c.from_residual-in_err-content.ensures.1 in
    rw (p.1, p.2)
    (element_stops-content c.args.levels c.if-levels-eq0.false c.args.text.now c.in_ok-name.name c.in_ok-name.attrs c.in_ok-name.empty c.start.new.text
    c.in_ok-name.ensures.read c.if-empty.false c.in_err-content.field-0.0 c.content.new.text c.content.new.text c.new-children.result.items c.content.new.children.items
    c.in_err-content.ensures.read)

pub element-returns-in_err-finish-clause-read : goal.element-returns-in_err-finish-clause-read
element-returns-in_err-finish-clause-read t c =
    let p = err_from_is_err_and c.from_residual-in_err-finish.result c.from_residual-in_err-finish.ensures.1 in
    let read = c.in_ok-content.ensures.read in
    rw (p.1, p.2)
    (element_stops-finish c.args.levels c.if-levels-eq0.false c.args.text.now c.in_ok-name.name c.in_ok-name.attrs c.in_ok-name.empty c.start.new.text
    c.in_ok-name.ensures.read c.if-empty.false c.in_err-finish.field-0.0 c.bytes.result.now c.bytes.ensures c.content.new.text c.finish.new.text c.finish.new.text read.0 read.1
    c.in_err-finish.ensures.read)

pub element-returns-clause-read : goal.element-returns-clause-read
element-returns-clause-read t c =
    let read = c.in_ok-content.ensures.read in
    element_full c.args.levels c.if-levels-eq0.false c.args.text.now c.in_ok-name.name c.in_ok-name.attrs c.in_ok-name.empty c.start.new.text
    c.in_ok-name.ensures.read c.if-empty.false c.bytes.result.now c.bytes.ensures c.content.new.text c.finish.new.text read.0 read.1 c.in_ok-finish.ensures.read
    c.content.new.children.items (read.2 ∙ ap (λ x. x ++ children_among read.0) c.new-children.ensures.items)

pub piece-returns-then-begins-clause-read : goal.piece-returns-then-begins-clause-read
piece-returns-then-begins-clause-read t c =
    let stays = c.if-passed_over.ensures.stays refl in
    let here = c.if-begins.ensures.yes refl in
    (piece_ends c.args.levels c.args.text.now c.passed_over.new.text here.0 stays here.1, stays, refl)

pub piece-returns-in_err-child-clause-read : goal.piece-returns-in_err-child-clause-read
piece-returns-in_err-child-clause-read t c =
    let p = err_from_is_err_and c.from_residual.result c.from_residual.ensures.1 in
    rw (p.1, p.2)
    (piece_stops c.args.levels c.args.text.now c.in_err-child.field-0.0 c.passed_over.new.text c.element.new.text c.element.new.text c.args.children.now.items
    c.args.children.now.items (c.if-passed_over.ensures.stays refl) (c.if-passed_over.ensures.no refl) (c.if-begins.ensures.no refl) refl c.in_err-child.ensures.read)

pub piece-returns-clause-read : goal.piece-returns-clause-read
piece-returns-clause-read t c =
    piece_child c.args.levels c.args.text.now c.in_ok-child.child c.passed_over.new.text c.element.new.text c.args.children.now.items c.push.new.self.items
    (c.if-passed_over.ensures.stays refl) c.in_ok-child.ensures.read c.in-Ok.ensures.items
