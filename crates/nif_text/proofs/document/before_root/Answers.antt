use Rattle.std.proofs.Common.{ℕ, ◌≡◌, List, true, false, sym, subst}
use Rattle.nif_text.specs.Parts.{Many, Optional}
use Rattle.nif_text.specs.Comments.{Declaration}
use Rattle.nif_text.specs.Documents.{Aside, TypeAndAsides}
use Rattle.nif_text.proofs.Documents.{before_first, mark_behind, no_second, asides_same, typed_no_aside}
use Rattle.nif_text.proofs.document.before_root.Goals as goal

pub returns-then-not-declared-clause-only : goal.returns-then-not-declared-clause-only
returns-then-not-declared-clause-only c root b begins =
    let mark : c.eat-mark.new.self ≡ b.declaration_at =
    mark_behind c.args.text.now b.declaration_at b.mark (before_first c.args.text.now root b begins) c.eat-mark.result c.eat-mark.new.self c.eat-mark.ensures.yes c.eat-mark.ensures.no c.eat-mark.ensures.stays in
    let D : List ℕ → Type 0 = λ x. Optional Declaration x b.asides_at in
    let both = c.if-not-declared.ensures.only b.asides_at (subst D (sym mark) b.declaration) (no_second b.asides_at root b.asides.0 b.type_at b.asides.1 b.type begins) in
    let e : false ≡ true = both.0 in absurd (cc e)

pub returns-clause-only : goal.returns-clause-only
returns-clause-only c root b begins =
    let mark : c.eat-mark.new.self ≡ b.declaration_at =
    mark_behind c.args.text.now b.declaration_at b.mark (before_first c.args.text.now root b begins) c.eat-mark.result c.eat-mark.new.self c.eat-mark.ensures.yes c.eat-mark.ensures.no c.eat-mark.ensures.stays in
    let D : List ℕ → Type 0 = λ x. Optional Declaration x b.asides_at in
    let both = c.if-not-declared.ensures.only b.asides_at (subst D (sym mark) b.declaration) (no_second b.asides_at root b.asides.0 b.type_at b.asides.1 b.type begins) in
    let A : List ℕ → Type 0 = λ x. Many (λ (_ : Unit {0}). Aside) b.asides.0 x b.type_at in
    let at : c.asides.new.text ≡ b.type_at =
    asides_same c.asides.ensures.run.0 b.asides.0 c.declared.new.text c.asides.new.text b.type_at c.asides.ensures.run.1 (subst A (sym both.1) b.asides.1)
    (typed_no_aside b.type_at root b.type begins) in
    let T : List ℕ → Type 0 = λ x. Optional TypeAndAsides x root in
    c.typed.ensures.only root (subst T (sym at) b.type) begins
