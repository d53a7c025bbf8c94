use Rattle.std.proofs.Common.{refl, Option, option_and_then, slice_get, false, sym, ap, ◌∙◌}
use Rattle.nif_schema.specs.Declaration.{Declaration}
use Rattle.nif_schema.specs.Reasons.{lacks_parent}
use Rattle.nif_reasons.specs.FieldReasons.{type_reason}
use Rattle.nif_reasons.proofs.OwnLemmas.{four-first, four-third, four-last, early-first, early-behind}
use Rattle.nif_reasons.proofs.own.early_reason.Goals as goal
use Rattle.nif_reasons.proofs.own.early_reason.Goals.{in-Some+else-lacks_parent, in-None+else-lacks_parent-2}

pub returns-then-lacks_parent : goal.returns-then-lacks_parent
returns-then-lacks_parent c =
    let S = c.args.schema.now in
    let n = c.args.number in
    let root = c.in-Some.root.now in
    four-third false false (lacks_parent S root) (option_and_then (λ d. type_reason S d.what) (slice_get S n)) refl refl (sym c.if-lacks_parent.ensures)
    ∙ sym (early-behind S n c.args.way.now root c.in-Some.ensures.value c.requires.way c.requires.child c.requires.rooted)

pub returns-then-lacks_parent-2 : goal.returns-then-lacks_parent-2
returns-then-lacks_parent-2 c =
    let S = c.args.schema.now in
    let n = c.args.number in
    four-first (lacks_parent S n) false false (option_and_then (λ d. type_reason S d.what) (slice_get S n)) (sym c.if-lacks_parent-2.ensures)
    ∙ sym (early-first S n c.args.way.now c.in-None.ensures.value c.requires.child c.requires.rooted)

pub returns : goal.returns
returns c =
    let S = c.args.schema.now in
    let n = c.args.number in
    let own = c.type_reason.ensures ∙ sym (ap (λ (o : Option Declaration). option_and_then (λ d. type_reason S d.what) o) c.decl.ensures) in
    elim c.match-first.branch [
      | in-Some+else-lacks_parent w ↦
          let root = w.in-Some.root.now in
          own ∙ four-last false false (lacks_parent S root) (option_and_then (λ d. type_reason S d.what) (slice_get S n)) refl refl (sym w.if-lacks_parent.ensures)
          ∙ sym (early-behind S n c.args.way.now root w.in-Some.ensures.value c.requires.way c.requires.child c.requires.rooted)
      | in-None+else-lacks_parent-2 w ↦
          own ∙ four-last (lacks_parent S n) false false (option_and_then (λ d. type_reason S d.what) (slice_get S n)) (sym w.if-lacks_parent-2.ensures) refl refl
          ∙ sym (early-first S n c.args.way.now w.in-None.ensures.value c.requires.child c.requires.rooted)
    ]
