use Rattle.std.proofs.Common.{◌≡◌, ◌+◌, ◌∷◌, true, false, map, sym, subst, ◌∙◌, arith}
use Rattle.nif_schema.specs.Declaration.{field}
use Rattle.nif_schema.specs.Roles.{of_name}
use Rattle.nif_roles.specs.declared.fields.Named.{Named}
use Rattle.nif_roles.proofs.FieldLemmas.{left, of-at, of_past, IsFound, found-other, found-end, found-more}
use Rattle.nif_roles.proofs.fields.find_named.Goals as goal
use Rattle.nif_roles.proofs.fields.find_named.Goals.{then-is_named+in-No, else-is_named}

pub returns-in_default : goal.returns-in_default
returns-in_default c =
    let name = c.args.name.now in
    let fields = c.args.fields.now in
    let place = c.loop-place.place in
    let f = c.get-of.result.now in
    found-more (of_name name (map field fields)) (of_name name (left fields place)) (of_name name (left fields (place + 1))) (field f) c.loop-place.found
    (of-at name fields place f true c.get-of.ensures (sym c.is_named.ensures ∙ c.if-is_named.true)) c.in_default.not-No c.loop-place.invariant

pub loop-place-preserved : goal.loop-place-preserved
loop-place-preserved c =
    let name = c.args.name.now in
    let fields = c.args.fields.now in
    let place = c.loop-place.place in
    let f = c.get-of.result.now in
    let all = of_name name (map field fields) in
    let rest = of_name name (left fields (place + 1)) in
    elim c.if-is_named.branch [
      | then-is_named+in-No w ↦
          let none : all ≡ of_name name (left fields place) = subst (λ (n : Named). IsFound all n (of_name name (left fields place))) w.in-No.is c.loop-place.invariant in
          let one : all ≡ field f ∷ rest = none ∙ of-at name fields place f true c.get-of.ensures (sym c.is_named.ensures ∙ w.if-is_named.true) in
          subst (λ (n : Named). IsFound all n rest) (sym w.found-is) one
      | else-is_named w ↦
          subst (λ (n : Named). IsFound all n rest) (sym w.found-is)
          (found-other all (of_name name (left fields place)) rest c.loop-place.found
          (of-at name fields place f false c.get-of.ensures (sym c.is_named.ensures ∙ w.if-is_named.false)) c.loop-place.invariant)
    ]

pub returns : goal.returns
returns c =
    let name = c.args.name.now in
    let fields = c.args.fields.now in
    found-end (of_name name (map field fields)) (of_name name (left fields c.loop-place.place)) c.loop-place.found
    (of_past name fields c.loop-place.place (omega (arith, c.len-place-end.ensures))) c.loop-place.invariant
