use Rattle.std.proofs.Common.{◌≡◌, List, [], ◌∷◌, ◌||◌, map, drop, bytes_eq, sym, ap, subst, ◌∙◌}
use Rattle.std.proofs.lemmas.List.{map-append}
use Rattle.nif_schema.specs.Declaration.{Field, field}
use Rattle.nif_scope.specs.Lookup.{name_told, rest_told}
use Rattle.nif_scope.proofs.OneMore.{name_here, rest_here, name_end, rest_end}
use Rattle.nif_scope.proofs.members.name_told.Goals as goal

pub loop-field-preserved-in-Some-split : goal.loop-field-preserved-in-Some-split
loop-field-preserved-in-Some-split c =
    let fields = map (λ f. field f.now) c.loop-field.yielded in
    let f = field c.in-Some.field.now in
    let left = sym (c.in-Some-split.ensures) ∙ c.loop-field.invariant.1 in
    subst (λ (ys : List Field). ((c.loop-field.found || c.eq-found.result) ≡ name_told c.args.name.now ys c.args.entries.now) × (c.behind-rest.result.now ≡ rest_told ys c.args.entries.now))
    (sym (map-append (λ g. field g.now) c.loop-field.yielded (c.in-Some.field ∷ []))) (
      ap (λ b. b || c.eq-found.result) c.loop-field.invariant.0
          ∙ ap (λ b. name_told c.args.name.now fields c.args.entries.now || b) (c.eq-found.ensures ∙ ap (λ name. bytes_eq c.args.name.now name) c.bytes.ensures)
          ∙ name_here c.args.name.now fields f c.args.entries.now c.in-Some-split.entry c.in-Some-split.more.now left,
      c.behind-rest.ensures ∙ ap (λ n. drop n c.in-Some-split.more.now) c.inside.ensures ∙ rest_here fields f c.args.entries.now c.in-Some-split.entry c.in-Some-split.more.now left,
    )

pub loop-field-preserved : goal.loop-field-preserved
loop-field-preserved c =
    let fields = map (λ f. field f.now) c.loop-field.yielded in
    let f = field c.in-Some.field.now in
    let left = sym (c.in_default.ensures) ∙ c.loop-field.invariant.1 in
    subst (λ (ys : List Field). (c.loop-field.found ≡ name_told c.args.name.now ys c.args.entries.now) × (c.loop-field.rest.now ≡ rest_told ys c.args.entries.now))
    (sym (map-append (λ g. field g.now) c.loop-field.yielded (c.in-Some.field ∷ [])))
    (c.loop-field.invariant.0 ∙ name_end c.args.name.now fields f c.args.entries.now left, c.in_default.ensures ∙ rest_end fields f c.args.entries.now left)
