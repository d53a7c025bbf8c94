use Rattle.std.proofs.Common.{◌≡◌, List, [], ◌∷◌, map, take, drop, None, ap, sym, subst, ◌∙◌}
use Rattle.std.specs.Option.{option_map}
use Rattle.std.proofs.lemmas.List.{map-append}
use Rattle.nif_schema.specs.Declaration.{Field, field}
use Rattle.nif_scope.specs.Lookup.{last_told, later_told, rest_told}
use Rattle.nif_scope.specs.Kept.{member_of}
use Rattle.nif_scope.proofs.OneMore.{last_here, rest_here, last_end, rest_end}
use Rattle.nif_scope.proofs.members.last_told.Goals as goal

pub loop-field-preserved-in-Some-split : goal.loop-field-preserved-in-Some-split
loop-field-preserved-in-Some-split c =
    let fields = map (λ f. field f.now) c.loop-field.yielded in
    let f = field c.in-Some.field.now in
    let left = sym (c.in-Some-split.ensures) ∙ c.loop-field.invariant.1 in
    subst (λ (ys : List Field). (option_map member_of c.later-found.result ≡ last_told c.args.name.now None ys c.args.entries.now) × (c.behind-rest.result.now ≡ rest_told ys c.args.entries.now))
    (sym (map-append (λ g. field g.now) c.loop-field.yielded (c.in-Some.field ∷ []))) (
      last_here c.args.name.now fields f c.args.entries.now c.in-Some-split.entry c.in-Some-split.more.now (option_map member_of c.loop-field.found) (option_map member_of c.later-found.result) c.loop-field.invariant.0 left
          (c.later-found.ensures ∙ ap (λ own. later_told c.args.name.now f c.in-Some-split.entry own (option_map member_of c.loop-field.found)) (c.first.ensures ∙ ap (λ n. take n c.in-Some-split.more.now) c.inside.ensures)),
      c.behind-rest.ensures ∙ ap (λ n. drop n c.in-Some-split.more.now) c.inside-in-Some-split.ensures ∙ rest_here fields f c.args.entries.now c.in-Some-split.entry c.in-Some-split.more.now left,
    )

pub loop-field-preserved : goal.loop-field-preserved
loop-field-preserved c =
    let fields = map (λ f. field f.now) c.loop-field.yielded in
    let f = field c.in-Some.field.now in
    let left = sym (c.in_default.ensures) ∙ c.loop-field.invariant.1 in
    subst (λ (ys : List Field). (option_map member_of c.loop-field.found ≡ last_told c.args.name.now None ys c.args.entries.now) × (c.loop-field.rest.now ≡ rest_told ys c.args.entries.now))
    (sym (map-append (λ g. field g.now) c.loop-field.yielded (c.in-Some.field ∷ [])))
    (c.loop-field.invariant.0 ∙ last_end c.args.name.now fields f c.args.entries.now left, c.in_default.ensures ∙ rest_end fields f c.args.entries.now left)
