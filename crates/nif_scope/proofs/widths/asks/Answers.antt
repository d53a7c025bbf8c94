use Rattle.std.proofs.Common.{◌≡◌, Bool, true, false, [], ◌∷◌, ◌||◌, map, refl, sym, ap, ◌∙◌}
use Rattle.std.specs.Option.{option_map_or}
use Rattle.std.specs.List.{list_any}
use Rattle.std.proofs.lemmas.List.{map-append}
use Rattle.std.proofs.lemmas.List.Folds.{list_any-append}
use Rattle.nif_schema.specs.Declaration.{Field, field}
use Rattle.nif_scope.specs.Scope.{is_bare}
use Rattle.nif_scope.proofs.widths.asks.Goals as goal

or_none : (b c : Bool) → (b || c) ≡ (b || (c || false))
or_none true c = refl
or_none false true = refl
or_none false false = refl

pub loop-other-preserved : goal.loop-other-preserved
loop-other-preserved c =
    let fields = map (λ f. field f.now) c.loop-other.yielded in
    let test : Field → Bool = λ g. option_map_or (is_bare c.args.of.now.name) g.width false in
    let f = field c.in-Some.other.now in
    ap (λ b. b || c.is_bare-found.result) c.loop-other.invariant
    ∙ ap (λ b. list_any test fields || b) c.is_bare-found.ensures
    ∙ or_none (list_any test fields) (test f)
    ∙ sym (list_any-append test fields (f ∷ []))
    ∙ ap (list_any test) (sym (map-append (λ g. field g.now) c.loop-other.yielded (c.in-Some.other ∷ [])))
