-- Which field is present, and what its value is, are as by the nodes.
use Rattle.std.proofs.Common.{◌≡◌, ℕ, Bool, true, false, ◌&&◌, not, List, refl, sym, ap, ◌∙◌}
use Rattle.std.specs.Prelude.{Contains}
use Rattle.std.specs.Option.{option_map, option_map_or}
use Rattle.nif_base.specs.Node.{Members}
use Rattle.nif_schema.specs.Declaration.{Formula, Field}
use Rattle.nif_schema.specs.Schema.{line}
use Rattle.nif_layout.specs.Present.{present, formula_value, is_owned_by}
use Rattle.nif_layout.specs.Form.{form_of, sized, width_at}
use Rattle.nif_scope.specs.declared.settings.Setting.{Setting}
use Rattle.nif_scope.specs.declared.entries.Entry.{Entry}
use Rattle.nif_scope.specs.Scope.{Tells, context_in, earlier}
use Rattle.nif_scope.specs.Values.{formula_at}
use Rattle.nif_scope.specs.Rules.{holds_by, is_in_versions, present_by, kind_by, is_run_by}
use Rattle.nif_scope.proofs.KeptValues.{formulas_same}

and_last : (a b c : Bool) → (a && (b && c)) ≡ (a && b && c)
and_last true b c = refl
and_last false b c = refl

pub present_same : (at : Setting) (entries : List Entry) (members : Members) → Tells at entries members → (f : Field)
    → present_by at.schema.now (context_in at) (formula_at at entries) f ≡ present at.schema.now (context_in at) at.arg (earlier at members) f
present_same at entries members tells f =
    let S = at.schema.now in
    let C = context_in at in
    let v = formula_value S C (earlier at members) at.arg in
    ap (λ (v : Formula → ℕ). present_by S C v f) (formulas_same at entries members tells)
    ∙ and_last (is_in_versions C f && holds_by v f.vercond && holds_by v f.cond) (option_map_or (is_owned_by S C.owner) f.only true)
    (option_map_or (λ name. not (is_owned_by S C.owner name)) f.exclude true)

pub form_same : (at : Setting) (entries : List Entry) (members : Members) → Tells at entries members → (f : Field) → Contains (line at.schema.now at.number) f
    → form_of at.schema.now (context_in at) at.template at.arg (earlier at members) f
    ≡ sized (option_map (formula_at at entries) f.length) (option_map (width_at at.schema.now (context_in at) (earlier at members) at.arg) f.width)
    (is_run_by at.schema.now at.template f) (kind_by at.schema.now (context_in at) at.template (formula_at at entries) f)
form_same at entries members tells f c =
    ap (λ (v : Formula → ℕ). sized (option_map v f.length) (option_map (width_at at.schema.now (context_in at) (earlier at members) at.arg) f.width)
    (is_run_by at.schema.now at.template f) (kind_by at.schema.now (context_in at) at.template v f)) (sym (formulas_same at entries members tells))
