-- Whether a field is present. A missing attribute always holds.
use Rattle.std.specs.Prelude.{ℕ, Bool, true, false, ◌&&◌, not, nat_le, nat_eq, None, Some, List, map}
use Rattle.std.specs.declared.option.Option.{Option}
use Rattle.std.specs.Option.{option_map_or, unwrap_or}
use Rattle.nif_schema.specs.Declaration.{Name, Formula, Read, Bad, Field}
use Rattle.nif_schema.specs.Expression.{Tree}
use Rattle.nif_schema.specs.Schema.{Schema, find, is_a}
use Rattle.nif_schema.specs.Paths.{paths_of}
use Rattle.nif_schema.specs.declared.fields.Bound.{Bound}
use Rattle.nif_schema.specs.declared.fields.Bound.TheVariants as bound
use Rattle.nif_schema.specs.declared.fields.Exact.{Exact}
use Rattle.nif_schema.specs.declared.fields.Exact.TheVariants as exact
use Rattle.nif_expr.specs.Value.{value, is_true}
use Rattle.nif_layout.specs.Context.{Context}
use Rattle.nif_layout.specs.Earlier.{Env}
use Rattle.nif_layout.specs.PathValue.{path_value}

-- each path of an expression with its value, and with 0 where it has none
abbrev pub values_in : Schema → Context → Env → Tree → List (List Name × ℕ)
values_in schema C E of = map (λ path. (path, unwrap_or (path_value schema C E path) 0)) (paths_of of)

-- The value of an attribute behind these earlier fields, with this argument. A bad one is 0; an open type has none.
abbrev pub formula_value : Schema → Context → Env → ℕ → Formula → ℕ
formula_value schema C E arg (Read of) = value of (values_in schema C E of) arg
formula_value schema C E arg Bad = 0

-- the condition is missing, or it isn't 0
abbrev pub holds : Schema → Context → Env → ℕ → Option Formula → Bool
holds schema C E arg condition = option_map_or (λ f. is_true (formula_value schema C E arg f)) condition true

abbrev pub is_from : ℕ → Option Bound → Bool
is_from version None = true
is_from version (Some (bound.Read since)) = nat_le since.number version
is_from version (Some bound.Bad) = false

abbrev pub is_up_to : ℕ → Option Bound → Bool
is_up_to version None = true
is_up_to version (Some (bound.Read until)) = nat_le version until.number
is_up_to version (Some bound.Bad) = false

abbrev pub is_exactly : ℕ → Option Exact → Bool
is_exactly number None = true
is_exactly number (Some (exact.Is wanted)) = nat_eq number wanted
is_exactly number (Some exact.Bad) = false

-- there is an owner, and it is the block type of this name or inherits from it
abbrev pub is_owned_by : Schema → Option ℕ → Name → Bool
is_owned_by schema owner name =
    option_map_or (λ number. option_map_or (is_a schema number) (find schema name) false) owner false

-- a field of a line is present behind these earlier fields, in a group with this argument
abbrev pub present : Schema → Context → ℕ → Env → Field → Bool
present schema C arg E f =
    is_from C.version f.since && is_up_to C.version f.until
    && is_exactly C.user f.user && is_exactly C.bs f.bs
    && holds schema C E arg f.vercond && holds schema C E arg f.cond
    && option_map_or (is_owned_by schema C.owner) f.only true
    && option_map_or (λ name. not (is_owned_by schema C.owner name)) f.exclude true
