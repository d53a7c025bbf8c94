-- Which field is present, and what its value is, where expressions have given values.
use Rattle.std.specs.Prelude.{ℕ, Bool, true, false, ◌&&◌, not, option_and_then}
use Rattle.std.specs.declared.option.Option.{Option}
use Rattle.std.specs.Option.{option_map_or}
use Rattle.nif_schema.specs.Declaration.{Formula, Field}
use Rattle.nif_schema.specs.Schema.{Schema}
use Rattle.nif_expr.specs.Value.{is_true}
use Rattle.nif_layout.specs.Context.{Context}
use Rattle.nif_layout.specs.Present.{is_from, is_up_to, is_exactly, is_owned_by}
use Rattle.nif_layout.specs.Kind.{Kind, Unknown, kind_of}
use Rattle.nif_layout.specs.Form.{replaced, is_run}

-- the condition is missing, or it isn't 0
abbrev pub holds_by : (Formula → ℕ) → Option Formula → Bool
holds_by value condition = option_map_or (λ f. is_true (value f)) condition true

abbrev pub is_in_versions : Context → Field → Bool
is_in_versions C f =
    is_from C.version f.since && is_up_to C.version f.until && is_exactly C.user f.user && is_exactly C.bs f.bs

abbrev pub is_in_blocks : Schema → Context → Field → Bool
is_in_blocks schema C f =
    option_map_or (is_owned_by schema C.owner) f.only true
    && option_map_or (λ name. not (is_owned_by schema C.owner name)) f.exclude true

abbrev pub present_by : Schema → Context → (Formula → ℕ) → Field → Bool
present_by schema C value f =
    is_in_versions C f && holds_by value f.vercond && holds_by value f.cond && is_in_blocks schema C f

-- what one value of a field is
abbrev pub kind_by : Schema → Context → Option ℕ → (Formula → ℕ) → Field → Kind
kind_by schema C template value f =
    option_map_or (λ number. kind_of schema C number (option_and_then (replaced schema template) f.template)
    (option_map_or value f.arg 0))
    (replaced schema template f.kind) Unknown

-- an array of the type of a field is a run of bytes
abbrev pub is_run_by : Schema → Option ℕ → Field → Bool
is_run_by schema template f = option_map_or (is_run schema) (replaced schema template f.kind) false
