-- The reason that a field gives, in parts.
use Rattle.std.specs.Prelude.{ℕ, ◌≡◌, ◌<◌, Bool, ◌||◌, List, [], ◌∷◌, None, Some, length, slice_get, option_and_then}
use Rattle.std.specs.declared.option.Option.{Option}
use Rattle.nif_schema.specs.Declaration.{Name, Field, Formula, Read}
use Rattle.nif_schema.specs.Expression.{Path}
use Rattle.nif_schema.specs.Schema.{Schema}
use Rattle.nif_schema.specs.Reasons.{first_reason, reason_where, kind_reason, template_reason, is_bad_bound, is_no_block, is_bad_exact, formula_reason, width_reason, width_where, is_unread, has_bad_member, lacks_parent, has_no_root, ancestor_lacks, own_reason}
use Rattle.nif_schema.specs.declared.decls.What.{What}
use Rattle.nif_schema.specs.declared.faults.Closed.{Closed}
use Rattle.nif_schema.specs.declared.faults.Closed.TheVariants.{C0, C2, C3, C4, C10, C11, C12, C13}

-- what isn't an expression
unfoldable pub plain_reason : Schema → Bool → Field → Option Closed
plain_reason schema in_struct f = first_reason (
    kind_reason schema in_struct f
    ∷ template_reason schema in_struct f
    ∷ reason_where C11 (is_bad_bound f.since || is_bad_bound f.until)
    ∷ reason_where C12 (is_no_block schema f.only || is_no_block schema f.exclude)
    ∷ reason_where C4 (is_bad_exact f.user || is_bad_exact f.bs)
    ∷ [])

-- the conditions
unfoldable pub condition_reason : Schema → List Field → Field → Option Closed
condition_reason schema earlier f =
    first_reason (formula_reason schema earlier f.vercond ∷ formula_reason schema earlier f.cond ∷ [])

-- the argument, the length and the width
unfoldable pub size_reason : Schema → List Field → Field → Option Closed
size_reason schema earlier f = first_reason (
    formula_reason schema earlier f.arg ∷ formula_reason schema earlier f.length ∷ width_reason schema earlier
    (width_where f.length f.width) ∷ [])

-- the name of a path of one name
abbrev pub only_name : List Name → Option Name
only_name (name ∷ []) = Some name
only_name _ = None

-- the name that an expression is, if it is a bare name
abbrev pub bare_name : Option Formula → Option Name
bare_name (Some (Read (Path names))) = only_name names
bare_name _ = None

-- how a type is stored
unfoldable pub type_reason : Schema → What → Option Closed
type_reason schema what =
    first_reason (reason_where C10 (is_unread schema what) ∷ reason_where C13 (has_bad_member schema what) ∷ [])

-- all that isn't of fields
unfoldable pub early_reason : Schema → ℕ → Option Closed
early_reason schema number = first_reason (
    reason_where C2 (lacks_parent schema number)
    ∷ reason_where C3 (has_no_root schema number)
    ∷ reason_where C0 (ancestor_lacks (length schema) schema number)
    ∷ option_and_then (λ d. type_reason schema d.what) (slice_get schema number)
    ∷ [])

-- the own reason of each declaration
pub record AreOwnReasons (schema : Schema) (reasons : List (Option Closed)) : Type 0 where
  pub count : length reasons ≡ length schema
  pub each : (number : ℕ) → number < length schema → slice_get reasons number ≡ Some (own_reason schema number)
