-- What a schema and an iterator over a line keep.
use Rattle.std.specs.Prelude.{ℕ, zero, suc, ◌≡◌, ◌<◌, List, [], ◌++◌, length, map, drop, All, Some, Vec}
use Rattle.std.specs.Option.{option_map_or}
use Rattle.std.specs.Ordering.{nat_cmp}
use Rattle.std.specs.Cmp.Lexicographic.{slice_cmp}
use Rattle.std.specs.BTreeMap.{BTreeMap, get_by}
use Rattle.std.specs.declared.alloc.Global.{Global}
use Rattle.nif_schema.specs.Declaration.{Name, Field, declaration}
use Rattle.nif_schema.specs.Schema.{Schema, IsSchema, find, fields_of, ancestor}
use Rattle.nif_schema.specs.declared.decls.Decl.{Decl}
use Rattle.nif_schema.specs.declared.lines.Waypoint.{Waypoint}

-- the declarations that are kept
abbrev pub declarations : List Decl → Schema
declarations decls = map declaration decls

-- they are a schema, and each name has its number
pub record AreNumbered (decls : List Decl) (numbers : BTreeMap (Vec ℕ Global) ℕ) : Type 0 where
  pub schema : IsSchema (declarations decls)
  pub found : (name : Name) → get_by (λ key. slice_cmp nat_cmp name key.items) numbers ≡ find (declarations decls) name

-- the fields of the declarations that are fewer steps above `own`, the highest first
abbrev pub below : Schema → ℕ → ℕ → List Field
below schema own zero = []
below schema own (suc steps) = option_map_or (fields_of schema) (ancestor schema steps own) [] ++ below schema own steps

-- what is left of a line at a field of the declaration that is so many steps above `own`
abbrev pub left_of : Schema → ℕ → ℕ → ℕ → ℕ → List Field
left_of schema own above number place = drop place (fields_of schema number) ++ below schema own above

-- each waypoint is a declaration on the walk
abbrev pub AreWaypoints : Schema → ℕ → List Waypoint → Type 0
AreWaypoints schema own waypoints =
    All (λ waypoint. ancestor schema waypoint.above own ≡ Some waypoint.number) waypoints

-- an iterator is at a declaration on the walk
pub record IsOnWalk (schema : Schema) (own above number : ℕ) (waypoints : List Waypoint) : Type 0 where
  pub own_within : own < length schema
  pub at : ancestor schema above own ≡ Some number
  pub remembered : AreWaypoints schema own waypoints
