-- What is kept under a first name: where a second name stops that goes through types of it, and sets of these types.
use Rattle.std.specs.Prelude.{ℕ, ◌≡◌, ◌↔◌, ◌+◌, ◌*◌, ◌/◌, ◌%◌, ◌==◌, if◌then◌else◌, List, [], ◌∷◌, ◌++◌, length, map, flat_map, drop, Some, None, Contains}
use Rattle.std.specs.declared.option.Option.{Option}
use Rattle.std.specs.List.{list_any, list_all}
use Rattle.nif_names.specs.Marks.{IsFound}
use Rattle.nif_names.specs.Tables.{Table, held, kinds}
use Rattle.nif_schema.specs.Declaration.{Name, Field}
use Rattle.nif_schema.specs.Schema.{Schema}
use Rattle.nif_schema.specs.Paths.{Meaning, goes_on, ends_path, inside, rest_reason, is_empty}
use Rattle.nif_schema.specs.declared.faults.Closed.{Closed}
use Rattle.nif_schema.specs.declared.faults.Closed.TheVariants.{C5, C6}
use Rattle.nif_sets.specs.Insides.{AreKnown}
use Rattle.nif_sets.specs.Sets.{Sets, IsSet, IsGrown, types_of}
use Rattle.nif_sets.specs.declared.sets.TypeSet.{TypeSet}
use Rattle.nif_sets.specs.declared.sets.TypeSet.TheVariants.{Joined}
use Rattle.nif_paths.specs.Shaped.{lead, HasFields, AreInsides}
use Rattle.nif_paths.specs.declared.lines.Line.{Line}

-- The reason that the names after a first one give, which stands for fields of these types.
abbrev pub types_reason : Schema → List ℕ → List Name → Option Closed
types_reason schema types [] = None
types_reason schema types (name ∷ names) =
    if list_any (λ k. is_empty (lead schema name k)) types then Some C5
    else rest_reason schema (flat_map (lead schema name) types) names

-- Where the names after a first one stop, as a number: twice the names that are left, and one more where a meaning is
-- of the wrong kind for its place; 0 where they don't. The greater number is the earlier stop.
abbrev pub rest_stop : Schema → List Meaning → List Name → ℕ
rest_stop schema meanings [] = if list_all (ends_path schema) meanings then 0 else 1
rest_stop schema meanings (name ∷ names) =
    if list_all (goes_on schema) meanings then
    if list_any (λ m. is_empty (inside schema name m)) meanings then 2 * length (name ∷ names)
    else rest_stop schema (flat_map (inside schema name) meanings) names
    else 2 * length (name ∷ names) + 1

-- the same, where the first one stands for fields of these types
abbrev pub types_stop : Schema → List ℕ → List Name → ℕ
types_stop schema types [] = 0
types_stop schema types (name ∷ names) =
    if list_any (λ k. is_empty (lead schema name k)) types then 2 * length (name ∷ names)
    else rest_stop schema (flat_map (lead schema name) types) names

-- the reason of a stop
unfoldable pub stop_reason : ℕ → Option Closed
stop_reason stop = if stop == 0 then None else if stop % 2 == 0 then Some C5 else Some C6

-- a name as a key
abbrev pub key_of_name : Name → List ℕ
key_of_name name = map (λ b. b + 1) name ++ 0 ∷ []

-- What was found of types under a name is where it stops.
abbrev pub HasMarks : Schema → Table → Type 0
HasMarks schema names =
    (first name : Name) (types : List ℕ) (stop : ℕ) → IsFound (kinds names first) (key_of_name name) types stop
    → types_stop schema types (name ∷ []) ≡ stop

-- the bounds of a run of types as a key, which is that of no name: each in two halves
abbrev pub key_of_run : ℕ → ℕ → List ℕ
key_of_run from to = from % 65536 ∷ from / 65536 ∷ to % 65536 ∷ to / 65536 ∷ 1 ∷ []

-- a set of these types
pub record IsSetOf (sets : Sets) (set : TypeSet) (types : List ℕ) : Type 0 where
  pub within : IsSet sets set
  pub same : (number : ℕ) → Contains (types_of sets set) number ↔ Contains types number

-- What was found of types under a run is a joined set: that of all of them from the first bound on.
abbrev pub HasRuns : Table → Sets → Type 0
HasRuns names sets =
    (first : Name) (from to : ℕ) (types : List ℕ) (number : ℕ)
    → IsFound (kinds names first) (key_of_run from to) types number
    → IsSetOf sets (Joined number) (drop from types)

-- a line of these fields, where whatever is kept is right
pub record IsLine (schema : Schema) (fields : List Field) (line : Line) : Type 0 where
  pub names : HasFields schema fields line.names
  pub marks : HasMarks schema line.names
  pub runs : HasRuns line.names line.sets
  pub known : (tables : List Table) → AreInsides schema tables → AreKnown tables line.sets

-- The same fields: each set is still there, and what is kept is as right as before.
pub record IsSame (tables : List Table) (old new : Line) : Type 0 where
  pub shapes : (name : Name) → held new.names name ≡ held old.names name
  pub types : (name : Name) → (kinds new.names name).types ≡ (kinds old.names name).types
  pub marks : (schema : Schema) → HasMarks schema old.names → HasMarks schema new.names
  pub runs : HasRuns old.names old.sets → HasRuns new.names new.sets
  pub grown : IsGrown old.sets new.sets
  pub known : AreKnown tables old.sets → AreKnown tables new.sets

-- a reason behind the fields of a line, of which only what is kept changes
abbrev pub Gives : (Schema → List Field → Option Closed) → List Table → Line → Line → Option Closed → Type 0
Gives of tables old new reason =
    (schema : Schema) (fields : List Field) → AreInsides schema tables → IsLine schema fields old
    → (reason ≡ of schema fields) × IsLine schema fields new
