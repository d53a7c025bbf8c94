-- The values of expressions, by what is kept of the members of a line. They are the values by their nodes.
use Rattle.std.specs.Prelude.{ℕ, false, not, if◌then◌else◌, option_and_then, None, Some, List, [], ◌∷◌}
use Rattle.std.specs.declared.option.Option.{Option}
use Rattle.std.specs.Option.{option_map_or, unwrap_or}
use Rattle.nif_schema.specs.Declaration.{Name, Formula, Read, Bad}
use Rattle.nif_schema.specs.Expression.{Tree, Number, Arg, Path, Not, Two}
use Rattle.nif_schema.specs.Schema.{line}
use Rattle.nif_expr.specs.Value.{bit, is_true, apply}
use Rattle.nif_layout.specs.PathValue.{is_signed}
use Rattle.nif_scope.specs.declared.settings.Setting.{Setting}
use Rattle.nif_scope.specs.declared.entries.Entry.{Entry}
use Rattle.nif_scope.specs.Lookup.{last_told, array_told, path_told, item_value}
use Rattle.nif_scope.specs.Scope.{context_in}

-- the value of a path, or none
abbrev pub path_at : Setting → List Entry → List Name → Option ℕ
path_at at entries names = path_told at.schema.now (context_in at) (line at.schema.now at.number) entries names

-- the value of a path, 0 where it has none
abbrev pub number_at : Setting → List Entry → List Name → ℕ
number_at at entries names = unwrap_or (path_at at entries names) 0

-- the value of a tree, where each path has such a value
abbrev pub value_by : (List Name → ℕ) → ℕ → Tree → ℕ
value_by of_path arg (Number n) = n
value_by of_path arg Arg = arg
value_by of_path arg (Path names) = of_path names
value_by of_path arg (Not of) = bit (not (is_true (value_by of_path arg of)))
value_by of_path arg (Two op left right) = apply op (value_by of_path arg left) (value_by of_path arg right)

-- the value of an attribute
abbrev pub formula_at : Setting → List Entry → Formula → ℕ
formula_at at entries (Read of) = value_by (number_at at entries) at.arg of
formula_at at entries Bad = 0

-- the name that an expression is the bare name of
abbrev pub bare_name : Formula → Option Name
bare_name (Read (Path (name ∷ []))) = Some name
bare_name _ = None

-- the array that a `width` is the bare name of
abbrev pub array_at : Setting → List Entry → Formula → Option Name
array_at at entries width = option_and_then (λ name. if array_told name false (line at.schema.now at.number) entries
    then Some name else None) (bare_name width)

-- item i of the last present member of a name, 0 where there is none
abbrev pub item_at : Setting → List Entry → ℕ → Name → ℕ
item_at at entries i name =
    option_map_or (λ m. item_value (is_signed at.schema.now m.field) i m.entry m.own)
    (last_told name None (line at.schema.now at.number) entries) 0

-- the length of row i: item i of the array that `width` is the bare name of, else the value of `width`
abbrev pub row_width : Setting → List Entry → Formula → ℕ → ℕ
row_width at entries width i =
    option_map_or (item_at at entries i) (array_at at entries width) (formula_at at entries width)
