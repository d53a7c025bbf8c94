-- The fields that stand before a place of a line, with what was read of them.
use Rattle.std.specs.Prelude.{Bool, bytes_eq, if◌then◌else◌, None, Some, List, [], ◌∷◌}
use Rattle.std.specs.declared.option.Option.{Option}
use Rattle.std.specs.Option.{option_map_or}
use Rattle.std.specs.List.{list_any}
use Rattle.nif_base.specs.Node.{Node, Members, End, Here, Absent}
use Rattle.nif_schema.specs.Declaration.{Name, Field}

-- A field, and its node, or none where it is absent.
pub record Earlier : Type 0 where
  pub field : Field
  pub node : Option Node

-- the earlier fields, the last first
abbrev pub Env : Type 0
Env = List Earlier

-- the earlier fields behind one more
abbrev pub behind : Field → Option Node → Env → Env
behind f got before = record { field = f; node = got } ∷ before

abbrev pub is_named : Name → Earlier → Bool
is_named name earlier = bytes_eq name earlier.field.name

-- an earlier field has this name, whether it is present or absent
abbrev pub has_name : Name → Env → Bool
has_name name before = list_any (is_named name) before

-- the last field of a name that is present, with its node
abbrev pub last_present : Name → Env → Option (Field × Node)
last_present name [] = None
last_present name (earlier ∷ before) =
    if is_named name earlier then option_map_or (λ node. Some (earlier.field, node)) earlier.node
    (last_present name before)
    else last_present name before

-- the fields of a group with its members, behind those before
abbrev pub passed : List Field → Members → Env → Env
passed [] members before = before
passed (f ∷ fields) End before = before
passed (f ∷ fields) (Here node rest) before = passed fields rest (behind f (Some node) before)
passed (f ∷ fields) (Absent rest) before = passed fields rest (behind f None before)
