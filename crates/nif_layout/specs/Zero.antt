-- The zero node of a type: the node that the schema gives to it when every number is 0, every reference and text index
-- is empty and every line is empty, field by field.
use Rattle.std.specs.Prelude.{ℕ, zero, suc, ◌+◌, Bool, None, Some, List, [], ◌∷◌, replicate, if◌then◌else◌}
use Rattle.nif_base.specs.Limits.{most_depth}
use Rattle.nif_base.specs.Node as node
use Rattle.nif_base.specs.Node.{Node, Members, End, Here, Absent, size}
use Rattle.nif_schema.specs.Declaration.{Field}
use Rattle.nif_schema.specs.Schema.{Schema}
use Rattle.nif_layout.specs.Context.{Context}
use Rattle.nif_layout.specs.Earlier.{Env, behind}
use Rattle.nif_layout.specs.Present.{present}
use Rattle.nif_layout.specs.Kind.{Kind, Number, Line, Ref, Text, Group, Unknown, kind_of}
use Rattle.nif_layout.specs.Form.{Form, One, Run, Row, form_of}

-- n items from place i on
abbrev pub zero_items : (ℕ → Node) → ℕ → ℕ → Members
zero_items item i zero = End
zero_items item i (suc n) = Here (item i) (zero_items item (i + 1) n)

-- The value of a field, where `single` says what one value is.
abbrev pub zero_form : (Kind → Node) → Form → Node
zero_form single (One kind) = single kind
zero_form single (Run n) = node.Bytes (replicate n 0)
zero_form single (Row n item) = node.Row (zero_items (λ i. zero_form single (item i)) 0 n)

-- One member for each field, absent where the field isn't present behind those before it.
abbrev pub zero_members : (Env → Field → Bool) → (Env → Field → Node) → List Field → Env → Members
zero_members here value [] E = End
zero_members here value (f ∷ fields) E =
    if here E f then Here (value E f) (zero_members here value fields (behind f (Some (value E f)) E))
    else Absent (zero_members here value fields (behind f None E))

-- One value of a kind. A group that would lie more than d deep has no members.
abbrev pub zero_node : Schema → Context → ℕ → Kind → Node
zero_node S C d (Number width little) = node.Num width little 0
zero_node S C d Line = node.Line []
zero_node S C d (Ref strong wanted) = node.Ref strong wanted None
zero_node S C d Text = node.Text None
zero_node S C zero (Group fields template arg) = node.Group End
zero_node S C (suc d) (Group fields template arg) = node.Group (zero_members (present S C arg)
    (λ E f. zero_form (zero_node S C d) (form_of S C template arg E f)) fields [])
zero_node S C d Unknown = node.Group End

-- the zero node of a block type, by the number of its declaration
abbrev pub zero_of : Schema → Context → ℕ → Node
zero_of S C number = zero_node S C most_depth (kind_of S C number None 0)
