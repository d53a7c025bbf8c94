-- What the children of the root declare.
use Rattle.std.specs.Prelude.{ℕ, ◌≡◌, Bool, true, false, ◌||◌, if◌then◌else◌, nat_le, List, [], codes, bytes_eq, None, Some, map, filter, option_and_then, unwrap_or}
use Rattle.std.specs.declared.option.Option.{Option}
use Rattle.std.specs.Option.{is_none}
use Rattle.std.specs.List.{list_any, AllZip}
use Rattle.nif_text.specs.Tree.{Tree, name_of, attrs_of, children_of}
use Rattle.nif_schema.specs.Declaration.{Declaration}
use Rattle.nif_schema.specs.declared.decls.What.{What}
use Rattle.nif_schema.specs.declared.decls.What.TheVariants as what
use Rattle.nif_schema.specs.declared.members.BitMember.{BitMember}
use Rattle.nif_attributes.specs.declared.tokens.Expanded.{Expanded}
use Rattle.nif_attributes.specs.Attributes.{Text, Attrs, given, text_of}
use Rattle.nif_schema.specs.Leaves.{leaf_of}
use Rattle.nif_attributes.specs.Texts.{decimal}
use Rattle.nif_read.specs.Fields.{IsField, is_nameless}
use Rattle.nif_attributes.specs.declared.tokens.Attribute.{Attribute}
use Rattle.nif_read.specs.declared.forms.Form.{Form}
use Rattle.nif_read.specs.declared.forms.Form.TheVariants.{Basic, Enum, Bitfield, Struct, Block}

-- what a child of the root of this name declares, if it declares
unfoldable pub form_of : Text → Option Form
form_of name =
    if bytes_eq name (codes "basic") then Some Basic
    else if bytes_eq name (codes "enum") then Some Enum
    else if bytes_eq name (codes "bitflags") then Some Enum
    else if bytes_eq name (codes "bitfield") then Some Bitfield
    else if bytes_eq name (codes "struct") then Some Struct
    else if bytes_eq name (codes "compound") then Some Struct
    else if bytes_eq name (codes "niobject") then Some Block
    else None

-- The fields of a struct or block type are the children of these names.
unfoldable pub is_field : Tree → Bool
is_field child = bytes_eq (name_of child) (codes "field") || bytes_eq (name_of child) (codes "add")

abbrev pub fields_in : Form → List Tree → List Tree
fields_in Struct children = filter is_field children
fields_in Block children = filter is_field children
fields_in _ children = []

-- The bit members of a bitfield are the children of this name.
unfoldable pub is_member : Tree → Bool
is_member child = bytes_eq (name_of child) (codes "member")

abbrev pub members_in : Form → List Tree → List Tree
members_in Bitfield children = filter is_member children
members_in _ children = []

-- the name of a declaration or of a bit member
abbrev pub name_in : Attrs → Option Text
name_in attrs = given attrs (codes "name")

-- A bit member is at a `pos` of 0 to 63 and has a `width` of 1 to 64, both decimal; otherwise it is bad.
abbrev pub placed : Text → Option ℕ → Option ℕ → BitMember
placed name (Some pos) (Some width) =
    if nat_le 1 width then record { name = name; pos = pos; width = width; bad = false }
    else record { name = name; pos = 0; width = 0; bad = true }
placed name _ _ = record { name = name; pos = 0; width = 0; bad = true }

unfoldable pub member_of : Attrs → BitMember
member_of attrs = placed (unwrap_or (name_in attrs) []) (option_and_then (decimal 63) (given attrs (codes "pos")))
    (option_and_then (decimal 64) (given attrs (codes "width")))

-- A block type is abstract where it says `true` or `1`.
unfoldable pub is_abstract : Attrs → Bool
is_abstract attrs = let text = unwrap_or (given attrs (codes "abstract")) [] in bytes_eq text (codes "true")
    || bytes_eq text (codes "1")

-- what an element declares
abbrev pub what_of : Form → Attrs → List Tree → What
what_of Basic attrs children = what.Basic (leaf_of (unwrap_or (name_in attrs) []) (given attrs (codes "size")))
what_of Enum attrs children = what.Stored (given attrs (codes "storage")) []
what_of Bitfield attrs children = what.Stored (given attrs (codes "storage"))
    (map (λ child. member_of (attrs_of child)) (members_in Bitfield children))
what_of Struct attrs children = what.Struct
what_of Block attrs children = what.Block (given attrs (codes "inherit")) (is_abstract attrs)

-- A declaration by its element. `replaced` is the replacement of tokens in the attributes of fields.
pub record IsDeclaration (replaced : Attribute → Text → Expanded) (form : Form) (element : Tree)
    (d : Declaration) : Type 0 where
  pub name : name_in (attrs_of element) ≡ Some d.name
  pub what : what_of form (attrs_of element) (children_of element) ≡ d.what
  pub fields : AllZip (λ child. IsField (text_of replaced (attrs_of child)))
      (fields_in form (children_of element)) d.fields

-- whether a field lacks its name or its type, or a bit member its name
unfoldable pub has_nameless : (Attribute → Text → Expanded) → Form → Tree → Bool
has_nameless replaced form element =
    list_any (λ child. is_nameless (text_of replaced (attrs_of child))) (fields_in form (children_of element))
    || list_any (λ child. is_none (name_in (attrs_of child))) (members_in form (children_of element))
