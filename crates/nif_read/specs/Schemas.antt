-- The schema that a tree of elements declares, or its first fault.
use Rattle.std.specs.Prelude.{ℕ, ◌+◌, ◌≡◌, Bool, ◌&&◌, if◌then◌else◌, List, [], ◌∷◌, ◌++◌, codes, bytes_eq, None, Some}
use Rattle.std.specs.declared.option.Option.{Option}
use Rattle.std.specs.Option.{option_or, option_map}
use Rattle.std.specs.List.{list_any, filter_map, AllZip}
use Rattle.nif_text.specs.Tree.{Tree, name_of, attrs_of, children_of}
use Rattle.nif_text.specs.Documents.{Written, Unwritten, IsAfter}
use Rattle.nif_schema.specs.Schema.{Schema}
use Rattle.nif_schema.specs.declared.faults.SchemaFault.{SchemaFault}
use Rattle.nif_schema.specs.declared.faults.SchemaFault.TheVariants as faults
use Rattle.nif_attributes.specs.Tokens.{groups_of, has_refused}
use Rattle.nif_attributes.specs.declared.tokens.Expanded.{Expanded}
use Rattle.nif_attributes.specs.Attributes.{Text, replaced_by}
use Rattle.nif_read.specs.Declarations.{form_of, name_in, IsDeclaration, has_nameless}
use Rattle.nif_attributes.specs.declared.tokens.Attribute.{Attribute}
use Rattle.nif_read.specs.declared.forms.Form.{Form}

abbrev pub is_group : Tree → Bool
is_group child = bytes_eq (name_of child) (codes "token")

-- The fault of a declaration by its name: it has none, an earlier declaration has it, or a part of it lacks its own.
abbrev pub fault_under : Option Text → List Text → ℕ → Bool → Option SchemaFault
fault_under None earlier number nameless = Some (faults.MissingName number)
fault_under (Some name) earlier number nameless =
    if list_any (bytes_eq name) earlier then Some (faults.DuplicateName name)
    else if nameless then Some (faults.MissingName number)
    else None

-- A token group has a child that is refused.
unfoldable pub group_fault : ℕ → Tree → Option SchemaFault
group_fault number child = if is_group child && has_refused child then Some (faults.BadToken number) else None

-- The fault of a child of the root, where `earlier` are the names declared before it.
abbrev pub fault_as : (Attribute → Text → Expanded) → List Text → ℕ → Tree → Option Form → Option SchemaFault
fault_as replaced earlier number child (Some form) =
    fault_under (name_in (attrs_of child)) earlier number (has_nameless replaced form child)
fault_as replaced earlier number child None = group_fault number child

unfoldable pub fault_at : (Attribute → Text → Expanded) → List Text → ℕ → Tree → Option SchemaFault
fault_at replaced earlier number child = fault_as replaced earlier number child (form_of (name_of child))

-- the name that a child of the root declares
abbrev pub declared_by : Option Form → Option Text → List Text
declared_by (Some form) (Some name) = name ∷ []
declared_by _ _ = []

unfoldable pub names_by : Tree → List Text
names_by child = declared_by (form_of (name_of child)) (name_in (attrs_of child))

-- the first fault among children of the root, the first of which has this number
abbrev pub first_fault : (Attribute → Text → Expanded) → List Text → ℕ → List Tree → Option SchemaFault
first_fault replaced earlier number [] = None
first_fault replaced earlier number (child ∷ children) =
    option_or (fault_at replaced earlier number child)
    (first_fault replaced (earlier ++ names_by child) (number + 1) children)

-- how tokens are replaced in a tree: its groups reach every field
abbrev pub replaced_in : Tree → Attribute → Text → Expanded
replaced_in root = replaced_by (groups_of (children_of root))

-- The fault of a tree: its root has another name, or the first fault of the children.
unfoldable pub fault_of : Tree → Option SchemaFault
fault_of root =
    if bytes_eq (name_of root) (codes "niftoolsxml") then first_fault (replaced_in root) [] 0 (children_of root)
    else Some faults.NoRoot

-- the children of the root that declare, each with what it declares
unfoldable pub declaring : List Tree → List (Form × Tree)
declaring children = filter_map (λ child. option_map (λ form. (form, child)) (form_of (name_of child))) children

-- The schema is their declarations, in order. What declares nothing is passed over.
abbrev pub AreDeclared : (Attribute → Text → Expanded) → List Tree → Schema → Type 0
AreDeclared replaced children schema =
    AllZip (λ entry. IsDeclaration replaced entry.0 entry.1) (declaring children) schema

-- A tree without a fault declares the schema of its children.
pub record Declares (root : Tree) (schema : Schema) : Type 0 where
  pub sound : fault_of root ≡ None
  pub declared : AreDeclared (replaced_in root) (children_of root) schema

-- A tree with a fault declares none.
abbrev pub DeclaresNot : Tree → SchemaFault → Type 0
DeclaresNot root fault = fault_of root ≡ Some fault

-- What a fault says of the bytes: no tree is written by them, or the one that is written declares no schema.
abbrev pub IsRefused : List ℕ → SchemaFault → Type 0
IsRefused bytes (faults.NotWritten after) = Unwritten bytes × IsAfter bytes after
IsRefused bytes (faults.HeaderRole rule) = ⊥
IsRefused bytes faults.SchemaTooLong = ⊥
IsRefused bytes faults.NoMemory = Unit {0}
IsRefused bytes fault = (tree : Tree) × Written tree bytes × DeclaresNot tree fault
