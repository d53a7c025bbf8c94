-- The first members of a line, read one behind another. A reader goes so from member to member.
use Rattle.std.specs.Prelude.{ℕ, zero, suc, ◌≡◌, ◌<◌, true, false, bytes_eq, None, Some, List, [], ◌∷◌}
use Rattle.std.specs.List.{list_any}
use Rattle.std.specs.declared.option.Option.{Option}
use Rattle.nif_base.specs.Node.{Node, Members, Here, Absent}
use Rattle.nif_schema.specs.Declaration.{Name, Field}
use Rattle.nif_schema.specs.Schema.{Schema}
use Rattle.nif_layout.specs.Earlier.{Env, behind}
use Rattle.nif_layout.specs.Present.{present}
use Rattle.nif_layout.specs.Form.{form_of}
use Rattle.nif_base.specs.Limits.{most_nodes}
use Rattle.nif_layout.specs.Fault.{Point, Reads, one_more}
use Rattle.nif_layout.specs.Shape.{FormShape}
use Rattle.nif_file.specs.Head.{header_context}
use Rattle.nif_file.specs.Checks.{header_check}
use Rattle.nif_file.specs.Files.{header_depth}

-- these members before others
abbrev pub with_members : List (Option Node) → Members → Members
with_members [] rest = rest
with_members (Some node ∷ gots) rest = Here node (with_members gots rest)
with_members (None ∷ gots) rest = Absent (with_members gots rest)

-- The member of a field is read, or it is absent and counted.
abbrev pub MemberReads : Schema → Env → Field → Option Node → Point → Point → Type 0
MemberReads S E f (Some node) at next =
    (present S (header_context S E) 0 E f ≡ true)
    × FormShape S (header_context S E) header_depth (form_of S (header_context S E) None 0 E f) node
    × Reads (header_context S E).order node at next
MemberReads S E f None at next =
    (present S (header_context S E) 0 E f ≡ false) × (at.nodes < most_nodes) × (next ≡ one_more at)

-- The first fields of these are read and not refused, which leaves the others, behind all that was read.
abbrev pub PartReads : Schema → List (Option Node) → List Field → Env → Point → List Field → Env → Point → Type 0
PartReads S [] fields E at left E' next = (left ≡ fields) × (E' ≡ E) × (next ≡ at)
PartReads S (got ∷ gots) [] E at left E' next = ⊥
PartReads S (got ∷ gots) (f ∷ fields) E at left E' next =
    (mid : Point) × MemberReads S E f got at mid × (header_check S E f got ≡ None)
    × PartReads S gots fields (behind f got E) mid left E' next

-- The only field of a name stands at this place of the fields, or there is none.
abbrev pub IsPlaceOf : Name → List Field → Option ℕ → Type 0
IsPlaceOf name fields None = list_any (λ f. bytes_eq name f.name) fields ≡ false
IsPlaceOf name [] (Some k) = ⊥
IsPlaceOf name (f ∷ fields) (Some zero) =
    (bytes_eq name f.name ≡ true) × (list_any (λ f. bytes_eq name f.name) fields ≡ false)
IsPlaceOf name (f ∷ fields) (Some (suc k)) = (bytes_eq name f.name ≡ false) × IsPlaceOf name fields (Some k)
