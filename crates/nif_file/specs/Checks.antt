-- Why a member of the header is refused as soon as it was read, and why the header is behind its last member.
use Rattle.std.specs.Prelude.{ℕ, ◌+◌, Bool, false, not, ◌&&◌, ◌||◌, nat_eq, nat_le, nat_lt, codes, bytes_eq, List, [], ◌∷◌, length, None, Some, is_some, is_none, if◌then◌else◌}
use Rattle.std.specs.declared.option.Option.{Option}
use Rattle.std.specs.Option.{option_map_or}
use Rattle.nif_base.specs.Limits.{most_blocks, most_types, highest_bs}
use Rattle.nif_schema.specs.Declaration.{Name}
use Rattle.nif_schema.specs.Schema.{Schema}
use Rattle.nif_schema.specs.Roles.{lowest, highest}
use Rattle.nif_layout.specs.Earlier.{Env, behind}
use Rattle.nif_layout.specs.PathValue.{number_in}
use Rattle.nif_layout.specs.Members.{Check}
use Rattle.nif_file.specs.declared.faults.FileFault.{FileFault}
use Rattle.nif_file.specs.declared.faults.FileFault.TheVariants as file
use Rattle.nif_file.specs.Stops.{Stop}
use Rattle.nif_file.specs.FirstLine.{line_version}
use Rattle.nif_file.specs.Sizes.{size_of_fields}
use Rattle.nif_file.specs.Head.{line_in, version_in, bs_version, member}

-- The line has a form, and its version is one that is accepted. This is known at the end of the line.
abbrev pub line_fault : List ℕ → Option Stop
line_fault line =
    option_map_or (λ version. if nat_le lowest version && nat_le version highest then None
    else Some (record { fault = file.VersionRange version; known = length line + 1 }))
    (line_version line) (Some (record { fault = file.BadLine; known = length line + 1 }))

-- A fault where something holds, known behind these members.
abbrev pub refuse_where : Bool → FileFault → Env → Option Stop
refuse_where holds fault E = if holds then Some (record { fault = fault; known = size_of_fields E }) else None

-- The fault of the last of these members, by its name and number.
abbrev pub member_fault : Schema → Name → ℕ → Env → Option Stop
member_fault S name number E =
    if bytes_eq name (codes "Version") then refuse_where (not (nat_eq number (version_in E)))
    (file.VersionDisagrees (version_in E) number) E
    else if bytes_eq name (codes "Endian Type") then refuse_where (nat_lt 1 number) (file.EndianValue number) E
    else if bytes_eq name (codes "Num Blocks") then refuse_where (nat_lt most_blocks number)
    (file.TooManyBlocks number) E
    else if bytes_eq name (codes "Num Block Types")
    then refuse_where (nat_lt most_types number) (file.TooManyTypes number) E
    else if bytes_eq name (codes "BS Header") || bytes_eq name (codes "User Version 2")
    then refuse_where (nat_lt highest_bs (bs_version S E)) (file.BsRange (bs_version S E)) E
    else None

-- The first member is the line. An absent member isn't refused.
abbrev pub header_check : Schema → Check Stop
header_check S [] f got = line_fault (line_in got)
header_check S (earlier ∷ before) f None = None
header_check S (earlier ∷ before) f (Some node) =
    member_fault S f.name (number_in false node) (behind f (Some node) (earlier ∷ before))

-- Where the header has an index of types, it has their names and the number of them.
abbrev pub types_fault : Env → Option Stop
types_fault E =
    refuse_where (is_some (member (codes "Block Type Index") E)
    && (is_none (member (codes "Num Block Types") E) || is_none (member (codes "Block Types") E)))
    file.NoTypeList E
