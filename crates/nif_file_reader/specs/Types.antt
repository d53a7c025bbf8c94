-- Why the type of a block is refused, once what names it was read.
use Rattle.std.specs.Prelude.{ℕ, ◌≡◌, ◌≢◌, Some, slice_get}
use Rattle.nif_base.specs.Node.{Members}
use Rattle.nif_schema.specs.Declaration.{Name}
use Rattle.nif_schema.specs.Schema.{Schema}
use Rattle.nif_file.specs.declared.faults.FileFault.{FileFault}
use Rattle.nif_file.specs.declared.faults.FileFault.TheVariants as file
use Rattle.nif_file.specs.Stops.{Stop}
use Rattle.nif_file.specs.Head.{type_names}
use Rattle.nif_file.specs.Files.{head_of}
use Rattle.nif_file.specs.FileFails.{KindRefused, NameRefused}

-- Memory ran out, or at whatever place the refusal is known, this is it. It is no fault of a read.
abbrev pub Refuses : (ℕ → Stop → Type 0) → FileFault → Type 0
Refuses P fault =
    (fault ≢ file.ReadFault) × (fault ≢ file.NoMemory → (known : ℕ) → P known (record { fault = fault; known = known }))

-- the type of this number is abstract or closed
abbrev pub RefusesKind : Schema → ℕ → ℕ → FileFault → Type 0
RefusesKind S block kind fault = Refuses (KindRefused S block kind) fault

-- no block type has the name, or that type is refused
abbrev pub RefusesName : Schema → ℕ → Name → FileFault → Type 0
RefusesName S block name fault = Refuses (NameRefused S block name) fault

-- the name of an entry of the types names no block type
abbrev pub NamesNone : Schema → Members → ℕ → ℕ → FileFault → Type 0
NamesNone S members block entry fault =
    (fault ≢ file.ReadFault) × (fault ≢ file.NoMemory → (name : Name)
    → slice_get (type_names (head_of S members)) entry ≡ Some name → fault ≡ file.UnknownType block name)
