-- What the reader of a header answers, and where it stands while it reads.
use Rattle.std.specs.Prelude.{ℕ, ◌≡◌, ◌≢◌, ◌+◌, ◌≤◌, ◌⊎◌, List, [], ◌∷◌, ◌++◌, length, None, Some, Ok, Err, IfSome}
use Rattle.std.specs.declared.option.Option.{Option}
use Rattle.std.specs.Option.{option_map}
use Rattle.std.specs.declared.result.Result.{Result}
use Rattle.nif_base.specs.Node as node
use Rattle.nif_base.specs.Node.{Node, Members, nodes}
use Rattle.nif_base.specs.Outside.{Rose}
use Rattle.nif_schema.specs.Declaration.{Field}
use Rattle.nif_schema.specs.Schema.{Schema}
use Rattle.nif_layout.specs.Earlier.{Earlier, Env, behind}
use Rattle.nif_base.specs.Limits.{most_nodes}
use Rattle.nif_layout.specs.Fault.{Point}
use Rattle.nif_stream.specs.declared.takers.Taker.{Taker}
use Rattle.nif_stream.specs.Taking.{Takes, source_of, place_of, left_of}
use Rattle.nif_region.specs.Contents.{find}
use Rattle.nif_cells.specs.Building.{Building}
use Rattle.nif_value.specs.Trees.{Trees}
use Rattle.nif_scope.specs.declared.entries.Entry.{Entry}
use Rattle.nif_decode.specs.declared.faults.ValueFault.{ValueFault}
use Rattle.nif_decode.specs.declared.faults.ValueFault.TheVariants as fault
use Rattle.nif_decode.specs.Answers.{Went}
use Rattle.nif_decode.specs.Scopes.{AreKept, HoldsMembers, member_at}
use Rattle.nif_file.specs.declared.faults.FileFault.{FileFault}
use Rattle.nif_file.specs.declared.faults.FileFault.TheVariants as file
use Rattle.nif_file.specs.declared.heads.Head.{Head}
use Rattle.nif_file.specs.declared.header.Header.{Header}
use Rattle.nif_file.specs.Stops.{Stop}
use Rattle.nif_file.specs.Head.{file_context}
use Rattle.nif_file.specs.Checks.{header_check, types_fault}
use Rattle.nif_file.specs.Files.{head_of, header_text, IsHeader}
use Rattle.nif_file.specs.FileFails.{HeaderReads, HeaderFails, start_of}
use Rattle.nif_file.specs.Heads.{IsHead, IsNext, IsPart, ArePlaces, context_of}

-- ---- why there is no header

-- Reading the header of a file of so many bytes stops so: a member fails or is refused, or behind all of them the list
-- of types is missing.
abbrev pub HeaderStops : Schema → ℕ → Point → Stop → Type 0
HeaderStops S total at stop =
    HeaderFails S total at stop
    ⊎ ((members : Members) × (next : Point) × HeaderReads S members at next
    × (types_fault (head_of S members) ≡ Some stop))

-- The header of these bytes stops with this fault, and at most 4,096 bytes behind those that show it are gone from the
-- source.
pub record StopsThere (S : Schema) (fault : FileFault) (rest : Option (List ℕ)) (bytes : List ℕ) : Type 0 where
  pub known : ℕ
  pub stops : HeaderStops S (length bytes) (start_of bytes) (record { fault = fault; known = known })
  pub gone : IfSome rest (λ left. length bytes ≤ known + 4096 + length left)

-- There is no header: a read failed, memory ran out, or the bytes show the fault.
pub record HasNoHeader {S : Type 0} (left : S → Option (List ℕ)) (still : S → S → Type 0) (faults : S → ℕ)
    (schema : Schema) (old new : Taker S) (fault : FileFault) : Type 0 where
  pub went : Went still faults old new
  pub read : fault ≡ file.ReadFault → Rose (faults (source_of old)) (faults (source_of new))
  pub stops : fault ≢ file.ReadFault → fault ≢ file.NoMemory
      → IfSome (left_of left old) (StopsThere schema fault (left (source_of new)))

-- the fault of a value as one of a file
abbrev pub fault_of : ValueFault → FileFault
fault_of (fault.Ended at) = file.Ended at
fault_of fault.TooLong = file.TooLong
fault_of (fault.LineTooLong at) = file.LineTooLong at
fault_of (fault.RefRange at value) = file.RefRange at value
fault_of (fault.StringRange at value) = file.StringRange at value
fault_of (fault.TooDeep at) = file.TooDeep at
fault_of (fault.TooManyNodes at) = file.TooManyNodes at
fault_of fault.ReadFault = file.ReadFault
fault_of fault.NoMemory = file.NoMemory

-- ---- what a header is that was read

-- The header was read into a new tree. What it says decides how the blocks and the footer are read.
pub record HasHeader {S : Type 0} (left : S → Option (List ℕ)) (still : S → S → Type 0) (faults : S → ℕ)
    (schema : Schema) (old new : Taker S) (before after : Trees) (header : Header) : Type 0 where
  pub members : Members
  pub is : IsHeader schema (node.Group members)
  pub takes : Takes left still faults old (header_text schema members) new
  pub counted : header.bounds.nodes ≡ nodes (node.Group members)
  pub few : nodes (node.Group members) ≤ most_nodes
  pub context : context_of header.context header.bounds.blocks header.bounds.strings
      ≡ file_context schema (head_of schema members)
  pub places : ArePlaces schema header.places
  pub fresh : find before.trees header.tree.run.key ≡ None
  pub trees : after.trees ≡ before.trees ++ (header.tree.run.key, node.Group members) ∷ []
  pub found : find after.trees header.tree.run.key ≡ Some (node.Group members)

abbrev pub ReadsHeader : {S : Type 0} → (S → Option (List ℕ)) → (S → S → Type 0) → (S → ℕ) → Schema → Taker S
    → Taker S → Trees → Trees → Result Header FileFault → Type 0
ReadsHeader left still faults schema old new before after (Ok header) =
    HasHeader left still faults schema old new before after header
ReadsHeader left still faults schema old new before after (Err fault) =
    HasNoHeader left still faults schema old new fault × (after.trees ≡ before.trees)

-- ---- where the reader stands

-- The member of a field was read and is kept behind the others, which are told.
pub record IsNoted (S : Schema) (header place : ℕ) (E : Env) (f : Field) (got : Option Node) (entries : List Entry)
    (head : Head) : Type 0 where
  pub held : Members
  pub kept : AreKept S header (place + 1) entries held
  pub at : member_at held place ≡ got
  pub next : IsNext S E f got
  pub told : IsHead S E head
  pub line : (earlier : Earlier) × (before : Env) × (E ≡ earlier ∷ before)

-- It is told, and why it is refused, if it is.
pub record Notes (S : Schema) (E : Env) (f : Field) (got : Option Node) (head : Head)
    (refusal : Option FileFault) : Type 0 where
  pub told : IsHead S (behind f got E) head
  pub refused : refusal ≡ option_map (λ stop. stop.fault) (header_check S E f got)

-- The reader stands behind the first members: they were taken from the first byte on, are kept and told, and stand in
-- the tree that is being built.
pub record StandsAt {S : Type 0} (left : S → Option (List ℕ)) (still : S → S → Type 0) (faults : S → ℕ)
    (schema : Schema) (header count : ℕ) (start now : Taker S) (entries : List Entry) (building : Option Building)
    (counted : ℕ) (head : Head) : Type 0 where
  pub held : Members
  pub bytes : List ℕ
  pub part : IsPart schema count held bytes counted
  pub first : place_of start ≡ 0
  pub takes : Takes left still faults start bytes now
  pub holds : HoldsMembers schema header count entries building counted (place_of now) held
  pub within : counted ≤ most_nodes
  pub told : IsHead schema (head_of schema held) head
  pub line : (earlier : Earlier) × (before : Env) × (head_of schema held ≡ earlier ∷ before)
