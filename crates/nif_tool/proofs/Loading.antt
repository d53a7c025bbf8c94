-- What opening and reading a file come to.
use Rattle.std.proofs.Common.{◌≡◌, ◌≢◌, ℕ, List, Option, Some, None, Err, refl, sym, ap, subst, ◌∙◌}
use Rattle.std.specs.Option.{option_map, IfSome, IsSome, IsSomeAnd}
use Rattle.std.specs.FinMap.{get}
use Rattle.nif_base.specs.Outside.{Rose}
use Rattle.nif_base.specs.Shelf.{Desk, Opens, opened}
use Rattle.nif_schema.specs.Schema.{Schema}
use Rattle.nif_graph.specs.State.{GraphState}
use Rattle.nif_file.specs.declared.faults.FileFault.{FileFault}
use Rattle.nif_file.specs.declared.faults.FileFault.TheVariants as file_faults
use Rattle.nif_file.specs.FileFails.{FileFails}
use Rattle.nif_file.specs.Files.{text_of}
use Rattle.nif_file_reader.specs.Answers.{HasFault, HasFile, ReadsFile}
use Rattle.nif_tool.specs.Meaning.{files_of, CanFail}
use Rattle.nif_tool.specs.Refusals.{IsFailure}
use Rattle.nif_tool.specs.Steps.{IsLoaded, Loads}
use Rattle.nif_tool.specs.declared.report.Fault.{Fault}
use Rattle.nif_tool.specs.declared.report.Fault.TheVariants as fault

-- opening and reading leave the files
files_kept : (desk : Option Desk) (name : List ℕ) → files_of (option_map (opened name) desk) ≡ files_of desk
files_kept None name = refl
files_kept (Some d) name = refl

pub files_opened : (a b d : Option Desk) (name : List ℕ) → b ≡ option_map (opened name) a → d ≡ b → files_of d ≡ files_of a
files_opened a b d name e f = ap files_of (f ∙ e) ∙ files_kept a name

-- a file that was opened and read
pub loaded : (schema : Schema) (name : List ℕ) (desk : Option Desk) (left rest : Option (List ℕ)) (state : GraphState) → IfSome desk (Opens name left) → HasFile schema left rest state
    → IsLoaded schema name (files_of desk) state
loaded schema name desk left rest state opens has = record { whole = has.file; is = has.is; graph = has.graph; again = has.again; told = told desk opens }
  where
    there : (held left : Option (List ℕ)) → IsSome held → left ≡ held → IfSome left (λ b. b ≡ text_of schema has.file) → held ≡ Some (text_of schema has.file)
    there None left some same is = absurd (cc)
    there (Some b) left some same is = λ i. Some (subst (λ l. IfSome l (λ b. b ≡ text_of schema has.file)) same is i)

    told : (desk : Option Desk) → IfSome desk (Opens name left) → IfSome (files_of desk) (λ d. get d name ≡ Some (text_of schema has.file))
    told None opens = tt
    told (Some d) opens = there (get d.files name) left opens.there opens.bytes has.told

-- the fault of bytes that are told
reads_fault : {T : Type 0} (left : T → Option (List ℕ)) (faults : T → ℕ) (schema : Schema) (old new : T) (refusal : FileFault) → refusal ≢ file_faults.ReadFault → refusal ≢ file_faults.NoMemory
    → ReadsFile left faults schema old new (Err refusal) → IfSome (left old) (HasFault schema refusal (left new))
reads_fault left faults schema old new file_faults.ReadFault a b h = absurd (a refl)
reads_fault left faults schema old new file_faults.NoMemory a b h = absurd (b refl)
reads_fault left faults schema old new file_faults.TooLong a b h = h
reads_fault left faults schema old new file_faults.BadLine a b h = h
reads_fault left faults schema old new file_faults.NoTypeList a b h = h
reads_fault left faults schema old new (file_faults.Ended _) a b h = h
reads_fault left faults schema old new (file_faults.Trailing _) a b h = h
reads_fault left faults schema old new (file_faults.LineTooLong _) a b h = h
reads_fault left faults schema old new (file_faults.VersionRange _) a b h = h
reads_fault left faults schema old new (file_faults.VersionDisagrees _ _) a b h = h
reads_fault left faults schema old new (file_faults.EndianValue _) a b h = h
reads_fault left faults schema old new (file_faults.BsRange _) a b h = h
reads_fault left faults schema old new (file_faults.TooManyBlocks _) a b h = h
reads_fault left faults schema old new (file_faults.TypeIndex _ _) a b h = h
reads_fault left faults schema old new (file_faults.UnknownType _ _) a b h = h
reads_fault left faults schema old new (file_faults.AbstractType _) a b h = h
reads_fault left faults schema old new (file_faults.ClosedType _ _) a b h = h
reads_fault left faults schema old new (file_faults.CheckWord _ _) a b h = h
reads_fault left faults schema old new (file_faults.BlockSize _ _ _) a b h = h
reads_fault left faults schema old new (file_faults.RefRange _ _) a b h = h
reads_fault left faults schema old new (file_faults.StringRange _ _) a b h = h
reads_fault left faults schema old new (file_faults.TooDeep _) a b h = h
reads_fault left faults schema old new (file_faults.TooManyNodes _) a b h = h
reads_fault left faults schema old new (file_faults.TooManyTypes _) a b h = h

-- a file that was opened and refused
load_refused : {T : Type 0} (left : T → Option (List ℕ)) (faults : T → ℕ) (schema : Schema) (name : List ℕ) (desk : Option Desk) (old new : T) (refusal : FileFault) → IfSome desk (Opens name (left old))
    → refusal ≢ file_faults.ReadFault → refusal ≢ file_faults.NoMemory → ReadsFile left faults schema old new (Err refusal) → Loads schema name (files_of desk) (Err (fault.File refusal))
load_refused left faults schema name None old new refusal opens a b h = tt
load_refused left faults schema name (Some d) old new refusal opens a b h =
    known (get d.files name) (left old) opens.there opens.bytes (reads_fault left faults schema old new refusal a b h)
  where
    known : (held rest : Option (List ℕ)) → IsSome held → rest ≡ held → IfSome rest (HasFault schema refusal (left new)) → IsSomeAnd held (λ bytes. FileFails schema bytes refusal)
    known None rest some same is = absurd (cc)
    known (Some b) rest some same is =
        let has = subst (λ l. IfSome l (HasFault schema refusal (left new))) same is in
        (has.known, has.is)

pub load_failed : {T : Type 0} (left : T → Option (List ℕ)) (faults : T → ℕ) (schema : Schema) (name : List ℕ) (desk : Option Desk) (old new : T) (refusal : FileFault) (failure : Fault)
    → IfSome desk (Opens name (left old)) → IsFailure refusal failure → ReadsFile left faults schema old new (Err refusal) → Loads schema name (files_of desk) (Err failure)
load_failed left faults schema name desk old new refusal fault.ReadFault opens is h = tt
load_failed left faults schema name desk old new refusal fault.NoMemory opens is h = tt
load_failed left faults schema name desk old new refusal (fault.File same) opens is h =
    subst (λ r. Loads schema name (files_of desk) (Err (fault.File r))) (sym is.0) (load_refused left faults schema name desk old new refusal opens is.1 is.2 h)
load_failed left faults schema name desk old new refusal fault.Usage opens is h = absurd is
load_failed left faults schema name desk old new refusal (fault.Schema _) opens is h = absurd is
load_failed left faults schema name desk old new refusal fault.OpenFault opens is h = absurd is
load_failed left faults schema name desk old new refusal fault.WriteFault opens is h = absurd is
load_failed left faults schema name desk old new refusal fault.PrintFault opens is h = absurd is

-- ---- what its failure may be

pub failure_can : (refusal : FileFault) (failure : Fault) → IsFailure refusal failure → CanFail failure
failure_can refusal fault.ReadFault is = tt
failure_can refusal fault.NoMemory is = tt
failure_can refusal (fault.File same) is = (λ e. is.1 (sym is.0 ∙ e), λ e. is.2 (sym is.0 ∙ e))
failure_can refusal fault.Usage is = absurd is
failure_can refusal (fault.Schema _) is = absurd is
failure_can refusal fault.OpenFault is = absurd is
failure_can refusal fault.WriteFault is = absurd is
failure_can refusal fault.PrintFault is = absurd is

pub failure_is : (refusal : FileFault) (failure other : Fault) → IsFailure refusal failure → failure ≡ other → IsFailure refusal other
failure_is refusal failure other is same = subst (IsFailure refusal) same is

pub failed_read : {T : Type 0} (left : T → Option (List ℕ)) (faults : T → ℕ) (schema : Schema) (old new : T) (refusal : FileFault) (failure : Fault) → IsFailure refusal failure
    → ReadsFile left faults schema old new (Err refusal) → failure ≡ fault.ReadFault → Rose (faults old) (faults new)
failed_read left faults schema old new refusal failure is h same =
    subst (λ r. ReadsFile left faults schema old new (Err r)) (failure_is refusal failure fault.ReadFault is same) h

-- the input is the file that was opened
input_kept : (desk : Option Desk) (name : List ℕ) → IfSome (option_map (opened name) desk) (λ d. d.input ≡ Some name)
input_kept None name = tt
input_kept (Some d) name = refl

pub input_opened : (a b d : Option Desk) (name : List ℕ) → b ≡ option_map (opened name) a → d ≡ b → IfSome d (λ d. d.input ≡ Some name)
input_opened a b d name e f = subst (λ x. IfSome x (λ d. d.input ≡ Some name)) (sym (f ∙ e)) (input_kept a name)
