-- What can be done is not refused.
use Rattle.std.proofs.Common.{◌≡◌, ◌⊎◌, ℕ, List, Option, Some, None, refl, subst, arith, inl, inr}
use Rattle.std.specs.Option.{IfSome, IsSomeAnd}
use Rattle.std.specs.FinMap.{get}
use Rattle.nif_base.specs.File.{File}
use Rattle.nif_base.specs.Shelf.{Files}
use Rattle.nif_text.specs.Tree.{Tree}
use Rattle.nif_text.specs.Documents.{Written}
use Rattle.nif_schema.specs.Schema.{Schema, IsSchema}
use Rattle.nif_schema.specs.Roles.{Roles, RoleFault}
use Rattle.nif_schema.specs.declared.faults.SchemaFault.{SchemaFault}
use Rattle.nif_schema.specs.declared.faults.SchemaFault.TheVariants as schema_faults
use Rattle.nif_read.specs.Schemas.{Declares, DeclaresNot}
use Rattle.nif_layout.specs.Leaf.{AreBytes}
use Rattle.nif_layout.specs.Laws.{ExactlyOne}
use Rattle.nif_file.specs.Files.{IsFile}
use Rattle.nif_file.specs.FileFails.{FileFails}
use Rattle.nif_file.specs.FileLaws.{FileOrFault}
use Rattle.nif_file.specs.declared.faults.FileFault.{FileFault}
use Rattle.nif_tool.specs.Counts.{Counts}
use Rattle.nif_tool.specs.Command.{Command, SchemaName, Plain, Scene, Named, Check, Refs, Copy}
use Rattle.nif_tool.specs.Command as command
use Rattle.nif_tool.specs.Schemas.{Passes, Refuses, Spells, schema_bytes, told_bytes}
use Rattle.nif_tool.specs.Meaning.{Accepts, Answers, CanBeDone, Copies, DoneOnly, FileIs, HasCauses, IsDone, Lists, NoneRose, Prints, Refused}
use Rattle.nif_tool.specs.declared.report.Fault.{Fault}
use Rattle.nif_tool.specs.declared.report.Fault.TheVariants as fault

-- the bytes of a schema, where the files are told
told_as : (name : SchemaName) (d : Files) (P : Option (List ℕ) → Type 0) → IfSome (told_bytes name (Some d)) P → P (schema_bytes name d)
told_as Plain d P h = h
told_as Scene d P h = h
told_as (Named file) d P h = h

-- the laws of the crates below
pub record Laws : Type 0 where
  pub tree : (one other : Tree) (text : List ℕ) → Written one text → Written other text → one ≡ other
  pub schema : (root : Tree) (one other : Schema) → Declares root one → Declares root other → one ≡ other
  pub not_both : (root : Tree) (schema : Schema) (refusal : SchemaFault) → Declares root schema → DeclaresNot root refusal → ⊥
  pub rules : (schema : Schema) (rule : ℕ) → Roles schema → RoleFault schema rule → ⊥
  pub file : (schema : Schema) → IsSchema schema → Roles schema → FileOrFault schema

-- bytes spell one schema
one_schema : Laws → (bytes : List ℕ) (one other : Schema) → Spells bytes one → Spells bytes other → one ≡ other
one_schema laws bytes one other a b =
    laws.schema b.tree one other (subst (λ t. Declares t one) (laws.tree a.tree b.tree bytes a.written b.written) a.declares) b.declares

-- a tree with a fault is not that of a schema
no_tree : Laws → (bytes : List ℕ) (schema : Schema) (refusal : SchemaFault) → Spells bytes schema → (tree : Tree) × Written tree bytes × DeclaresNot tree refusal → ⊥
no_tree laws bytes schema refusal a h =
    laws.not_both h.0 schema refusal (subst (λ t. Declares t schema) (laws.tree a.tree h.0 bytes a.written h.1) a.declares) h.2

-- a schema that passes is not refused
passes_only : Laws → (bytes : List ℕ) (schema : Schema) (refusal : SchemaFault) → Passes bytes schema → Refuses bytes refusal → ⊥
passes_only laws bytes schema (schema_faults.NotWritten after) p h = h.1.0 p.spells.tree p.spells.written
passes_only laws bytes schema schema_faults.NoRoot p h = no_tree laws bytes schema schema_faults.NoRoot p.spells h.1
passes_only laws bytes schema (schema_faults.MissingName element) p h = no_tree laws bytes schema (schema_faults.MissingName element) p.spells h.1
passes_only laws bytes schema (schema_faults.DuplicateName word) p h = no_tree laws bytes schema (schema_faults.DuplicateName word) p.spells h.1
passes_only laws bytes schema (schema_faults.BadToken element) p h = no_tree laws bytes schema (schema_faults.BadToken element) p.spells h.1
passes_only laws bytes schema (schema_faults.HeaderRole rule) p h =
    laws.rules schema rule p.roles (subst (λ s. RoleFault s rule) (one_schema laws bytes h.0 schema h.1 p.spells) h.2)
passes_only laws bytes schema schema_faults.SchemaTooLong p h = let within = p.spells.within in omega (arith, within)
passes_only laws bytes schema schema_faults.NoMemory p h = h

schema_only : Laws → (o : Option (List ℕ)) (schema : Schema) (refusal : SchemaFault) → IsSomeAnd o (λ b. Passes b schema) → IsSomeAnd o (λ b. Refuses b refusal) → ⊥
schema_only laws None schema refusal p h = absurd h
schema_only laws (Some b) schema refusal p h = passes_only laws b schema refusal p h

same_schema : Laws → (o : Option (List ℕ)) (one other : Schema) → IsSomeAnd o (λ b. Passes b one) → IsSomeAnd o (λ b. Passes b other) → one ≡ other
same_schema laws None one other p q = absurd p
same_schema laws (Some b) one other p q = one_schema laws b one other p.spells q.spells

roles_of : (o : Option (List ℕ)) (schema : Schema) → IsSomeAnd o (λ b. Passes b schema) → Roles schema
roles_of None schema p = absurd p
roles_of (Some b) schema p = p.roles

-- bytes that spell a file have no fault
not_failing : (schema : Schema) (bytes : List ℕ) (refusal : FileFault) → ExactlyOne ((whole : File) × IsFile schema whole bytes) (FileFails schema bytes) → (whole : File) × IsFile schema whole bytes
    → FileFails schema bytes refusal → ⊥
not_failing schema bytes refusal (inl a) is fails = a.1 refusal fails
not_failing schema bytes refusal (inr b) is fails = b.0 is

file_only : (schema : Schema) (o : Option (List ℕ)) (refusal : FileFault) → FileOrFault schema → IsSomeAnd o (λ bytes. (whole : File) × IsFile schema whole bytes × AreBytes bytes)
    → IsSomeAnd o (λ bytes. FileFails schema bytes refusal) → ⊥
file_only schema None refusal law p h = absurd h
file_only schema (Some bytes) refusal law p h = not_failing schema bytes refusal (law bytes p.2) (p.0, p.1) h

-- by a schema that is refused nothing is accepted
accepted_schema : Laws → (name : SchemaName) (file : List ℕ) (d : Files) (refusal : SchemaFault) → Accepts name file d (λ schema whole bytes. AreBytes bytes)
    → Refused name file d (fault.Schema refusal) → ⊥
accepted_schema laws name file d refusal a h = schema_only laws (schema_bytes name d) a.0 refusal a.1 h

-- what is accepted is not refused
accepted_file : Laws → (name : SchemaName) (file : List ℕ) (d : Files) (refusal : FileFault) → Accepts name file d (λ schema whole bytes. AreBytes bytes)
    → Refused name file d (fault.File refusal) → ⊥
accepted_file laws name file d refusal a h =
    file_only h.0 (get d file) refusal (laws.file h.0 h.1 (roles_of (schema_bytes name d) h.0 h.2))
    (subst (λ s. FileIs file d (λ bytes. (whole : File) × IsFile s whole bytes × AreBytes bytes)) (same_schema laws (schema_bytes name d) a.0 h.0 a.1 h.2) a.2) h.3

-- a copy was refused as its file was
copy_refused_as : (name : SchemaName) (file copy : List ℕ) (d : Files) (new : Option Files) (refusal : SchemaFault) (text : List ℕ)
    → IsSomeAnd new (λ e. Copies name file copy d e (Some (fault.Schema refusal)) text) → Refused name file d (fault.Schema refusal)
copy_refused_as name file copy d None refusal text h = absurd h
copy_refused_as name file copy d (Some e) refusal text h = h.0

copy_failed_as : (name : SchemaName) (file copy : List ℕ) (d : Files) (new : Option Files) (refusal : FileFault) (text : List ℕ)
    → IsSomeAnd new (λ e. Copies name file copy d e (Some (fault.File refusal)) text) → Refused name file d (fault.File refusal)
copy_failed_as name file copy d None refusal text h = absurd h
copy_failed_as name file copy d (Some e) refusal text h = h.0

-- a refusal that no command has
no_refusal : (refusal other : Fault) → (refusal ≡ other → ⊥) → (refusal ≡ other) ⊎ ⊥ → ⊥
no_refusal refusal other not (inl e) = not e
no_refusal refusal other not (inr h) = h

pub done_only : Laws → (c : Command) → DoneOnly c
done_only laws c files new None text before after can says causes none = inl refl
done_only laws c files new (Some fault.NoMemory) text before after can says causes none = inr refl
done_only laws c files new (Some fault.OpenFault) text before after can says causes none = absurd (none.opening (causes.opening refl))
done_only laws c files new (Some fault.ReadFault) text before after can says causes none = absurd (none.reading (causes.reading refl))
done_only laws c files new (Some fault.WriteFault) text before after can says causes none = absurd (none.writing (causes.writing refl))
done_only laws (command.Schema name) files new (Some fault.Usage) text before after can says causes none = absurd says.0
done_only laws (Check name file) files new (Some fault.Usage) text before after can says causes none = absurd says.0
done_only laws (Refs name file) files new (Some fault.Usage) text before after can says causes none = absurd says.0
done_only laws (Copy name file copy) files new (Some fault.Usage) text before after can says causes none =
    absurd (no_refusal fault.Usage fault.WriteFault (λ e. cc) says.0)
done_only laws (command.Schema name) files new (Some fault.PrintFault) text before after can says causes none = absurd says.0
done_only laws (Check name file) files new (Some fault.PrintFault) text before after can says causes none = absurd says.0
done_only laws (Refs name file) files new (Some fault.PrintFault) text before after can says causes none = absurd says.0
done_only laws (Copy name file copy) files new (Some fault.PrintFault) text before after can says causes none =
    absurd (no_refusal fault.PrintFault fault.WriteFault (λ e. cc) says.0)
done_only laws (command.Schema name) files new (Some (fault.Schema r)) text before after can says causes none =
    absurd (schema_only laws (schema_bytes name files) can.0 r can.1 (told_as name files (λ b. Lists b (Some (fault.Schema r)) text) says.1.0))
done_only laws (Check name file) files new (Some (fault.Schema r)) text before after can says causes none =
    absurd (accepted_schema laws name file files r can says.1.0)
done_only laws (Refs name file) files new (Some (fault.Schema r)) text before after can says causes none =
    absurd (accepted_schema laws name file files r can says.1.0)
done_only laws (Copy name file copy) files new (Some (fault.Schema r)) text before after can says causes none =
    absurd (accepted_schema laws name file files r can (copy_refused_as name file copy files new r text says.1))
done_only laws (command.Schema name) files new (Some (fault.File r)) text before after can says causes none = absurd says.0
done_only laws (Check name file) files new (Some (fault.File r)) text before after can says causes none =
    absurd (accepted_file laws name file files r can says.1.0)
done_only laws (Refs name file) files new (Some (fault.File r)) text before after can says causes none =
    absurd (accepted_file laws name file files r can says.1.0)
done_only laws (Copy name file copy) files new (Some (fault.File r)) text before after can says causes none =
    absurd (accepted_file laws name file files r can (copy_failed_as name file copy files new r text says.1))

-- so is a command whose text was printed
pub completes : (c : Command) (old new : Option Files) (answer : Option Fault) (text : List ℕ) (before after : Counts) → DoneOnly c → IsSomeAnd old (CanBeDone c)
    → Prints (λ a t. Answers (Some c) old new a t × HasCauses a before after) answer text → (answer ≡ Some fault.PrintFault → ⊥)
    → NoneRose before after → IsDone answer
completes c None new answer text before after law can is prints none = absurd can
completes c (Some d) new None text before after law can is prints none = inl refl
completes c (Some d) new (Some fault.PrintFault) text before after law can is prints none = absurd (prints refl)
completes c (Some d) new (Some fault.Usage) text before after law can is prints none = law d new _ text before after can is.0 is.1 none
completes c (Some d) new (Some (fault.Schema _)) text before after law can is prints none = law d new _ text before after can is.0 is.1 none
completes c (Some d) new (Some (fault.File _)) text before after law can is prints none = law d new _ text before after can is.0 is.1 none
completes c (Some d) new (Some fault.OpenFault) text before after law can is prints none = law d new _ text before after can is.0 is.1 none
completes c (Some d) new (Some fault.ReadFault) text before after law can is prints none = law d new _ text before after can is.0 is.1 none
completes c (Some d) new (Some fault.WriteFault) text before after law can is prints none = law d new _ text before after can is.0 is.1 none
completes c (Some d) new (Some fault.NoMemory) text before after law can is prints none = inr refl
