-- What is printed of an answer.
use Rattle.std.proofs.Common.{◌≡◌, ℕ, List, Option, Some, None, refl, sym, subst, arith, Ok, Err}
use Rattle.std.specs.Option.{IfSome}
use Rattle.nif_base.specs.Shelf.{Files}
use Rattle.nif_tool.specs.Counts.{Counts}
use Rattle.nif_tool.specs.Command.{SchemaName, Check, Refs, Copy}
use Rattle.nif_tool.specs.Command as command
use Rattle.nif_schema.specs.Schema.{Schema, IsSchema}
use Rattle.nif_print.specs.Listing.{IsListing}
use Rattle.nif_tool.specs.Steps.{CopiesBy, Gets, IsAccepted, graph_summary}
use Rattle.nif_tool.specs.Schemas.{told_bytes}
use Rattle.nif_tool.specs.Lines.{line_of}
use Rattle.nif_tool.specs.Meaning.{Answers, CanAnswer, CanFail, CanLack, Checks, Copies, HasCauses, IsLineBy, Lists, Prints, Refused, WhereTold}
use Rattle.nif_tool.specs.declared.files.Accepted.{Accepted}
use Rattle.nif_tool.specs.declared.report.Fault.{Fault}
use Rattle.nif_tool.specs.declared.report.Fault.TheVariants as fault
use Rattle.nif_print.specs.References.{refs_text}
use Rattle.nif_tool.proofs.Copies.{checked_as, line_by, lines_by, refers_as}

-- what holds of an answer and its text may be weaker
pub prints_weaker : {P Q : Option Fault → List ℕ → Type 0} (answer : Option Fault) (text : List ℕ) → ((a : Option Fault) (t : List ℕ) → P a t → Q a t) → Prints P answer text → Prints Q answer text
prints_weaker None text f p = f None text p
prints_weaker (Some fault.Usage) text f p = f _ text p
prints_weaker (Some (fault.Schema x)) text f p = f _ text p
prints_weaker (Some (fault.File x)) text f p = f _ text p
prints_weaker (Some fault.OpenFault) text f p = f _ text p
prints_weaker (Some fault.ReadFault) text f p = f _ text p
prints_weaker (Some fault.WriteFault) text f p = f _ text p
prints_weaker (Some fault.PrintFault) text f p = (p.0, p.1, p.2, f p.0 p.1 p.3, p.4)
prints_weaker (Some fault.NoMemory) text f p = f _ text p

-- words that are no command
pub no_command : (files : Option Files) (counts : Counts) (answer : Option Fault) (text : List ℕ) → (answer ≡ Some fault.Usage) × (text ≡ line_of fault.Usage)
    → Answers None files files answer text × HasCauses answer counts counts
no_command files counts answer text is = (
  (is.0, refl, is.1),
  record {
    opens_later = omega arith;
    reads_later = omega arith;
    writes_later = omega arith;
    opening = λ e. absurd (cc);
    reading = λ e. absurd (cc);
    writing = λ e. absurd (cc);
  },
)

-- what passes is listed
lists_of : (bytes : Option (Option (List ℕ))) (schema : Schema) (text : List ℕ) → IfSome bytes (λ b. Gets b (Ok schema)) → IsListing schema text → IfSome bytes (λ b. Lists b None text)
lists_of None schema text passes listing = tt
lists_of (Some None) schema text passes listing = passes
lists_of (Some (Some b)) schema text passes listing = (schema, passes, listing)

-- a schema that was listed
pub schema_listed : (name : SchemaName) (old new : Option Files) (schema : Schema) (before after : Counts) (answer : Option Fault) (text : List ℕ)
    → IfSome (told_bytes name old) (λ b. Gets b (Ok schema)) → IsSchema schema → new ≡ old → HasCauses None before after
    → (answer ≡ None) × IsListing schema text → Answers (Some (command.Schema name)) old new answer text × HasCauses answer before after
schema_listed name old new schema before after answer text passes schema_is same causes is =
    subst (λ a. Answers (Some (command.Schema name)) old new a text × HasCauses a before after) (sym is.0)
    ((tt, (lists_of (told_bytes name old) schema text passes is.1, same), tt, (schema, (schema_is, passes), is.1)), causes)

-- what is refused is refused so
lists_refusal : (bytes : Option (Option (List ℕ))) (refusal : Fault) (text : List ℕ) → IfSome bytes (λ b. Gets b (Err refusal)) → IfSome bytes (λ b. Lists b (Some refusal) text)
lists_refusal None refusal text h = tt
lists_refusal (Some b) fault.Usage text h = tt
lists_refusal (Some b) (fault.Schema r) text h = h
lists_refusal (Some b) (fault.File r) text h = tt
lists_refusal (Some b) fault.OpenFault text h = tt
lists_refusal (Some b) fault.ReadFault text h = tt
lists_refusal (Some b) fault.WriteFault text h = tt
lists_refusal (Some b) fault.PrintFault text h = tt
lists_refusal (Some b) fault.NoMemory text h = tt

-- a schema that was refused
pub schema_refused : (name : SchemaName) (old new : Option Files) (refusal : Fault) (before after : Counts) (answer : Option Fault) (text : List ℕ)
    → CanLack name refusal → IfSome (told_bytes name old) (λ b. Gets b (Err refusal)) → new ≡ old → HasCauses (Some refusal) before after
    → (answer ≡ Some refusal) × (text ≡ line_of refusal) → Answers (Some (command.Schema name)) old new answer text × HasCauses answer before after
schema_refused name old new refusal before after answer text can gets same causes is =
    subst (λ a. Answers (Some (command.Schema name)) old new a text × HasCauses a before after) (sym is.0)
    ((can, (lists_refusal (told_bytes name old) refusal text gets, same), is.1, tt), causes)

-- a file that was checked
pub check_done : (name : SchemaName) (file : List ℕ) (old new : Option Files) (accepted : Accepted) (before after : Counts) (answer : Option Fault) (text : List ℕ)
    → IsAccepted name file old accepted → new ≡ old → HasCauses None before after
    → (answer ≡ None) × (text ≡ graph_summary accepted.graph) → Answers (Some (Check name file)) old new answer text × HasCauses answer before after
check_done name file old new accepted before after answer text accepts same causes is =
    subst (λ a. Answers (Some (Check name file)) old new a text × HasCauses a before after) (sym is.0)
    ((tt, (subst (λ t. IfSome old (λ d. Checks name file d None t)) (sym is.1) (checked_as name file old accepted accepts), same), tt, subst (IsLineBy name old) (sym is.1) (line_by name file old accepted accepts)), causes)

-- a file that was refused
pub check_refused : (name : SchemaName) (file : List ℕ) (old new : Option Files) (refusal : Fault) (before after : Counts) (answer : Option Fault) (text : List ℕ)
    → CanFail refusal → IfSome old (λ d. Refused name file d refusal) → new ≡ old → HasCauses (Some refusal) before after
    → (answer ≡ Some refusal) × (text ≡ line_of refusal) → Answers (Some (Check name file)) old new answer text × HasCauses answer before after
check_refused name file old new refusal before after answer text can refused same causes is =
    subst (λ a. Answers (Some (Check name file)) old new a text × HasCauses a before after) (sym is.0)
    ((can, (refused, same), is.1, tt), causes)

-- the references of a file that was read
pub refs_done : (name : SchemaName) (file : List ℕ) (old new : Option Files) (accepted : Accepted) (before after : Counts) (answer : Option Fault) (text : List ℕ)
    → IsAccepted name file old accepted → new ≡ old → HasCauses None before after
    → (answer ≡ None) × (text ≡ refs_text accepted.schema accepted.graph.graph) → Answers (Some (Refs name file)) old new answer text × HasCauses answer before after
refs_done name file old new accepted before after answer text accepts same causes is =
    subst (λ a. Answers (Some (Refs name file)) old new a text × HasCauses a before after) (sym is.0)
    ((tt, (refers_as name file old accepted text accepts is.1, same), tt, lines_by name file old accepted text accepts is.1), causes)

-- a file whose references were refused
pub refs_refused : (name : SchemaName) (file : List ℕ) (old new : Option Files) (refusal : Fault) (before after : Counts) (answer : Option Fault) (text : List ℕ)
    → CanFail refusal → IfSome old (λ d. Refused name file d refusal) → new ≡ old → HasCauses (Some refusal) before after
    → (answer ≡ Some refusal) × (text ≡ line_of refusal) → Answers (Some (Refs name file)) old new answer text × HasCauses answer before after
refs_refused name file old new refusal before after answer text can refused same causes is =
    subst (λ a. Answers (Some (Refs name file)) old new a text × HasCauses a before after) (sym is.0)
    ((can, (refused, same), is.1, tt), causes)

-- a file that was copied
pub copy_done : (name : SchemaName) (file copy : List ℕ) (old new : Option Files) (accepted : Accepted) (before after : Counts) (answer : Option Fault) (text : List ℕ)
    → WhereTold old new (λ d e. CopiesBy name file copy d e (Ok accepted)) → IsAccepted name file old accepted → HasCauses None before after
    → (answer ≡ None) × (text ≡ graph_summary accepted.graph) → Answers (Some (Copy name file copy)) old new answer text × HasCauses answer before after
copy_done name file copy old new accepted before after answer text copies accepts causes is =
    subst (λ a. Answers (Some (Copy name file copy)) old new a text × HasCauses a before after) (sym is.0)
    ((tt, subst (λ t. WhereTold old new (λ d e. Copies name file copy d e None t)) (sym is.1) copies, tt, subst (IsLineBy name old) (sym is.1) (line_by name file old accepted accepts)), causes)

-- no refusal of a copy speaks of the text
of_any_text : (name : SchemaName) (file copy : List ℕ) (d e : Files) (refusal : Fault) (text : List ℕ) → CopiesBy name file copy d e (Err refusal) → Copies name file copy d e (Some refusal) text
of_any_text name file copy d e fault.WriteFault text h = h
of_any_text name file copy d e fault.OpenFault text h = h
of_any_text name file copy d e fault.Usage text h = h
of_any_text name file copy d e (fault.Schema _) text h = h
of_any_text name file copy d e (fault.File _) text h = h
of_any_text name file copy d e fault.ReadFault text h = h
of_any_text name file copy d e fault.PrintFault text h = h
of_any_text name file copy d e fault.NoMemory text h = h

where_told : (old new : Option Files) (P Q : Files → Files → Type 0) → ((d e : Files) → P d e → Q d e) → WhereTold old new P → WhereTold old new Q
where_told None new P Q f h = tt
where_told (Some d) None P Q f h = h
where_told (Some d) (Some e) P Q f h = f d e h

-- a copy that was refused
pub copy_refused : (name : SchemaName) (file copy : List ℕ) (old new : Option Files) (refusal : Fault) (before after : Counts) (answer : Option Fault) (text : List ℕ)
    → CanAnswer (Copy name file copy) (Some refusal) → WhereTold old new (λ d e. CopiesBy name file copy d e (Err refusal)) → HasCauses (Some refusal) before after
    → (answer ≡ Some refusal) × (text ≡ line_of refusal) → Answers (Some (Copy name file copy)) old new answer text × HasCauses answer before after
copy_refused name file copy old new refusal before after answer text can copies causes is =
    subst (λ a. Answers (Some (Copy name file copy)) old new a text × HasCauses a before after) (sym is.0)
    ((can, where_told old new (λ d e. CopiesBy name file copy d e (Err refusal)) (λ d e. Copies name file copy d e (Some refusal) text) (λ d e h. of_any_text name file copy d e refusal text h) copies, is.1, tt), causes)
