-- What creating, writing and copying a file do to the files that are told.
use Rattle.std.proofs.Common.{◌≡◌, ℕ, suc, List, [], ◌∷◌, length, map, Option, Some, None, Ok, Err, take, refl, sym, ap, subst, ◌∙◌}
use Rattle.std.specs.Option.{option_map, IfSome, IsSomeAnd}
use Rattle.std.specs.FinMap.{get, insert}
use Rattle.nif_base.specs.File.{File, nodes_of}
use Rattle.nif_base.specs.Graph.{Named, Graph}
use Rattle.nif_base.specs.Shelf.{Files, Desk, created, written, files_written-created}
use Rattle.nif_schema.specs.Schema.{Schema}
use Rattle.nif_graph.specs.State.{GraphState}
use Rattle.nif_graph.specs.Written.{block_placed, numbered}
use Rattle.nif_file.specs.Files.{IsFile, head_in, text_of}
use Rattle.nif_file.specs.Head.{version_in}
use Rattle.nif_file.specs.GraphOf.{IsWhole, origin_in}
use Rattle.nif_file.specs.LengthLaws.{size_is_length}
use Rattle.nif_print.specs.Files.{summary_text}
use Rattle.nif_print.specs.References.{refs_text}
use Rattle.nif_tool.specs.Command.{SchemaName}
use Rattle.nif_tool.specs.Schemas.{HasSchema}
use Rattle.nif_tool.specs.Meaning.{files_of, Accepts, AreLinesBy, Checks, IsLineBy, IsRefsText, Refers, WhereTold, summary_of}
use Rattle.nif_tool.specs.Steps.{CopiesBy, IsAccepted, IsLoaded, Stores, graph_summary}
use Rattle.nif_tool.specs.declared.files.Accepted.{Accepted}
use Rattle.nif_tool.specs.declared.report.Fault.{Fault}
use Rattle.nif_tool.specs.declared.report.Fault.TheVariants as fault

-- a file that was created and written whole
pub stored_all : (a b d : Option Desk) (name bytes : List ℕ) → b ≡ option_map (created name) a → d ≡ option_map (written bytes) b
    → WhereTold (files_of a) (files_of d) (λ old new. Stores {T = Unit {0}} name bytes old new (Ok tt))
stored_all None b d name bytes e f = tt
stored_all (Some k) b d name bytes e f =
    subst (λ x. WhereTold (Some k.files) (files_of x) (λ old new. Stores {T = Unit {0}} name bytes old new (Ok tt))) (sym (f ∙ ap (option_map (written bytes)) e))
    (files_written-created k.files name bytes)

-- and in part
pub stored_part : (a b d : Option Desk) (name bytes : List ℕ) (n : ℕ) → b ≡ option_map (created name) a → d ≡ option_map (written (take n bytes)) b
    → WhereTold (files_of a) (files_of d) (λ old new. Stores {T = Unit {0}} name bytes old new (Err fault.WriteFault))
stored_part None b d name bytes n e f = tt
stored_part (Some k) b d name bytes n e f =
    subst (λ x. WhereTold (Some k.files) (files_of x) (λ old new. Stores {T = Unit {0}} name bytes old new (Err fault.WriteFault))) (sym (f ∙ ap (option_map (written (take n bytes))) e))
    (n, files_written-created k.files name (take n bytes))

-- as many are written as there are
written_count : (blocks rest : List Named) → length (map (λ (b : Named). block_placed blocks b.block) rest) ≡ length rest
written_count blocks [] = refl
written_count blocks (b ∷ rest) = ap suc (written_count blocks rest)

-- the line of a graph is that of its file
pub summary_said : (schema : Schema) (name : List ℕ) (files : Option Files) (state : GraphState) (is : IsLoaded schema name files state)
    → graph_summary state ≡ summary_of schema is.whole (text_of schema is.whole)
summary_said schema name files state is =
    let whole = is.whole in
    let version : state.graph.origin.version ≡ version_in (head_in schema whole) = ap (λ (G : Graph). G.origin.version) is.graph.graph in
    let blocks : length state.graph.blocks ≡ length whole.blocks =
    sym (written_count state.graph.blocks state.graph.blocks) ∙ ap (λ (F : File). length F.blocks) is.again in
    let bytes : state.bytes ≡ length (text_of schema whole) = is.graph.bytes ∙ size_is_length schema whole (text_of schema whole) is.is in
    let nodes : nodes_of (numbered state.places state.graph) ≡ nodes_of whole = ap nodes_of is.again in
    λ i. summary_text (version i) (blocks i) (bytes i) (nodes i)

-- what is written of a graph that was read is the file
pub whole_read : (schema : Schema) (name : List ℕ) (files : Option Files) (state : GraphState) → IsLoaded schema name files state → IsWhole schema state
whole_read schema name files state is = record {
  places = is.graph.places;
  is = subst (λ F. IsFile schema F (text_of schema F)) (sym is.again) is.is;
  origin = subst (λ F. state.graph.origin ≡ origin_in schema (head_in schema F)) (sym is.again) (ap (λ (G : Graph). G.origin) is.graph.graph);
}

-- a file that was read by its schema is accepted
pub accepted_as : (name : SchemaName) (file : List ℕ) (d : Files) (schema : Schema) (whole : File) (P : Schema → File → List ℕ → Type 0)
    → HasSchema name d schema → get d file ≡ Some (text_of schema whole) → IsFile schema whole (text_of schema whole) → P schema whole (text_of schema whole)
    → Accepts name file d P
accepted_as name file d schema whole P passes there is p =
    (schema, passes, subst (λ bytes. IsSomeAnd bytes (λ b. (w : File) × IsFile schema w b × P schema w b)) (sym there) (whole, is, p))

-- with its line
pub checked_as : (name : SchemaName) (file : List ℕ) (old : Option Files) (accepted : Accepted) → IsAccepted name file old accepted
    → IfSome old (λ d. Checks name file d None (graph_summary accepted.graph))
checked_as name file None accepted is = tt
checked_as name file (Some d) accepted is =
    accepted_as name file d accepted.schema is.loaded.whole (λ schema whole bytes. graph_summary accepted.graph ≡ summary_of schema whole bytes) is.passes is.loaded.told is.loaded.is
    (summary_said accepted.schema file (Some d) accepted.graph is.loaded)

-- its line, whether files are told or not
pub line_by : (name : SchemaName) (file : List ℕ) (old : Option Files) (accepted : Accepted) → IsAccepted name file old accepted → IsLineBy name old (graph_summary accepted.graph)
line_by name file old accepted is = (
  accepted.schema,
  is.loaded.whole,
  text_of accepted.schema is.loaded.whole,
  (is.schema, is.told),
  is.loaded.is,
  summary_said accepted.schema file old accepted.graph is.loaded,
)

-- the references of its graph
pub refers_as : (name : SchemaName) (file : List ℕ) (old : Option Files) (accepted : Accepted) (text : List ℕ) → IsAccepted name file old accepted
    → text ≡ refs_text accepted.schema accepted.graph.graph → IfSome old (λ d. Refers name file d None text)
refers_as name file None accepted text is same = tt
refers_as name file (Some d) accepted text is same =
    accepted_as name file d accepted.schema is.loaded.whole (λ schema whole bytes. IsRefsText schema whole text) is.passes is.loaded.told is.loaded.is
    (accepted.graph, is.loaded.graph, same)

pub lines_by : (name : SchemaName) (file : List ℕ) (old : Option Files) (accepted : Accepted) (text : List ℕ) → IsAccepted name file old accepted
    → text ≡ refs_text accepted.schema accepted.graph.graph → AreLinesBy name old text
lines_by name file old accepted text is same = (
  accepted.schema,
  is.loaded.whole,
  text_of accepted.schema is.loaded.whole,
  (is.schema, is.told),
  is.loaded.is,
  (accepted.graph, is.loaded.graph, same),
)

-- the bytes that are written of its graph
abbrev pub written_of : Accepted → List ℕ
written_of accepted = text_of accepted.schema (numbered accepted.graph.places accepted.graph.graph)

-- and then written
copied_whole : (name : SchemaName) (file copy : List ℕ) (d e : Files) (accepted : Accepted) (is : IsAccepted name file (Some d) accepted)
    → e ≡ insert d copy (written_of accepted) → CopiesBy name file copy d e (Ok accepted)
copied_whole name file copy d e accepted is stored =
    accepted_as name file d accepted.schema is.loaded.whole (λ schema whole bytes. (graph_summary accepted.graph ≡ summary_of schema whole bytes) × (e ≡ insert d copy bytes)) is.passes is.loaded.told is.loaded.is
    (summary_said accepted.schema file (Some d) accepted.graph is.loaded, stored ∙ ap (λ F. insert d copy (text_of accepted.schema F)) is.loaded.again)

pub copied : (name : SchemaName) (file copy : List ℕ) (old mid new : Option Files) (accepted : Accepted) (is : IsAccepted name file old accepted) (done : Unit {0}) → mid ≡ old
    → WhereTold mid new (λ d e. Stores {T = Unit {0}} copy (written_of accepted) d e (Ok done))
    → WhereTold old new (λ d e. CopiesBy name file copy d e (Ok accepted))
copied name file copy None mid new accepted is done same stores = tt
copied name file copy (Some d) mid new accepted is done same stores =
    told new (subst (λ m. WhereTold m new (λ d e. Stores {T = Unit {0}} copy (written_of accepted) d e (Ok done))) same stores)
  where
    told : (new : Option Files) → IsSomeAnd new (λ e. e ≡ insert d copy (written_of accepted)) → IsSomeAnd new (λ e. CopiesBy name file copy d e (Ok accepted))
    told None h = h
    told (Some e) h = copied_whole name file copy d e accepted is h

-- and then not, or in part
copied_part : (name : SchemaName) (file copy : List ℕ) (d e : Files) (accepted : Accepted) → IsAccepted name file (Some d) accepted → (refusal : Fault)
    → Stores {T = Unit {0}} copy (written_of accepted) d e (Err refusal) → CopiesBy name file copy d e (Err refusal)
copied_part name file copy d e accepted is fault.OpenFault stored = (tt, stored)
copied_part name file copy d e accepted is fault.WriteFault stored =
    accepted_as name file d accepted.schema is.loaded.whole (λ schema whole bytes. (n : ℕ) × (e ≡ insert d copy (take n bytes))) is.passes is.loaded.told is.loaded.is
    (stored.0, stored.1 ∙ ap (λ F. insert d copy (take stored.0 (text_of accepted.schema F))) is.loaded.again)
copied_part name file copy d e accepted is fault.Usage stored = absurd stored
copied_part name file copy d e accepted is (fault.Schema _) stored = absurd stored
copied_part name file copy d e accepted is (fault.File _) stored = absurd stored
copied_part name file copy d e accepted is fault.ReadFault stored = absurd stored
copied_part name file copy d e accepted is fault.PrintFault stored = absurd stored
copied_part name file copy d e accepted is fault.NoMemory stored = absurd stored

pub copy_failed : (name : SchemaName) (file copy : List ℕ) (old mid new : Option Files) (accepted : Accepted) → IsAccepted name file old accepted → (refusal : Fault) → mid ≡ old
    → WhereTold mid new (λ d e. Stores {T = Unit {0}} copy (written_of accepted) d e (Err refusal))
    → WhereTold old new (λ d e. CopiesBy name file copy d e (Err refusal))
copy_failed name file copy None mid new accepted is refusal same stores = tt
copy_failed name file copy (Some d) mid new accepted is refusal same stores =
    told new (subst (λ m. WhereTold m new (λ d e. Stores {T = Unit {0}} copy (written_of accepted) d e (Err refusal))) same stores)
  where
    told : (new : Option Files) → IsSomeAnd new (λ e. Stores {T = Unit {0}} copy (written_of accepted) d e (Err refusal))
        → IsSomeAnd new (λ e. CopiesBy name file copy d e (Err refusal))
    told None h = h
    told (Some e) h = copied_part name file copy d e accepted is refusal h
