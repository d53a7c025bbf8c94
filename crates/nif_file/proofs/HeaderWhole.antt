-- A header all of whose members were read.
use Rattle.std.proofs.Common.{◌≡◌, ℕ, ◌+◌, ◌≤◌, Bool, true, false, ◌&&◌, ◌||◌, Option, Some, None, List, [], length, refl, sym, ◌∙◌, ap, subst, arith, append-nil}
use Rattle.std.specs.Prelude.{codes, is_some, is_none}
use Rattle.nif_base.specs.Node as node
use Rattle.nif_base.specs.Node.{Node, Members, nodes, nodes_in}
use Rattle.nif_schema.specs.Schema.{Schema}
use Rattle.nif_schema.specs.declared.contexts.Context as code
use Rattle.nif_layout.specs.Earlier.{Env}
use Rattle.nif_base.specs.Limits.{most_nodes}
use Rattle.nif_stream.specs.declared.takers.Taker.{Taker}
use Rattle.nif_stream.specs.Taking.{Takes}
use Rattle.nif_region.specs.Contents as contents
use Rattle.nif_cells.specs.Building.{Building}
use Rattle.nif_scope.specs.declared.entries.Entry.{Entry}
use Rattle.nif_value.specs.Trees.{Trees, with_tree}
use Rattle.nif_file.specs.declared.faults.FileFault.TheVariants as file
use Rattle.nif_file.specs.declared.heads.Head.{Head}
use Rattle.nif_file.specs.declared.header.Header.{Header}
use Rattle.nif_file.specs.Head.{header_context, file_context, member}
use Rattle.nif_file.specs.Sizes.{size_of_fields}
use Rattle.nif_file.specs.Checks.{types_fault, refuse_where}
use Rattle.nif_file.specs.Files.{header_line, head_of, header_text}
use Rattle.nif_file.specs.Heads.{ArePlaces, context_of}
use Rattle.nif_file.specs.HeaderReading.{HasHeader, HasNoHeader, StandsAt}
use Rattle.nif_file.proofs.HeaderEnds.{whole_reads, part_size, types_end}
use Rattle.nif_file.proofs.LineReading.{types_other}

-- the list of types is wanted and isn't there
abbrev pub lacks : Env → Bool
lacks E = is_some (member (codes "Block Type Index") E) && (is_none (member (codes "Num Block Types") E) || is_none (member (codes "Block Types") E))

lacking : (E : Env) (b : Bool) → b ≡ lacks E → types_fault E ≡ refuse_where b file.NoTypeList E
lacking E b e = ap (λ x. refuse_where x file.NoTypeList E) (sym e)

with_counts : (S : Schema) (E : Env) (context : code.Context) (blocks strings : ℕ) → context_of context 0 0 ≡ header_context S E → blocks ≡ (file_context S E).blocks → strings ≡ (file_context S E).strings
    → context_of context blocks strings ≡ file_context S E
with_counts S E context blocks strings e b s = λ i. record {
  version = (e i).version;
  user = (e i).user;
  bs = (e i).bs;
  order = (e i).order;
  owner = (e i).owner;
  blocks = b i;
  strings = s i;
}

module _ {T : Type 0} (src : T → Option (List ℕ)) (still : T → T → Type 0) (faults : T → ℕ) (S : Schema) (header : ℕ) (start now : Taker T) (entries : List Entry) (building : Option Building) (counted : ℕ) (head : Head)
    (st : StandsAt src still faults S header (length (header_line S)) start now entries building counted head) where
  abbrev pub E : Env
  E = head_of S st.held

  -- the list of types is missing
  pub lacks_ends : true ≡ lacks E → HasNoHeader src still faults S start now file.NoTypeList
  lacks_ends e =
      let fault : types_fault E ≡ Some (record { fault = file.NoTypeList; known = size_of_fields E }) = lacking E true e in
      let size : length st.bytes ≡ size_of_fields E = part_size src still faults S (length (header_line S)) st.held st.bytes counted st.part in
      types_end src still faults S st.held st.bytes counted start now (record { fault = file.NoTypeList; known = size_of_fields E }) st.part fault
      (types_other true E (record { fault = file.NoTypeList; known = size_of_fields E }) refl) (omega arith) st.first st.takes

  -- the header was read
  pub has_header : (before after : Trees) (result : Header) → false ≡ lacks E → result.bounds.nodes ≡ counted → context_of result.context 0 0 ≡ header_context S E
      → result.bounds.blocks ≡ (file_context S E).blocks → result.bounds.strings ≡ (file_context S E).strings → ArePlaces S result.places → contents.find before.trees result.tree.run.key ≡ None
      → after.trees ≡ with_tree before.trees result.tree.run.key (Some (node.Group st.held)) → contents.find after.trees result.tree.run.key ≡ Some (node.Group st.held)
      → HasHeader src still faults S start now before after result
  has_header before after result full count context blocks strings places fresh trees found =
      let whole = whole_reads src still faults S st.held st.bytes counted [] st.part in
      let text : st.bytes ≡ header_text S st.held = sym (append-nil st.bytes) ∙ whole.1.here ∙ append-nil (header_text S st.held) in
      let number : counted ≡ 1 + nodes_in st.held = whole.1.nodes in
      let few : counted ≤ most_nodes = st.within in
      record {
        members = st.held;
        is = record { members = st.held; group = refl; each = whole.0; types = lacking E false full };
        takes = subst (λ (bytes : List ℕ). Takes src still faults start bytes now) text st.takes;
        counted = count ∙ number;
        few = omega arith;
        context = with_counts S E result.context result.bounds.blocks result.bounds.strings context blocks strings;
        places = places;
        fresh = fresh;
        trees = trees;
        found = found;
      }
