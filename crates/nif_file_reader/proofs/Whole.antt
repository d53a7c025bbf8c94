-- A whole file: its header, and all that stands behind it.
use Rattle.std.proofs.Common.{◌≡◌, ℕ, ◌+◌, ◌≤◌, ◌⊎◌, inr, Option, Some, None, List, [], ◌∷◌, ◌++◌, length, refl, sym, ◌∙◌, ap, subst, subst₂, arith, append-nil, zero-add}
use Rattle.std.specs.Prelude.{IfSome, codes, is_some, false, if◌then◌else◌}
use Rattle.std.specs.Option.{option_map}
use Rattle.nif_base.specs.Limits.{most_nodes}
use Rattle.nif_base.specs.Node as node
use Rattle.nif_base.specs.Node.{Node, Members, text, nodes, nodes_in}
use Rattle.nif_base.specs.File.{File, block_nodes}
use Rattle.nif_base.specs.Outside.{IsAtEnd, prepended}
use Rattle.nif_schema.specs.Schema.{Schema, IsSchema}
use Rattle.nif_schema.specs.Roles.{Roles}
use Rattle.nif_schema.specs.declared.contexts.Context as code
use Rattle.nif_region.specs.Contents.{find, AreApart}
use Rattle.nif_stream.specs.declared.takers.Taker.{Taker}
use Rattle.nif_stream.specs.Taking.{Takes, source_of, place_of, left_of, bytes_of}
use Rattle.nif_stream.specs.TakerLaws.{takes_joined}
use Rattle.nif_layout.specs.Context.{Context}
use Rattle.nif_layout.specs.Earlier.{Env}
use Rattle.nif_layout.specs.Fault.{Point}
use Rattle.nif_layout.specs.Form.{number_at_item}
use Rattle.nif_decode.specs.Answers.{Went}
use Rattle.nif_value.specs.Trees.{Trees}
use Rattle.nif_value.specs.declared.stores.TreeId.{TreeId}
use Rattle.nif_graph.specs.declared.parts.BlockPart.{BlockPart}
use Rattle.nif_graph.specs.declared.parts.GraphParts.{GraphParts}
use Rattle.nif_file.specs.declared.faults.FileFault.{FileFault}
use Rattle.nif_file.specs.declared.faults.FileFault.TheVariants as file
use Rattle.nif_file.specs.declared.header.Header.{Header}
use Rattle.nif_lists.specs.Lists.{Listed, AreListsOf, entry_of}
use Rattle.nif_file.specs.Stops.{Stop}
use Rattle.nif_file.specs.Head.{file_context, member, order_in}
use Rattle.nif_file.specs.Checks.{types_fault}
use Rattle.nif_file.specs.Files.{IsFile, IsHeader, IsHeaderLine, head_of, header_text, blocks_text, text_of, size_of}
use Rattle.nif_file.specs.FileFails.{HeaderReads, HeaderFails, RestFails, BodyFails, start_of}
use Rattle.nif_graph.specs.declared.places.RolePlaces.{RolePlaces}
use Rattle.nif_file.specs.Heads.{ArePlaces}
use Rattle.nif_file.specs.HeaderReading.{HasHeader, HasNoHeader, StopsThere}
use Rattle.nif_file_reader.specs.PartsSay.{SaysBlocks, SaysContext, SaysFile}
use Rattle.nif_file.specs.LengthLaws.{size_is_length}
use Rattle.nif_decode.specs.WentLaws.{went_whole}
use Rattle.nif_file.specs.FaultLaws.{header_stops_file}
use Rattle.nif_file_reader.specs.Halting.{StopsHere, Halts}
use Rattle.nif_file_reader.specs.Known.{Knows, HasRest, block_trees}
use Rattle.nif_file_reader.specs.Answers.{HasFault, HasParts, HasNoFile, HoldsFile}
use Rattle.nif_file_reader.proofs.Halting.{halts_behind}
use Rattle.nif_file_reader.proofs.Rest.{said_blocks}
use Rattle.nif_file_reader.proofs.Trees.{find_kept}

-- what stops a file, from its first byte on
abbrev pub Stops : Schema → ℕ → Point → Stop → Type 0
Stops S total at stop =
    HeaderFails S total at stop
    ⊎ ((members : Members) × (next : Point) × HeaderReads S members at next × RestFails S total (head_of S members) next stop)

same_members : (a b : Members) → node.Group a ≡ node.Group b → a ≡ b
same_members a b e = cc

header_line : (S : Schema) (members : Members) → IsHeader S (node.Group members) → IsHeaderLine S members × (types_fault (head_of S members) ≡ None)
header_line S members is =
    let e : is.members ≡ members = same_members is.members members (sym is.group) in
    subst (λ (m : Members). IsHeaderLine S m × (types_fault (head_of S m) ≡ None)) e (is.each, is.types)

module _ {T : Type 0} (left : T → Option (List ℕ)) (still : T → T → Type 0) (faults : T → ℕ) (S : Schema) where
  -- there is no header
  pub no_header : (old new : Taker T) (fault : FileFault) → HasNoHeader left still faults S old new fault → HasNoFile left faults S old new fault
  no_header old new fault h = record { read = h.read; stops = λ r m. by (left_of left old) (h.stops r m) }
    where
      by : (o : Option (List ℕ)) → IfSome o (StopsThere S fault (left (source_of new))) → IfSome o (HasFault S fault (left (source_of new)))
      by None s = tt
      by (Some bytes) s = record { known = s.known; is = header_stops_file S bytes (record { fault = fault; known = s.known }) s.stops; gone = s.gone }

  module _ (old mid : Taker T) (before between : Trees) (header : Header) (h : HasHeader left still faults S old mid before between header) (first : place_of old ≡ 0) where
    abbrev E : Env
    E = head_of S h.members

    -- the lists of the header are said, too
    pub knows : (lists : Listed) → IsSchema S → Roles S → AreListsOf S E lists → Knows S h.members header lists between.trees
    knows lists is roles are = record { schema = is; roles = roles; is = h.is; context = h.context; places = h.places; said_lists = are; found = h.found }

    -- memory ran out behind the header
    pub no_memory : (new : Taker T) → HasNoFile left faults S old new file.NoMemory
    no_memory new = record { read = λ e. absurd (cc); stops = λ r m. absurd (m refl) }

    -- what stands behind it fails
    pub no_rest : (new : Taker T) (fault : FileFault) → Halts left still faults (λ total. BodyFails S total E) header.bounds.nodes mid new fault → HasNoFile left faults S old new fault × Went still faults old new
    no_rest new fault halts = (record { read = whole.read; stops = λ r m. by (left_of left old) (whole.stops r m) }, whole.went)
      where
        line : IsHeaderLine S h.members × (types_fault E ≡ None)
        line = header_line S h.members h.is

        few : 1 + nodes_in h.members ≤ most_nodes
        few = h.few

        here : Halts left still faults (λ total. BodyFails S total E) (1 + nodes_in h.members) mid new fault
        here = subst (λ n. Halts left still faults (λ total. BodyFails S total E) n mid new fault) h.counted halts

        whole : Halts left still faults (Stops S) 1 old new fault
        whole = halts_behind left still faults (λ total. BodyFails S total E) (Stops S) 1 (nodes_in h.members) (header_text S h.members) old mid new fault h.takes few
            (λ total at next stop p bad. inr (h.members, next, (line.0, p), inr (line.1, bad))) here

        by : (o : Option (List ℕ)) → IfSome o (λ b. StopsHere (Stops S) fault (left (source_of new)) (record { nodes = 1; place = place_of old; left = b })) → IfSome o (HasFault S fault (left (source_of new)))
        by None s = tt
        by (Some bytes) s =
            let at : StopsHere (Stops S) fault (left (source_of new)) (record { nodes = 1; place = 0; left = bytes }) = subst (λ n. StopsHere (Stops S) fault (left (source_of new)) (record { nodes = 1; place = n; left = bytes })) first s in
            let all : 0 + length bytes ≡ length bytes = zero-add (length bytes) in
            record {
              known = at.known;
              is = subst (λ n. Stops S n (start_of bytes) (record { fault = fault; known = at.known })) all at.stops;
              gone = subst (λ n. IfSome (left (source_of new)) (λ more. n ≤ at.known + 4096 + length more)) all at.gone;
            }

    module _ (lists : Listed) (k : Knows S h.members header lists between.trees) (now : ℕ) (new : Taker T) (after : Trees) (parts : List BlockPart) (footer : TreeId)
        (r : HasRest left still faults S h.members header.bounds.blocks mid new header.bounds.nodes now between after parts footer) where
      abbrev pub it : File
      it = record { header = node.Group h.members; blocks = r.blocks; footer = r.footer }

      pub taken : Takes left still faults old (text_of S it) new
      taken = takes_joined left still faults old mid new (header_text S h.members) (blocks_text S E 0 r.blocks ++ text (order_in E) r.footer) (text_of S it) h.takes r.takes refl

      -- what was read
      pub rest_went : Went still faults old new
      rest_went = went_whole left still faults old new (text_of S it) taken

      counted_all : now ≡ nodes (node.Group h.members) + (block_nodes r.blocks + nodes r.footer)
      counted_all = r.nodes ∙ ap (λ n. n + (block_nodes r.blocks + nodes r.footer)) h.counted

      is_file : IsFile S it (text_of S it)
      is_file = record {
        header = h.is;
        blocks = r.are;
        count = r.long ∙ said_blocks S h.members header lists between.trees k;
        footer = r.is;
        text = refl;
        few_nodes = omega (arith, counted_all, r.few);
        short = omega (arith, taken.place, taken.within, first);
      }

      told : IfSome (left_of left old) (λ b. b ≡ text_of S it)
      told = by (left_of left old) (left_of left new) taken.given r.end
        where
          by : (o p : Option (List ℕ)) → o ≡ prepended (text_of S it) p → IsAtEnd p → IfSome o (λ b. b ≡ text_of S it)
          by None p e end = tt
          by (Some b) None e end = absurd (cc)
          by (Some b) (Some rest) e end =
              let same : b ≡ text_of S it ++ rest = cc in
              same ∙ ap (λ x. text_of S it ++ x) end ∙ append-nil (text_of S it)

      -- where no byte is left behind those that are held, none is left in the source
      at_end : (held : List ℕ) (rest : Option (List ℕ)) → IsAtEnd (prepended held rest) → IsAtEnd rest
      at_end held None end = tt
      at_end [] (Some rest) end = end
      at_end (b ∷ held) (Some rest) end = absurd (cc)

      one_tree : between.trees ≡ before.trees ++ (header.tree.run.key, node.Group h.members) ∷ [] → before.trees ≡ [] → between.trees ≡ (header.tree.run.key, node.Group h.members) ∷ []
      one_tree e none = e ∙ ap (λ trees. trees ++ (header.tree.run.key, node.Group h.members) ∷ []) none

      -- the file was read
      pub has_parts : (result : GraphParts) → before.trees ≡ [] → result.store ≡ after → after.building ≡ None → result.header ≡ header.tree → result.places ≡ header.places → result.context ≡ header.context → result.blocks ≡ parts
          → result.footer ≡ footer → result.nodes ≡ now → result.bytes ≡ place_of new
          → result.strings ≡ header.bounds.strings → result.indexed ≡ is_some lists.index → result.types.items ≡ (if is_some lists.index then lists.names else [])
          → HasParts S (left_of left old) (left (source_of new)) result
      has_parts result none store building head places context blocks foot count bytes strings indexed types = record { file = it; says = says; is = is_file; told = told; end = at_end (bytes_of new.held) (left (source_of new)) r.end; holds = holds }
        where
          found_header : find after.trees header.tree.run.key ≡ Some (node.Group h.members)
          found_header = ap (λ trees. find trees header.tree.run.key) r.trees ∙ find_kept between.trees (block_trees parts r.blocks ++ (footer.run.key, r.footer) ∷ []) header.tree.run.key (node.Group h.members) h.found

          says_context : SaysContext header.context (file_context S E)
          says_context =
              let same = h.context in
              record {
                version = ap (λ (c : Context). c.version) same;
                user = ap (λ (c : Context). c.user) same;
                bs = ap (λ (c : Context). c.bs) same;
                order = ap (λ (c : Context). c.order) same;
              }

          sized : result.bytes ≡ size_of S it
          sized =
              let l : size_of S it ≡ length (text_of S it) = size_is_length S it (text_of S it) is_file in
              omega (arith, taken.place, first, bytes, l)

          -- there is an index where the header has one
          index_there : is_some lists.index ≡ is_some (member (codes "Block Type Index") E)
          index_there = by (member (codes "Block Type Index") E) lists.index (k.said_lists.index 0)
            where
              by : (o : Option Node) (i : Option (List ℕ)) → option_map (number_at_item false 0) o ≡ entry_of i 0 → is_some i ≡ is_some o
              by None None e = refl
              by None (Some x) e = absurd (cc)
              by (Some n) None e = absurd (cc)
              by (Some n) (Some x) e = refl

          says : SaysFile S result it
          says = record {
            header = ap (λ (s : Trees). find s.trees result.header.run.key) store ∙ ap (λ (t : TreeId). find after.trees t.run.key) head ∙ found_header;
            blocks = subst₂ (λ (s : Trees) (p : List BlockPart). SaysBlocks s p r.blocks) (sym store) (sym blocks) r.says;
            footer = ap (λ (s : Trees). find s.trees result.footer.run.key) store ∙ ap (λ (t : TreeId). find after.trees t.run.key) foot ∙ r.found;
            context = subst (λ (c : code.Context). SaysContext c (file_context S E)) (sym context) says_context;
            places = subst (λ (p : RolePlaces). ArePlaces S p) (sym places) h.places;
            nodes = count ∙ counted_all;
            bytes = sized;
            strings = strings ∙ ap (λ (c : Context). c.strings) h.context;
            indexed = indexed ∙ index_there;
            types = types ∙ ap (λ b. if b then lists.names else []) index_there
                ∙ ap (λ l. if is_some (member (codes "Block Type Index") E) then l else []) k.said_lists.names;
          }

          all_trees : after.trees ≡ (header.tree.run.key, node.Group h.members) ∷ block_trees parts r.blocks ++ (footer.run.key, r.footer) ∷ []
          all_trees = r.trees ∙ ap (λ trees. trees ++ (block_trees parts r.blocks ++ (footer.run.key, r.footer) ∷ [])) (one_tree h.trees none)

          holds : HoldsFile result it
          holds = record {
            trees = ap (λ (s : Trees). s.trees) store ∙ all_trees
                ∙ (λ i. ((sym head i).run.key, node.Group h.members) ∷ block_trees (sym blocks i) r.blocks ++ ((sym foot i).run.key, r.footer) ∷ []);
            apart = subst (λ (s : Trees). AreApart s.trees) (sym store) r.apart;
            building = ap (λ (s : Trees). s.building) store ∙ building;
          }
