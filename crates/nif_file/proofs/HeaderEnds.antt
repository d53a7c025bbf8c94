-- Why a header is not read, from the answers of single calls.
use Rattle.std.proofs.Common.{◌≡◌, ◌≢◌, ℕ, ◌+◌, ◌≤◌, inl, inr, Option, Some, None, List, [], ◌∷◌, ◌++◌, drop, length, refl, sym, ◌∙◌, ap, subst, arith, append-nil, append_assoc, length-append, lit≤}
use Rattle.std.specs.Prelude.{IfSome, slice_get}
use Rattle.nif_base.specs.Node.{Node, Members, End, text, texts, nodes_in}
use Rattle.nif_base.specs.declared.orders.Order.{Order}
use Rattle.nif_base.specs.Outside.{prepended, Rose}
use Rattle.nif_schema.specs.Declaration.{Field}
use Rattle.nif_schema.specs.Schema.{Schema}
use Rattle.nif_layout.specs.Earlier.{Env, behind}
use Rattle.nif_base.specs.Limits.{most_file_bytes, most_nodes}
use Rattle.nif_layout.specs.Fault.{Fault, Point, Passes}
use Rattle.nif_layout.specs.Fails.{LineFails}
use Rattle.nif_stream.specs.declared.takers.Taker.{Taker}
use Rattle.nif_stream.specs.Taking.{Takes, source_of, place_of, left_of, bytes_of}
use Rattle.nif_stream.specs.TakerLaws.{if_prepended}
use Rattle.nif_decode.specs.declared.faults.ValueFault.{ValueFault}
use Rattle.nif_decode.specs.Answers.{Went, Stops, FailsThere, Stand}
use Rattle.nif_decode.specs.WentLaws.{went_on, went_whole}
use Rattle.nif_decode.specs.Faults.{Cause, OfValue, cause, known}
use Rattle.nif_file.specs.declared.faults.FileFault.TheVariants as file
use Rattle.nif_file.specs.Stops.{Stop, of_value}
use Rattle.nif_file.specs.Sizes.{size_of_fields}
use Rattle.nif_file.specs.Head.{header_context}
use Rattle.nif_file.specs.Checks.{header_check, types_fault}
use Rattle.nif_file.specs.Files.{header_line, head_of}
use Rattle.nif_file.specs.FileFails.{HeaderReads, HeaderFails, start_of}
use Rattle.nif_file.specs.HeaderParts.{with_members, MemberReads, PartReads}
use Rattle.nif_file.specs.Heads.{IsNext, IsPart}
use Rattle.nif_file.specs.HeaderReading.{StopsThere, HasNoHeader, fault_of}
use Rattle.nif_file.proofs.HeaderSteps.{part_whole}
use Rattle.nif_file.specs.LengthLaws.{length_text}
use Rattle.nif_file.proofs.FieldPlaces.{drop_past}
use Rattle.nif_file.proofs.MemberReading.{part_stops, passes_more, member_reads, member_refused, point_at}
use Rattle.nif_file.specs.FaultLaws.{fault_read, fault_value}

-- ---- a fault of a value as one of a file

-- ---- the source

module _ {S : Type 0} (left : S → Option (List ℕ)) (still : S → S → Type 0) (faults : S → ℕ) where
  rose_later : (a b c : ℕ) → a ≤ b → Rose b c → Rose a c
  rose_later a b c below rose = omega arith

  -- how much is gone from the source behind what was taken
  pub gone_taken : (now : Taker S) (taken rest : List ℕ) (known : ℕ) → length (bytes_of now.held) ≤ 4096 → left_of left now ≡ Some rest → length taken ≤ known
      → IfSome (left (source_of now)) (λ more. length (taken ++ rest) ≤ known + 4096 + length more)
  gone_taken now taken rest known few told below = by (left (source_of now)) told
    where
      by : (o : Option (List ℕ)) → prepended (bytes_of now.held) o ≡ Some rest → IfSome o (λ more. length (taken ++ rest) ≤ known + 4096 + length more)
      by None e = tt
      by (Some more) e =
          let same : bytes_of now.held ++ more ≡ rest = cc in
          let l : length (bytes_of now.held ++ more) ≡ length (bytes_of now.held) + length more = length-append (bytes_of now.held) more in
          let a : length rest ≡ length (bytes_of now.held) + length more = ap length (sym same) ∙ l in
          let b : length (taken ++ rest) ≡ length taken + length rest = length-append taken rest in
          omega arith

  -- what was told at the start
  told_from : (start now : Taker S) (bytes : List ℕ) (P : List ℕ → Type 0) → left_of left start ≡ prepended bytes (left_of left now) → ((rest : List ℕ) → left_of left now ≡ Some rest → P (bytes ++ rest)) → IfSome (left_of left start) P
  told_from start now bytes P given h = if_prepended P (left_of left start) (left_of left now) bytes given (by (left_of left now) refl)
    where
      by : (o : Option (List ℕ)) → left_of left now ≡ o → IfSome o (λ rest. P (bytes ++ rest))
      by None e = tt
      by (Some rest) e = h rest e

  -- ---- a member fails

  module _ (schema : Schema) where
    -- a reader of a value failed behind a part of the header
    pub value_ends : (F : Point → Fault → Type 0) (k : ℕ) (held : Members) (bytes : List ℕ) (counted : ℕ) (f : Field) (start old new : Taker S) (vf : ValueFault)
        → ((total : ℕ) (at : Point) (v : Fault) → F at v → LineFails schema (header_context schema) 63 None 0 (of_value total) (header_check schema) (f ∷ drop (k + 1) (header_line schema)) (head_of schema held) at (of_value total v))
        → IsPart schema k held bytes counted → slice_get (header_line schema) k ≡ Some f → Went still faults start old → place_of old ≡ length bytes
        → left_of left start ≡ prepended bytes (left_of left old) → Went still faults old new → Stops left faults F (record { taker = old; nodes = counted; building = None; told = [] }) new (cause vf) → HasNoHeader left still faults schema start new (fault_of vf)
    value_ends F k held bytes counted f start old new vf fails part at before place given went stops = record {
      went = went_on left still faults start old new before went;
      read = λ e.
          let rose : Rose (faults (source_of old)) (faults (source_of new)) = subst (λ (c : Cause). Stops left faults F stand new c) (fault_read vf e) stops in
          rose_later (faults (source_of start)) (faults (source_of old)) (faults (source_of new)) before.later rose;
      stops = λ r m. shown (fault_value vf r m);
    }
      where
        stand : Stand S
        stand = record { taker = old; nodes = counted; building = None; told = [] }

        shown : ((v : Fault) × (cause vf ≡ OfValue v) × ((total : ℕ) → of_value total v ≡ record { fault = fault_of vf; known = known total v })) → IfSome (left_of left start) (StopsThere schema (fault_of vf) (left (source_of new)))
        shown w = told_from start old bytes (StopsThere schema (fault_of vf) (left (source_of new))) given there
          where
            v : Fault
            v = w.0

            moved : IfSome (left_of left old) (λ b. FailsThere F v (left (source_of new)) (record { nodes = counted; place = place_of old; left = b }))
            moved = subst (λ (c : Cause). Stops left faults F stand new c) w.1 stops

            gone_here : (total : ℕ) (o : Option (List ℕ)) → IfSome o (λ more. place_of old + total ≤ known (place_of old + total) v + 4096 + length more) → (all : ℕ) → all ≡ place_of old + total
                → IfSome o (λ more. all ≤ known all v + 4096 + length more)
            gone_here total o h all e = subst (λ (n : ℕ). IfSome o (λ more. n ≤ known n v + 4096 + length more)) (sym e) h

            there : (rest : List ℕ) → left_of left old ≡ Some rest → StopsThere schema (fault_of vf) (left (source_of new)) (bytes ++ rest)
            there rest told =
                let here : FailsThere F v (left (source_of new)) (record { nodes = counted; place = place_of old; left = rest }) = subst (λ (o : Option (List ℕ)). IfSome o (λ b. FailsThere F v (left (source_of new)) (record { nodes = counted; place = place_of old; left = b }))) told moved in
                let total = length (bytes ++ rest) in
                let all : total ≡ place_of old + length rest = length-append bytes rest ∙ ap (λ n. n + length rest) (sym place) in
                let bad : F (point_at schema counted bytes rest) v = subst (λ (n : ℕ). F (record { nodes = counted; place = n; left = rest }) v) place here.fails in
                let stop : HeaderFails schema total (start_of (bytes ++ rest)) (of_value total v) = part_stops schema k held bytes rest counted f (of_value total v) part at (fails total (point_at schema counted bytes rest) v bad) in
                record {
                  known = known total v;
                  stops = inl (subst (λ (s : Stop). HeaderFails schema total (start_of (bytes ++ rest)) s) (w.2 total) stop);
                  gone = gone_here (length rest) (left (source_of new)) here.gone total all;
                }

    -- memory ran out
    pub memory_ends : (start now : Taker S) → Went still faults start now → HasNoHeader left still faults schema start now file.NoMemory
    memory_ends start now went = record { went = went; read = λ e. absurd (cc); stops = λ r m. absurd (m refl) }

    -- a member was read, and is refused
    pub check_ends : (k : ℕ) (held : Members) (bytes more : List ℕ) (counted now_counted : ℕ) (f : Field) (got : Option Node) (stop : Stop) (start now : Taker S)
        → IsPart schema k held bytes counted → slice_get (header_line schema) k ≡ Some f → IsNext schema (head_of schema held) f got
        → more ≡ texts (header_context schema (head_of schema held)).order (with_members (got ∷ []) End) → now_counted ≡ counted + nodes_in (with_members (got ∷ []) End) → now_counted ≤ most_nodes
        → header_check schema (head_of schema held) f got ≡ Some stop → stop.fault ≢ file.ReadFault → length (bytes ++ more) ≤ stop.known → place_of start ≡ 0 → Takes left still faults start (bytes ++ more) now
        → HasNoHeader left still faults schema start now stop.fault
    check_ends k held bytes more counted now_counted f got stop start now part at next text count few refused other below first takes = record {
      went = went_whole left still faults start now (bytes ++ more) takes;
      read = λ e. absurd (other e);
      stops = λ r m. told_from start now (bytes ++ more) (StopsThere schema stop.fault (left (source_of now))) takes.given there;
    }
      where
        one : Members
        one = with_members (got ∷ []) End

        there : (rest : List ℕ) → left_of left now ≡ Some rest → StopsThere schema stop.fault (left (source_of now)) ((bytes ++ more) ++ rest)
        there rest told =
            let whole : place_of now ≡ length (bytes ++ more) = omega (arith, takes.place) in
            let within : place_of now ≤ most_file_bytes = takes.within in
            let l : length (bytes ++ more) ≡ length bytes + length more = length-append bytes more in
            let most : counted + nodes_in one ≤ most_nodes = omega arith in
            let passes = passes_more schema bytes more counted (nodes_in one) rest (omega arith) most in
            let reads : MemberReads schema (head_of schema held) f got (point_at schema counted bytes (more ++ rest)) (point_at schema (counted + nodes_in one) (bytes ++ more) rest) =
            member_reads schema (head_of schema held) f got (point_at schema counted bytes (more ++ rest)) (point_at schema (counted + nodes_in one) (bytes ++ more) rest) next
            (subst (λ (t : List ℕ). Passes t (nodes_in one) (point_at schema counted bytes (more ++ rest)) (point_at schema (counted + nodes_in one) (bytes ++ more) rest)) text passes) in
            let total = length (bytes ++ (more ++ rest)) in
            let bad = member_refused schema total f (drop (k + 1) (header_line schema)) (head_of schema held) got (point_at schema counted bytes (more ++ rest)) (point_at schema (counted + nodes_in one) (bytes ++ more) rest) stop reads refused in
            let stops : HeaderFails schema total (start_of (bytes ++ (more ++ rest))) stop = part_stops schema k held bytes (more ++ rest) counted f stop part at bad in
            let P : List ℕ → Type 0 = λ all. HeaderFails schema (length all) (start_of all) stop in
            record {
              known = stop.known;
              stops = inl (subst P (sym (append_assoc bytes more rest)) stops);
              gone = gone_taken now (bytes ++ more) rest stop.known takes.ahead told below;
            }

    -- ---- how many bytes

    one_size : (E : Env) (f : Field) (got : Option Node) (order : Order) → size_of_fields (behind f got E) ≡ size_of_fields E + length (texts order (with_members (got ∷ []) End))
    one_size E f None order = omega arith
    one_size E f (Some value) order = omega (arith, length_text order value, ap length (append-nil (text order value)))

    reads_size : (E : Env) (f : Field) (got : Option Node) (at next : Point) → MemberReads schema E f got at next → at.place ≡ size_of_fields E → next.place ≡ size_of_fields (behind f got E)
    reads_size E f None at next m place = omega (arith, ap (λ (p : Point). p.place) m.2, place)
    reads_size E f (Some value) at next m place = omega (arith, m.2.place, place, length_text (header_context schema E).order value)

    parts_size : (gots : List (Option Node)) (fields : List Field) (E : Env) (at : Point) (fs : List Field) (E' : Env) (next : Point) → PartReads schema gots fields E at fs E' next → at.place ≡ size_of_fields E
        → next.place ≡ size_of_fields E'
    parts_size [] fields E at fs E' next r place = ap (λ (p : Point). p.place) r.2 ∙ place ∙ ap size_of_fields (sym r.1)
    parts_size (got ∷ gots) [] E at fs E' next r place = absurd r
    parts_size (got ∷ gots) (f ∷ fields) E at fs E' next r place = parts_size gots fields (behind f got E) r.0 fs E' next r.3 (reads_size E f got at r.0 r.1 place)

    -- those of a part
    pub part_size : (k : ℕ) (held : Members) (bytes : List ℕ) (counted : ℕ) → IsPart schema k held bytes counted → length bytes ≡ size_of_fields (head_of schema held)
    part_size k held bytes counted part = parts_size part.gots (header_line schema) [] (start_of (bytes ++ [])) (drop k (header_line schema)) (head_of schema held) (point_at schema counted bytes []) (part.reads []) refl

    -- and with one member more
    pub next_size : (k : ℕ) (held : Members) (bytes more : List ℕ) (counted : ℕ) (f : Field) (got : Option Node) → IsPart schema k held bytes counted
        → more ≡ texts (header_context schema (head_of schema held)).order (with_members (got ∷ []) End) → length (bytes ++ more) ≡ size_of_fields (behind f got (head_of schema held))
    next_size k held bytes more counted f got part text =
        omega (arith, length-append bytes more, part_size k held bytes counted part, ap length text, one_size (head_of schema held) f got (header_context schema (head_of schema held)).order)

    -- ---- the whole header

    -- all members were read
    pub whole_reads : (held : Members) (bytes : List ℕ) (counted : ℕ) (rest : List ℕ) → IsPart schema (length (header_line schema)) held bytes counted
        → HeaderReads schema held (start_of (bytes ++ rest)) (point_at schema counted bytes rest)
    whole_reads held bytes counted rest part =
        let none : drop (length (header_line schema)) (header_line schema) ≡ [] = drop_past (header_line schema) (length (header_line schema)) (omega arith) in
        let start = start_of (bytes ++ rest) in
        let next = point_at schema counted bytes rest in
        let reads : PartReads schema part.gots (header_line schema) [] start [] (head_of schema held) next =
        subst (λ (fs : List Field). PartReads schema part.gots (header_line schema) [] start fs (head_of schema held) next) none (part.reads rest) in
        let whole = part_whole schema part.gots (header_line schema) [] start (head_of schema held) next (lit≤ tt) (lit≤ tt) reads in
        let P : Members → Type 0 = λ m. HeaderReads schema m start next in
        subst P (sym part.is) (whole.0, whole.1)

    -- the list of types is missing
    pub types_end : (held : Members) (bytes : List ℕ) (counted : ℕ) (start now : Taker S) (stop : Stop) → IsPart schema (length (header_line schema)) held bytes counted → types_fault (head_of schema held) ≡ Some stop
        → stop.fault ≢ file.ReadFault → length bytes ≤ stop.known → place_of start ≡ 0 → Takes left still faults start bytes now → HasNoHeader left still faults schema start now stop.fault
    types_end held bytes counted start now stop part missing other below first takes = record {
      went = went_whole left still faults start now bytes takes;
      read = λ e. absurd (other e);
      stops = λ r m. told_from start now bytes (StopsThere schema stop.fault (left (source_of now))) takes.given there;
    }
      where
        there : (rest : List ℕ) → left_of left now ≡ Some rest → StopsThere schema stop.fault (left (source_of now)) (bytes ++ rest)
        there rest told = record {
          known = stop.known;
          stops = inr (held, point_at schema counted bytes rest, whole_reads held bytes counted rest part, missing);
          gone = gone_taken now bytes rest stop.known takes.ahead told below;
        }
