-- Why a part of a file was not read, from why a step of it wasn't.
use Rattle.std.proofs.Common.{◌≡◌, ◌≢◌, ℕ, ◌+◌, ◌≤◌, Option, Some, None, List, [], ◌++◌, length, refl, sym, ◌∙◌, ap, subst, arith, length-append}
use Rattle.std.specs.Prelude.{IfSome}
use Rattle.nif_base.specs.Outside.{prepended, Rose}
use Rattle.nif_stream.specs.declared.takers.Taker.{Taker}
use Rattle.nif_stream.specs.Taking.{Takes, source_of, place_of, left_of, bytes_of}
use Rattle.nif_stream.specs.TakerLaws.{if_prepended}
use Rattle.nif_base.specs.Limits.{most_file_bytes, most_nodes}
use Rattle.nif_layout.specs.Fault.{Fault, Point, Passes}
use Rattle.nif_layout.specs.Fails.{Lifted}
use Rattle.nif_decode.specs.declared.faults.ValueFault.{ValueFault}
use Rattle.nif_decode.specs.Faults.{Cause, OfValue, cause, known}
use Rattle.nif_decode.specs.Answers.{Went, Stops, FailsThere, Stand}
use Rattle.nif_file.specs.declared.faults.FileFault.{FileFault}
use Rattle.nif_file.specs.declared.faults.FileFault.TheVariants as file
use Rattle.nif_file.specs.Stops.{Stop, of_value}
use Rattle.nif_file.specs.HeaderReading.{fault_of}
use Rattle.nif_decode.specs.WentLaws.{went_on, went_whole}
use Rattle.nif_file.specs.FaultLaws.{fault_value, fault_read}
use Rattle.nif_file_reader.specs.Halting.{Part, StopsHere, Halts}

-- these bytes, taken, lead from a point to the next one
pub passes_taken : (start now nodes count : ℕ) (bytes rest : List ℕ) → now ≡ start + length bytes → now ≤ most_file_bytes → nodes + count ≤ most_nodes
    → Passes bytes count (record { nodes = nodes; place = start; left = bytes ++ rest }) (record { nodes = nodes + count; place = now; left = rest })
passes_taken start now nodes count bytes rest place within few = record { here = refl; place = place; nodes = refl; within = within; counted = few }

module _ {S : Type 0} (left : S → Option (List ℕ)) (still : S → S → Type 0) (faults : S → ℕ) where
  -- what was told before these bytes were taken
  told_behind : (start now : Taker S) (bytes : List ℕ) (P : List ℕ → Type 0) → left_of left start ≡ prepended bytes (left_of left now) → ((rest : List ℕ) → left_of left now ≡ Some rest → P (bytes ++ rest)) → IfSome (left_of left start) P
  told_behind start now bytes P given h = if_prepended P (left_of left start) (left_of left now) bytes given (by (left_of left now) refl)
    where
      by : (o : Option (List ℕ)) → left_of left now ≡ o → IfSome o (λ rest. P (bytes ++ rest))
      by None e = tt
      by (Some rest) e = h rest e

  -- a part stops where a step of it stops, behind what was read of it
  pub halts_behind : (P Q : Part) (nodes count : ℕ) (bytes : List ℕ) (start old new : Taker S) (fault : FileFault) → Takes left still faults start bytes old → nodes + count ≤ most_nodes
      → ((total : ℕ) (at next : Point) (stop : Stop) → Passes bytes count at next → P total next stop → Q total at stop) → Halts left still faults P (nodes + count) old new fault → Halts left still faults Q nodes start new fault
  halts_behind P Q nodes count bytes start old new fault t few leads h = record {
    went = went_on left still faults start old new (went_whole left still faults start old bytes t) h.went;
    read = λ e. let rose : Rose (faults (source_of old)) (faults (source_of new)) = h.read e in omega (arith, rose, t.later);
    stops = λ r m. told_behind start old bytes Told t.given (λ rest told. there rest (subst (λ (o : Option (List ℕ)). IfSome o Next) told (h.stops r m)));
  }
    where
      Told : List ℕ → Type 0
      Told b = StopsHere Q fault (left (source_of new)) (record { nodes = nodes; place = place_of start; left = b })

      Next : List ℕ → Type 0
      Next b = StopsHere P fault (left (source_of new)) (record { nodes = nodes + count; place = place_of old; left = b })

      there : (rest : List ℕ) → Next rest → Told (bytes ++ rest)
      there rest s =
          let all : place_of start + length (bytes ++ rest) ≡ place_of old + length rest = omega (arith, t.place, length-append bytes rest) in
          let at : Point = record { nodes = nodes; place = place_of start; left = bytes ++ rest } in
          let next : Point = record { nodes = nodes + count; place = place_of old; left = rest } in
          let p : Passes bytes count at next = passes_taken (place_of start) (place_of old) nodes count bytes rest t.place t.within few in
          let stop : Stop = record { fault = fault; known = s.known } in
          let bad : P (place_of start + length (bytes ++ rest)) next stop = subst (λ n. P n next stop) (sym all) s.stops in
          record {
            known = s.known;
            stops = leads (place_of start + length (bytes ++ rest)) at next stop p bad;
            gone = subst (λ n. IfSome (left (source_of new)) (λ more. n ≤ s.known + 4096 + length more)) (sym all) s.gone;
          }

  -- one part stops where another does, at the same point
  pub halts_also : (P Q : Part) (nodes : ℕ) (old new : Taker S) (fault : FileFault) → ((total : ℕ) (at : Point) (stop : Stop) → at.nodes ≡ nodes → at.place ≡ place_of old → left_of left old ≡ Some at.left → P total at stop → Q total at stop)
      → Halts left still faults P nodes old new fault → Halts left still faults Q nodes old new fault
  halts_also P Q nodes old new fault leads h = record { went = h.went; read = h.read; stops = λ r m. by (left_of left old) refl (h.stops r m) }
    where
      by : (o : Option (List ℕ)) → left_of left old ≡ o → IfSome o (λ b. StopsHere P fault (left (source_of new)) (record { nodes = nodes; place = place_of old; left = b }))
          → IfSome o (λ b. StopsHere Q fault (left (source_of new)) (record { nodes = nodes; place = place_of old; left = b }))
      by None e s = tt
      by (Some b) e s = record {
        known = s.known;
        stops = leads (place_of old + length b) (record { nodes = nodes; place = place_of old; left = b }) (record { fault = fault; known = s.known }) refl refl e s.stops;
        gone = s.gone;
      }

  -- memory ran out
  pub halts_memory : (P : Part) (nodes : ℕ) (old new : Taker S) → Went still faults old new → Halts left still faults P nodes old new file.NoMemory
  halts_memory P nodes old new went = record { went = went; read = λ e. absurd (cc); stops = λ r m. absurd (m refl) }

  -- what was taken shows a fault
  pub halts_known : (P : Part) (nodes known : ℕ) (bytes : List ℕ) (old new : Taker S) (fault : FileFault) → Takes left still faults old bytes new → fault ≢ file.ReadFault → place_of new ≤ known
      → (fault ≢ file.NoMemory → (rest : List ℕ) → left_of left new ≡ Some rest → P (place_of old + length (bytes ++ rest)) (record { nodes = nodes; place = place_of old; left = bytes ++ rest }) (record { fault = fault; known = known }))
      → Halts left still faults P nodes old new fault
  halts_known P nodes known bytes old new fault t other far shows = record {
    went = went_whole left still faults old new bytes t;
    read = λ e. absurd (other e);
    stops = λ r m. told_behind old new bytes (λ b. StopsHere P fault (left (source_of new)) (record { nodes = nodes; place = place_of old; left = b })) t.given (there m);
  }
    where
      there : fault ≢ file.NoMemory → (rest : List ℕ) → left_of left new ≡ Some rest → StopsHere P fault (left (source_of new)) (record { nodes = nodes; place = place_of old; left = bytes ++ rest })
      there m rest told = record { known = known; stops = shows m rest told; gone = by (left (source_of new)) told }
        where
          by : (o : Option (List ℕ)) → prepended (bytes_of new.held) o ≡ Some rest → IfSome o (λ more. place_of old + length (bytes ++ rest) ≤ known + 4096 + length more)
          by None e = tt
          by (Some more) e =
              let same : bytes_of new.held ++ more ≡ rest = cc in
              let a : length rest ≡ length (bytes_of new.held) + length more = ap length (sym same) ∙ length-append (bytes_of new.held) more in
              omega (arith, t.ahead, t.place, length-append bytes rest)

  -- a value, or a part of so many bytes, was not read
  pub halts_value : (F : Point → Fault → Type 0) (nodes : ℕ) (old new : Taker S) (fault : ValueFault) → Went still faults old new
      → Stops left faults F (record { taker = old; nodes = nodes; building = None; told = [] }) new (cause fault) → Halts left still faults (λ total. Lifted (of_value total) F) nodes old new (fault_of fault)
  halts_value F nodes old new fault went stops = record {
    went = went;
    read = λ e. subst (λ (c : Cause). Stops left faults F stand new c) (fault_read fault e) stops;
    stops = λ r m. shown (fault_value fault r m);
  }
    where
      stand : Stand S
      stand = record { taker = old; nodes = nodes; building = None; told = [] }

      shown : ((v : Fault) × (cause fault ≡ OfValue v) × ((total : ℕ) → of_value total v ≡ record { fault = fault_of fault; known = known total v }))
          → IfSome (left_of left old) (λ b. StopsHere (λ total. Lifted (of_value total) F) (fault_of fault) (left (source_of new)) (record { nodes = nodes; place = place_of old; left = b }))
      shown w = by (left_of left old) (subst (λ (c : Cause). Stops left faults F stand new c) w.1 stops)
        where
          by : (o : Option (List ℕ)) → IfSome o (λ b. FailsThere F w.0 (left (source_of new)) (record { nodes = nodes; place = place_of old; left = b }))
              → IfSome o (λ b. StopsHere (λ total. Lifted (of_value total) F) (fault_of fault) (left (source_of new)) (record { nodes = nodes; place = place_of old; left = b }))
          by None s = tt
          by (Some b) s = record { known = known (place_of old + length b) w.0; stops = (w.0, sym (w.2 (place_of old + length b)), s.fails); gone = s.gone }
