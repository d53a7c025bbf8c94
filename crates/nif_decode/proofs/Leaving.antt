-- How leaves are read.
use Rattle.std.proofs.Common.{◌≡◌, ◌≢◌, ℕ, ◌+◌, ◌^◌, ◌<◌, ◌≤◌, inl, inr, Bool, false, List, ◌++◌, length, Option, Some, None, refl, sym, ap, ◌∙◌, subst, arith, length-append, eqb, ne_eqb, ltb, le-ltb}
use Rattle.std.specs.Prelude.{IfSome, IsSome}
use Rattle.nif_base.specs.Outside.{prepended}
use Rattle.nif_base.specs.Reading.{TakesAtMost}
use Rattle.nif_base.specs.Node.{Node, text, nodes, number}
use Rattle.nif_base.specs.declared.orders.Order.{Order}
use Rattle.nif_stream.specs.declared.takers.Taker.{Taker}
use Rattle.nif_stream.specs.Taking.{source_of, place_of, left_of, ahead_of, bytes_of, KeepsStill}
use Rattle.nif_stream.specs.Taking as takes
use Rattle.nif_stream.specs.Taking.{Takes}
use Rattle.nif_value.specs.Trees as trees
use Rattle.nif_stream.specs.TakerLaws.{takes_most, keeps_same}
use Rattle.nif_layout.specs.Fault as plain
use Rattle.nif_base.specs.Limits.{most_nodes, most_file_bytes}
use Rattle.nif_layout.specs.Fault.{Fault, Point, Passes, one_more}
use Rattle.nif_layout.specs.LeafFault.{shortage, number_at, range_fault, or_else}
use Rattle.nif_layout.specs.ByteLaws.{number_again}
use Rattle.nif_layout.specs.RoomLaws.{shortage_tests}
use Rattle.nif_layout.specs.ByteLaws.{length_number}
use Rattle.nif_layout.specs.Fails.{Counted}
use Rattle.nif_cells.specs.Building.{placed, TakesNode}
use Rattle.nif_value.specs.Trees.{after}
use Rattle.nif_scope.specs.declared.entries.Entry.{Entry}
use Rattle.nif_decode.specs.Faults.{Cause, OfValue, OfRead, OfMemory, IsGone, known}
use Rattle.nif_decode.specs.Answers.{Stand, Went, Ends, Stops, FailsThere, IsReady, HasRoom, Goes, ReadsNode, Ceases, point}
use Rattle.nif_decode.proofs.Rooms.{room_takes, text_length}

-- nothing was taken
pub went_same : {S : Type 0} (still : S → S → Type 0) (faults : S → ℕ) (taker : Taker S) → Went still faults taker taker
went_same still faults taker = record { same_reference = refl; keeps = keeps_same still taker taker refl; later = omega arith }

pub went_takes : {S : Type 0} (left : S → Option (List ℕ)) (still : S → S → Type 0) (faults : S → ℕ) (bytes : List ℕ) (old new : Taker S) → Takes left still faults old bytes new → Went still faults old new
went_takes left still faults bytes old new t = record { same_reference = t.same_reference; keeps = t.keeps; later = t.later }

pub some_building : {S : Type 0} (at : Stand S) (more : ℕ) → HasRoom at more → IsSome at.building
some_building at more r = subst (λ o. IsSome o) (sym r.is) refl

-- a cause for one that fails is a cause for another that fails wherever it does
pub stops_map : {S : Type 0} (left : S → Option (List ℕ)) (faults : S → ℕ) (F G : Point → Fault → Type 0) (old : Stand S) (new : Taker S) (why : Cause)
    → ((bytes : List ℕ) (f : Fault) → F (point old bytes) f → G (point old bytes) f) → Stops left faults F old new why → Stops left faults G old new why
stops_map {S = S} left faults F G old new (OfValue f) h s = by (left_of left old.taker) s
  where
    by : (o : Option (List ℕ)) → IfSome o (λ bytes. FailsThere F f (left (source_of new)) (point old bytes)) → IfSome o (λ bytes. FailsThere G f (left (source_of new)) (point old bytes))
    by None s = tt
    by (Some bytes) s = record { fails = h bytes f s.fails; gone = s.gone }
stops_map left faults F G old new OfRead h s = s
stops_map left faults F G old new OfMemory h s = tt

-- a fault at the place of the taker, before anything is taken
pub stops_here : {S : Type 0} (left : S → Option (List ℕ)) (faults : S → ℕ) (F : Point → Fault → Type 0) (old : Stand S) (fault : Fault) → ahead_of old.taker ≤ 4096
    → ((total : ℕ) → known total fault ≡ place_of old.taker) → ((bytes : List ℕ) → F (point old bytes) fault) → Stops left faults F old old.taker (OfValue fault)
stops_here {S = S} left faults F old fault a k h =
    by (left_of left old.taker) (takes_most 4096 (left_of left old.taker) (left (source_of old.taker)) (bytes_of old.taker.held) refl a)
  where
    gone : (bytes : List ℕ) (rest : Option (List ℕ)) → IfSome rest (λ r. length bytes ≤ 4096 + length r) → IsGone (place_of old.taker + length bytes) fault rest
    gone bytes None t = tt
    gone bytes (Some r) t = omega (arith, t, k (place_of old.taker + length bytes))

    by : (o : Option (List ℕ)) → TakesAtMost 4096 o (left (source_of old.taker)) → IfSome o (λ bytes. FailsThere F fault (left (source_of old.taker)) (point old bytes))
    by None t = tt
    by (Some bytes) t = record { fails = h bytes; gone = gone bytes (left (source_of old.taker)) t }

-- there are too many nodes
pub full_ceases : {S : Type 0} (left : S → Option (List ℕ)) (still : S → S → Type 0) (faults : S → ℕ) (Rest : Point → Fault → Type 0) (old new : Stand S) (more : ℕ)
    → IsReady old more → new.taker ≡ old.taker → new.building ≡ old.building → most_nodes ≤ old.nodes
    → Ceases left still faults (Counted (λ f. f) Rest) old new (OfValue (plain.TooManyNodes (place_of old.taker)))
full_ceases {S = S} left still faults Rest old new more ready st sb full = record {
  went = subst (λ t. Went still faults old.taker t) (sym st) (went_same still faults old.taker);
  building = subst (λ o. IsSome o) (sym sb) (some_building old more ready.room);
  stops = subst (λ t. Stops left faults (Counted (λ f. f) Rest) old t (OfValue (plain.TooManyNodes (place_of old.taker)))) (sym st)
      (stops_here left faults (Counted (λ f. f) Rest) old (plain.TooManyNodes (place_of old.taker)) ready.taker.ahead (λ total. refl) (λ bytes. inl (full, refl)));
}

-- what a taker answers behind the count of a node
pub ends_ceases : {S : Type 0} (left : S → Option (List ℕ)) (still : S → S → Type 0) (faults : S → ℕ) (expected : Point → Option Fault) (Rest : Point → Fault → Type 0) (old new : Stand S) (why : Cause)
    → old.nodes < most_nodes → IsSome new.building → ((p : Point) (f : Fault) → expected p ≡ Some f → Rest p f)
    → Ends left still faults expected old.taker new.taker why → Ceases left still faults (Counted (λ f. f) Rest) old new why
ends_ceases {S = S} left still faults expected Rest old new why room b same e = record {
  went = e.went;
  building = b;
  stops = by why (e.stops (old.nodes + 1) old.building old.told);
}
  where
    told : (o : Option (List ℕ)) (f : Fault)
        → IfSome o (λ bytes. FailsThere (λ p w. expected p ≡ Some w) f (left (source_of new.taker)) (record { nodes = old.nodes + 1; place = place_of old.taker; left = bytes }))
        → IfSome o (λ bytes. FailsThere (Counted (λ f. f) Rest) f (left (source_of new.taker)) (point old bytes))
    told None f s = tt
    told (Some bytes) f s = record { fails = inr (room, same (record { nodes = old.nodes + 1; place = place_of old.taker; left = bytes }) f s.fails); gone = s.gone }

    by : (w : Cause) → Stops left faults (λ p f. expected p ≡ Some f) (record { taker = old.taker; nodes = old.nodes + 1; building = old.building; told = old.told }) new.taker w
        → Stops left faults (Counted (λ f. f) Rest) old new.taker w
    by (OfValue f) s = told (left_of left old.taker) f s
    by OfRead s = s
    by OfMemory s = tt

-- want of memory
pub memory_ceases : {S : Type 0} (left : S → Option (List ℕ)) (still : S → S → Type 0) (faults : S → ℕ) (F : Point → Fault → Type 0) (old new : Stand S)
    → Went still faults old.taker new.taker → IsSome new.building → Ceases left still faults F old new OfMemory
memory_ceases left still faults F old new w b = record { went = w; building = b; stops = tt }

-- bytes of a node were taken behind its count
pub goes_one : {S : Type 0} (left : S → Option (List ℕ)) (still : S → S → Type 0) (faults : S → ℕ) (bytes : List ℕ) (old new : Stand S)
    → old.nodes < most_nodes → new.nodes ≡ old.nodes + 1 → Takes left still faults old.taker bytes new.taker → Goes left still faults bytes 1 old new
goes_one left still faults bytes old new room n t = record { takes = t; nodes = n; counted = omega arith }

-- the text that was taken has its place
pub taken_takes : {S : Type 0} (left : S → Option (List ℕ)) (still : S → S → Type 0) (faults : S → ℕ) (order : Order) (node : Node) (at : Stand S) (new : Taker S) (more : ℕ)
    → HasRoom at more → at.nodes < most_nodes → nodes node ≡ 1 → takes.Takes left still faults at.taker (text order node) new → trees.Takes at.building TakesNode (placed node)
taken_takes left still faults order node at new more room n one t =
    room_takes at more node room (omega (arith, n, one)) (omega (arith, t.place, t.within, text_length order node))

-- a leaf was read
pub leaf_reads : {S : Type 0} (left : S → Option (List ℕ)) (still : S → S → Type 0) (faults : S → ℕ) (order : Order) (IsIt : Node → Type 0) (keeps : Node → List Entry) (node : Node) (old new : Stand S)
    → IsIt node → old.nodes < most_nodes → new.nodes ≡ old.nodes + 1 → nodes node ≡ 1 → takes.Takes left still faults old.taker (text order node) new.taker
    → (new.building ≡ after old.building (placed node)) × (new.told ≡ old.told ++ keeps node) → ReadsNode left still faults order IsIt keeps old new
leaf_reads left still faults order IsIt keeps node old new is room n one t a = record {
  node = node;
  is = is;
  goes = record { takes = t; nodes = omega (arith, n, one); counted = omega arith };
  built = a.0;
  told = a.1;
}

range_none : (most v : ℕ) (fault : Fault) → v ≢ 0xFFFFFFFF → most ≤ v → range_fault most v fault ≡ Some fault
range_none most v fault ne le =
    let a : eqb v 0xFFFFFFFF ≡ false = ne_eqb v 0xFFFFFFFF ne in
    let b : ltb v most ≡ false = le-ltb v most le in
    rw (a, b) refl

abbrev pub range_ends : Bool → ℕ → (ℕ → ℕ → Fault) → Point → Option Fault
range_ends little most mk p = or_else (shortage 4 p) (range_fault most (number_at little 4 p.left) (mk p.place (number_at little 4 p.left)))

-- a number that was taken is out of range
pub range_ceases : {S : Type 0} (left : S → Option (List ℕ)) (still : S → S → Type 0) (faults : S → ℕ) (little : Bool) (most v : ℕ) (mk : ℕ → ℕ → Fault) (Rest : Point → Fault → Type 0) (old new : Stand S)
    → old.nodes < most_nodes → IsSome new.building → ((total place : ℕ) → known total (mk place v) ≡ place + 4)
    → ((p : Point) (f : Fault) → range_ends little most mk p ≡ Some f → Rest p f)
    → takes.Takes left still faults old.taker (number little 4 v) new.taker → v < 256 ^ 4 → v ≢ 0xFFFFFFFF → most ≤ v
    → Ceases left still faults (Counted (λ f. f) Rest) old new (OfValue (mk (place_of old.taker) v))
range_ceases {S = S} left still faults little most v mk Rest old new room b k same t small ne le = record {
  went = went_takes left still faults (number little 4 v) old.taker new.taker t;
  building = b;
  stops = subst (λ o. IfSome o (λ bytes. FailsThere (Counted (λ f. f) Rest) (mk (place_of old.taker) v) (left (source_of new.taker)) (point old bytes))) (sym t.given) (by (left (source_of new.taker)));
}
  where
    x : List ℕ
    x = number little 4 v

    long : length x ≡ 4
    long = length_number little 4 v

    there : (rest : List ℕ) → range_ends little most mk (record { nodes = old.nodes + 1; place = place_of old.taker; left = x ++ rest }) ≡ Some (mk (place_of old.taker) v)
    there rest =
        let p : Point = record { nodes = old.nodes + 1; place = place_of old.taker; left = x ++ rest } in
        let enough : 4 ≤ length (x ++ rest) = omega (arith, length-append x rest, long) in
        let within : place_of old.taker + 4 ≤ most_file_bytes = omega (arith, t.place, t.within, long) in
        let none : shortage 4 p ≡ None = shortage_tests 4 p within enough in
        let is : number_at little 4 (x ++ rest) ≡ v = number_again little 4 v rest small in
        ap (λ o. or_else o (range_fault most (number_at little 4 p.left) (mk p.place (number_at little 4 p.left)))) none
        ∙ ap (λ w. range_fault most w (mk p.place w)) is ∙ range_none most v (mk p.place v) ne le

    by : (q : Option (List ℕ)) → IfSome (prepended x (prepended (bytes_of new.taker.held) q)) (λ bytes. FailsThere (Counted (λ f. f) Rest) (mk (place_of old.taker) v) q (point old bytes))
    by None = tt
    by (Some r) = record {
      fails = inr (room, same (record { nodes = old.nodes + 1; place = place_of old.taker; left = x ++ (bytes_of new.taker.held ++ r) }) (mk (place_of old.taker) v) (there (bytes_of new.taker.held ++ r)));
      gone = omega (arith, k (place_of old.taker + length (x ++ (bytes_of new.taker.held ++ r))) (place_of old.taker), long, length-append x (bytes_of new.taker.held ++ r), length-append (bytes_of new.taker.held) r, t.ahead);
    }

pub first_ends : (first second : Option Fault) (f : Fault) → first ≡ Some f → or_else first second ≡ Some f
first_ends first second f h = ap (λ o. or_else o second) h
