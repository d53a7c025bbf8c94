-- A line as the first member of a group.
use Rattle.std.proofs.Common.{◌≡◌, ℕ, ◌+◌, ◌≤◌, ◌<◌, List, [], ◌∷◌, ◌++◌, take, Option, Some, None, refl, sym, ap, ◌∙◌, subst, arith}
use Rattle.std.specs.Prelude.{IsSome}
use Rattle.nif_base.specs.Node as node
use Rattle.nif_stream.specs.declared.takers.Taker.{Taker}
use Rattle.nif_stream.specs.Taking.{Takes}
use Rattle.nif_stream.specs.TakerLaws.{takes_joined}
use Rattle.nif_layout.specs.Kind as kind
use Rattle.nif_layout.specs.Leaf.{AreInLine}
use Rattle.nif_base.specs.Limits.{most_nodes}
use Rattle.nif_layout.specs.Fault.{Fault, Point}
use Rattle.nif_layout.specs.Fails.{LeafFails}
use Rattle.nif_cells.specs.Building.{Building, InGroup, placed}
use Rattle.nif_value.specs.Trees.{after}
use Rattle.nif_scope.specs.declared.entries.Entry.{Entry}
use Rattle.nif_scope.specs.declared.entries.Entry.TheVariants as entry
use Rattle.nif_decode.specs.declared.faults.ValueFault.{ValueFault}
use Rattle.nif_decode.specs.Faults.{Cause, OfValue, OfRead, OfMemory, cause}
use Rattle.nif_decode.specs.Answers.{Stand, Ends, Stops, IsReady, Ceases}
use Rattle.nif_decode.specs.Lines.{LineRead, LineRefused, LineStops}
use Rattle.nif_decode.proofs.Nothing.{nothing_stops}
use Rattle.nif_decode.proofs.Rows.{went_joined, stops_behind}
use Rattle.nif_decode.proofs.Steps.{start}

-- what a cause says doesn't rest on the tree that is being built, and not on what is kept
pub stops_alike : {S : Type 0} (left : S → Option (List ℕ)) (faults : S → ℕ) (F : Point → Fault → Type 0) (old new : Taker S) (n : ℕ) (b c : Option Building) (t u : List Entry) (why : Cause)
    → Stops left faults F (record { taker = old; nodes = n; building = b; told = t }) new why → Stops left faults F (record { taker = old; nodes = n; building = c; told = u }) new why
stops_alike left faults F old new n b c t u (OfValue f) s = s
stops_alike left faults F old new n b c t u OfRead s = s
stops_alike left faults F old new n b c t u OfMemory s = s

-- what ceases behind no bytes and no nodes
pub ceases_behind : {S : Type 0} (left : S → Option (List ℕ)) (still : S → S → Type 0) (faults : S → ℕ) (F : Point → Fault → Type 0) (old mid new : Stand S) (why : Cause)
    → Takes left still faults old.taker [] mid.taker → mid.nodes ≡ old.nodes → old.nodes ≤ most_nodes → Ceases left still faults F mid new why → Ceases left still faults F old new why
ceases_behind left still faults F old mid new why t n most c = record {
  went = went_joined left still faults [] old.taker mid.taker new.taker t c.went;
  building = c.building;
  stops = stops_behind left still faults F F [] 0 old mid new.taker why (record { takes = t; nodes = omega (arith, n); counted = omega (arith, n, most) })
      (λ p q f passes h. subst (λ x. F x f) (start p q passes) h) c.stops;
}

-- nothing was taken
pub ceases_early : {S : Type 0} (left : S → Option (List ℕ)) (still : S → S → Type 0) (faults : S → ℕ) (F : Point → Fault → Type 0) (old new : Stand S) (why : Cause)
    → IsSome new.building → Ends left still faults (λ p. None) old.taker new.taker why → Ceases left still faults F old new why
ceases_early left still faults F old new why b e = record { went = e.went; building = b; stops = nothing_stops left still faults F old new.taker why e }

-- a group that is empty takes a line
pub first_ready : {S : Type 0} (left : S → Option (List ℕ)) (still : S → S → Type 0) (faults : S → ℕ) (old : Taker S) (at : Stand S)
    → Takes left still faults old [] at.taker → 1 ≤ at.nodes → at.nodes ≤ most_nodes → at.building ≡ Some (record { top = None; levels = InGroup node.End ∷ [] }) → IsReady at 0
first_ready left still faults old at t some most b = record {
  taker = record { sound = t.sound; ahead = t.ahead; within = t.within };
  counted = most;
  room = record {
    tree = record { top = None; levels = InGroup node.End ∷ [] };
    is = b;
    takes = tt;
    nodes = omega (arith, some);
    bytes = omega arith;
    levels = omega arith;
  };
}

pub some_group : (building : Option Building) → building ≡ Some (record { top = None; levels = InGroup node.End ∷ [] }) → IsSome building
some_group building e = subst (λ o. IsSome o) (sym e) refl

-- the line was read
pub line_read : {S : Type 0} (left : S → Option (List ℕ)) (still : S → S → Type 0) (faults : S → ℕ) (old mid new : Stand S) (into bytes : List ℕ) (n : ℕ)
    → bytes ≡ take n into → n ≤ 255 → AreInLine bytes → Takes left still faults old.taker [] mid.taker → Takes left still faults mid.taker (take n into ++ 10 ∷ []) new.taker
    → old.nodes < most_nodes → new.nodes ≡ old.nodes + 1 → old.building ≡ Some (record { top = None; levels = InGroup node.End ∷ [] }) → old.told ≡ []
    → (new.building ≡ after old.building (placed (node.Line bytes))) × (new.told ≡ old.told ++ entry.Nothing ∷ [])
    → LineRead left still faults old.taker new.taker old.nodes new.nodes into new.told new.building n
line_read left still faults old mid new into bytes n same bound are z t room nodes b none a = record {
  bound = bound;
  in_line = subst AreInLine same are;
  takes = takes_joined left still faults old.taker mid.taker new.taker [] (take n into ++ 10 ∷ []) (take n into ++ 10 ∷ []) z t refl;
  nodes = nodes;
  within = omega (arith, room, nodes);
  kept = a.1 ∙ ap (λ t. t ++ entry.Nothing ∷ []) none;
  is = a.0 ∙ ap (λ o. after o (placed (node.Line bytes))) b ∙ ap (λ (s : List ℕ). Some (record { top = None; levels = InGroup (node.Here (node.Line s) node.End) ∷ [] })) same;
}

pub line_refused : {S : Type 0} (left : S → Option (List ℕ)) (still : S → S → Type 0) (faults : S → ℕ) (old new : Stand S) (building : Option Building) (fault : ValueFault)
    → Ceases left still faults LineStops old new (cause fault) → building ≡ None → LineRefused left still faults old.taker new.taker old.nodes building fault
line_refused left still faults old new building fault c gone = record {
  went = c.went;
  stops = λ C. stops_alike left faults (LeafFails C kind.Line) old.taker new.taker old.nodes old.building None old.told [] (cause fault) c.stops;
  gone = gone;
}
