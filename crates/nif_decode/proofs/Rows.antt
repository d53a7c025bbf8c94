-- Rows, item by item.
use Rattle.std.proofs.Common.{◌≡◌, ℕ, zero, suc, ◌+◌, ◌-◌, ◌<◌, ◌≤◌, ◌⊎◌, inl, inr, Bool, true, false, List, [], ◌∷◌, ◌++◌, length, take, Option, Some, None, refl, sym, ap, ◌∙◌, subst, arith, length-append, append_assoc, append-nil, add-one}
use Rattle.std.proofs.Math.Seq.{take-append_seam}
use Rattle.std.specs.Prelude.{IfSome, IsSome}
use Rattle.std.specs.Option.{IsSomeAnd}
use Rattle.nif_base.specs.Outside.{prepended}
use Rattle.nif_base.specs.declared.orders.Order.{Order}
use Rattle.nif_base.specs.Node as node
use Rattle.nif_base.specs.Node.{Node, Members, End, Here, Absent, text, texts, nodes, nodes_in}
use Rattle.nif_stream.specs.declared.takers.Taker.{Taker}
use Rattle.nif_stream.specs.Taking.{source_of, place_of, left_of, Takes}
use Rattle.nif_stream.specs.TakerLaws.{keeps_same, keeps_joined, prepended_none, takes_joined}
use Rattle.nif_layout.specs.Kind.{Kind}
use Rattle.nif_layout.specs.Form.{Form, Row}
use Rattle.nif_layout.specs.Fault as plain
use Rattle.nif_base.specs.Limits.{most_nodes}
use Rattle.nif_layout.specs.Fault.{Fault, Point, Passes, one_more}
use Rattle.nif_layout.specs.Members.{Items}
use Rattle.nif_layout.specs.Shape.{IsForm}
use Rattle.nif_layout.specs.Fails.{Counted, ItemsFail, FormFails}
use Rattle.nif_layout.specs.PassLaws.{count_in}
use Rattle.nif_cells.specs.Building.{Level, InRow, placed, opened, closed, behind}
use Rattle.nif_value.specs.Trees.{after, IsOpen}
use Rattle.nif_scope.specs.declared.entries.Entry.{Entry}
use Rattle.nif_scope.specs.declared.entries.Entry.TheVariants as entry
use Rattle.nif_scope.specs.Told.{items_told, member_told, told}
use Rattle.nif_decode.specs.Faults.{Cause, OfValue, OfRead, OfMemory, IsGone}
use Rattle.nif_decode.specs.Answers.{Stand, Went, Stops, FailsThere, IsReadyTaker, IsReady, Goes, ReadsNode, Ceases, point}
use Rattle.nif_decode.specs.Begins.{Opens}
use Rattle.nif_decode.specs.Kept.{item_kept, row_head}
use Rattle.nif_decode.specs.SoFar.{RowSoFar, items_kept}
use Rattle.nif_decode.proofs.Entries.{told_head}
use Rattle.nif_decode.proofs.Leaving.{memory_ceases, went_same, stops_here}
use Rattle.nif_decode.proofs.Rooms.{texts_length}
use Rattle.nif_decode.proofs.Steps.{items_push, items_fail, texts-more, nodes-more}

-- nothing was taken
pub takes_nothing : {S : Type 0} (left : S → Option (List ℕ)) (still : S → S → Type 0) (faults : S → ℕ) (taker : Taker S) → IsReadyTaker taker → Takes left still faults taker [] taker
takes_nothing left still faults taker h = record {
  same_reference = refl;
  keeps = keeps_same still taker taker refl;
  later = omega arith;
  sound = h.sound;
  ahead = h.ahead;
  place = omega arith;
  within = h.within;
  given = prepended_none (left_of left taker);
}

pub goes_joined : {S : Type 0} (left : S → Option (List ℕ)) (still : S → S → Type 0) (faults : S → ℕ) (x y z : List ℕ) (m n k : ℕ) (a b c : Stand S)
    → Goes left still faults x m a b → Goes left still faults y n b c → x ++ y ≡ z → m + n ≡ k → Goes left still faults z k a c
goes_joined left still faults x y z m n k a b c p q e f = record {
  takes = takes_joined left still faults a.taker b.taker c.taker x y z p.takes q.takes e;
  nodes = omega (arith, p.nodes, q.nodes, f);
  counted = q.counted;
}

pub went_joined : {S : Type 0} (left : S → Option (List ℕ)) (still : S → S → Type 0) (faults : S → ℕ) (x : List ℕ) (a b c : Taker S) → Takes left still faults a x b → Went still faults b c → Went still faults a c
went_joined left still faults x a b c t w = record {
  same_reference = w.same_reference ∙ t.same_reference;
  keeps = keeps_joined still a b c t.keeps w.keeps;
  later = omega (arith, t.later, w.later);
}

-- What fails behind bytes and nodes fails before them.
pub stops_behind : {S : Type 0} (left : S → Option (List ℕ)) (still : S → S → Type 0) (faults : S → ℕ) (F G : Point → Fault → Type 0) (x : List ℕ) (k : ℕ) (old mid : Stand S) (new : Taker S) (why : Cause)
    → Goes left still faults x k old mid → ((at next : Point) (f : Fault) → Passes x k at next → F next f → G at f) → Stops left faults F mid new why → Stops left faults G old new why
stops_behind {S = S} left still faults F G x k old mid new OfRead g h s = omega (arith, s, g.takes.later)
stops_behind {S = S} left still faults F G x k old mid new OfMemory g h s = tt
stops_behind {S = S} left still faults F G x k old mid new (OfValue f) g h s =
    subst (λ o. IfSome o (λ bytes. FailsThere G f (left (source_of new)) (point old bytes))) (sym g.takes.given) (by (left_of left mid.taker) s)
  where
    by : (q : Option (List ℕ)) → IfSome q (λ bytes. FailsThere F f (left (source_of new)) (point mid bytes))
        → IfSome (prepended x q) (λ bytes. FailsThere G f (left (source_of new)) (point old bytes))
    by None s = tt
    by (Some rest) s =
        let passes : Passes x k (point old (x ++ rest)) (point mid rest) = record { here = refl; place = g.takes.place; nodes = g.nodes; within = g.takes.within; counted = g.counted } in
        let total : place_of mid.taker + length rest ≡ place_of old.taker + length (x ++ rest) = omega (arith, g.takes.place, length-append x rest) in
        record {
          fails = h (point old (x ++ rest)) (point mid rest) f passes s.fails;
          gone = subst (λ t. IsGone t f (left (source_of new))) total s.gone;
        }

-- ---- a row

pub row_first : {S : Type 0} (left : S → Option (List ℕ)) (still : S → S → Type 0) (faults : S → ℕ) (order : Order) (IsItem : ℕ → Node → Type 0) (asked : Bool) (k : ℕ) (old now : Stand S)
    (r : IsReady old k) → now.taker ≡ old.taker → Opens (InRow End) (entry.Nothing ∷ []) old now → RowSoFar left still faults order IsItem asked 0 r.room.tree.levels old now
row_first left still faults order IsItem asked k old now r same o = record {
  held = End;
  done = refl;
  goes = record {
    takes = subst (λ t. Takes left still faults old.taker [] t) (sym same) (takes_nothing left still faults old.taker r.taker);
    nodes = omega (arith, o.nodes);
    counted = omega (arith, o.nodes, o.room);
  };
  built = o.building ∙ ap (λ b. after b (opened (InRow End))) r.room.is;
  told = o.told;
}

pub row_ready : {S : Type 0} (left : S → Option (List ℕ)) (still : S → S → Type 0) (faults : S → ℕ) (order : Order) (IsItem : ℕ → Node → Type 0) (asked : Bool) (count k : ℕ) (old now : Stand S)
    (r : IsReady old (k + 1)) → RowSoFar left still faults order IsItem asked count r.room.tree.levels old now → IsReady now k
row_ready left still faults order IsItem asked count k old now r s = record {
  taker = record { sound = s.goes.takes.sound; ahead = s.goes.takes.ahead; within = s.goes.takes.within };
  counted = s.goes.counted;
  room = record {
    tree = record { top = None; levels = InRow s.held ∷ r.room.tree.levels };
    is = s.built;
    takes = tt;
    nodes = omega (arith, r.room.nodes, s.goes.nodes);
    bytes = omega (arith, r.room.bytes, s.goes.takes.place, texts_length order s.held);
    levels = omega (arith, r.room.levels);
  };
}

abbrev AreHere : Members → Type 0
AreHere End = Unit {0}
AreHere (Here n rest) = AreHere rest
AreHere (Absent rest) = ⊥

is_items : (P : ℕ → Node → Type 0) (k n : ℕ) (items : Members) → Items P k n items → AreHere items
is_items P k zero items h = subst AreHere (sym h) tt
is_items P k (suc n) items h = subst AreHere (sym h.2) (is_items P (k + 1) n h.1 h.4)

kept_more : (asked : Bool) (items : Members) (last : Node) → AreHere items → items_kept asked (behind items last) ≡ items_kept asked items ++ item_kept asked last
kept_more asked End last h = append-nil (item_kept asked last)
kept_more asked (Here n rest) last h = ap (λ x. item_kept asked n ++ x) (kept_more asked rest last h) ∙ sym (append_assoc (item_kept asked n) (items_kept asked rest) (item_kept asked last))
kept_more asked (Absent rest) last h = absurd h

pub row_step : {S : Type 0} (left : S → Option (List ℕ)) (still : S → S → Type 0) (faults : S → ℕ) (order : Order) (IsItem : ℕ → Node → Type 0) (asked : Bool) (count : ℕ) (outer : List Level) (old mid new : Stand S) (at : Node)
    → RowSoFar left still faults order IsItem asked count outer old mid → IsItem count at → Goes left still faults (text order at) (nodes at) mid new → new.building ≡ after mid.building (placed at)
    → new.told ≡ mid.told ++ item_kept asked at → RowSoFar left still faults order IsItem asked (count + 1) outer old new
row_step left still faults order IsItem asked count outer old mid new at s is g b t = record {
  held = behind s.held at;
  done = subst (λ n. Items IsItem 0 n (behind s.held at)) (sym (add-one count)) (items_push IsItem 0 count s.held at s.done (subst (λ n. IsItem n at) (omega arith) is));
  goes = goes_joined left still faults (texts order s.held) (text order at) (texts order (behind s.held at)) (1 + nodes_in s.held) (nodes at) (1 + nodes_in (behind s.held at)) old mid new s.goes g
      (sym (texts-more order s.held (Some at))) (omega (arith, nodes-more s.held (Some at)));
  built = b ∙ ap (λ o. after o (placed at)) s.built;
  told = t ∙ ap (λ x. x ++ item_kept asked at) s.told ∙ append_assoc old.told (entry.Nothing ∷ items_kept asked s.held) (item_kept asked at)
      ∙ ap (λ x. old.told ++ entry.Nothing ∷ x) (sym (kept_more asked s.held at (is_items IsItem 0 count s.held s.done)));
}

-- An item was read, and of what it keeps as a value only the item stays.
pub row_more : {S : Type 0} (left : S → Option (List ℕ)) (still : S → S → Type 0) (faults : S → ℕ) (order : Order) (IsItem : ℕ → Node → Type 0) (IsIt : Node → Type 0) (keeps : Node → List Entry) (asked : Bool) (count : ℕ) (outer : List Level) (old mid next new : Stand S)
    → RowSoFar left still faults order IsItem asked count outer old mid → (r : ReadsNode left still faults order IsIt keeps mid next) → ((at : Node) → IsIt at → IsItem count at)
    → new.taker ≡ next.taker → new.nodes ≡ next.nodes → new.building ≡ next.building → new.told ≡ mid.told ++ item_kept asked r.node
    → RowSoFar left still faults order IsItem asked (count + 1) outer old new
row_more left still faults order IsItem IsIt keeps asked count outer old mid next new s r f st sn sb t =
    row_step left still faults order IsItem asked count outer old mid new r.node s (f r.node r.is)
    (record {
      takes = subst (λ x. Takes left still faults mid.taker (text order r.node) x) (sym st) r.goes.takes;
      nodes = sn ∙ r.goes.nodes;
      counted = omega (arith, sn, r.goes.counted);
    })
    (sb ∙ r.built) t

-- an item stands behind what was kept before it
pub item_behind : (items front : List Entry) (at : Node) (start : ℕ) → items ≡ front ++ told at → length front ≡ start → start < length items
item_behind items front at start e len =
    let h = told_head at in
    let long : length items ≡ length front + length (h.head ∷ h.rest) = ap length (e ∙ ap (λ x. front ++ x) h.is) ∙ length-append front (h.head ∷ h.rest) in
    omega arith

-- the entry of a row stands behind what was kept before it
pub row_behind : {S : Type 0} (left : S → Option (List ℕ)) (still : S → S → Type 0) (faults : S → ℕ) (order : Order) (IsItem : ℕ → Node → Type 0) (asked : Bool) (count : ℕ) (outer : List Level) (old now : Stand S) (start : ℕ)
    → RowSoFar left still faults order IsItem asked count outer old now → length old.told ≡ start → start < length now.told
row_behind left still faults order IsItem asked count outer old now start s len =
    let long : length now.told ≡ length old.told + length (entry.Nothing ∷ items_kept asked s.held) = ap length s.told ∙ length-append old.told (entry.Nothing ∷ items_kept asked s.held) in
    omega arith

-- what was kept before a row stands as it was
pub row_before : {S : Type 0} (left : S → Option (List ℕ)) (still : S → S → Type 0) (faults : S → ℕ) (order : Order) (IsItem : ℕ → Node → Type 0) (asked : Bool) (count : ℕ) (outer : List Level) (old now : Stand S) (start : ℕ)
    → RowSoFar left still faults order IsItem asked count outer old now → length old.told ≡ start → take start now.told ≡ old.told
row_before left still faults order IsItem asked count outer old now start s len =
    ap (λ x. take start x) s.told
    ∙ subst (λ k. take k (old.told ++ entry.Nothing ∷ items_kept asked s.held) ≡ old.told) len (take-append_seam old.told (entry.Nothing ∷ items_kept asked s.held))

pub row_closes : {S : Type 0} (left : S → Option (List ℕ)) (still : S → S → Type 0) (faults : S → ℕ) (order : Order) (IsItem : ℕ → Node → Type 0) (asked : Bool) (count : ℕ) (outer : List Level) (old now : Stand S)
    → RowSoFar left still faults order IsItem asked count outer old now → IsSomeAnd now.building IsOpen
row_closes left still faults order IsItem asked count outer old now s = subst (λ b. IsSomeAnd b IsOpen) (sym s.built) (λ e. absurd (cc))

-- items as another says of each
items_as : (P Q : ℕ → Node → Type 0) (k n : ℕ) (items : Members) → ((i : ℕ) (at : Node) → P i at → Q i at) → Items P k n items → Items Q k n items
items_as P Q k zero items f h = h
items_as P Q k (suc n) items f h = (h.0, h.1, h.2, f k h.0 h.3, items_as P Q (k + 1) n h.1 f h.4)

kept_all : (items : Members) → items_kept true items ≡ items_told items
kept_all End = refl
kept_all (Here n rest) = ap (λ x. item_kept true n ++ x) (kept_all rest)
kept_all (Absent rest) = refl

kept_none : (items : Members) → items_kept false items ≡ []
kept_none End = refl
kept_none (Here n rest) = kept_none rest
kept_none (Absent rest) = refl

row_kept : (asked : Bool) (items : Members) → row_head asked (items_kept asked items) ∷ items_kept asked items ≡ member_told asked (node.Row items)
row_kept true items = ap (λ x. entry.Items (length x) ∷ x) (kept_all items)
row_kept false items = ap (λ x. entry.Nothing ∷ x) (kept_none items)

pub row_done : {S : Type 0} (left : S → Option (List ℕ)) (still : S → S → Type 0) (faults : S → ℕ) (order : Order) (IsItem : ℕ → Node → Type 0) (Single : Kind → Node → Type 0) (item : ℕ → Form) (asked : Bool) (count n k : ℕ) (old now new : Stand S)
    (r : IsReady old k) → count ≡ n → ((i : ℕ) (at : Node) → IsItem i at → IsForm Single (item i) at) → (s : RowSoFar left still faults order IsItem asked count r.room.tree.levels old now)
    → new.taker ≡ now.taker → new.nodes ≡ now.nodes → new.building ≡ after now.building closed
    → new.told ≡ old.told ++ row_head asked (items_kept asked s.held) ∷ items_kept asked s.held
    → ReadsNode left still faults order (IsForm Single (Row n item)) (member_told asked) old new
row_done left still faults order IsItem Single item asked count n k old now new r e f s st sn b t = record {
  node = node.Row s.held;
  is = (s.held, refl, subst (λ m. Items (λ i. IsForm Single (item i)) 0 m s.held) e (items_as IsItem (λ i. IsForm Single (item i)) 0 count s.held f s.done));
  goes = record {
    takes = subst (λ t. Takes left still faults old.taker (texts order s.held) t) (sym st) s.goes.takes;
    nodes = sn ∙ s.goes.nodes;
    counted = omega (arith, sn, s.goes.counted);
  };
  built = b ∙ ap (λ o. after o closed) s.built ∙ ap (λ o. after o (placed (node.Row s.held))) (sym r.room.is);
  told = t ∙ ap (λ x. old.told ++ x) (row_kept asked s.held);
}

pub row_fails : {S : Type 0} (left : S → Option (List ℕ)) (still : S → S → Type 0) (faults : S → ℕ) (order : Order) (IsItem : ℕ → Node → Type 0) (Single : Kind → Node → Type 0) (Fails : Kind → Point → Fault → Type 0) (item : ℕ → Form) (asked : Bool) (count n : ℕ) (outer : List Level) (old mid new : Stand S) (why : Cause)
    → count < n → ((i : ℕ) (at : Node) → IsItem i at → IsForm Single (item i) at) → RowSoFar left still faults order IsItem asked count outer old mid → Ceases left still faults (FormFails order Single Fails (item count)) mid new why
    → Ceases left still faults (FormFails order Single Fails (Row n item)) old new why
row_fails left still faults order IsItem Single Fails item asked count n outer old mid new why less each s c = record {
  went = went_joined left still faults (texts order s.held) old.taker mid.taker new.taker s.goes.takes c.went;
  building = c.building;
  stops = stops_behind left still faults (FormFails order Single Fails (item count)) (FormFails order Single Fails (Row n item)) (texts order s.held) (1 + nodes_in s.held) old mid new.taker why s.goes
      (λ at next f p bad.
      let q = count_in (texts order s.held) (nodes_in s.held) at next p in
      let e : count + suc (n - suc count) ≡ n = omega arith in
      inr (
        q.0,
        subst (λ m. ItemsFail order (λ i. IsForm Single (item i)) (λ i. FormFails order Single Fails (item i)) 0 m (one_more at) f) e
            (items_fail order (λ i. IsForm Single (item i)) (λ i. FormFails order Single Fails (item i)) 0 count (n - suc count) s.held (one_more at) next f (items_as IsItem (λ i. IsForm Single (item i)) 0 count s.held each s.done) q.1
            (subst (λ j. FormFails order Single Fails (item j) next f) (omega arith) bad)),
      ))
      c.stops;
}

-- nothing of the row was told of a fault: memory ran out behind some items
pub row_memory : {S : Type 0} (left : S → Option (List ℕ)) (still : S → S → Type 0) (faults : S → ℕ) (order : Order) (IsItem : ℕ → Node → Type 0) (F : Point → Fault → Type 0) (asked : Bool) (count : ℕ) (outer : List Level) (old mid : Stand S)
    → RowSoFar left still faults order IsItem asked count outer old mid → Ceases left still faults F old mid OfMemory
row_memory left still faults order IsItem F asked count outer old mid s = record {
  went = record { same_reference = s.goes.takes.same_reference; keeps = s.goes.takes.keeps; later = s.goes.takes.later };
  building = subst (λ o. IsSome o) (sym s.built) refl;
  stops = tt;
}

-- the row was not begun
pub begin_ceases : {S : Type 0} (left : S → Option (List ℕ)) (still : S → S → Type 0) (faults : S → ℕ) (Rest : Point → Fault → Type 0) (k : ℕ) (old new : Stand S) (why : Cause)
    → IsReady old k → new.taker ≡ old.taker → IsSome new.building → ((why ≡ OfMemory) ⊎ ((most_nodes ≤ old.nodes) × (why ≡ OfValue (plain.TooManyNodes (place_of old.taker)))))
    → Ceases left still faults (Counted (λ f. f) Rest) old new why
begin_ceases left still faults Rest k old new why r st b (inl e) =
    subst (λ w. Ceases left still faults (Counted (λ f. f) Rest) old new w) (sym e)
    (memory_ceases left still faults (Counted (λ f. f) Rest) old new (subst (λ t. Went still faults old.taker t) (sym st) (went_same still faults old.taker)) b)
begin_ceases left still faults Rest k old new why r st b (inr h) =
    subst (λ w. Ceases left still faults (Counted (λ f. f) Rest) old new w) (sym h.1) (record {
      went = subst (λ t. Went still faults old.taker t) (sym st) (went_same still faults old.taker);
      building = b;
      stops = subst (λ t. Stops left faults (Counted (λ f. f) Rest) old t (OfValue (plain.TooManyNodes (place_of old.taker)))) (sym st)
          (stops_here left faults (Counted (λ f. f) Rest) old (plain.TooManyNodes (place_of old.taker)) r.taker.ahead (λ total. refl) (λ bytes. inl (h.0, refl)));
    })

pub row_unbegun : {S : Type 0} (left : S → Option (List ℕ)) (still : S → S → Type 0) (faults : S → ℕ) (order : Order) (Single : Kind → Node → Type 0) (Fails : Kind → Point → Fault → Type 0) (item : ℕ → Form) (n k : ℕ) (old new : Stand S) (why : Cause)
    → IsReady old k → new.taker ≡ old.taker → IsSome new.building → ((why ≡ OfMemory) ⊎ ((most_nodes ≤ old.nodes) × (why ≡ OfValue (plain.TooManyNodes (place_of old.taker)))))
    → Ceases left still faults (FormFails order Single Fails (Row n item)) old new why
row_unbegun left still faults order Single Fails item n k old new why r st b h =
    begin_ceases left still faults (ItemsFail order (λ i. IsForm Single (item i)) (λ i. FormFails order Single Fails (item i)) 0 n) k old new why r st b h
