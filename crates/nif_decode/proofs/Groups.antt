-- Groups, member by member.
use Rattle.std.proofs.Common.{◌≡◌, ℕ, ◌+◌, ◌≤◌, inr, Bool, true, false, List, [], ◌∷◌, ◌++◌, length, map, Option, Some, None, refl, sym, ap, ◌∙◌, subst, arith, append_assoc, append-nil}
use Rattle.std.specs.Prelude.{IsSome, Contains}
use Rattle.std.specs.Option.{IsSomeAnd}
use Rattle.std.proofs.lemmas.List.{map-append}
use Rattle.std.proofs.lemmas.List.Elements.{Contains-append_right}
use Rattle.nif_base.specs.Node as node
use Rattle.nif_base.specs.Node.{Node, Members, End, texts, nodes_in}
use Rattle.nif_schema.specs.Declaration.{Field}
use Rattle.nif_schema.specs.Schema.{line}
use Rattle.nif_stream.specs.Taking.{Takes}
use Rattle.nif_layout.specs.Earlier as env
use Rattle.nif_layout.specs.Earlier.{Env, passed}
use Rattle.nif_layout.specs.Members.{Member}
use Rattle.nif_layout.specs.Fault.{one_more}
use Rattle.nif_layout.specs.PassLaws.{count_in}
use Rattle.nif_cells.specs.Building.{Level, InGroup, opened, closed, placed, TakesAbsent}
use Rattle.nif_value.specs.Trees.{after, IsOpen}
use Rattle.nif_scope.specs.declared.settings.Setting.{Setting}
use Rattle.nif_scope.specs.declared.entries.Entry.{Entry}
use Rattle.nif_scope.specs.declared.entries.Entry.TheVariants as entry
use Rattle.nif_scope.specs.Told as kept
use Rattle.nif_scope.specs.Keeping.{AreFor, without_items}
use Rattle.nif_scope.proofs.Growing.{group_told}
use Rattle.nif_scope.specs.Scope.{asks, context_in, earlier}
use Rattle.nif_scope.specs.Told.{line_told, member_told}
use Rattle.nif_decode.specs.Faults.{Cause, OfMemory}
use Rattle.nif_decode.specs.Answers.{Stand, IsReady, Went, ReadsNode, Ceases}
use Rattle.nif_decode.specs.Begins.{Opens}
use Rattle.nif_decode.specs.Groups.{IsHere, ValueShape, ValueStops, GroupShape, GroupStops, MemberIs, MemberStops, ReadsMember, member_bytes, member_nodes, member_kept, built_by}
use Rattle.nif_decode.specs.SoFar.{GroupSoFar}
use Rattle.nif_decode.proofs.Rooms.{texts_length}
use Rattle.nif_decode.proofs.Leaving.{memory_ceases, went_takes}
use Rattle.nif_decode.proofs.Rows.{takes_nothing, goes_joined, went_joined, stops_behind}
use Rattle.nif_decode.proofs.Steps as steps
use Rattle.nif_decode.proofs.Steps.{more, more_here, more_absent, no_fault, texts-more, nodes-more, fields_push, fields_fail, passed_front, Line}

none_told : (asked : Field → Bool) (fields : List Field) → line_told asked fields End ≡ []
none_told asked [] = refl
none_told asked (f ∷ fields) = refl

built_more : (got : Option Node) (held : Members) (outer : List Level)
    → built_by got (Some (record { top = None; levels = InGroup held ∷ outer })) ≡ Some (record { top = None; levels = InGroup (more got held) ∷ outer })
built_more None held outer = refl
built_more (Some n) held outer = refl

pub group_first : {S : Type 0} (left : S → Option (List ℕ)) (still : S → S → Type 0) (faults : S → ℕ) (at : Setting) (d k : ℕ) (old now : Stand S) (r : IsReady old k) → now.taker ≡ old.taker
    → Opens (InGroup End) [] (record old { told = [] }) now → GroupSoFar left still faults at d [] r.room.tree.levels old now
group_first left still faults at d k old now r same o = record {
  held = End;
  done = refl;
  goes = record {
    takes = subst (λ t. Takes left still faults old.taker [] t) (sym same) (takes_nothing left still faults old.taker r.taker);
    nodes = omega (arith, o.nodes);
    counted = omega (arith, o.nodes, o.room);
  };
  built = o.building ∙ ap (λ b. after b (opened (InGroup End))) r.room.is;
  tells = o.told ∙ sym (none_told (asks at.schema.now at.number) (line at.schema.now at.number));
}

pub group_ready : {S : Type 0} (left : S → Option (List ℕ)) (still : S → S → Type 0) (faults : S → ℕ) (at : Setting) (d j k : ℕ) (front : List Field) (old now : Stand S)
    (r : IsReady old j) → k + 1 ≤ j → GroupSoFar left still faults at d front r.room.tree.levels old now → IsReady now k
group_ready left still faults at d j k front old now r less s = record {
  taker = record { sound = s.goes.takes.sound; ahead = s.goes.takes.ahead; within = s.goes.takes.within };
  counted = s.goes.counted;
  room = record {
    tree = record { top = None; levels = InGroup s.held ∷ r.room.tree.levels };
    is = s.built;
    takes = tt;
    nodes = omega (arith, r.room.nodes, s.goes.nodes);
    bytes = omega (arith, r.room.bytes, s.goes.takes.place, texts_length (context_in at).order s.held);
    levels = omega (arith, less, r.room.levels);
  };
}

-- a group is open
pub group_open : {S : Type 0} (left : S → Option (List ℕ)) (still : S → S → Type 0) (faults : S → ℕ) (at : Setting) (d : ℕ) (front : List Field) (outer : List Level) (old now : Stand S)
    → GroupSoFar left still faults at d front outer old now → IsSomeAnd now.building (λ b. TakesAbsent b.levels)
group_open left still faults at d front outer old now s = subst (λ o. IsSomeAnd o (λ b. TakesAbsent b.levels)) (sym s.built) tt

pub group_closes : {S : Type 0} (left : S → Option (List ℕ)) (still : S → S → Type 0) (faults : S → ℕ) (at : Setting) (d : ℕ) (front : List Field) (outer : List Level) (old now : Stand S)
    → GroupSoFar left still faults at d front outer old now → IsSomeAnd now.building IsOpen
group_closes left still faults at d front outer old now s = subst (λ o. IsSomeAnd o IsOpen) (sym s.built) (λ e. absurd (cc))

-- the members of the first fields, and one more, are kept
told_more : (here : Env → Field → Bool) (V : Env → Field → Node → Type 0) (asked : Field → Bool) (front back : List Field) (f : Field) (E : Env) (held : Members) (got : Option Node) → Line here V front E held
    → line_told asked (front ++ f ∷ back) (more got held) ≡ line_told asked (front ++ f ∷ back) held ++ member_kept (asked f) got
told_more here V asked [] back f E held got h = subst (λ (m : Members). line_told asked (f ∷ back) (more got m) ≡ line_told asked (f ∷ back) m ++ member_kept (asked f) got) (sym h) (by got)
  where
    by : (got : Option Node) → line_told asked (f ∷ back) (more got End) ≡ member_kept (asked f) got
    by None = ap (λ x. entry.Absent ∷ x) (none_told asked back)
    by (Some n) = ap (λ x. member_told (asked f) n ++ x) (none_told asked back) ∙ append-nil (member_told (asked f) n)
told_more here V asked (g ∷ front) back f E held got h = by (here E g) h (λ first rest r. told_more here V asked front back f (env.behind g first E) rest got r)
  where
    by : (t : Bool) → Member t (V E g) (λ first rest. (no_fault ≡ no_fault) × Line here V front (env.behind g first E) rest) held
        → ((first : Option Node) (rest : Members) → Line here V front (env.behind g first E) rest
        → line_told asked (front ++ f ∷ back) (more got rest) ≡ line_told asked (front ++ f ∷ back) rest ++ member_kept (asked f) got)
        → line_told asked (g ∷ front ++ f ∷ back) (more got held) ≡ line_told asked (g ∷ front ++ f ∷ back) held ++ member_kept (asked f) got
    by true m k =
        subst (λ (x : Members). line_told asked (g ∷ front ++ f ∷ back) (more got x) ≡ line_told asked (g ∷ front ++ f ∷ back) x ++ member_kept (asked f) got) (sym m.2)
        (ap (line_told asked (g ∷ front ++ f ∷ back)) (more_here got m.0 m.1) ∙ ap (λ x. member_told (asked g) m.0 ++ x) (k (Some m.0) m.1 m.4.1)
        ∙ sym (append_assoc (member_told (asked g) m.0) (line_told asked (front ++ f ∷ back) m.1) (member_kept (asked f) got)))
    by false m k =
        subst (λ (x : Members). line_told asked (g ∷ front ++ f ∷ back) (more got x) ≡ line_told asked (g ∷ front ++ f ∷ back) x ++ member_kept (asked f) got) (sym m.1)
        (ap (line_told asked (g ∷ front ++ f ∷ back)) (more_absent got m.0) ∙ ap (λ x. entry.Absent ∷ x) (k None m.0 m.2.1))

-- the earlier fields of a group
earlier_front : (at : Setting) (d : ℕ) (front back : List Field) (held : Members) → line at.schema.now at.number ≡ front ++ back → Line (IsHere at) (ValueShape at d) front [] held
    → earlier at held ≡ passed front held []
earlier_front at d front back held e h = ap (λ fields. passed fields held []) e ∙ passed_front (IsHere at) (ValueShape at d) front back [] held h

pub group_step : {S : Type 0} (left : S → Option (List ℕ)) (still : S → S → Type 0) (faults : S → ℕ) (at : Setting) (d : ℕ) (front back : List Field) (f : Field) (outer : List Level) (old mid new : Stand S)
    → line at.schema.now at.number ≡ front ++ f ∷ back → (s : GroupSoFar left still faults at d front outer old mid)
    → ReadsMember left still faults at d (earlier at s.held) f mid new → GroupSoFar left still faults at d (front ++ f ∷ []) outer old new
group_step left still faults at d front back f outer old mid new e s r = record {
  held = more r.got s.held;
  done = fields_push (IsHere at) (ValueShape at d) front f [] s.held r.got s.done
      (is_next r.got (subst (λ x. MemberIs at d x f r.got) (earlier_front at d front (f ∷ back) s.held e s.done) r.is));
  goes = goes_joined left still faults (texts (context_in at).order s.held) (member_bytes (context_in at).order r.got) (texts (context_in at).order (more r.got s.held)) (1 + nodes_in s.held) (member_nodes r.got) (1 + nodes_in (more r.got s.held)) old mid new s.goes r.goes
      (sym (texts-more (context_in at).order s.held r.got)) (omega (arith, nodes-more s.held r.got));
  built = r.built ∙ ap (λ b. built_by r.got b) s.built ∙ built_more r.got s.held outer;
  tells = r.told ∙ ap (λ x. x ++ member_kept (asks at.schema.now at.number f) r.got) s.tells
      ∙ ap (λ fields. line_told (asks at.schema.now at.number) fields s.held ++ member_kept (asks at.schema.now at.number f) r.got) e
      ∙ sym (told_more (IsHere at) (ValueShape at d) (asks at.schema.now at.number) front back f [] s.held r.got s.done)
      ∙ ap (λ fields. line_told (asks at.schema.now at.number) fields (more r.got s.held)) (sym e);
}
  where
    is_next : (got : Option Node) → MemberIs at d (passed front s.held []) f got → steps.IsNext (IsHere at) (ValueShape at d) (passed front s.held []) f got
    is_next None h = h
    is_next (Some n) h = h

pub group_fails : {S : Type 0} (left : S → Option (List ℕ)) (still : S → S → Type 0) (faults : S → ℕ) (at : Setting) (d : ℕ) (front back : List Field) (f : Field) (outer : List Level) (old mid new : Stand S) (told : List Entry) (why : Cause)
    → line at.schema.now at.number ≡ front ++ f ∷ back → (s : GroupSoFar left still faults at d front outer old mid)
    → Ceases left still faults (MemberStops at d (earlier at s.held) f) mid new why → Ceases left still faults (GroupStops at d) old (record new { told = told }) why
group_fails left still faults at d front back f outer old mid new told why e s c = record {
  went = went_joined left still faults (texts (context_in at).order s.held) old.taker mid.taker new.taker s.goes.takes c.went;
  building = c.building;
  stops = stops_behind left still faults (MemberStops at d (earlier at s.held) f) (GroupStops at d) (texts (context_in at).order s.held) (1 + nodes_in s.held) old mid new.taker why s.goes
      (λ p next w q bad.
      let t = count_in (texts (context_in at).order s.held) (nodes_in s.held) p next q in
      inr (
        t.0,
        subst (λ fields. steps.LineStops (context_in at).order (IsHere at) (ValueShape at d) (ValueStops at d) fields [] (one_more p) w) (sym e)
            (fields_fail (context_in at).order (IsHere at) (ValueShape at d) (ValueStops at d) front back f [] s.held (one_more p) next w s.done t.1
            (subst (λ x. MemberStops at d x f next w) (earlier_front at d front (f ∷ back) s.held e s.done) bad)),
      ))
      c.stops;
}

-- there is a member for each field
fields_are : (here : Env → Field → Bool) (V : Env → Field → Node → Type 0) (front : List Field) (E : Env) (held : Members) → Line here V front E held → AreFor front held
fields_are here V [] E held h = subst (λ (m : Members). AreFor [] m) (sym h) tt
fields_are here V (f ∷ front) E held h = by (here E f) h (λ got rest r. fields_are here V front (env.behind f got E) rest r)
  where
    by : (t : Bool) → Member t (V E f) (λ got rest. (no_fault ≡ no_fault) × Line here V front (env.behind f got E) rest) held
        → ((got : Option Node) (rest : Members) → Line here V front (env.behind f got E) rest → AreFor front rest) → AreFor (f ∷ front) held
    by true m k = subst (λ (x : Members). AreFor (f ∷ front) x) (sym m.2) (k (Some m.0) m.1 m.4.1)
    by false m k = subst (λ (x : Members). AreFor (f ∷ front) x) (sym m.1) (k None m.0 m.2.1)

pub group_done : {S : Type 0} (left : S → Option (List ℕ)) (still : S → S → Type 0) (faults : S → ℕ) (at : Setting) (d k : ℕ) (front : List Field) (old now new : Stand S) (r : IsReady old k)
    → line at.schema.now at.number ≡ front → GroupSoFar left still faults at d front r.room.tree.levels old now
    → new.taker ≡ now.taker → new.nodes ≡ now.nodes → new.building ≡ after now.building closed
    → new.told ≡ old.told ++ entry.Group (length (without_items 0 now.told)) ∷ without_items 0 now.told
    → ReadsNode left still faults (context_in at).order (GroupShape at d) kept.told old new
group_done left still faults at d k front old now new r e s st sn b t = record {
  node = node.Group s.held;
  is = (s.held, refl, done);
  goes = record {
    takes = subst (λ t. Takes left still faults old.taker (texts (context_in at).order s.held) t) (sym st) s.goes.takes;
    nodes = sn ∙ s.goes.nodes;
    counted = omega (arith, sn, s.goes.counted);
  };
  built = b ∙ ap (λ o. after o closed) s.built ∙ ap (λ o. after o (placed (node.Group s.held))) (sym r.room.is);
  told = t ∙ ap (λ x. old.told ++ x) (group_told at now.told s.held (fields_are (IsHere at) (ValueShape at d) (line at.schema.now at.number) [] s.held done) s.tells);
}
  where
    done : Line (IsHere at) (ValueShape at d) (line at.schema.now at.number) [] s.held
    done = subst (λ fields. Line (IsHere at) (ValueShape at d) fields [] s.held) (sym e) s.done

-- nothing is told of the group: memory ran out behind its last member
pub group_memory : {S : Type 0} (left : S → Option (List ℕ)) (still : S → S → Type 0) (faults : S → ℕ) (at : Setting) (d : ℕ) (front : List Field) (outer : List Level) (old now new : Stand S)
    → GroupSoFar left still faults at d front outer old now → new.taker ≡ now.taker → new.building ≡ after now.building closed → Ceases left still faults (GroupStops at d) old new OfMemory
group_memory left still faults at d front outer old now new s st b =
    memory_ceases left still faults (GroupStops at d) old new
    (subst (λ t. Went still faults old.taker t) (sym st) (went_takes left still faults (texts (context_in at).order s.held) old.taker now.taker s.goes.takes))
    (subst (λ o. IsSome o) (sym (b ∙ ap (λ o. after o closed) s.built)) refl)

-- a field of a line
pub field_in : (fields front back : List Field) (f : Field) → fields ≡ front ++ f ∷ back → Contains fields f
field_in fields front back f e = subst (λ (fields : List Field). Contains fields f) (sym e) (Contains-append_right front (f ∷ back) f (0, omega arith, refl))

pub passed_next : {A B : Type 0} (own : A → B) (front : List A) (next : A) (back : List B) → map own front ++ own next ∷ back ≡ map own (front ++ next ∷ []) ++ back
passed_next own front next back = sym (append_assoc (map own front) (own next ∷ []) back) ∙ ap (λ xs. xs ++ back) (sym (map-append own front (next ∷ [])))
