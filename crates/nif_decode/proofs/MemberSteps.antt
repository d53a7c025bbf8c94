-- Members of a line, one behind another, behind those that were held.
use Rattle.std.proofs.Common.{◌≡◌, ℕ, zero, suc, ◌+◌, ◌-◌, ◌<◌, ◌≤◌, Bool, List, [], ◌∷◌, ◌++◌, length, take, drop, slice_get, slice_index_or, Option, Some, None, refl, sym, ap, ◌∙◌, subst, arith, add-one, length-append, append_assoc, append-nil}
use Rattle.std.proofs.lemmas.List.{take-append-drop}
use Rattle.std.proofs.lemmas.Option.{slice_get_past}
use Rattle.std.specs.Prelude.{IsSomeAnd}
use Rattle.nif_base.specs.declared.orders.Order.{Order}
use Rattle.nif_base.specs.declared.orders.Order.TheVariants as order
use Rattle.nif_base.specs.Node.{Node, Members, End, Here, Absent, text, texts, nodes_in}
use Rattle.nif_schema.specs.Declaration.{Field}
use Rattle.nif_schema.specs.Schema.{Schema, line}
use Rattle.nif_stream.specs.declared.takers.Taker.{Taker}
use Rattle.nif_stream.specs.Taking.{Takes, place_of}
use Rattle.nif_stream.specs.TakerLaws.{takes_joined}
use Rattle.nif_layout.specs.Context.{Context}
use Rattle.nif_layout.specs.Earlier as env
use Rattle.nif_layout.specs.Earlier.{Env, passed}
use Rattle.nif_base.specs.Limits.{most_nodes}
use Rattle.nif_layout.specs.Fault.{Fault, Point}
use Rattle.nif_layout.specs.Members.{no_check}
use Rattle.nif_layout.specs.Shape.{LineShape}
use Rattle.nif_layout.specs.Fails.{LineFails}
use Rattle.nif_cells.specs.Building.{Level, InGroup, TakesAbsent}
use Rattle.nif_value.specs.Trees.{Trees}
use Rattle.nif_scope.specs.declared.settings.Setting.{Setting}
use Rattle.nif_scope.specs.declared.entries.Entry.{Entry}
use Rattle.nif_scope.specs.declared.entries.Entry.TheVariants as entry
use Rattle.nif_scope.specs.Keeping.{AreFor}
use Rattle.nif_scope.specs.Scope.{asks, context_in, earlier, IsField}
use Rattle.nif_scope.specs.Told.{line_told, member_told}
use Rattle.nif_decode.specs.declared.faults.ValueFault.{ValueFault}
use Rattle.nif_decode.specs.Faults.{Cause, cause}
use Rattle.nif_decode.specs.Answers.{Stand, IsReadyTaker, IsReady, Ceases, Ends}
use Rattle.nif_decode.specs.Groups.{IsHere, ValueShape, ValueStops, MemberIs, MemberStops, ReadsMember, member_bytes, member_nodes, member_kept, built_by}
use Rattle.nif_decode.specs.Scopes.{AreKept, HoldsMembers, joined}
use Rattle.nif_decode.specs.Decodes.{fields_between, env_of, MembersShape, MembersFail, MembersDecoded, MembersRefused}
use Rattle.nif_decode.specs.MembersSoFar.{HoldsAt, MembersSoFar, MembersStop}
use Rattle.nif_decode.proofs.Nothing.{nothing_stops}
use Rattle.nif_decode.proofs.Rooms.{texts_length}
use Rattle.nif_decode.proofs.Rows.{takes_nothing, goes_joined, went_joined, stops_behind}
use Rattle.nif_decode.proofs.Steps as steps
use Rattle.nif_decode.proofs.Steps.{start, more, more_here, more_absent, texts-more, nodes-more, fields_push, fields_fail, passed_front, Line}

-- ---- lists

get_behind : {A : Type 0} (xs : List A) (n k : ℕ) → slice_get (drop n xs) k ≡ slice_get xs (n + k)
get_behind xs zero k = let e : k ≡ zero + k = omega arith in ap (λ i. slice_get xs i) e
get_behind [] (suc n) k = slice_get_past [] k (omega arith) ∙ sym (slice_get_past [] (suc n + k) (omega arith))
get_behind (x ∷ xs) (suc n) k = let e : suc (n + k) ≡ suc n + k = omega arith in get_behind xs n k ∙ ap (λ i. slice_get (x ∷ xs) i) e

-- the first so many, with the one at a place among them
front_at : {A : Type 0} (xs : List A) (k m : ℕ) (x : A) → k < m → slice_get xs k ≡ Some x → (back : List A) × (take m xs ≡ take k xs ++ x ∷ back)
front_at [] zero m x l e = absurd (cc)
front_at [] (suc k) m x l e = absurd (cc)
front_at (y ∷ ys) k zero x l e = absurd (omega arith)
front_at (y ∷ ys) zero (suc m) x l e = let same : y ≡ x = cc in (take m ys, ap (λ z. z ∷ take m ys) same)
front_at (y ∷ ys) (suc k) (suc m) x l e = let r = front_at ys k m x (omega arith) e in (r.0, ap (λ zs. y ∷ zs) r.1)

front_next : {A : Type 0} (xs : List A) (k : ℕ) (x : A) → slice_get xs k ≡ Some x → take (suc k) xs ≡ take k xs ++ x ∷ []
front_next [] zero x e = absurd (cc)
front_next [] (suc k) x e = absurd (cc)
front_next (y ∷ ys) zero x e = let same : y ≡ x = cc in ap (λ z. z ∷ []) same
front_next (y ∷ ys) (suc k) x e = ap (λ zs. y ∷ zs) (front_next ys k x e)

whole_at : {A : Type 0} (xs : List A) (k : ℕ) (x : A) → slice_get xs k ≡ Some x → xs ≡ take k xs ++ x ∷ drop (suc k) xs
whole_at [] zero x e = absurd (cc)
whole_at [] (suc k) x e = absurd (cc)
whole_at (y ∷ ys) zero x e = let same : y ≡ x = cc in ap (λ z. z ∷ ys) same
whole_at (y ∷ ys) (suc k) x e = ap (λ zs. y ∷ zs) (whole_at ys k x e)

found : {A : Type 0} (xs : List A) (k : ℕ) (x : A) → slice_get xs k ≡ Some x → (k < length xs) × (slice_index_or xs k x ≡ x)
found [] zero x e = absurd (cc)
found [] (suc k) x e = absurd (cc)
found (y ∷ ys) zero x e = let same : y ≡ x = cc in (omega arith, same)
found (y ∷ ys) (suc k) x e = let r = found ys k x e in (omega (arith, r.0), r.1)

pub is_field : (at : Setting) (k : ℕ) (f : Field) → slice_get (line at.schema.now at.number) k ≡ Some f → IsField at f
is_field at k f e = let r = found (line at.schema.now at.number) k f e in (k, r.0, r.1)

-- ---- members behind others

joined_end : (held : Members) → joined held End ≡ held
joined_end End = refl
joined_end (Here n rest) = ap (Here n) (joined_end rest)
joined_end (Absent rest) = ap Absent (joined_end rest)

joined_more : (held a : Members) (got : Option Node) → more got (joined held a) ≡ joined held (more got a)
joined_more End a got = refl
joined_more (Here n rest) a got = more_here got n (joined rest a) ∙ ap (Here n) (joined_more rest a got)
joined_more (Absent rest) a got = more_absent got (joined rest a) ∙ ap Absent (joined_more rest a got)

joined_nodes : (held a : Members) → nodes_in (joined held a) ≡ nodes_in held + nodes_in a
joined_nodes End a = omega arith
joined_nodes (Here n rest) a = omega (arith, joined_nodes rest a)
joined_nodes (Absent rest) a = omega (arith, joined_nodes rest a)

joined_texts : (order : Order) (held a : Members) → texts order (joined held a) ≡ texts order held ++ texts order a
joined_texts order End a = refl
joined_texts order (Here n rest) a = ap (λ s. text order n ++ s) (joined_texts order rest a) ∙ sym (append_assoc (text order n) (texts order rest) (texts order a))
joined_texts order (Absent rest) a = joined_texts order rest a

for_more : (pre : List Field) (f : Field) (held : Members) (got : Option Node) → AreFor pre held → AreFor (pre ++ f ∷ []) (more got held)
for_more [] f End None h = tt
for_more [] f End (Some n) h = tt
for_more [] f (Here n rest) got h = absurd h
for_more [] f (Absent rest) got h = absurd h
for_more (g ∷ pre) f End got h = absurd h
for_more (g ∷ pre) f (Here n rest) got h = subst (λ m. AreFor (g ∷ pre ++ f ∷ []) m) (sym (more_here got n rest)) (for_more pre f rest got h)
for_more (g ∷ pre) f (Absent rest) got h = subst (λ m. AreFor (g ∷ pre ++ f ∷ []) m) (sym (more_absent got rest)) (for_more pre f rest got h)

none_told : (asked : Field → Bool) (fields : List Field) → line_told asked fields End ≡ []
none_told asked [] = refl
none_told asked (f ∷ fields) = refl

told_more : (asked : Field → Bool) (pre back : List Field) (f : Field) (held : Members) (got : Option Node) → AreFor pre held
    → line_told asked (pre ++ f ∷ back) (more got held) ≡ line_told asked (pre ++ f ∷ back) held ++ member_kept (asked f) got
told_more asked [] back f End None h = ap (λ x. entry.Absent ∷ x) (none_told asked back)
told_more asked [] back f End (Some n) h = ap (λ x. member_told (asked f) n ++ x) (none_told asked back) ∙ append-nil (member_told (asked f) n)
told_more asked [] back f (Here n rest) got h = absurd h
told_more asked [] back f (Absent rest) got h = absurd h
told_more asked (g ∷ pre) back f End got h = absurd h
told_more asked (g ∷ pre) back f (Here n rest) got h =
    ap (line_told asked (g ∷ pre ++ f ∷ back)) (more_here got n rest) ∙ ap (λ x. member_told (asked g) n ++ x) (told_more asked pre back f rest got h)
    ∙ sym (append_assoc (member_told (asked g) n) (line_told asked (pre ++ f ∷ back) rest) (member_kept (asked f) got))
told_more asked (g ∷ pre) back f (Absent rest) got h =
    ap (line_told asked (g ∷ pre ++ f ∷ back)) (more_absent got rest) ∙ ap (λ x. entry.Absent ∷ x) (told_more asked pre back f rest got h)

passed_end : (fields : List Field) (E : Env) → passed fields End E ≡ E
passed_end [] E = refl
passed_end (f ∷ fields) E = refl

-- the earlier fields behind those that were held
passed_joined : (pre rest : List Field) (held a : Members) (E : Env) → AreFor pre held → passed (pre ++ rest) (joined held a) E ≡ passed rest a (passed (pre ++ rest) held E)
passed_joined [] rest End a E h = ap (λ x. passed rest a x) (sym (passed_end rest E))
passed_joined [] rest (Here n held) a E h = absurd h
passed_joined [] rest (Absent held) a E h = absurd h
passed_joined (g ∷ pre) rest End a E h = absurd h
passed_joined (g ∷ pre) rest (Here n held) a E h = passed_joined pre rest held a (env.behind g (Some n) E) h
passed_joined (g ∷ pre) rest (Absent held) a E h = passed_joined pre rest held a (env.behind g None E) h

built_more : (got : Option Node) (held : Members) (outer : List Level)
    → built_by got (Some (record { top = None; levels = InGroup held ∷ outer })) ≡ Some (record { top = None; levels = InGroup (more got held) ∷ outer })
built_more None held outer = refl
built_more (Some n) held outer = refl

-- ---- the members of the fields from a place on

pub members_first : {S : Type 0} (left : S → Option (List ℕ)) (still : S → S → Type 0) (faults : S → ℕ) (at : Setting) (from : ℕ) (held : Members) (old : Stand S)
    → IsReadyTaker old.taker → old.nodes ≤ most_nodes → HoldsAt at from old held → MembersSoFar left still faults at from from held old old
members_first left still faults at from held old ready most h = record {
  more = End;
  done = let none : from - from ≡ 0 = omega arith in
      subst (λ k. Line (IsHere at) (ValueShape at 63) (take k (drop from (line at.schema.now at.number))) (env_of at.schema.now at.number held) End) (sym none) refl;
  goes = record { takes = takes_nothing left still faults old.taker ready; nodes = omega arith; counted = most };
  built = h.is ∙ ap (λ m. Some (record { top = None; levels = InGroup m ∷ [] })) (sym (joined_end held));
  kept = subst (λ m. AreKept at.schema.now at.number from old.told m) (sym (joined_end held)) h.are;
}

-- the earlier fields of the next member
earlier_is : (at : Setting) (from to : ℕ) (held a : Members) → AreFor (take from (line at.schema.now at.number)) held
    → Line (IsHere at) (ValueShape at 63) (fields_between at.schema.now at.number from to) (env_of at.schema.now at.number held) a
    → earlier at (joined held a) ≡ passed (fields_between at.schema.now at.number from to) a (env_of at.schema.now at.number held)
earlier_is at from to held a each done =
    let L = line at.schema.now at.number in
    let rest = drop from L in
    let mid = take (to - from) rest in
    let E = passed L held [] in
    ap (λ fs. passed fs (joined held a) []) (sym (take-append-drop from L))
    ∙ passed_joined (take from L) rest held a [] each
    ∙ ap (λ fs. passed rest a (passed fs held [])) (take-append-drop from L)
    ∙ ap (λ fs. passed fs a E) (sym (take-append-drop (to - from) rest))
    ∙ passed_front (IsHere at) (ValueShape at 63) mid (drop (to - from) rest) E a done

field_between : (at : Setting) (from place : ℕ) (f : Field) → from ≤ place → slice_get (line at.schema.now at.number) place ≡ Some f
    → slice_get (drop from (line at.schema.now at.number)) (place - from) ≡ Some f
field_between at from place f le e =
    let same : from + (place - from) ≡ place = omega arith in
    get_behind (line at.schema.now at.number) from (place - from) ∙ ap (slice_get (line at.schema.now at.number)) same ∙ e

pub members_step : {S : Type 0} (left : S → Option (List ℕ)) (still : S → S → Type 0) (faults : S → ℕ) (at : Setting) (from place : ℕ) (f : Field) (held : Members) (old mid new : Stand S)
    → from ≤ place → slice_get (line at.schema.now at.number) place ≡ Some f → HoldsAt at from old held → (s : MembersSoFar left still faults at from place held old mid)
    → ReadsMember left still faults at 63 (earlier at (joined held s.more)) f mid new → MembersSoFar left still faults at from (place + 1) held old new
members_step left still faults at from place f held old mid new le e h s r = record {
  more = more r.got s.more;
  done = subst (λ fs. Line (IsHere at) (ValueShape at 63) fs E (more r.got s.more)) (sym next)
      (fields_push (IsHere at) (ValueShape at 63) (fields_between at.schema.now at.number from place) f E s.more r.got s.done
      (is_next r.got (subst (λ x. MemberIs at 63 x f r.got) (earlier_is at from place held s.more h.are.each s.done) r.is)));
  goes = goes_joined left still faults (texts (context_in at).order s.more) (member_bytes (context_in at).order r.got) (texts (context_in at).order (more r.got s.more)) (nodes_in s.more) (member_nodes r.got) (nodes_in (more r.got s.more)) old mid new s.goes r.goes
      (sym (texts-more (context_in at).order s.more r.got)) (sym (nodes-more s.more r.got));
  built = r.built ∙ ap (λ b. built_by r.got b) s.built ∙ built_more r.got (joined held s.more) []
      ∙ ap (λ m. Some (record { top = None; levels = InGroup m ∷ [] })) (joined_more held s.more r.got);
  kept = record {
    each = subst (λ m. AreFor (take (place + 1) L) m) (joined_more held s.more r.got)
        (subst (λ fs. AreFor fs (more r.got (joined held s.more))) (sym front)
        (for_more (take place L) f (joined held s.more) r.got s.kept.each));
    told = r.told ∙ ap (λ x. x ++ member_kept (asks at.schema.now at.number f) r.got) s.kept.told
        ∙ ap (λ fs. line_told (asks at.schema.now at.number) fs (joined held s.more) ++ member_kept (asks at.schema.now at.number f) r.got) (whole_at L place f e)
        ∙ sym (told_more (asks at.schema.now at.number) (take place L) (drop (suc place) L) f (joined held s.more) r.got s.kept.each)
        ∙ ap (λ fs. line_told (asks at.schema.now at.number) fs (more r.got (joined held s.more))) (sym (whole_at L place f e))
        ∙ ap (λ m. line_told (asks at.schema.now at.number) L m) (joined_more held s.more r.got);
  };
}
  where
    L : List Field
    L = line at.schema.now at.number

    E : Env
    E = env_of at.schema.now at.number held

    next : fields_between at.schema.now at.number from (place + 1) ≡ fields_between at.schema.now at.number from place ++ f ∷ []
    next = let one : place + 1 - from ≡ suc (place - from) = omega arith in
        ap (λ k. take k (drop from L)) one ∙ front_next (drop from L) (place - from) f (field_between at from place f le e)

    front : take (place + 1) L ≡ take place L ++ f ∷ []
    front = ap (λ k. take k L) (add-one place) ∙ front_next L place f e

    is_next : (got : Option Node) → MemberIs at 63 (passed (fields_between at.schema.now at.number from place) s.more E) f got
        → steps.IsNext (IsHere at) (ValueShape at 63) (passed (fields_between at.schema.now at.number from place) s.more E) f got
    is_next None h = h
    is_next (Some n) h = h

pub members_fail : {S : Type 0} (left : S → Option (List ℕ)) (still : S → S → Type 0) (faults : S → ℕ) (at : Setting) (from place to : ℕ) (f : Field) (held : Members) (old mid new : Stand S) (why : Cause)
    → from ≤ place → place < to → slice_get (line at.schema.now at.number) place ≡ Some f → HoldsAt at from old held → (s : MembersSoFar left still faults at from place held old mid)
    → Ceases left still faults (MemberStops at 63 (earlier at (joined held s.more)) f) mid new why → Ceases left still faults (MembersStop at from to held) old new why
members_fail left still faults at from place to f held old mid new why le less e h s c =
    let E = env_of at.schema.now at.number held in
    let x = front_at (drop from (line at.schema.now at.number)) (place - from) (to - from) f (omega arith) (field_between at from place f le e) in
    record {
      went = went_joined left still faults (texts (context_in at).order s.more) old.taker mid.taker new.taker s.goes.takes c.went;
      building = c.building;
      stops = stops_behind left still faults (MemberStops at 63 (earlier at (joined held s.more)) f) (MembersStop at from to held) (texts (context_in at).order s.more) (nodes_in s.more) old mid new.taker why s.goes
          (λ p next w q bad.
          subst (λ fs. steps.LineStops (context_in at).order (IsHere at) (ValueShape at 63) (ValueStops at 63) fs E p w) (sym x.1)
          (fields_fail (context_in at).order (IsHere at) (ValueShape at 63) (ValueStops at 63) (fields_between at.schema.now at.number from place) x.0 f E s.more p next w s.done q
          (subst (λ y. MemberStops at 63 y f next w) (earlier_is at from place held s.more h.are.each s.done) bad)))
          c.stops;
    }

-- what stands then
pub members_hold : {S : Type 0} (left : S → Option (List ℕ)) (still : S → S → Type 0) (faults : S → ℕ) (at : Setting) (from to : ℕ) (held : Members) (old now : Stand S)
    → HoldsAt at from old held → (s : MembersSoFar left still faults at from to held old now) → HoldsAt at to now (joined held s.more)
members_hold left still faults at from to held old now h s = record {
  are = s.kept;
  is = s.built;
  nodes = omega (arith, joined_nodes held s.more, h.nodes, s.goes.nodes);
  bytes = omega (arith, ap length (joined_texts order.Little held s.more), length-append (texts order.Little held) (texts order.Little s.more), texts_length (context_in at).order s.more, h.bytes, s.goes.takes.place);
}

pub members_ready : {S : Type 0} (left : S → Option (List ℕ)) (still : S → S → Type 0) (faults : S → ℕ) (at : Setting) (from to : ℕ) (held : Members) (old now : Stand S)
    → HoldsAt at from old held → MembersSoFar left still faults at from to held old now → IsReady now 191
members_ready left still faults at from to held old now h s =
    let z = members_hold left still faults at from to held old now h s in
    record {
      taker = record { sound = s.goes.takes.sound; ahead = s.goes.takes.ahead; within = s.goes.takes.within };
      counted = s.goes.counted;
      room = record {
        tree = record { top = None; levels = InGroup (joined held s.more) ∷ [] };
        is = s.built;
        takes = tt;
        nodes = omega (arith, z.nodes);
        bytes = omega (arith, z.bytes);
        levels = omega arith;
      };
    }

pub members_group : {S : Type 0} (left : S → Option (List ℕ)) (still : S → S → Type 0) (faults : S → ℕ) (at : Setting) (from to : ℕ) (held : Members) (old now : Stand S)
    → MembersSoFar left still faults at from to held old now → IsSomeAnd now.building (λ b. TakesAbsent b.levels)
members_group left still faults at from to held old now s = subst (λ o. IsSomeAnd o (λ b. TakesAbsent b.levels)) (sym s.built) tt

-- ---- the whole call

-- What a setting is where such members are read.
pub record IsAbove (at : Setting) (C : Context) : Type 0 where
  pub template : at.template ≡ None
  pub arg : at.arg ≡ 0
  pub context : context_in at ≡ C

above_shape : (at : Setting) (C : Context) (fields : List Field) (E : Env) (a : Members) → IsAbove at C → Line (IsHere at) (ValueShape at 63) fields E a → MembersShape at.schema.now C fields E a
above_shape at C fields E a t h =
    subst (λ D. MembersShape at.schema.now D fields E a) t.context
    (subst (λ (n : ℕ). LineOf (context_in at) None n) t.arg (subst (λ x. LineOf (context_in at) x at.arg) t.template h))
  where
    LineOf : Context → Option ℕ → ℕ → Type 0
    LineOf D template arg = LineShape at.schema.now (λ E. D) 63 template arg (no_check {Why = Fault}) fields E a

above_fail : (at : Setting) (C : Context) (fields : List Field) (E : Env) (p : Point) (f : Fault) → IsAbove at C
    → steps.LineStops (context_in at).order (IsHere at) (ValueShape at 63) (ValueStops at 63) fields E p f → MembersFail at.schema.now C fields E p f
above_fail at C fields E p f t h =
    subst (λ D. MembersFail at.schema.now D fields E p f) t.context
    (subst (λ (n : ℕ). FailOf (context_in at) None n) t.arg (subst (λ x. FailOf (context_in at) x at.arg) t.template h))
  where
    FailOf : Context → Option ℕ → ℕ → Type 0
    FailOf D template arg = LineFails at.schema.now (λ E. D) 63 template arg (λ f. f) (no_check {Why = Fault}) fields E p f

-- the setting in which they were read
abbrev pub setting_of : {S : Type 0} (left : S → Option (List ℕ)) (still : S → S → Type 0) (faults : S → ℕ) {at : Setting} {from to : ℕ} {held : Members} {old now : Stand S} → MembersSoFar left still faults at from to held old now → Setting
setting_of left still faults {at = at} s = at

pub members_decoded : {S : Type 0} (left : S → Option (List ℕ)) (still : S → S → Type 0) (faults : S → ℕ) (at : Setting) (C : Context) (from to : ℕ) (held : Members) (old : Taker S) (first last : Stand S) (after : Trees)
    → IsAbove at C → Takes left still faults old [] first.taker → HoldsAt at from first held → after.building ≡ last.building → MembersSoFar left still faults at from to held first last
    → MembersDecoded left still faults at.schema.now C at.number from to held old last.taker first.nodes last.nodes last.told after
members_decoded left still faults at C from to held old first last after t z h b s =
    let all = members_hold left still faults at from to held first last h s in
    record {
      more = s.more;
      are = above_shape at C (fields_between at.schema.now at.number from to) (env_of at.schema.now at.number held) s.more t s.done;
      takes = subst (λ D. Takes left still faults old (texts D.order s.more) last.taker) t.context
          (takes_joined left still faults old first.taker last.taker [] (texts (context_in at).order s.more) (texts (context_in at).order s.more) z s.goes.takes refl);
      nodes = s.goes.nodes;
      within = s.goes.counted;
      holds = subst (λ o. HoldsMembers at.schema.now at.number to last.told o last.nodes (place_of last.taker) (joined held s.more)) (sym b) all;
    }

pub members_refused : {S : Type 0} (left : S → Option (List ℕ)) (still : S → S → Type 0) (faults : S → ℕ) (at : Setting) (C : Context) (from to : ℕ) (held : Members) (old : Taker S) (first last : Stand S) (after : Trees) (fault : ValueFault)
    → IsAbove at C → Takes left still faults old [] first.taker → first.nodes ≤ most_nodes → after.building ≡ None → Ceases left still faults (MembersStop at from to held) first last (cause fault)
    → MembersRefused left still faults at.schema.now C at.number from to held old last.taker first.nodes after fault
members_refused {S = S} left still faults at C from to held old first last after fault t z n b c = record {
  went = went_joined left still faults [] old first.taker last.taker z c.went;
  stops = stops_behind left still faults (MembersStop at from to held) (MembersFail at.schema.now C (fields_between at.schema.now at.number from to) (env_of at.schema.now at.number held)) [] 0
      (record { taker = old; nodes = first.nodes; building = None; told = [] }) first last.taker (cause fault)
      (record { takes = z; nodes = omega arith; counted = n })
      (λ p q f passes h. above_fail at C (fields_between at.schema.now at.number from to) (env_of at.schema.now at.number held) p f t (subst (λ x. MembersStop at from to held x f) (start p q passes) h)) c.stops;
  building = b;
}

-- the members that are held, where nothing was taken
pub members_moved : {S : Type 0} (left : S → Option (List ℕ)) (still : S → S → Type 0) (faults : S → ℕ) (at : Setting) (from : ℕ) (held : Members) (old : Taker S) (first : Stand S) (entries : List Entry)
    → Takes left still faults old [] first.taker → first.told ≡ entries → HoldsMembers at.schema.now at.number from entries first.building first.nodes (place_of old) held → HoldsAt at from first held
members_moved left still faults at from held old first entries t e h = record {
  are = subst (λ es. AreKept at.schema.now at.number from es held) (sym e) h.are;
  is = h.is;
  nodes = h.nodes;
  bytes = omega (arith, h.bytes, t.place);
}

-- nothing was taken of them
pub members_early : {S : Type 0} (left : S → Option (List ℕ)) (still : S → S → Type 0) (faults : S → ℕ) (schema : Schema) (C : Context) (kind from to : ℕ) (held : Members) (old new : Taker S) (counted : ℕ) (after : Trees) (fault : ValueFault)
    → Ends left still faults (λ p. None) old new (cause fault) → after.building ≡ None → MembersRefused left still faults schema C kind from to held old new counted after fault
members_early left still faults schema C kind from to held old new counted after fault e b = record {
  went = e.went;
  stops = nothing_stops left still faults (MembersFail schema C (fields_between schema kind from to) (env_of schema kind held)) (record { taker = old; nodes = counted; building = None; told = [] }) new (cause fault) e;
  building = b;
}
