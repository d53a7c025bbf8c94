use Rattle.std.proofs.Common.{◌≡◌, ◌↔◌, ◌<◌, ◌+◌, ◌++◌, length, take, get_or, flat_map, Contains, true, refl, sym, ap, subst, ◌∙◌, arith}
use Rattle.std.specs.List.{All}
use Rattle.std.proofs.lemmas.List.{take_all, take_more}
use Rattle.std.proofs.lemmas.List.Elements.{All-contains, All-get_or, All-push, All-weaker}
use Rattle.nif_sets.specs.Kept.{plain_known}
use Rattle.nif_sets.specs.Sets.{IsSet, IsBelow, IsWithin, types_of}
use Rattle.nif_sets.specs.Insides.{IsInside, is_lacking}
use Rattle.nif_sets.specs.declared.sets.Key.{Key}
use Rattle.nif_sets.specs.declared.sets.TypeSet.TheVariants.{One, Joined}
use Rattle.nif_sets.proofs.InsideLemmas.{AreKnown-more, Means-same, Means-append, lacking-part}
use Rattle.nif_sets.proofs.LikeLemmas.{on-ok, iff-same}
use Rattle.nif_sets.proofs.SetLemmas.{IsBelow-more, IsGrown-then, flat-push, flat_map-agree}
use Rattle.nif_sets.proofs.sets.Sets.+inside.Goals as goal

pub inside-returns-in-Some-clause-inside : goal.inside-returns-in-Some-clause-inside
inside-returns-in-Some-clause-inside t c = λ are.
    let key : Key = record { set = c.args.set; name = c.in-Ok.own } in
    subst (λ name. IsInside c.args.tables.now c.args.self.now c.args.set name c.in-Some.answer) c.in-Ok.ensures.items
    (are (plain_known (key, c.in-Some.answer)) c.in-Some.ensures.known)

pub inside-returns-in-Ok-look_inside-clause-known : goal.inside-returns-in-Ok-look_inside-clause-known
inside-returns-in-Ok-look_inside-clause-known t c =
    let key : Key = record { set = c.args.set; name = c.in-Ok.own } in
    let answer = c.in-Ok-look_inside.answer in
    let mid = c.look_inside.new.self in
    on-ok c.note.result c.note.ensures.known (λ back are.
    AreKnown-more c.args.tables.now mid c.note.new.self (plain_known (key, answer)) c.note.ensures.parts back
    (subst (λ name. IsInside c.args.tables.now mid c.args.set name answer) (sym c.in-Ok.ensures.items) (c.in-Ok-look_inside.ensures.inside are))
    (c.in-Ok-look_inside.ensures.known are))

pub inside_parts-returns-in-Ok-None-clause-inside : goal.inside_parts-returns-in-Ok-None-clause-inside
inside_parts-returns-in-Ok-None-clause-inside t c = λ are.
    let tables = c.args.tables.now in
    let name = c.args.name.now in
    let old = c.args.self.now in
    let new = c.inside.new.self in
    let number = c.args.number in
    let items = c.as_slice-part-items.result.now in
    let i = c.loop-part.part-index in
    let part = get_or items i (One 0) in
    let own = c.as_slice-part-items.ensures.value ∙ c.in-Ok.ensures.items in
    let lt : number < length old.parts = c.requires in
    let below = All-get_or (IsBelow number) items i (One 0) c.loop-part-test.true (subst (All (IsBelow number)) (sym own) c.parts_of.ensures.before) in
    let there = IsBelow-more number (length old.parts) part (omega (arith, lt)) below in
    let grown = IsGrown-then old c.loop-part.self new c.loop-part.invariant.grown c.in-Ok-None.ensures.grown in
    let lacks : is_lacking tables name (types_of new part) ≡ true =
    subst (IsInside tables new part name) c.in-Ok-None.field-0-is (c.in-Ok-None.ensures.inside (c.loop-part.invariant.known are)) in
    let whole : types_of new (Joined number) ≡ flat_map (types_of old) items = (grown (Joined number) lt).1 ∙ c.parts_of.ensures.types ∙ ap (flat_map (types_of old)) (sym own) in
    ap (is_lacking tables name) whole
    ∙ lacking-part tables name (types_of old) items i (One 0) c.loop-part-test.true (ap (is_lacking tables name) (sym (grown part there).1) ∙ lacks)

pub inside_parts-returns-in-Ok-None-clause-known : goal.inside_parts-returns-in-Ok-None-clause-known
inside_parts-returns-in-Ok-None-clause-known t c = λ are. c.in-Ok-None.ensures.known (c.loop-part.invariant.known are)

pub inside_parts-loop-part-preserved : goal.inside_parts-loop-part-preserved
inside_parts-loop-part-preserved t c =
    let tables = c.args.tables.now in
    let name = c.args.name.now in
    let old = c.args.self.now in
    let mid = c.loop-part.self in
    let new = c.inside.new.self in
    let number = c.args.number in
    let items = c.as_slice-part-items.result.now in
    let sets = c.loop-part.sets.items in
    let inside = c.in-Ok-Some.inside in
    let i = c.loop-part.part-index in
    let part = get_or items i (One 0) in
    let own = c.as_slice-part-items.ensures.value ∙ c.in-Ok.ensures.items in
    let lt : number < length old.parts = c.requires in
    let below = All-get_or (IsBelow number) items i (One 0) c.loop-part-test.true (subst (All (IsBelow number)) (sym own) c.parts_of.ensures.before) in
    let there = IsBelow-more number (length old.parts) part (omega (arith, lt)) below in
    let later = c.in-Ok-Some.ensures.grown in
    let grown = IsGrown-then old mid new c.loop-part.invariant.grown later in
    let set_there : IsSet new inside.set = subst (IsWithin new) c.in-Ok-Some.field-0-is c.in-Ok-Some.ensures.within in
    record {
      grown = grown;
      known = λ are. c.in-Ok-Some.ensures.known (c.loop-part.invariant.known are);
      within = subst (All (IsSet new)) (sym c.in-Ok-push.ensures.items)
          (All-push (IsSet new) sets inside.set (All-weaker (IsSet mid) (IsSet new) (λ s h. (later s h).0) sets c.loop-part.invariant.within) set_there);
      means = λ are.
          let front = flat_map (types_of old) (take i items) in
          let early = Means-same tables name front front c.loop-part.numbers c.loop-part.inner (flat_map (types_of mid) sets) (flat_map (types_of new) sets) refl
          (iff-same (flat_map (types_of new) sets) (flat_map (types_of mid) sets)
          (flat_map-agree (types_of new) (types_of mid) sets (λ s h. (later s (All-contains (IsSet mid) sets s c.loop-part.invariant.within h)).1)))
          (c.loop-part.invariant.means are) in
          let own_inside = subst (IsInside tables new part name) c.in-Ok-Some.field-0-is (c.in-Ok-Some.ensures.inside (c.loop-part.invariant.known are)) in
          let last = Means-same tables name (types_of new part) (types_of old part) inside.numbers inside.inner (types_of new inside.set) (types_of new inside.set) (sym (grown part there).1)
          (λ k. ((λ h. h), (λ h. h))) own_inside in
          let both = Means-append tables name front (types_of old part) c.loop-part.numbers c.loop-part.inner inside.numbers inside.inner (flat_map (types_of new) sets) (types_of new inside.set) early last in
          Means-same tables name (front ++ types_of old part) (flat_map (types_of old) (take (i + 1) items)) _ _
          (flat_map (types_of new) sets ++ types_of new inside.set) (flat_map (types_of new) c.push.new.self.items)
          (ap (flat_map (types_of old)) (take_more items i (One 0) c.loop-part-test.true) ∙ flat-push (types_of old) (take i items) part)
          (iff-same (flat_map (types_of new) c.push.new.self.items) (flat_map (types_of new) sets ++ types_of new inside.set)
          (ap (flat_map (types_of new)) c.in-Ok-push.ensures.items ∙ flat-push (types_of new) sets inside.set))
          both;
    }

pub inside_parts-returns-in-Ok-join-clause-inside : goal.inside_parts-returns-in-Ok-join-clause-inside
inside_parts-returns-in-Ok-join-clause-inside t c = λ are.
    let tables = c.args.tables.now in
    let name = c.args.name.now in
    let old = c.args.self.now in
    let mid = c.loop-part.self in
    let new = c.join.new.self in
    let number = c.args.number in
    let items = c.as_slice-part-items.result.now in
    let sets = c.loop-part.sets.items in
    let i = c.loop-part.part-index in
    let own = c.as_slice-part-items.ensures.value ∙ c.in-Ok.ensures.items in
    let lt : number < length old.parts = c.requires in
    let grown = IsGrown-then old mid new c.loop-part.invariant.grown c.in-Ok-join.ensures.grown in
    let whole : types_of new (Joined number) ≡ flat_map (types_of old) items = (grown (Joined number) lt).1 ∙ c.parts_of.ensures.types ∙ ap (flat_map (types_of old)) (sym own) in
    Means-same tables name (flat_map (types_of old) (take i items)) (types_of new (Joined number)) c.loop-part.numbers c.loop-part.inner
    (flat_map (types_of mid) sets) (types_of new c.in-Ok-join.set)
    (whole ∙ ap (flat_map (types_of old)) (sym (take_all i items c.loop-part-test.false)))
    (λ k. subst (λ l. Contains (types_of new c.in-Ok-join.set) k ↔ Contains (flat_map (types_of mid) l) k) c.as_slice.ensures.value (c.in-Ok-join.ensures.types k))
    (c.loop-part.invariant.means are)

pub inside_parts-returns-in-Ok-join-clause-known : goal.inside_parts-returns-in-Ok-join-clause-known
inside_parts-returns-in-Ok-join-clause-known t c = λ are. c.in-Ok-join.ensures.known c.args.tables.now (c.loop-part.invariant.known are)
