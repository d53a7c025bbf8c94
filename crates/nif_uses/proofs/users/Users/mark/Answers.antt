use Rattle.std.proofs.Common.{Option, ℕ, Some, length, arith, refl, subst, ◌∙◌}
use Rattle.std.proofs.lemmas.Option.{slice_get_read}
use Rattle.nif_uses.proofs.Marking.{AreMarking, marking-next, marking-end, fewer_by}
use Rattle.nif_uses.proofs.users.Users.mark.Goals as goal

pub loop-at-preserved : goal.loop-at-preserved
loop-at-preserved c =
    let links = c.args.self.now.links.items in
    let so : AreMarking links c.args.used (Some c.in-Some.place) c.args.marks.now.items c.args.waiting.now.items c.loop-at.marks.items c.loop-at.waiting.items =
    subst (λ (o : Option ℕ). AreMarking links c.args.used o c.args.marks.now.items c.args.waiting.now.items c.loop-at.marks.items c.loop-at.waiting.items) c.in-Some.is
    c.loop-at.invariant.marking
    in
    let lt = so.latest.0 in
    let at = slice_get_read links (length links) c.in-Some.place c.index-link.result.now refl (omega (arith, so.within)) c.index-link.ensures in record {
      marking = marking-next c.args.self.now.latest.items links c.args.used c.in-Some.place c.index-link.result.now c.args.marks.now.items c.args.waiting.now.items
          c.loop-at.marks.items c.loop-at.waiting.items c.mark_one.new.marks.items c.mark_one.new.waiting.items c.requires.linked at so c.in-Ok.ensures.marked;
      count = c.in-Ok.ensures.count ∙ c.loop-at.invariant.count;
      fewer = fewer_by c.index-link.result.now.user c.loop-at.marks.items c.loop-at.waiting.items c.mark_one.new.marks.items c.mark_one.new.waiting.items
          c.in-Ok.ensures.marked ∙ c.loop-at.invariant.fewer;
    }

pub returns-clause-marked : goal.returns-clause-marked
returns-clause-marked c =
    let links = c.args.self.now.links.items in
    marking-end links c.args.used c.args.marks.now.items c.args.waiting.now.items c.loop-at.marks.items c.loop-at.waiting.items
    (subst (λ (o : Option ℕ). AreMarking links c.args.used o c.args.marks.now.items c.args.waiting.now.items c.loop-at.marks.items c.loop-at.waiting.items) c.in_default.is
    c.loop-at.invariant.marking)
