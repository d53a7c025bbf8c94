use Rattle.std.proofs.Common.{◌++◌, length, drop, refl, sym, ap, ◌∙◌, arith}
use Rattle.nif_attributes.proofs.Replacing.{found_parts, replaced_not_found, made_more, too_long_first, too_long_second, too_long_last}
use Rattle.nif_attributes.proofs.tokens.replace.Goals as goal

pub returns-then-not-branch : goal.returns-then-not-branch
returns-then-not-branch c =
    let front = c.split_at.result.0.now in
    let found = c.split_at.result.1.now in
    let behind = drop (length c.args.token.now) found in
    too_long_first _ _ _ front c.args.string.now _ c.loop-place.invariant.made
    (found_parts c.args.token.now c.args.string.now c.loop-place.rest.now front found behind c.in-Some.place c.requires c.in-Some.ensures c.split_at.ensures.front c.split_at.ensures.back refl)
    (c.in_ok-push_within.ensures.full c.if-not-branch.true)

pub returns-then-not-branch-2 : goal.returns-then-not-branch-2
returns-then-not-branch-2 c =
    let front = c.split_at.result.0.now in
    let found = c.split_at.result.1.now in
    let behind = drop (length c.args.token.now) found in
    too_long_second _ _ _ front c.args.string.now _ _ c.loop-place.invariant.made
    (found_parts c.args.token.now c.args.string.now c.loop-place.rest.now front found behind c.in-Some.place c.requires c.in-Some.ensures c.split_at.ensures.front c.split_at.ensures.back refl)
    (c.in_ok-push_within.ensures.put c.if-not-branch.false).0 (c.in_ok-push_within-2.ensures.full c.if-not-branch-2.true)

pub loop-place-preserved : goal.loop-place-preserved
loop-place-preserved c =
    let front = c.split_at.result.0.now in
    let found = c.split_at.result.1.now in
    let behind = c.split_at-in-Some.result.1.now in
    let second = c.in_ok-push_within-2.ensures.put c.if-not-branch-2.false in
    record {
      made =
          made_more _ _ _ front c.args.string.now _ _ _ c.loop-place.invariant.made
          (found_parts c.args.token.now c.args.string.now c.loop-place.rest.now front found behind c.in-Some.place c.requires c.in-Some.ensures c.split_at.ensures.front c.split_at.ensures.back c.split_at-in-Some.ensures.back)
          (c.in_ok-push_within.ensures.put c.if-not-branch.false).0 second.0;
      within = omega (arith, second.1, c.push_within-in-Some.new.out.ok.0);
    }

pub returns-then-not-branch-3 : goal.returns-then-not-branch-3
returns-then-not-branch-3 c =
    too_long_last _ _ _ _ c.loop-place.invariant.made (replaced_not_found c.args.token.now c.args.string.now c.loop-place.rest.now c.in_default.ensures)
    (c.in_ok-push_within-3.ensures.full c.if-not-branch-3.true)

pub returns : goal.returns
returns c =
    let last = c.in_ok-push_within-3.ensures.put c.if-not-branch-3.false in
    (last.0 ∙ sym (c.loop-place.invariant.made ∙ ap (λ l. c.loop-place.out.items ++ l) (replaced_not_found c.args.token.now c.args.string.now c.loop-place.rest.now c.in_default.ensures)), last.1)
