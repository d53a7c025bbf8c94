use Rattle.std.proofs.Common.{length, ap, sym, ◌∙◌, arith}
use Rattle.std.proofs.lemmas.List.{drop_all, length-map}
use Rattle.std.proofs.lemmas.Option.{slice_get-map}
use Rattle.std.specs.Option.{option_map}
use Rattle.std.specs.List.{fold, slice_get}
use Rattle.nif_attributes.specs.Tokens.{pass_group, name_of_attribute}
use Rattle.nif_attributes.specs.Listing.{lone}
use Rattle.nif_attributes.proofs.Finding.{fold-idle, expand_step, get_here}
use Rattle.nif_attributes.proofs.tokens.Tokens.expand.Goals as goal

pub returns-then-place-len : goal.returns-then-place-len
returns-then-place-len c =
    let f = pass_group (name_of_attribute c.args.attribute) in
    ap (λ l. fold f c.loop-at.out l) (sym (drop_all c.place-place.result c.args.self.now
    (omega (arith, c.if-place-len.true, c.len-in-loop-at.ensures, ap length c.self.view_is, length-map c.self.inside.items.items lone, c.self.inside.items.ok.0))))
    ∙ sym (fold-idle f c.loop-at.out c.args.self.now c.loop-at.at c.place-place.result c.place-place.ensures.low (c.place-place.ensures.idle (name_of_attribute c.args.attribute)))
    ∙ c.loop-at.invariant.done

pub loop-at-preserved-then-tries-gt0 : goal.loop-at-preserved-then-tries-gt0
loop-at-preserved-then-tries-gt0 c =
    let f = pass_group (name_of_attribute c.args.attribute) in
    record {
      within = omega (arith, c.if-place-len.false, c.len-in-loop-at.ensures, ap length c.self.view_is, length-map c.self.inside.items.items lone, c.self.inside.items.ok.0);
      done =
          expand_step f c.loop-at.out c.pass.new.text c.args.self.now c.loop-at.at c.place-place.result (lone c.index.result.now) _ c.place-place.ensures.low
          (c.place-place.ensures.idle (name_of_attribute c.args.attribute))
          (sym (ap (λ s. slice_get s c.place-place.result) c.self.view_is) ∙ slice_get-map lone c.self.inside.items.items c.place-place.result ∙ ap (option_map lone)
          (get_here c.self.inside.items.items c.place-place.result c.index.result.now (omega (arith, c.if-place-len.false, c.len-in-loop-at.ensures, c.self.inside.items.ok.0)) c.index.ensures))
          c.in_ok-pass.ensures c.loop-at.invariant.done;
    }

pub loop-at-preserved : goal.loop-at-preserved
loop-at-preserved c =
    let f = pass_group (name_of_attribute c.args.attribute) in
    record {
      within = omega (arith, c.if-place-len.false, c.len-in-loop-at.ensures, ap length c.self.view_is, length-map c.self.inside.items.items lone, c.self.inside.items.ok.0);
      done =
          expand_step f c.loop-at.out c.pass.new.text c.args.self.now c.loop-at.at c.place-place.result (lone c.index.result.now) _ c.place-place.ensures.low
          (c.place-place.ensures.idle (name_of_attribute c.args.attribute))
          (sym (ap (λ s. slice_get s c.place-place.result) c.self.view_is) ∙ slice_get-map lone c.self.inside.items.items c.place-place.result ∙ ap (option_map lone)
          (get_here c.self.inside.items.items c.place-place.result c.index.result.now (omega (arith, c.if-place-len.false, c.len-in-loop-at.ensures, c.self.inside.items.ok.0)) c.index.ensures))
          c.in_ok-pass.ensures c.loop-at.invariant.done;
    }
