use Rattle.std.proofs.Common.{None, refl, sym, ap, subst}
use Rattle.std.specs.Prelude.{IsSome}
use Rattle.nif_layout.specs.Context.{Context}
use Rattle.nif_scope.specs.declared.settings.Setting.{Setting}
use Rattle.nif_decode.specs.Answers.{Stand, stand}
use Rattle.nif_decode.specs.Decodes.{context_for}
use Rattle.nif_decode.proofs.Decoding.{context_owned, is_setting}
use Rattle.nif_decode.proofs.MemberSteps.{IsAbove, members_moved, setting_of, members_early, members_decoded, members_refused}
use Rattle.nif_decode.proofs.members.decode_members.Goals as goal

pub abandon-requires : goal.abandon-requires
abandon-requires g c = subst (λ o. IsSome o) (sym c.requires.members.1.is) refl

pub returns-in-Err-clause-answers : goal.returns-in-Err-clause-answers
returns-in-Err-clause-answers g c = λ held h.
    members_early g.S.Source.left g.S.Source.still g.S.Source.read_faults c.args.schema.now (context_for c.args.schema.now c.args.context c.args.kind c.args.bounds.now) c.args.kind c.args.from c.args.to held
    c.args.taker.now c.take_nothing.new.taker c.args.bounds.now.nodes c.abandon.new.self c.in-Err.fault c.in-Err.ensures.err c.abandon.ensures.building

pub read_members-requires-clause-setting : goal.read_members-requires-clause-setting
read_members-requires-clause-setting g c = is_setting _ c.requires.open c.requires.group c.owner_of.ensures

pub read_members-requires-clause-ready : goal.read_members-requires-clause-ready
read_members-requires-clause-ready g c = record { sound = c.in-Ok.ensures.ok.sound; ahead = c.in-Ok.ensures.ok.ahead; within = c.in-Ok.ensures.ok.within }

pub read_members-requires-clause-members : goal.read_members-requires-clause-members
read_members-requires-clause-members g c =
    let at : Setting = record {
      schema = c.args.schema;
      context = record {
        ref_ptr = c.args.schema.ref_ptr;
        now = record { context = c.args.context; owner = c.owner_of.result; blocks = c.args.bounds.now.blocks; strings = c.args.bounds.now.strings };
      };
      number = c.args.kind;
      template = None;
      arg = 0;
    } in
    let first : Stand g.row.S.Denot = stand c.take_nothing.new.taker c.args.bounds.now.nodes c.args.store.now c.scope.inside.entries.items in
    let h = c.requires.members in
    (h.0, (members_moved g.S.Source.left g.S.Source.still g.S.Source.read_faults at c.args.from h.0 c.args.taker.now first c.args.scope.now c.in-Ok.ensures.ok c.scope.view_is h.1))

pub returns-in-Err-read_members-clause-answers : goal.returns-in-Err-read_members-clause-answers
returns-in-Err-read_members-clause-answers g c = λ held h.
    let at : Setting = record {
      schema = c.args.schema;
      context = record {
        ref_ptr = c.args.schema.ref_ptr;
        now = record { context = c.args.context; owner = c.owner_of.result; blocks = c.args.bounds.now.blocks; strings = c.args.bounds.now.strings };
      };
      number = c.args.kind;
      template = None;
      arg = 0;
    } in
    let C : Context = context_for c.args.schema.now c.args.context c.args.kind c.args.bounds.now in
    let above : IsAbove at C = record { template = refl; arg = refl; context = ap (context_owned c.args.context c.args.bounds.now) c.owner_of.ensures } in
    let first : Stand g.row.S.Denot = stand c.take_nothing.new.taker c.args.bounds.now.nodes c.args.store.now c.scope.inside.entries.items in
    let last : Stand g.row.S.Denot = stand c.read_members.new.taker c.read_members.new.nodes c.read_members.new.store c.read_members.new.told.items in
    members_refused g.S.Source.left g.S.Source.still g.S.Source.read_faults at C c.args.from c.args.to held c.args.taker.now first last c.abandon-in-Err-read_members.new.self c.in-Err-read_members.fault
    above c.in-Ok.ensures.ok c.requires.counted c.abandon-in-Err-read_members.ensures.building (c.in-Err-read_members.ensures.answers held (members_moved g.S.Source.left g.S.Source.still g.S.Source.read_faults at c.args.from held c.args.taker.now first c.args.scope.now c.in-Ok.ensures.ok c.scope.view_is h))

pub returns-clause-answers : goal.returns-clause-answers
returns-clause-answers g c = λ held h.
    let at : Setting = record {
      schema = c.args.schema;
      context = record {
        ref_ptr = c.args.schema.ref_ptr;
        now = record { context = c.args.context; owner = c.owner_of.result; blocks = c.args.bounds.now.blocks; strings = c.args.bounds.now.strings };
      };
      number = c.args.kind;
      template = None;
      arg = 0;
    } in
    let C : Context = context_for c.args.schema.now c.args.context c.args.kind c.args.bounds.now in
    let first : Stand g.row.S.Denot = stand c.take_nothing.new.taker c.args.bounds.now.nodes c.args.store.now c.scope.inside.entries.items in
    let last : Stand g.row.S.Denot = stand c.read_members.new.taker c.read_members.new.nodes c.read_members.new.store c.read_members.new.told.items in
    let moved = members_moved g.S.Source.left g.S.Source.still g.S.Source.read_faults at c.args.from held c.args.taker.now first c.args.scope.now c.in-Ok.ensures.ok c.scope.view_is h in
    let read = c.in-Ok-read_members.ensures.answers held moved in
    let there = setting_of g.S.Source.left g.S.Source.still g.S.Source.read_faults read in
    let above : IsAbove there C = record { template = refl; arg = refl; context = ap (context_owned c.args.context c.args.bounds.now) c.owner_of.ensures } in
    members_decoded g.S.Source.left g.S.Source.still g.S.Source.read_faults there C c.args.from c.args.to held c.args.taker.now first last c.read_members.new.store
    above c.in-Ok.ensures.ok moved refl read
