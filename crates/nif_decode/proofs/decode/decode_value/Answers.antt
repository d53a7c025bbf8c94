use Rattle.std.proofs.Common.{◌∙◌, None, refl, ap, subst, arith}
use Rattle.nif_layout.specs.Context.{Context}
use Rattle.nif_scope.specs.Told as kept
use Rattle.nif_scope.specs.declared.settings.Setting.{Setting}
use Rattle.nif_decode.specs.Answers.{Stand, stand}
use Rattle.nif_decode.specs.Decodes.{context_for}
use Rattle.nif_decode.proofs.Decoding.{IsTop, Finished, context_owned, is_setting, begun_ready, is_whole, value_read, value_refused, refused_early}
use Rattle.nif_decode.proofs.decode.decode_value.Goals as goal

pub returns-in-Err-clause-answers : goal.returns-in-Err-clause-answers
returns-in-Err-clause-answers g c =
    refused_early g.S.Source.left g.S.Source.still g.S.Source.read_faults c.args.schema.now (context_for c.args.schema.now c.args.context c.args.kind c.args.bounds.now) c.args.kind
    c.args.taker.now c.take_nothing.new.taker c.args.bounds.now.nodes c.args.store.now c.in-Err.fault c.in-Err.ensures.err

pub returns-in-Ok-read_group-clause-answers : goal.returns-in-Ok-read_group-clause-answers
returns-in-Ok-read_group-clause-answers g c =
    let at : Setting = record {
      schema = c.args.schema;
      context = record {
        ref_ptr = c.args.schema.ref_ptr;
        now = record { context = c.args.context; owner = c.owner_of.result; blocks = c.args.bounds.now.blocks; strings = c.args.bounds.now.strings };
      };
      number = c.args.kind;
      template = None;
      arg = 0;
    } in
    let C : Context = context_for c.args.schema.now c.args.context c.args.kind c.args.bounds.now in
    let top : IsTop at C = record { group = c.requires.group; template = refl; arg = refl; context = ap (context_owned c.args.context c.args.bounds.now) c.owner_of.ensures } in
    let first : Stand g.row.S.Denot = stand c.take_nothing.new.taker c.args.bounds.now.nodes c.begin.new.self c.new-told.result.items in
    let last : Stand g.row.S.Denot = stand c.read_group.new.taker c.read_group.new.nodes c.read_group.new.store c.read_group.new.told.items in
    value_read g.S.Source.left g.S.Source.still g.S.Source.read_faults at C c.args.taker.now first last c.args.store.now c.finish.new.self c.finish.result kept.told
    top c.in-Ok.ensures.ok c.in-Ok-begin.ensures.ok c.in-Ok-read_group.ensures.answers
    (subst (λ ts. Finished ts c.read_group.new.store.building c.finish.new.self c.finish.result) (c.read_group.ensures.trees ∙ c.begin.ensures.trees)
    (record { fresh = c.finish.ensures.fresh; trees = c.finish.ensures.trees; found = c.finish.ensures.tree }))

pub returns-clause-answers : goal.returns-clause-answers
returns-clause-answers g c =
    let at : Setting = record {
      schema = c.args.schema;
      context = record {
        ref_ptr = c.args.schema.ref_ptr;
        now = record { context = c.args.context; owner = c.owner_of.result; blocks = c.args.bounds.now.blocks; strings = c.args.bounds.now.strings };
      };
      number = c.args.kind;
      template = None;
      arg = 0;
    } in
    let C : Context = context_for c.args.schema.now c.args.context c.args.kind c.args.bounds.now in
    let top : IsTop at C = record { group = c.requires.group; template = refl; arg = refl; context = ap (context_owned c.args.context c.args.bounds.now) c.owner_of.ensures } in
    let first : Stand g.row.S.Denot = stand c.take_nothing.new.taker c.args.bounds.now.nodes c.begin.new.self c.new-told.result.items in
    let last : Stand g.row.S.Denot = stand c.read_group.new.taker c.read_group.new.nodes c.read_group.new.store c.read_group.new.told.items in
    value_refused g.S.Source.left g.S.Source.still g.S.Source.read_faults at C c.args.taker.now first last c.args.store.now c.abandon.new.self c.in-Err-read_group.fault
    top c.in-Ok.ensures.ok c.requires.counted c.in-Err-read_group.ensures.answers (c.abandon.ensures.trees ∙ c.read_group.ensures.trees ∙ c.begin.ensures.trees)

pub read_group-requires-clause-setting : goal.read_group-requires-clause-setting
read_group-requires-clause-setting g c = is_setting _ c.requires.open c.requires.group c.owner_of.ensures

pub read_group-requires-clause-ready : goal.read_group-requires-clause-ready
read_group-requires-clause-ready g c =
    begun_ready g.S.Source.left g.S.Source.still g.S.Source.read_faults c.args.taker.now (stand c.take_nothing.new.taker c.args.bounds.now.nodes c.begin.new.self c.new-told.result.items) 192
    c.in-Ok.ensures.ok c.requires.counted c.in-Ok-begin.ensures.ok (omega arith)

pub finish-requires : goal.finish-requires
finish-requires g c =
    let r = c.in-Ok-read_group.ensures.answers in
    is_whole c.begin.new.self.building c.read_group.new.store.building r.node c.in-Ok-begin.ensures.ok r.built
