use Rattle.std.proofs.Common.{◌≡◌, ◌∙◌, ap, sym, subst, refl, [], Some, Option}
use Rattle.std.specs.Prelude.{IsSome, IsSomeAnd, IfSome}
use Rattle.nif_base.specs.Node as node
use Rattle.nif_cells.specs.Building.{Building, closed}
use Rattle.nif_value.specs.Trees.{IsOpen, IsWhole, after, with_tree}
use Rattle.nif_region.specs.Contents.{find}
use Rattle.nif_file.specs.Files.{head_of}
use Rattle.nif_decode.specs.WentLaws.{went_same}
use Rattle.nif_file.proofs.HeaderEnds.{memory_ends}
use Rattle.nif_file.proofs.HeaderWhole.{has_header, lacks_ends}
use Rattle.nif_file.proofs.header.read_header.Goals as goal

pub returns-in-Err-clause-reads : goal.returns-in-Err-clause-reads
returns-in-Err-clause-reads g c =
    (memory_ends g.S.Source.left g.S.Source.still g.S.Source.read_faults c.args.schema.now c.args.taker.now c.args.taker.now (went_same g.S.Source.left g.S.Source.still g.S.Source.read_faults c.args.taker.now), c.begin.ensures.trees)

pub returns-in-Err-read_all-clause-reads : goal.returns-in-Err-read_all-clause-reads
returns-in-Err-read_all-clause-reads g c = (c.in-Err-read_all.ensures.err, c.read_all.ensures.trees ∙ c.begin.ensures.trees)

pub abandon-requires : goal.abandon-requires
abandon-requires g c =
    let st = c.in-Ok-read_all.ensures.ok.1 in
    subst (λ (o : Option Building). IsSome o) (sym st.holds.is) refl

pub returns-then-lacks_types-clause-reads : goal.returns-then-lacks_types-clause-reads
returns-then-lacks_types-clause-reads g c =
    let S = c.args.schema.now in
    let entries = c.in-Ok-read_all.ensures.ok.0 in
    let st = c.in-Ok-read_all.ensures.ok.1 in (
      lacks_ends g.S.Source.left g.S.Source.still g.S.Source.read_faults S c.args.header c.args.taker.now c.read_all.new.taker entries c.read_all.new.store.building c.read_all.new.bounds.nodes c.in-Ok-read_all.head st (sym c.if-lacks_types.true ∙ c.lacks_types.ensures S (head_of S st.held) st.told),
      c.abandon.ensures.trees ∙ c.read_all.ensures.trees ∙ c.begin.ensures.trees,
    )

pub close-requires : goal.close-requires
close-requires g c =
    let st = c.in-Ok-read_all.ensures.ok.1 in
    subst (λ (o : Option Building). IsSomeAnd o IsOpen) (sym st.holds.is) (λ e. cc)

pub finish-requires : goal.finish-requires
finish-requires g c =
    let st = c.in-Ok-read_all.ensures.ok.1 in
    let whole : c.close.new.self.building ≡ Some (record { top = Some (node.Group st.held); levels = [] }) = c.close.ensures.building ∙ ap (λ o. after o closed) st.holds.is in
    subst IsWhole (sym whole) (refl, refl)

pub returns-clause-reads : goal.returns-clause-reads
returns-clause-reads g c =
    let S = c.args.schema.now in
    let entries = c.in-Ok-read_all.ensures.ok.0 in
    let st = c.in-Ok-read_all.ensures.ok.1 in
    let E = head_of S st.held in
    let whole : c.close.new.self.building ≡ Some (record { top = Some (node.Group st.held); levels = [] }) = c.close.ensures.building ∙ ap (λ o. after o closed) st.holds.is in
    let trees = c.close.ensures.trees ∙ c.read_all.ensures.trees ∙ c.begin.ensures.trees in
    let key = c.finish.result.run.key in
    let added : c.finish.new.self.trees ≡ with_tree c.close.new.self.trees key (Some (node.Group st.held)) =
    subst (λ (o : Option Building). IfSome o (λ b. c.finish.new.self.trees ≡ with_tree c.close.new.self.trees key b.top)) whole c.finish.ensures.trees in
    let found : find c.finish.new.self.trees key ≡ Some (node.Group st.held) = subst (λ (o : Option Building). IfSome o (λ b. find c.finish.new.self.trees key ≡ b.top)) whole c.finish.ensures.tree in
    has_header g.S.Source.left g.S.Source.still g.S.Source.read_faults S c.args.header c.args.taker.now c.read_all.new.taker entries c.read_all.new.store.building c.read_all.new.bounds.nodes c.in-Ok-read_all.head st c.args.store.now c.finish.new.self _
    (sym c.if-lacks_types.false ∙ c.lacks_types.ensures S E st.told) refl (c.context.ensures S E st.told) st.told.blocks st.told.strings c.role_places.ensures
    (ap (λ t. find t key) (sym trees) ∙ c.finish.ensures.fresh) (added ∙ ap (λ t. with_tree t key (Some (node.Group st.held))) trees) found
