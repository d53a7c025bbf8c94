use Rattle.std.proofs.Common.{◌≡◌, ◌++◌, [], IfSome, ap, subst, ◌∙◌, arith, append-nil}
use Rattle.std.proofs.lemmas.Result.{on_ok_weaker, on_err_weaker}
use Rattle.std.specs.Prelude.{codes}
use Rattle.nif_base.specs.declared.orders.Order.TheVariants.{Little}
use Rattle.nif_base.specs.Graph.{Origin}
use Rattle.nif_base.specs.Node.{Bytes}
use Rattle.nif_cells.specs.Walks.{walk}
use Rattle.nif_region.specs.Contents as region
use Rattle.nif_schema.specs.Roles.{header_fields}
use Rattle.nif_stream.specs.PutterLaws.{puts_more, fails_more, fails_before}
use Rattle.nif_value.specs.Trees.{Trees}
use Rattle.nif_graph.specs.State.{node_at}
use Rattle.nif_file.specs.PartsText.{WalksHeader, header_part, members_text, written_header}
use Rattle.nif_file.proofs.HeaderPuts.{begins, header_parts_are}
use Rattle.nif_file.proofs.HeaderTexts.{up_to_within}
use Rattle.nif_file.proofs.PartsPuts.{at_node}
use Rattle.nif_file.proofs.encode_header.put_header.Goals as goal

pub put_members-requires-clause-walks : goal.put_members-requires-clause-walks
put_members-requires-clause-walks g c =
    let tree = c.header_tree.result in
    let header = node_at c.args.graph.now.trees tree in
    let kept = c.requires.can.header header c.header_tree.ensures.rest in
    let begun : WalksHeader c.args.graph.now kept.members 0 c.next-group.new.self.ahead =
    begins c.args.graph.now kept.members header c.walk-walk.result.ahead c.next-group.new.self kept.group c.header_tree.ensures.rest kept.suits
    (at_node (λ n. c.walk-walk.result.ahead ≡ walk n) (region.find c.args.graph.now.trees.trees tree.run.key) (Bytes []) c.header_tree.ensures.live
    (subst (λ (t : Trees). IfSome (region.find t.trees tree.run.key) (λ n. c.walk-walk.result.ahead ≡ walk n)) c.store.ensures c.walk-walk.ensures.ahead))
    c.next-group.ensures.new in
    let fields = header_fields c.args.schema.now in
    let most = up_to_within (codes "Endian Type") fields in
    (kept.members, omega (arith, c.header_counts-front.ensures.front, most, kept.all), begun)

pub put_members-requires-2-clause-walks : goal.put_members-requires-2-clause-walks
put_members-requires-2-clause-walks g c =
    let tree = c.header_tree.result in
    let header = node_at c.args.graph.now.trees tree in
    let kept = c.requires.can.header header c.header_tree.ensures.rest in
    let begun : WalksHeader c.args.graph.now kept.members 0 c.next-group.new.self.ahead =
    begins c.args.graph.now kept.members header c.walk-walk.result.ahead c.next-group.new.self kept.group c.header_tree.ensures.rest kept.suits
    (at_node (λ n. c.walk-walk.result.ahead ≡ walk n) (region.find c.args.graph.now.trees.trees tree.run.key) (Bytes []) c.header_tree.ensures.live
    (subst (λ (t : Trees). IfSome (region.find t.trees tree.run.key) (λ n. c.walk-walk.result.ahead ≡ walk n)) c.store.ensures c.walk-walk.ensures.ahead))
    c.next-group.ensures.new in
    let fields = header_fields c.args.schema.now in
    let most = up_to_within (codes "Endian Type") fields in
    (kept.members, omega (arith, c.header_counts-front.ensures.all, kept.all), c.in-Ok.ensures.walks kept.members begun)

pub put_members-requires-2-clause-range : goal.put_members-requires-2-clause-range
put_members-requires-2-clause-range g c =
    let most = up_to_within (codes "Endian Type") (header_fields c.args.schema.now) in
    omega (arith, c.header_counts-front.ensures.front, c.header_counts-front.ensures.all, most)

pub returns-in-Err-clause-err : goal.returns-in-Err-clause-err
returns-in-Err-clause-err g c =
    let W = written_header c.args.graph.now in
    let front = c.header_counts-front.result.0 in
    let all = c.header_counts-front.result.1 in
    let fields = header_fields c.args.schema.now in
    let order = c.args.graph.now.graph.origin.order in
    fails_before g.K.Sink.grew g.K.Sink.write_faults c.args.out.now c.put_members.new.out (members_text Little 0 front W) (members_text order front all W) (header_part fields order W)
    c.in-Err.ensures.err (header_parts_are fields order W front all c.header_counts-front.ensures.front c.header_counts-front.ensures.all)

pub returns-clause-ok : goal.returns-clause-ok
returns-clause-ok g c =
    let W = written_header c.args.graph.now in
    let front = c.header_counts-front.result.0 in
    let all = c.header_counts-front.result.1 in
    let fields = header_fields c.args.schema.now in
    let order = c.context.result.now.order in
    let same : order ≡ c.args.graph.now.graph.origin.order = ap (λ (o : Origin). o.order) c.context.ensures in
    on_ok_weaker c.put_members-2.result (λ put.
    puts_more g.K.Sink.grew g.K.Sink.write_faults c.args.out.now c.put_members.new.out c.put_members-2.new.out (members_text Little 0 front W) (members_text order front all W) (header_part fields c.args.graph.now.graph.origin.order W)
    c.in-Ok.ensures.ok put (header_parts_are fields order W front all c.header_counts-front.ensures.front c.header_counts-front.ensures.all ∙ ap (λ o. header_part fields o W) same)) c.put_members-2.ensures.ok

pub returns-clause-err : goal.returns-clause-err
returns-clause-err g c =
    let W = written_header c.args.graph.now in
    let front = c.header_counts-front.result.0 in
    let all = c.header_counts-front.result.1 in
    let fields = header_fields c.args.schema.now in
    let order = c.context.result.now.order in
    let same : order ≡ c.args.graph.now.graph.origin.order = ap (λ (o : Origin). o.order) c.context.ensures in
    on_err_weaker c.put_members-2.result (λ failed.
    fails_more g.K.Sink.grew g.K.Sink.write_faults c.args.out.now c.put_members.new.out c.put_members-2.new.out (members_text Little 0 front W) (members_text order front all W) [] (header_part fields c.args.graph.now.graph.origin.order W)
    c.in-Ok.ensures.ok failed (append-nil (members_text Little 0 front W ++ members_text order front all W)
    ∙ header_parts_are fields order W front all c.header_counts-front.ensures.front c.header_counts-front.ensures.all ∙ ap (λ o. header_part fields o W) same)) c.put_members-2.ensures.err
