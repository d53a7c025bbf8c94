use Rattle.std.proofs.Common.{◌≡◌, ◌<◌, length, ◌++◌, [], refl, ap, subst, ◌∙◌, sym, append_assoc, append-nil}
use Rattle.std.proofs.lemmas.Result.{on_ok_weaker, on_err_weaker}
use Rattle.nif_base.specs.Graph.{Origin}
use Rattle.nif_base.specs.Node.{text, retargeted}
use Rattle.nif_region.specs.Contents as region
use Rattle.nif_stream.specs.PutterLaws.{puts_more, fails_more, fails_before}
use Rattle.nif_graph.specs.Graph.{place}
use Rattle.nif_file.specs.Files.{name_of, name_where, has_zero_word, zero_where}
use Rattle.nif_file.specs.PartsText.{block_part, placed_text}
use Rattle.nif_file.proofs.HeaderPuts.{there_is, word_is, kind_is, node_is, block_is}
use Rattle.nif_file.proofs.encode.put_block.Goals as goal

pub put_name-requires-clause-kind : goal.put_name-requires-clause-kind
put_name-requires-clause-kind g c =
    let b = there_is c.args.graph.now.graph.blocks c.args.place c.requires.place in
    subst (λ n. n < length c.args.schema.now)
    (sym (kind_is c.args.graph.now.graph c.args.place c.name_at-name.result b.0 c.type_of-kind.result b.1 c.name_at-name.ensures.block c.type_of-kind.ensures))
    (c.requires.can.kinds c.args.place b.0 b.1)

pub returns-in-Err-clause-err : goal.returns-in-Err-clause-err
returns-in-Err-clause-err g c b at =
    let G = c.args.graph.now.graph in
    let context = c.context-context.result.now in
    let origin = c.context-context.ensures in
    let kind = kind_is G c.args.place c.name_at-name.result b c.type_of-kind.result at c.name_at-name.ensures.block c.type_of-kind.ensures in
    let index = word_is G.blocks c.args.place c.name_at-name.result b c.index_word.result at c.name_at-name.ensures.block c.index_word.ensures in
    let order : context.order ≡ G.origin.order = ap (λ (o : Origin). o.order) origin in
    let version : context.version.number ≡ G.origin.version = ap (λ (o : Origin). o.version) origin in
    let name = name_where c.index_word.result context.order (name_of c.args.schema.now c.type_of-kind.result) in
    let zero = zero_where (has_zero_word context.version.number) in
    let tree = text G.origin.order (retargeted (λ name. place name G.blocks) b.block.node) in
    let whole = block_is c.args.schema.now G b c.type_of-kind.result context.version.number c.index_word.result context.order tree kind index order version refl in
    fails_before g.K.Sink.grew g.K.Sink.write_faults c.args.out.now c.put_name.new.out name (zero ++ tree) (block_part c.args.schema.now G b) c.in-Err.ensures.err whole

pub returns-in-Err-put_zero_word-clause-err : goal.returns-in-Err-put_zero_word-clause-err
returns-in-Err-put_zero_word-clause-err g c b at =
    let G = c.args.graph.now.graph in
    let context = c.context-context.result.now in
    let origin = c.context-context.ensures in
    let kind = kind_is G c.args.place c.name_at-name.result b c.type_of-kind.result at c.name_at-name.ensures.block c.type_of-kind.ensures in
    let index = word_is G.blocks c.args.place c.name_at-name.result b c.index_word.result at c.name_at-name.ensures.block c.index_word.ensures in
    let order : context.order ≡ G.origin.order = ap (λ (o : Origin). o.order) origin in
    let version : context.version.number ≡ G.origin.version = ap (λ (o : Origin). o.version) origin in
    let name = name_where c.index_word.result context.order (name_of c.args.schema.now c.type_of-kind.result) in
    let zero = zero_where (has_zero_word context.version.number) in
    let tree = text G.origin.order (retargeted (λ name. place name G.blocks) b.block.node) in
    let whole = block_is c.args.schema.now G b c.type_of-kind.result context.version.number c.index_word.result context.order tree kind index order version refl in
    fails_more g.K.Sink.grew g.K.Sink.write_faults c.args.out.now c.put_name.new.out c.put_zero_word.new.out name zero tree (block_part c.args.schema.now G b)
    c.in-Ok.ensures.ok c.in-Err-put_zero_word.ensures.err (append_assoc name zero tree ∙ whole)

pub returns-clause-ok : goal.returns-clause-ok
returns-clause-ok g c = on_ok_weaker c.put_tree.result (λ put b at.
    let G = c.args.graph.now.graph in
    let context = c.context-context.result.now in
    let origin = c.context-context.ensures in
    let kind = kind_is G c.args.place c.name_at-name.result b c.type_of-kind.result at c.name_at-name.ensures.block c.type_of-kind.ensures in
    let index = word_is G.blocks c.args.place c.name_at-name.result b c.index_word.result at c.name_at-name.ensures.block c.index_word.ensures in
    let order : context.order ≡ G.origin.order = ap (λ (o : Origin). o.order) origin in
    let version : context.version.number ≡ G.origin.version = ap (λ (o : Origin). o.version) origin in
    let name = name_where c.index_word.result context.order (name_of c.args.schema.now c.type_of-kind.result) in
    let zero = zero_where (has_zero_word context.version.number) in
    let tree = text G.origin.order (retargeted (λ name. place name G.blocks) b.block.node) in
    let whole = block_is c.args.schema.now G b c.type_of-kind.result context.version.number c.index_word.result context.order tree kind index order version refl in
    let tree_is : placed_text c.args.graph.now c.tree_of.result ≡ tree =
    ap (λ n. text G.origin.order (retargeted (λ name. place name G.blocks) n))
    (node_is G.blocks c.args.place c.name_at-name.result (region.find c.args.graph.now.trees.trees c.tree_of.result.run.key) b at c.name_at-name.ensures.block c.tree_of.ensures) in
    let two = puts_more g.K.Sink.grew g.K.Sink.write_faults c.args.out.now c.put_name.new.out c.put_zero_word.new.out name zero (name ++ zero)
    c.in-Ok.ensures.ok c.in-Ok-put_zero_word.ensures.ok refl in
    puts_more g.K.Sink.grew g.K.Sink.write_faults c.args.out.now c.put_zero_word.new.out c.put_tree.new.out (name ++ zero) (placed_text c.args.graph.now c.tree_of.result) (block_part c.args.schema.now G b) two put
    (ap (λ t. (name ++ zero) ++ t) tree_is ∙ append_assoc name zero tree ∙ whole)) c.put_tree.ensures.ok

pub returns-clause-err : goal.returns-clause-err
returns-clause-err g c = on_err_weaker c.put_tree.result (λ failed b at.
    let G = c.args.graph.now.graph in
    let context = c.context-context.result.now in
    let origin = c.context-context.ensures in
    let kind = kind_is G c.args.place c.name_at-name.result b c.type_of-kind.result at c.name_at-name.ensures.block c.type_of-kind.ensures in
    let index = word_is G.blocks c.args.place c.name_at-name.result b c.index_word.result at c.name_at-name.ensures.block c.index_word.ensures in
    let order : context.order ≡ G.origin.order = ap (λ (o : Origin). o.order) origin in
    let version : context.version.number ≡ G.origin.version = ap (λ (o : Origin). o.version) origin in
    let name = name_where c.index_word.result context.order (name_of c.args.schema.now c.type_of-kind.result) in
    let zero = zero_where (has_zero_word context.version.number) in
    let tree = text G.origin.order (retargeted (λ name. place name G.blocks) b.block.node) in
    let whole = block_is c.args.schema.now G b c.type_of-kind.result context.version.number c.index_word.result context.order tree kind index order version refl in
    let tree_is : placed_text c.args.graph.now c.tree_of.result ≡ tree =
    ap (λ n. text G.origin.order (retargeted (λ name. place name G.blocks) n))
    (node_is G.blocks c.args.place c.name_at-name.result (region.find c.args.graph.now.trees.trees c.tree_of.result.run.key) b at c.name_at-name.ensures.block c.tree_of.ensures) in
    let two = puts_more g.K.Sink.grew g.K.Sink.write_faults c.args.out.now c.put_name.new.out c.put_zero_word.new.out name zero (name ++ zero)
    c.in-Ok.ensures.ok c.in-Ok-put_zero_word.ensures.ok refl in
    fails_more g.K.Sink.grew g.K.Sink.write_faults c.args.out.now c.put_zero_word.new.out c.put_tree.new.out (name ++ zero) (placed_text c.args.graph.now c.tree_of.result) [] (block_part c.args.schema.now G b) two failed
    (append-nil ((name ++ zero) ++ placed_text c.args.graph.now c.tree_of.result) ∙ ap (λ t. (name ++ zero) ++ t) tree_is ∙ append_assoc name zero tree ∙ whole)) c.put_tree.ensures.err
