use Rattle.std.proofs.Common.{◌≡◌, ◌++◌, [], refl, ap, ◌∙◌, append_assoc, append-nil}
use Rattle.std.proofs.lemmas.Result.{on_ok_weaker, on_err_weaker}
use Rattle.std.specs.Prelude.{unwrap_or}
use Rattle.std.specs.List.{flat_map}
use Rattle.nif_base.specs.Node.{Bytes, text, retargeted}
use Rattle.nif_schema.specs.Roles.{header_fields}
use Rattle.nif_stream.specs.PutterLaws.{puts_more, fails_more, fails_before}
use Rattle.nif_graph.specs.Graph.{place}
use Rattle.nif_graph.specs.Written.{numbered}
use Rattle.nif_file.specs.PartsText.{block_part, graph_text, header_part, placed_text, written_header}
use Rattle.nif_file.proofs.encode.put_graph.Goals as goal

pub returns-in-Err-clause-err : goal.returns-in-Err-clause-err
returns-in-Err-clause-err g c =
    let S = c.args.schema.now in
    let G = c.args.graph.now.graph in
    let H = header_part (header_fields S) G.origin.order (written_header c.args.graph.now) in
    let B = flat_map (block_part S G) G.blocks in
    let T = text G.origin.order (numbered c.args.graph.now.places G).footer in
    fails_before g.K.Sink.grew g.K.Sink.write_faults c.args.out.now c.put_header.new.out H (B ++ T) (graph_text S c.args.graph.now) c.in-Err.ensures.err refl

pub returns-in-Err-put_blocks-clause-err : goal.returns-in-Err-put_blocks-clause-err
returns-in-Err-put_blocks-clause-err g c =
    let S = c.args.schema.now in
    let G = c.args.graph.now.graph in
    let H = header_part (header_fields S) G.origin.order (written_header c.args.graph.now) in
    let B = flat_map (block_part S G) G.blocks in
    let T = text G.origin.order (numbered c.args.graph.now.places G).footer in
    fails_more g.K.Sink.grew g.K.Sink.write_faults c.args.out.now c.put_header.new.out c.put_blocks.new.out H B T (graph_text S c.args.graph.now)
    c.in-Ok.ensures.ok c.in-Err-put_blocks.ensures.err (append_assoc H B T)

pub returns-clause-ok : goal.returns-clause-ok
returns-clause-ok g c =
    let S = c.args.schema.now in
    let G = c.args.graph.now.graph in
    let H = header_part (header_fields S) G.origin.order (written_header c.args.graph.now) in
    let B = flat_map (block_part S G) G.blocks in
    let T = text G.origin.order (numbered c.args.graph.now.places G).footer in
    let tree_is : placed_text c.args.graph.now c.footer_tree.result ≡ T =
    ap (λ o. text G.origin.order (retargeted (λ name. place name G.blocks) (unwrap_or o (Bytes [])))) c.footer_tree.ensures in
    let two = puts_more g.K.Sink.grew g.K.Sink.write_faults c.args.out.now c.put_header.new.out c.put_blocks.new.out H B (H ++ B) c.in-Ok.ensures.ok c.in-Ok-put_blocks.ensures.ok refl in
    on_ok_weaker c.put_tree.result (λ put.
    puts_more g.K.Sink.grew g.K.Sink.write_faults c.args.out.now c.put_blocks.new.out c.put_tree.new.out (H ++ B) (placed_text c.args.graph.now c.footer_tree.result) (graph_text S c.args.graph.now) two put
    (ap (λ t. (H ++ B) ++ t) tree_is ∙ append_assoc H B T)) c.put_tree.ensures.ok

pub returns-clause-err : goal.returns-clause-err
returns-clause-err g c =
    let S = c.args.schema.now in
    let G = c.args.graph.now.graph in
    let H = header_part (header_fields S) G.origin.order (written_header c.args.graph.now) in
    let B = flat_map (block_part S G) G.blocks in
    let T = text G.origin.order (numbered c.args.graph.now.places G).footer in
    let tree_is : placed_text c.args.graph.now c.footer_tree.result ≡ T =
    ap (λ o. text G.origin.order (retargeted (λ name. place name G.blocks) (unwrap_or o (Bytes [])))) c.footer_tree.ensures in
    let two = puts_more g.K.Sink.grew g.K.Sink.write_faults c.args.out.now c.put_header.new.out c.put_blocks.new.out H B (H ++ B) c.in-Ok.ensures.ok c.in-Ok-put_blocks.ensures.ok refl in
    on_err_weaker c.put_tree.result (λ failed.
    fails_more g.K.Sink.grew g.K.Sink.write_faults c.args.out.now c.put_blocks.new.out c.put_tree.new.out (H ++ B) (placed_text c.args.graph.now c.footer_tree.result) [] (graph_text S c.args.graph.now) two failed
    (append-nil ((H ++ B) ++ placed_text c.args.graph.now c.footer_tree.result) ∙ ap (λ t. (H ++ B) ++ t) tree_is ∙ append_assoc H B T)) c.put_tree.ensures.err
