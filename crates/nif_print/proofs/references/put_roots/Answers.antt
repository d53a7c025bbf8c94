use Rattle.std.proofs.Common.{◌<◌, length, refl, subst, None}
use Rattle.nif_base.specs.Node.{refs}
use Rattle.nif_value.specs.Trees.{reference_of}
use Rattle.nif_print.specs.References.{reference_line}
use Rattle.nif_print.proofs.Numbered.{puts_none, puts_next, fails_next}
use Rattle.nif_print.proofs.Referring.{is_there, wanted_declared}
use Rattle.nif_print.proofs.references.put_roots.Goals as goal

pub loop-k-init : goal.loop-k-init
loop-k-init g c = puts_none g.K.Sink.grew g.K.Sink.write_faults c.args.out.now c.requires.sound

pub root_at-requires : goal.root_at-requires
root_at-requires g c =
    let G = c.args.graph.now.graph in
    let within : c.loop-k.k < length (refs G.footer) = subst (λ n. c.loop-k.k < n) c.root_count-k-end.ensures c.loop-k-test.true in
    is_there G None c.loop-k.k (refs G.footer) refl within

pub put_reference-requires-clause-wanted : goal.put_reference-requires-clause-wanted
put_reference-requires-clause-wanted g c =
    wanted_declared c.args.schema.now c.args.graph.now.graph None c.loop-k.k (reference_of c.root_at.result) c.requires.declared c.root_at.ensures.reference

pub returns-in-Err-clause-err : goal.returns-in-Err-clause-err
returns-in-Err-clause-err g c =
    let G = c.args.graph.now.graph in
    fails_next g.K.Sink.grew g.K.Sink.write_faults c.args.out.now c.loop-k.out c.put_reference.new.out (reference_line c.args.schema.now G None) (refs G.footer) c.loop-k.k (reference_of c.root_at.result)
    c.loop-k.invariant c.root_at.ensures.reference c.in-Err.ensures.err

pub loop-k-preserved : goal.loop-k-preserved
loop-k-preserved g c =
    let G = c.args.graph.now.graph in
    puts_next g.K.Sink.grew g.K.Sink.write_faults c.args.out.now c.loop-k.out c.put_reference.new.out (reference_line c.args.schema.now G None) (refs G.footer) c.loop-k.k (reference_of c.root_at.result)
    c.loop-k.invariant c.root_at.ensures.reference c.in-Ok.ensures.ok
