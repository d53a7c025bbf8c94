use Rattle.std.proofs.Common.{◌≡◌, ℕ, Bool, true, sym, ◌∙◌, subst}
use Rattle.std.proofs.lemmas.Result.{IfErr-weaker}
use Rattle.nif_base.specs.Node.{Members}
use Rattle.nif_schema.specs.Schema.{Schema}
use Rattle.nif_stream.specs.Taking.{Takes}
use Rattle.nif_file.specs.Head.{order_in}
use Rattle.nif_file.specs.Files.{has_zero_word, head_of, zero_where}
use Rattle.nif_file.specs.FileFails.{ZeroFailsBy}
use Rattle.nif_file_reader.specs.Halting.{Halts}
use Rattle.nif_file_reader.proofs.Going.{takes_none}
use Rattle.nif_file_reader.proofs.blocks.read_zero_word.Goals as goal

pub returns-then-has_zero_word-clause-err : goal.returns-then-has_zero_word-clause-err
returns-then-has_zero_word-clause-err g c =
    let has : true ≡ has_zero_word c.args.context.version.number = sym c.if-has_zero_word.true ∙ c.has_zero_word.ensures in
    IfErr-weaker c.take_zero_word.result
    (λ fault. (schema : Schema) (members : Members) (nodes : ℕ) → order_in (head_of schema members) ≡ c.args.context.order → Halts g.S.Source.left g.S.Source.still g.S.Source.read_faults (λ total. ZeroFailsBy true total (head_of schema members) c.args.block) nodes c.args.taker.now c.take_zero_word.new.taker fault)
    (λ fault. (schema : Schema) (members : Members) (nodes : ℕ) → order_in (head_of schema members) ≡ c.args.context.order
    → Halts g.S.Source.left g.S.Source.still g.S.Source.read_faults (λ total. ZeroFailsBy (has_zero_word c.args.context.version.number) total (head_of schema members) c.args.block) nodes c.args.taker.now c.take_zero_word.new.taker fault)
    (λ fault r schema members nodes e. subst (λ (b : Bool). Halts g.S.Source.left g.S.Source.still g.S.Source.read_faults (λ total. ZeroFailsBy b total (head_of schema members) c.args.block) nodes c.args.taker.now c.take_zero_word.new.taker fault) has (r schema members nodes e)) c.take_zero_word.ensures.err

pub returns-clause-ok : goal.returns-clause-ok
returns-clause-ok g c =
    subst (λ (b : Bool). Takes g.S.Source.left g.S.Source.still g.S.Source.read_faults c.args.taker.now (zero_where b) c.args.taker.now) (sym c.if-has_zero_word.false ∙ c.has_zero_word.ensures) (takes_none g.S.Source.left g.S.Source.still g.S.Source.read_faults c.args.taker.now c.requires)
