use Rattle.std.proofs.Common.{sym, ◌∙◌}
use Rattle.nif_paths.proofs.PathLemmas.{header-one, header-two, header-other}
use Rattle.nif_paths.proofs.paths.is_header_path.Goals as goal

pub returns-then-count-eq1 : goal.returns-then-count-eq1
returns-then-count-eq1 c = c.is_header_name.ensures ∙ header-one c.args.path.now c.get.result.now (sym c.len-count.ensures.value ∙ c.if-count-eq1.true) c.get.ensures

pub returns-then-count-eq2 : goal.returns-then-count-eq2
returns-then-count-eq2 c = c.is_header_pair.ensures ∙ header-two c.args.path.now c.get-then-count-eq2.result.now c.get-then-count-eq2-2.result.now (sym c.len-count.ensures.value ∙ c.if-count-eq2.true) c.get-then-count-eq2.ensures c.get-then-count-eq2-2.ensures

pub returns : goal.returns
returns c = header-other c.args.path.now (λ e. c.if-count-eq1.false (c.len-count.ensures.value ∙ e)) (λ e. c.if-count-eq2.false (c.len-count.ensures.value ∙ e))
