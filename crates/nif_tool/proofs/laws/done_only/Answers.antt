use Rattle.nif_tool.proofs.Done.{done_only}
use Rattle.nif_tool.proofs.laws.done_only.Goals as goal

pub returns : goal.returns
returns c =
    done_only (record {
      tree = c.one_tree.ensures;
      schema = c.one_outcome.ensures.schema;
      not_both = c.one_outcome.ensures.not_both;
      rules = c.no_fault.ensures;
      file = c.one_file_or_fault.ensures.outcome;
    })
