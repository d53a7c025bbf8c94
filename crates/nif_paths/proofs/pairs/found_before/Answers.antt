use Rattle.std.proofs.Common.{[], ◌∷◌}
use Rattle.nif_paths.proofs.StopLemmas.{types-none}
use Rattle.nif_paths.proofs.pairs.found_before.Goals as goal

pub returns-in-None-clause-found : goal.returns-in-None-clause-found
returns-in-None-clause-found c = λ schema name key marks. types-none schema (name ∷ [])
