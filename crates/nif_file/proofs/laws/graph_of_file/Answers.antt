use Rattle.nif_file.proofs.Again.{again, aimed_within, indexed_alike}
use Rattle.nif_file.proofs.Declared.{declared_within}
use Rattle.nif_file.proofs.laws.graph_of_file.Goals as goal

pub returns-clause-again : goal.returns-clause-again
returns-clause-again c S is roles F bytes file places at origin = again S is roles F bytes file places at origin

pub returns-clause-aimed : goal.returns-clause-aimed
returns-clause-aimed c S F bytes file places origin types from k r target at is =
    aimed_within S F bytes file places origin types from k r target at is

pub returns-clause-indexed : goal.returns-clause-indexed
returns-clause-indexed c S F bytes file places at = indexed_alike S F bytes file places at

pub returns-clause-declared : goal.returns-clause-declared
returns-clause-declared c S F bytes file places origin types = declared_within S F bytes file places origin types
