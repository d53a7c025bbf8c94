use Rattle.std.proofs.Common.{sym, subst}
use Rattle.nif_schema.specs.Schema.{IsLine}
use Rattle.nif_schema.proofs.LineLaws.{IsLine-line}
use Rattle.nif_schema.proofs.schemas.Schema.line_of.Goals as goal

pub returns-clause-line : goal.returns-clause-line
returns-clause-line c =
    subst (IsLine c.args.self.now c.args.number) (sym c.new.ensures) (IsLine-line c.args.self.now c.args.number c.requires.within c.requires.ends)
