use Rattle.std.proofs.Common.{sym, ap, subst}
use Rattle.nif_schema.specs.Declaration.{declaration, is_block}
use Rattle.nif_schema.specs.Uses.{is_struct}
use Rattle.nif_scope.specs.Leaves.{IsReadable}
use Rattle.nif_scope.proofs.KnownKinds.{type_readable}
use Rattle.nif_scope.proofs.kinds.kind_of.Goals as goal

pub returns-in-Basic-clause-known : goal.returns-in-Basic-clause-known
returns-in-Basic-clause-known c =
    c.kind_of_leaf.ensures.known c.args.schema.now (subst IsReadable (sym c.leaf_of.ensures)
    (type_readable c.args.schema.now c.args.number (declaration c.decl.result.now) c.count.ensures.schema c.requires.open c.decl.ensures (ap is_struct c.in-Basic.is) (ap is_block c.in-Basic.is)))

pub returns-in-Stored-clause-known : goal.returns-in-Stored-clause-known
returns-in-Stored-clause-known c =
    c.kind_of_leaf-in-Stored.ensures.known c.args.schema.now (subst IsReadable (sym c.leaf_of-in-Stored.ensures)
    (type_readable c.args.schema.now c.args.number (declaration c.decl.result.now) c.count.ensures.schema c.requires.open c.decl.ensures (ap is_struct c.in-Stored.is) (ap is_block c.in-Stored.is)))
