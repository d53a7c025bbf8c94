-- A file as a graph: its blocks under names that stay while others come and go. The targets of all references are
-- names. What a file says twice, its counts, the entries of its types, the index of types and the sizes, is left out
-- of the header: there the counts are 0, and the lists have no item.
use Rattle.std.specs.Prelude.{ℕ, List}
use Rattle.nif_base.specs.declared.orders.Order.{Order}
use Rattle.nif_base.specs.Node.{Node}
use Rattle.nif_base.specs.File.{Block}

-- What a file says of itself, but for the number of its blocks.
pub record Origin : Type 0 where
  pub version : ℕ
  pub user : ℕ
  pub bs : ℕ
  pub order : Order
  pub strings : ℕ

-- a block under its name
pub record Named : Type 0 where
  pub name : ℕ
  pub block : Block

-- The names of the types are those of the header's list of types, where the file has an index of types, else none.
-- Each name of a block is below `next`.
pub record Graph : Type 0 where
  pub header : Node
  pub origin : Origin
  pub types : List (List ℕ)
  pub blocks : List Named
  pub footer : Node
  pub next : ℕ
