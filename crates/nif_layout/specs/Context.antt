-- What decides which fields of a value are present and how they are spelled.
use Rattle.std.specs.Prelude.{ℕ}
use Rattle.std.specs.declared.option.Option.{Option}
use Rattle.nif_base.specs.declared.orders.Order.{Order}

-- The versions and the byte order of the file; the block type of the block whose value is read, which the header and
-- the footer don't have; and the numbers of blocks and of strings, below which references and text indexes are.
pub record Context : Type 0 where
  pub version : ℕ
  pub user : ℕ
  pub bs : ℕ
  pub order : Order
  pub owner : Option ℕ
  pub blocks : ℕ
  pub strings : ℕ
