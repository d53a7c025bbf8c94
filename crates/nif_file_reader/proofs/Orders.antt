-- Byte orders, compared by the code.
use Rattle.std.proofs.Common.{◌≡◌, refl}
use Rattle.nif_base.specs.declared.orders.Order.{Order}
use Rattle.nif_base.specs.declared.orders.Order.TheVariants.{Little, Big}
use Rattle.nif_base.specs.Node.{is_little}
use Rattle.nif_base.specs.contracts.orders.Order as bare
use denote.Enum.Bare.{sameb}

pub little_is : (order : Order) → sameb bare.the_type order Little ≡ is_little order
little_is Little = refl
little_is Big = refl
