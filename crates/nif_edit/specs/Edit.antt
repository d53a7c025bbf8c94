-- Why an edit is refused, as plain data.
use Rattle.std.specs.Prelude.{ℕ}
use Rattle.nif_schema.specs.declared.faults.Closed.{Closed}

-- Why an edit is refused. The numbers of a wrong type are those of declarations.
pub data EditFault : Type 0 where
  NoBlock : (name : ℕ) → EditFault
  NoPlace : (place : ℕ) → EditFault
  UnknownType : EditFault
  AbstractType : EditFault
  ClosedType : (reason : Closed) → EditFault
  NotAnOrder : EditFault
  WrongType : (wanted : ℕ) → (found : ℕ) → EditFault
  WouldCycle : EditFault
  TooManyBlocks : EditFault
  TooManyTypes : EditFault
  TooManyNodes : EditFault
  TooLong : EditFault
  TooDeep : EditFault
  NamesSpent : EditFault
