use Rattle.std.proofs.Common.{true, false, sym}
use Rattle.nif_reasons.proofs.OwnLemmas.{type-storage, type-members, type-unread, type-basic, type-other}
use Rattle.nif_reasons.proofs.own.type_reason.Goals as goal

pub returns-in_default-storage_width : goal.returns-in_default-storage_width
returns-in_default-storage_width c = type-storage c.args.schema.now c.args.what.now c.in-Stored.storage c.in-Stored.members c.in-Stored.is (sym c.in_default-storage_width.ensures)

pub returns-then-has_bad_member : goal.returns-then-has_bad_member
returns-then-has_bad_member c = type-members c.args.schema.now c.args.what.now c.in-Stored.storage c.in-Stored.members c.in-Some.width true c.in-Stored.is (sym c.in-Some.ensures) (sym c.if-has_bad_member.ensures)

pub returns-in-Unread : goal.returns-in-Unread
returns-in-Unread c = type-unread c.args.schema.now c.args.what.now c.in-Basic.leaf c.in-Basic.is c.in-Unread.is

pub returns-in_default-leaf : goal.returns-in_default-leaf
returns-in_default-leaf c = type-basic c.args.schema.now c.args.what.now c.in-Basic.leaf c.in-Basic.is c.in_default-leaf.not-Unread

pub returns-else-has_bad_member : goal.returns-else-has_bad_member
returns-else-has_bad_member c = type-members c.args.schema.now c.args.what.now c.in-Stored.storage c.in-Stored.members c.in-Some.width false c.in-Stored.is (sym c.in-Some.ensures) (sym c.if-has_bad_member.ensures)

pub returns-in_default : goal.returns-in_default
returns-in_default c = type-other c.args.schema.now c.args.what.now c.in_default.not-Basic c.in_default.not-Stored
