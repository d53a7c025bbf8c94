pub mod PassLaws
pub mod MemberWalks
pub mod ListLaws
pub mod NameLaws
