pub mod Told
pub mod Lookup
pub mod Kept
pub mod Scope
pub mod Values
pub mod Rules
pub mod Leaves
pub mod Keeping
