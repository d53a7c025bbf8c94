pub mod Fields
pub mod Declarations
pub mod Schemas
pub mod Kept
