pub mod Examples
pub mod DefinedValues
pub mod Depth
