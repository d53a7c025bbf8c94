pub mod Replacing
pub mod Groups
pub mod Decimals
pub mod Finding
