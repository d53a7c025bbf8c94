pub mod Tokens
pub mod Listing
pub mod Attributes
pub mod Texts
pub mod Finding
pub mod Kept
