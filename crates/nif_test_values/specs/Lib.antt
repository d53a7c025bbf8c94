pub mod Encoded
pub mod Sample
