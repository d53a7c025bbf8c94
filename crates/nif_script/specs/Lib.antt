pub mod Forms
pub mod Kept
pub mod Pieces
pub mod Scripts
