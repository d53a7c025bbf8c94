pub mod Halting
pub mod Types
pub mod Known
pub mod Answers
pub mod PartsSay
