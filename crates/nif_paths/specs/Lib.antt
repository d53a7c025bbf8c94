pub mod Levels
pub mod Marks
pub mod Shaped
