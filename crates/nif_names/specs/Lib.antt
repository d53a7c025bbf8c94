pub mod Marks
pub mod Shapes
pub mod Kept
pub mod Tables
