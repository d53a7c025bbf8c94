pub mod Marks
pub mod Users
