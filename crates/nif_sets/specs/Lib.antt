pub mod Insides
pub mod Kept
pub mod Likes
pub mod Sets
