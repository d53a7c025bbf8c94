pub mod Trees
pub mod Walking
pub mod Codes
pub mod Packing
pub mod Built
pub mod Kept
pub mod Ways
pub mod Counts
