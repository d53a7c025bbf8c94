pub mod WayLaws
pub mod Live
pub mod Packs
pub mod Standing
pub mod Steps
pub mod Closing
pub mod Ending
pub mod Counting
