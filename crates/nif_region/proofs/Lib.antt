pub mod Layouts
pub mod Changes
pub mod Standing
pub mod Slid
