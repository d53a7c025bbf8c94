pub mod Lines
pub mod Quoting
pub mod Numbered
pub mod Referring
