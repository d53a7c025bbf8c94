pub mod Contents
pub mod Codes
pub mod Layout
pub mod RunLaws
