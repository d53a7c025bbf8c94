pub mod Passing
pub mod Lists
pub mod Codes
