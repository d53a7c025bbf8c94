pub mod Copies
pub mod Loading
pub mod Printing
pub mod Done
