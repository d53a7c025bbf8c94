pub mod Listing
pub mod Refusals
pub mod Quoted
pub mod Files
pub mod References
