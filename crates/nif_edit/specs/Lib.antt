pub mod Edit
pub mod Inserted
pub mod After
pub mod Size
pub mod Refused
pub mod Fits
pub mod Laws
