pub mod FieldReasons
pub mod Visits
pub mod Ways
