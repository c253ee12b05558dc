pub mod Search
pub mod Tolerance
