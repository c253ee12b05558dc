pub mod Calls
pub mod Verdict
