pub mod Weeks
pub mod Minutes
pub mod Runs
pub mod Windows
pub mod Days
