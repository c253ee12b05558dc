pub mod Counts
pub mod Best
pub mod Obeying
pub mod Needed
pub mod Outcomes
pub mod Theorems
