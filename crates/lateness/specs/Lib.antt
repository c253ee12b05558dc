pub mod Delays
pub mod Lateness
pub mod PlannedSpec
