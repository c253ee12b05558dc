pub mod Delays
pub mod PlannedSpec
pub mod Begins
pub mod EverySchedule
