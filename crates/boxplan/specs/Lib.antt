pub mod BoxPlan
pub mod OneGapCycles
pub mod Search
