pub mod Schedules
pub mod Moments
pub mod Timed
pub mod Rules
