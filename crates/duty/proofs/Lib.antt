pub mod OpenMinutes
pub mod Days
pub mod Tables
pub mod DutyMinutes
pub mod Runs
