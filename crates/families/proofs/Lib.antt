pub mod Figures
pub mod Plans
pub mod Schedules
