pub mod Plans
pub mod Reports
pub mod Moments
