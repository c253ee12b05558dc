pub mod Conditions
pub mod HandedOn
