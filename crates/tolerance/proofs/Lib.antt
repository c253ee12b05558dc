pub mod Bisection
pub mod Tolerances
