pub mod Search
pub mod Cases
pub mod PairsFit
pub mod Needed
pub mod BoxPlans
pub mod Tries
