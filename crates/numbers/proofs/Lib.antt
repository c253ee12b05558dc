pub mod Cases
pub mod Tests
pub mod Ceilings
pub mod All
pub mod Firsts
