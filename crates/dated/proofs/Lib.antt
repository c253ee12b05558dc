pub mod Readings
pub mod Chosen
pub mod Promises
pub mod Worked
