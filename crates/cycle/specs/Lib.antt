pub mod Cycles
pub mod Check
pub mod LateCheck
pub mod Shortest
pub mod Margins
pub mod Windows
pub mod Rows
pub mod Witnesses
