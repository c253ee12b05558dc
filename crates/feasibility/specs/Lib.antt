pub mod Test
pub mod Statements
