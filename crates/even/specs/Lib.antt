pub mod Even
pub mod Jump
pub mod Search
pub mod Statements
