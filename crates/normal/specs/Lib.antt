pub mod Normal
pub mod Answers
pub mod Search
