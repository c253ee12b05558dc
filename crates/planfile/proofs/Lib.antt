pub mod Written
pub mod Laid
pub mod FileAnswers
pub mod FileNumbers
