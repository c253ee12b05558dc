pub mod StoredBytes
pub mod WriteAnswers
