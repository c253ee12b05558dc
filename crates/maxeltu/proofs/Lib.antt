pub mod VerdictCases
pub mod ListReadings
pub mod LocalWords
