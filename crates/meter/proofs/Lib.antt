pub mod Offers
pub mod Rows
pub mod Held
pub mod Taken
pub mod SameAnswers
pub mod Budget
pub mod Steps
pub mod Making
