pub mod Plain
pub mod Ring
