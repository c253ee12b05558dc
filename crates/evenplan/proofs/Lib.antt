pub mod Lines
pub mod Front
