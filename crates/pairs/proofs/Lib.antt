pub mod FlatLists
pub mod LaidOver
pub mod Counts
pub mod Unpacked
pub mod Packed
