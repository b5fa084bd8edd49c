pub mod Answer
pub mod Rows
pub mod Faults
