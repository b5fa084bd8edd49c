pub mod Chain
pub mod Decode
pub mod Rows
pub mod Own
