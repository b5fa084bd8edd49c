pub mod Bits
pub mod State
