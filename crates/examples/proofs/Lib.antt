pub mod Holds
pub mod LateStarts
