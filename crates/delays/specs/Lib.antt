pub mod Trial
pub mod Delays
