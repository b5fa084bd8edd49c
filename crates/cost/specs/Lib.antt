pub mod Answer
pub mod Rates
pub mod Codes
pub mod Times
pub mod Charges
