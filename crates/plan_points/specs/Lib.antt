pub mod Flat
pub mod Order
pub mod Every
pub mod Link
pub mod Fault
pub mod Exact
