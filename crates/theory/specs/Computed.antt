-- How it is computed: the laws, as start, step and end, with which loops decide the definitions.
pub mod Mark
pub mod Decided
pub mod Compare
pub mod Raise
pub mod Orders
pub mod Pairs
pub mod Written
pub mod Built
pub mod AnyList
