-- The kernel's definitions (System, Rows) and their laws (Least); Steps is for its own proofs.
pub mod System
pub mod Least
pub mod Rows
pub mod Steps
