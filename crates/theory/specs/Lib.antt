-- Demand 3 as a theorem on the definitions of the crate rules, in three layers.
-- What is said: Statements. That it holds: Theorem. Why it holds: Why. How it is computed: Computed.
pub mod Statements
pub mod Theorem
pub mod Why
pub mod Computed
